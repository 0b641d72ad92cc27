-- The texts between slashes, one by one; and what stands behind a slash.
use Rattle.std.proofs.Common.{◌≡◌, ◌≢◌, ◌==◌, ◌&&◌, ℕ, Bool, true, false, List, [], ◌∷◌, Option, Some, None, refl, sym, ap, ◌∙◌, arith}
use Rattle.std.proofs.lemmas.Bool.Decides.{nat_tests}
use Rattle.std.specs.Prelude.{MatchOption}
use Rattle.std.specs.Borrow.{Bor}
use Rattle.std.specs.Iterator.{AlwaysYields}
use Rattle.std.specs.List.{list_all}
use Rattle.std.specs.Option.{option_copied}
use Rattle.std.specs.Str.Iter.{split_steps}
use Rattle.std.specs.Str.Pattern.{FindsChar}
use Rattle.std.specs.declared.str.Split.{Split}
use Rattle.rt_files.specs.Names.{behind_slash, is_name}

-- those that a `split` still gives
abbrev pub Coming : Split ℕ → List (List ℕ) → Type 0
Coming it rest = AlwaysYields (split_steps FindsChar (λ a b. b ≡ a)) (λ x. x.now) it rest

-- one that comes is the first of these
pub comes_next : (it jt : Split ℕ) (x : Bor (List ℕ)) (rest : List (List ℕ)) → Coming it rest
    → split_steps FindsChar (λ a b. b ≡ a) it (Some x) jt
    → (more : List (List ℕ)) × (rest ≡ x.now ∷ more) × Coming jt more
comes_next it jt x [] h step = absurd (h x jt step)
comes_next it jt x (y ∷ rest) h step = (rest, ap (λ z. z ∷ rest) (sym (h.1 x jt step).0), (h.1 x jt step).1)

-- where none comes, none is left
pub comes_none : (it jt : Split ℕ) (rest : List (List ℕ)) → Coming it rest
    → split_steps FindsChar (λ a b. b ≡ a) it None jt → rest ≡ []
comes_none it jt [] h step = refl
comes_none it jt (y ∷ rest) h step = absurd (h.0 jt step)

-- the first one is a name, and the others are
pub first_says : (x : List ℕ) (rest more : List (List ℕ)) (b : Bool) → rest ≡ x ∷ more → b ≡ is_name x
    → list_all is_name rest ≡ (b && list_all is_name more)
first_says x rest more b e is =
    ap (list_all is_name) e ∙ ap (λ c. c && list_all is_name more) (sym is)

behind_slash-at : (bs : List ℕ) → behind_slash (47 ∷ bs) ≡ Some bs
behind_slash-at bs = refl

-- the clause of `strip_prefix` at a slash
pub behind_slash-from : (bs : List ℕ) (r : Option (Bor (List ℕ)))
    → MatchOption r ((rest : List ℕ) → bs ≢ 47 ∷ rest) (λ x. bs ≡ 47 ∷ x.now) → option_copied r ≡ behind_slash bs
behind_slash-from [] None h = refl
behind_slash-from [] (Some x) h = cc
behind_slash-from (b ∷ bs) None h = go (b == 47) refl
  where
    go : (t : Bool) → (b == 47) ≡ t → None ≡ behind_slash (b ∷ bs)
    go true e = absurd (h bs (ap (λ n. n ∷ bs) (grind (arith, nat_tests))))
    go false e = rw e
behind_slash-from (b ∷ bs) (Some x) h = sym (ap behind_slash h ∙ behind_slash-at x.now)
