-- The parameters of a query, one by one.
use Rattle.std.proofs.Common.{◌≡◌, ◌||◌, ℕ, Bool, List, [], ◌∷◌, Some, None, refl, sym, ap, ◌∙◌}
use Rattle.std.specs.Borrow.{Bor}
use Rattle.std.specs.Iterator.{AlwaysYields}
use Rattle.std.specs.List.{list_any}
use Rattle.std.specs.Str.Iter.{split_steps}
use Rattle.std.specs.Str.Pattern.{FindsChar}
use Rattle.std.specs.declared.str.Split.{Split}
use Rattle.rt_emulate.specs.Protocols.{is_sdk_parameter}

-- those that a `split` still gives
abbrev pub Coming : Split ℕ → List (List ℕ) → Type 0
Coming it rest = AlwaysYields (split_steps FindsChar (λ a b. b ≡ a)) (λ x. x.now) it rest

-- one that comes is the first of these
pub comes_next : (it jt : Split ℕ) (x : Bor (List ℕ)) (rest : List (List ℕ)) → Coming it rest
    → split_steps FindsChar (λ a b. b ≡ a) it (Some x) jt
    → (more : List (List ℕ)) × (rest ≡ x.now ∷ more) × Coming jt more
comes_next it jt x [] h step = absurd (h x jt step)
comes_next it jt x (y ∷ rest) h step = (rest, ap (λ z. z ∷ rest) (sym (h.1 x jt step).0), (h.1 x jt step).1)

-- where none comes, none is left
pub comes_none : (it jt : Split ℕ) (rest : List (List ℕ)) → Coming it rest
    → split_steps FindsChar (λ a b. b ≡ a) it None jt → rest ≡ []
comes_none it jt [] h step = refl
comes_none it jt (y ∷ rest) h step = absurd (h.0 jt step)

-- the first one says so, or the others do
pub first_says : (x : List ℕ) (rest more : List (List ℕ)) (b : Bool) → rest ≡ x ∷ more → b ≡ is_sdk_parameter x
    → list_any is_sdk_parameter rest ≡ (b || list_any is_sdk_parameter more)
first_says x rest more b e is =
    ap (list_any is_sdk_parameter) e ∙ ap (λ c. c || list_any is_sdk_parameter more) (sym is)
