-- What stands behind a beginning.
use Rattle.std.proofs.Common.{◌≡◌, ◌≢◌, ◌==◌, ◌++◌, ◌+◌, ℕ, Bool, true, false, List, [], ◌∷◌, Option, Some, None}
use Rattle.std.proofs.Common.{refl, sym, ap, ap₂, ◌∙◌, if◌then◌else◌, length, take, drop, eqb}
use Rattle.std.specs.Borrow.{Bor}
use Rattle.std.specs.Cmp.Lexicographic.{pointwise}
use Rattle.std.specs.Prelude.{option_map}
use Rattle.std.specs.Option.{MatchOption, unwrap_or}
use Rattle.std.proofs.lemmas.Bool.{eqb-true, eq-eqb}
use Rattle.std.proofs.lemmas.Slice.Eq.{strip_prefix_is}
use Rattle.rt_socket.specs.Origins.{behind}

behind-append : (place rest : List ℕ) → behind place (place ++ rest) ≡ Some rest
behind-append [] rest = refl
behind-append (c ∷ cs) rest = rw (eq-eqb c c refl) (behind-append cs rest)

same_head : (c d : ℕ) (cs ds rest : List ℕ) (b : Bool) → (c == d) ≡ b
    → (behind cs ds ≡ Some rest → ds ≡ cs ++ rest)
    → (if b then behind cs ds else None) ≡ Some rest → d ∷ ds ≡ c ∷ (cs ++ rest)
same_head c d cs ds rest true t rec e = ap₂ (λ x xs. x ∷ xs) (sym (eqb-true c d t)) (rec e)
same_head c d cs ds rest false t rec e = cc

behind-begins : (place text rest : List ℕ) → behind place text ≡ Some rest → text ≡ place ++ rest
behind-begins [] text rest e = ap (λ o. unwrap_or o []) e
behind-begins (c ∷ cs) [] rest e = cc
behind-begins (c ∷ cs) (d ∷ ds) rest e = same_head c d cs ds rest (c == d) refl (behind-begins cs ds rest) e

-- what `strip_prefix` says
abbrev Strips : List ℕ → List ℕ → Option (Bor (List ℕ)) → Type 0
Strips place text r =
    MatchOption r (pointwise eqb (take (length place) text) place ≡ false)
    (λ x. (pointwise eqb (take (length place) text) place ≡ true) × (x.now ≡ drop (length place) text)
    × (length x.now + length place ≡ length text))

pub stripped : (place text : List ℕ) (r : Option (Bor (List ℕ))) (x : Bor (List ℕ)) → r ≡ Some x
    → Strips place text r → behind place text ≡ Some x.now
stripped place text None x e m = cc
stripped place text (Some y) x e m =
    ap (behind place) (strip_prefix_is (λ a b. (eqb-true a b, eq-eqb a b)) text place (Some y) m)
    ∙ behind-append place y.now ∙ ap (λ o. unwrap_or (option_map (λ (z : Bor (List ℕ)). Some z.now) o) None) e

begins_else : (place text : List ℕ) (found : Option (List ℕ)) → behind place text ≡ found
    → ((rest : List ℕ) → text ≢ place ++ rest) → found ≡ None
begins_else place text None e h = refl
begins_else place text (Some rest) e h = absurd (h rest (behind-begins place text rest e))

pub not_stripped : (place text : List ℕ) (r : Option (Bor (List ℕ))) → r ≡ None → Strips place text r
    → behind place text ≡ None
not_stripped place text (Some y) e m = cc
not_stripped place text None e m =
    begins_else place text (behind place text) refl
    (strip_prefix_is (λ a b. (eqb-true a b, eq-eqb a b)) text place None m)
