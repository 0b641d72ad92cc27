-- Parts of which two have one tag, by the tags alone.
use Rattle.std.proofs.Common.{◌≡◌, ℕ, ◌==◌, ◌||◌, ◌↔◌, Bool, true, false, not, List, [], ◌∷◌, map, refl, sym, ◌∙◌, arith}
use Rattle.std.specs.List.{AllByRecursion, IsDistinct, list_any}
use Rattle.std.specs.List.Sorted.{IsPermutation}
use Rattle.std.proofs.lemmas.Bool.Decides.{nat_tests}
use Rattle.std.proofs.lemmas.List.Sorted.{IsPermutation-sym}
use Rattle.std.proofs.lemmas.Map.Keys.{IsDistinct-cons, IsDistinct-head, IsDistinct-tail, IsDistinct-IsPermutation}
use Rattle.rt_wire.specs.Parts.{Part}
use Rattle.rt_world.specs.steps.Pushing.{has_tag_twice}

flipped : (m n : ℕ) → (m == n) ≡ (n == m)
flipped m n = grind (arith, nat_tests)

or_left : (a b : Bool) → (a || b) ≡ false → a ≡ false
or_left true b e = e
or_left false b e = refl

or_right : (a b : Bool) → (a || b) ≡ false → b ≡ false
or_right true b e = absurd (cc)
or_right false b e = e

neither : (a b : Bool) → a ≡ false → b ≡ false → (a || b) ≡ false
neither true b e f = e
neither false b e f = f

others_differ : (t : ℕ) (parts : List Part) → list_any (λ r. r.0 == t) parts ≡ false
    → AllByRecursion (λ u. (t == u) ≡ false) (map (λ p. p.0) parts)
others_differ t [] e = tt
others_differ t (p ∷ rest) e = (
  flipped t p.0 ∙ or_left (p.0 == t) (list_any (λ r. r.0 == t) rest) e,
  others_differ t rest (or_right (p.0 == t) (list_any (λ r. r.0 == t) rest) e),
)

no_other : (t : ℕ) (parts : List Part) → AllByRecursion (λ u. (t == u) ≡ false) (map (λ p. p.0) parts)
    → list_any (λ r. r.0 == t) parts ≡ false
no_other t [] h = refl
no_other t (p ∷ rest) h =
    neither (p.0 == t) (list_any (λ r. r.0 == t) rest) (flipped p.0 t ∙ h.0) (no_other t rest h.1)

distinct : (parts : List Part) → has_tag_twice parts ≡ false → IsDistinct (λ m n. m == n) (map (λ p. p.0) parts)
unfolding IsDistinct
distinct [] e = tt
distinct (p ∷ rest) e =
    IsDistinct-cons (λ m n. m == n) p.0 (map (λ r. r.0) rest)
    (others_differ p.0 rest (or_left (list_any (λ r. r.0 == p.0) rest) (has_tag_twice rest) e))
    (distinct rest (or_right (list_any (λ r. r.0 == p.0) rest) (has_tag_twice rest) e))

not_twice : (parts : List Part) → IsDistinct (λ m n. m == n) (map (λ p. p.0) parts) → has_tag_twice parts ≡ false
not_twice [] h = refl
not_twice (p ∷ rest) h =
    neither (list_any (λ r. r.0 == p.0) rest) (has_tag_twice rest)
    (no_other p.0 rest (IsDistinct-head (λ m n. m == n) p.0 (map (λ r. r.0) rest) h))
    (not_twice rest (IsDistinct-tail (λ m n. m == n) p.0 (map (λ r. r.0) rest) h))

decided : (a t : Bool) → (a ≡ true → t ≡ false) → (t ≡ false → a ≡ true) → not a ≡ t
decided true t f g = sym (f refl)
decided false true f g = refl
decided false false f g = sym (g refl)

-- whether two parts have one tag is told by their tags in any order
pub twice_from_tags : (parts : List Part) (tags : List ℕ) (answer : Bool)
    → IsPermutation (map (λ p. p.0) parts) tags → (answer ≡ true) ↔ IsDistinct (λ m n. m == n) tags
    → not answer ≡ has_tag_twice parts
twice_from_tags parts tags answer moved said =
    decided answer (has_tag_twice parts)
    (λ yes. not_twice parts (IsDistinct-IsPermutation (λ m n. m == n) flipped tags (map (λ p. p.0) parts)
    (IsPermutation-sym (map (λ p. p.0) parts) tags moved) (said.0 yes)))
    (λ none. said.1 (IsDistinct-IsPermutation (λ m n. m == n) flipped (map (λ p. p.0) parts) tags moved
    (distinct parts none)))
