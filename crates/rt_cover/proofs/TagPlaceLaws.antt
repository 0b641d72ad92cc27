-- Where a tag stands among kept listens by tag, and what is found there.
use Rattle.std.proofs.Common.{◌≡◌, ℕ, zero, suc, ◌+◌, ◌<◌, ◌≤◌, true, false, cond, not, nat_le, ◌==◌, List, [], ◌∷◌, length, refl, sym, ap, ◌∙◌, arith, slice_index_or, get_or, ltb, ltb-true, ltb-false, Some, None, Bool, is_some, ◌||◌}
use mathlib.Core.Bool.{true≢false}
use Rattle.std.specs.List.{find, list_any, All, AllPairs}
use Rattle.std.specs.List.Sorted.{IsNonDecreasingBy, IsPartitionedBy, IsPartitionPoint}
use Rattle.std.proofs.lemmas.List.Elements.{All-head, All-tail, All-weaker}
use Rattle.std.proofs.lemmas.List.Sorted.{IsPartitionedBy-ltb}
use Rattle.std.proofs.lemmas.List.Sums.{position_or_len_is}
use Rattle.rt_query.specs.Queries.{plain}
use Rattle.rt_cover.specs.Cover.{Tagged}
use Rattle.rt_cover.specs.inside.Places.{tag_place, does_stand_kept}
use Rattle.rt_cover.specs.laws.Pairs.{AllPairs-first, AllPairs-rest}
use Rattle.rt_cover.proofs.PlaceLaws.{lesser, no_lesser, below, not_below, differs}

never_fall : (ks : List Tagged) → AllPairs (λ (j k : Tagged). j.tag < k.tag) ks → IsNonDecreasingBy (λ (k : Tagged). k.tag) ks
never_fall ks h i j d le lt =
    elim (ltb i j) as (λ b. ltb i j ≡ b → (slice_index_or ks i d).tag ≤ (slice_index_or ks j d).tag) [
      | true ↦ λ e. let above : (slice_index_or ks i d).tag < (slice_index_or ks j d).tag = h i j d (ltb-true i j e) lt in omega (arith, above)
      | false ↦ λ e. let same : i ≡ j = omega (arith, le, ltb-false i j e) in
          let eq : (slice_index_or ks i d).tag ≡ (slice_index_or ks j d).tag = ap (λ k. (slice_index_or ks k d).tag) same in omega (arith, eq)
    ] refl

-- the lesser ones stand before the others
pub lesser_first : (t : ℕ) (ks : List Tagged) → AllPairs (λ (j k : Tagged). j.tag < k.tag) ks → IsPartitionedBy (λ (k : Tagged). ltb k.tag t) ks
lesser_first t ks h = IsPartitionedBy-ltb (λ (k : Tagged). k.tag) ks t (never_fall ks h)

-- the place between the lesser ones and the others
pub place_is : (t : ℕ) (ks : List Tagged) (i : ℕ) → i ≤ length ks → IsPartitionPoint (λ (k : Tagged). ltb k.tag t ≡ true) (λ (k : Tagged). ltb k.tag t ≡ false) ks i → (d : Tagged) → tag_place t ks ≡ i
place_is t ks i le h d =
    position_or_len_is (λ (k : Tagged). nat_le t k.tag) ks i d le
    (λ k lt. lesser (slice_index_or ks k d).tag t (h.0 k d (omega arith) lt))
    (λ lt. no_lesser (slice_index_or ks i d).tag t (h.1 i d (omega arith) lt))

next : (p : ℕ) → suc p ≡ 1 + p
next p = omega arith

missing : (t : ℕ) (ks : List Tagged) → All (λ (k : Tagged). t < k.tag) ks → find (λ (k : Tagged). k.tag == t) ks ≡ None
missing t [] h = refl
missing t (k ∷ ks) h =
    let lt = All-head (λ (x : Tagged). t < x.tag) k ks h in
    ap (λ b. cond b (Some k) (find (λ (x : Tagged). x.tag == t) ks)) (differs k.tag t (λ e. omega (arith, e, lt)))
    ∙ missing t ks (All-tail (λ (x : Tagged). t < x.tag) k ks h)

above : (t : ℕ) (k : Tagged) (ks : List Tagged) → AllPairs (λ (x y : Tagged). x.tag < y.tag) (k ∷ ks) → t ≤ k.tag → All (λ (x : Tagged). t < x.tag) ks
above t k ks rise le = All-weaker (λ (x : Tagged). k.tag < x.tag) (λ (x : Tagged). t < x.tag) (λ x lt. omega (arith, lt, le)) ks
    (AllPairs-first (λ (x y : Tagged). x.tag < y.tag) k ks rise)

-- where it doesn't stand at its place it is not found
pub find-not_there : (t : ℕ) (ks : List Tagged) → AllPairs (λ (j k : Tagged). j.tag < k.tag) ks → does_stand_kept ks (tag_place t ks) t ≡ false
    → find (λ (k : Tagged). k.tag == t) ks ≡ None
find-not_there t [] rise e = refl
find-not_there t (k ∷ ks) rise e =
    elim (nat_le t k.tag) as (λ b. nat_le t k.tag ≡ b → does_stand_kept (k ∷ ks) (cond (not b) (1 + tag_place t ks) 0) t ≡ false → find (λ (x : Tagged). x.tag == t) (k ∷ ks) ≡ None) [
      | true ↦ λ le f. ap (λ b. cond b (Some k) (find (λ (x : Tagged). x.tag == t) ks)) f ∙ missing t ks (above t k ks rise (not_below k.tag t le))
      | false ↦ λ lt f. let less = below k.tag t lt in
          ap (λ b. cond b (Some k) (find (λ (x : Tagged). x.tag == t) ks)) (differs k.tag t (λ s. omega (arith, s, less)))
          ∙ find-not_there t ks (AllPairs-rest (λ (x y : Tagged). x.tag < y.tag) k ks rise)
          (ap (λ q. does_stand_kept (k ∷ ks) q t) (next (tag_place t ks)) ∙ f)
    ] refl e

-- where it does it is found there
pub find-there : (t : ℕ) (ks : List Tagged) (d : Tagged) → does_stand_kept ks (tag_place t ks) t ≡ true
    → find (λ (k : Tagged). k.tag == t) ks ≡ Some (get_or ks (tag_place t ks) d)
find-there t [] d e = absurd (true≢false (sym e))
find-there t (k ∷ ks) d e =
    elim (nat_le t k.tag) as (λ b. nat_le t k.tag ≡ b → does_stand_kept (k ∷ ks) (cond (not b) (1 + tag_place t ks) 0) t ≡ true
    → find (λ (x : Tagged). x.tag == t) (k ∷ ks) ≡ Some (get_or (k ∷ ks) (cond (not b) (1 + tag_place t ks) 0) d)) [
      | true ↦ λ le f. ap (λ b. cond b (Some k) (find (λ (x : Tagged). x.tag == t) ks)) f
      | false ↦ λ lt f. let less = below k.tag t lt in
          ap (λ b. cond b (Some k) (find (λ (x : Tagged). x.tag == t) ks)) (differs k.tag t (λ s. omega (arith, s, less)))
          ∙ find-there t ks d (ap (λ q. does_stand_kept (k ∷ ks) q t) (next (tag_place t ks)) ∙ f)
          ∙ ap (λ q. Some (get_or (k ∷ ks) q d)) (next (tag_place t ks))
    ] refl e

any_found : {X : Type 0} (p : X → Bool) (xs : List X) → list_any p xs ≡ is_some (find p xs)
any_found p [] = refl
any_found p (x ∷ xs) = elim (p x) as (λ b. (b || list_any p xs) ≡ is_some (cond b (Some x) (find p xs))) [
  | true ↦ refl
  | false ↦ any_found p xs
]

-- so one of them has the tag where it stands at its place
pub stands_any : (t : ℕ) (ks : List Tagged) → AllPairs (λ (j k : Tagged). j.tag < k.tag) ks → does_stand_kept ks (tag_place t ks) t ≡ list_any (λ (k : Tagged). k.tag == t) ks
stands_any t ks rise = at (does_stand_kept ks (tag_place t ks) t) refl ∙ sym (any_found (λ (k : Tagged). k.tag == t) ks)
  where
    at : (b : Bool) → does_stand_kept ks (tag_place t ks) t ≡ b → does_stand_kept ks (tag_place t ks) t ≡ is_some (find (λ (k : Tagged). k.tag == t) ks)
    at true e = e ∙ sym (ap is_some (find-there t ks (record { tag = t; form = plain [] }) e))
    at false e = e ∙ sym (ap is_some (find-not_there t ks rise e))

-- a listen that stands at a place is within the list
pub stands_within : (t : ℕ) (ks : List Tagged) (p : ℕ) → does_stand_kept ks p t ≡ true → p < length ks
stands_within t [] p e = absurd (true≢false (sym e))
stands_within t (k ∷ ks) zero e = omega arith
stands_within t (k ∷ ks) (suc p) e = let rest = stands_within t ks p e in omega arith
