-- What is found of listeners by number.
use Rattle.std.proofs.Common.{◌≡◌, ℕ, zero, suc, ◌+◌, ◌<◌, ◌≤◌, true, false, cond, not, nat_le, ◌==◌, List, [], ◌∷◌, length, refl, sym, ap, ◌∙◌, arith, get_or, Some, None}
use mathlib.Core.Bool.{true≢false}
use Rattle.std.specs.List.{find, All, AllPairs}
use Rattle.std.proofs.lemmas.List.Elements.{All-head, All-tail, All-weaker}
use Rattle.rt_cover.specs.Cover.{Registered}
use Rattle.rt_cover.specs.inside.Places.{place, does_stand}
use Rattle.rt_cover.specs.laws.Pairs.{AllPairs-first, AllPairs-rest}
use Rattle.rt_cover.proofs.PlaceLaws.{below, not_below, differs}

next : (p : ℕ) → suc p ≡ 1 + p
next p = omega arith

missing : (t : ℕ) (ks : List Registered) → All (λ (k : Registered). t < k.0) ks → find (λ (k : Registered). k.0 == t) ks ≡ None
missing t [] h = refl
missing t (k ∷ ks) h =
    let lt = All-head (λ (x : Registered). t < x.0) k ks h in
    ap (λ b. cond b (Some k) (find (λ (x : Registered). x.0 == t) ks)) (differs k.0 t (λ e. omega (arith, e, lt)))
    ∙ missing t ks (All-tail (λ (x : Registered). t < x.0) k ks h)

above : (t : ℕ) (k : Registered) (ks : List Registered) → AllPairs (λ (x y : Registered). x.0 < y.0) (k ∷ ks) → t ≤ k.0 → All (λ (x : Registered). t < x.0) ks
above t k ks rise le = All-weaker (λ (x : Registered). k.0 < x.0) (λ (x : Registered). t < x.0) (λ x lt. omega (arith, lt, le)) ks
    (AllPairs-first (λ (x y : Registered). x.0 < y.0) k ks rise)

-- where it doesn't stand at its place it is not found
pub find-not_there : (t : ℕ) (ks : List Registered) → AllPairs (λ (j k : Registered). j.0 < k.0) ks → does_stand ks (place t ks) t ≡ false
    → find (λ (k : Registered). k.0 == t) ks ≡ None
find-not_there t [] rise e = refl
find-not_there t (k ∷ ks) rise e =
    elim (nat_le t k.0) as (λ b. nat_le t k.0 ≡ b → does_stand (k ∷ ks) (cond (not b) (1 + place t ks) 0) t ≡ false → find (λ (x : Registered). x.0 == t) (k ∷ ks) ≡ None) [
      | true ↦ λ le f. ap (λ b. cond b (Some k) (find (λ (x : Registered). x.0 == t) ks)) f ∙ missing t ks (above t k ks rise (not_below k.0 t le))
      | false ↦ λ lt f. let less = below k.0 t lt in
          ap (λ b. cond b (Some k) (find (λ (x : Registered). x.0 == t) ks)) (differs k.0 t (λ s. omega (arith, s, less)))
          ∙ find-not_there t ks (AllPairs-rest (λ (x y : Registered). x.0 < y.0) k ks rise)
          (ap (λ q. does_stand (k ∷ ks) q t) (next (place t ks)) ∙ f)
    ] refl e

-- where it does it is found there
pub find-there : (t : ℕ) (ks : List Registered) (d : Registered) → does_stand ks (place t ks) t ≡ true
    → find (λ (k : Registered). k.0 == t) ks ≡ Some (get_or ks (place t ks) d)
find-there t [] d e = absurd (true≢false (sym e))
find-there t (k ∷ ks) d e =
    elim (nat_le t k.0) as (λ b. nat_le t k.0 ≡ b → does_stand (k ∷ ks) (cond (not b) (1 + place t ks) 0) t ≡ true
    → find (λ (x : Registered). x.0 == t) (k ∷ ks) ≡ Some (get_or (k ∷ ks) (cond (not b) (1 + place t ks) 0) d)) [
      | true ↦ λ le f. ap (λ b. cond b (Some k) (find (λ (x : Registered). x.0 == t) ks)) f
      | false ↦ λ lt f. let less = below k.0 t lt in
          ap (λ b. cond b (Some k) (find (λ (x : Registered). x.0 == t) ks)) (differs k.0 t (λ s. omega (arith, s, less)))
          ∙ find-there t ks d (ap (λ q. does_stand (k ∷ ks) q t) (next (place t ks)) ∙ f)
          ∙ ap (λ q. Some (get_or (k ∷ ks) q d)) (next (place t ks))
    ] refl e

-- a listener that stands at a place is within the list
pub stands_within : (t : ℕ) (ks : List Registered) (p : ℕ) → does_stand ks p t ≡ true → p < length ks
stands_within t [] p e = absurd (true≢false (sym e))
stands_within t (k ∷ ks) zero e = omega arith
stands_within t (k ∷ ks) (suc p) e = let rest = stands_within t ks p e in omega arith
