-- The next alarm is the first of a heap.
use Rattle.std.proofs.Common.{◌≡◌, ◌≤◌, ◌<◌, ℕ, Bool, true, false, List, [], ◌∷◌, length, get_or, Option, Some, None}
use Rattle.std.proofs.Common.{refl, sym, ap, subst, ◌∙◌, arith, if◌then◌else◌}
use Rattle.std.specs.Prelude.{nat_le, nat_lt, ◌==◌}
use Rattle.std.specs.BinaryHeap.{IsHeap, IsUpperBound, PopsGreatest, lt_by_cmp}
use Rattle.std.specs.Ordering.{is_lt, nat_cmp, ordering_then}
use Rattle.std.specs.declared.cmp.Ordering.{Ordering}
use Rattle.std.specs.declared.cmp.Ordering.TheVariants.{Less, Equal, Greater}
use Rattle.std.proofs.lemmas.Bool.Decides.{nat_tests}
use Rattle.std.specs.List.Sorted.{IsPermutation}
use Rattle.std.specs.Option.{unwrap_or}
use Rattle.std.specs.Prelude.{IfSome}
use Rattle.std.proofs.lemmas.List.Sorted.{length_permutation}
use Rattle.rt_emulate.specs.inside.Alarms.{Alarm, HasRung, in_order, next_time, sooner}

-- what isn't greater by the first of three comparisons isn't later
not_less : (o p q : Ordering) → is_lt (ordering_then (ordering_then o p) q) ≡ false → is_lt o ≡ false
not_less Less p q e = e
not_less Equal p q e = refl
not_less Greater p q e = refl

impossible : (m n : ℕ) → true ≡ false → n ≤ m
impossible m n e = cc

by_number : (m n : ℕ) (b : Bool) → nat_lt m n ≡ b → is_lt (nat_cmp m n) ≡ false → n ≤ m
by_number m n true e h =
    impossible m n (subst (λ t. is_lt (if t then Less else if m == n then Equal else Greater) ≡ false) e h)
by_number m n false e h = grind (arith, nat_tests)

not_later : (x y : Alarm) → lt_by_cmp in_order x y ≡ false → x.0.0 ≤ y.0.0
not_later x y h =
    by_number y.0.0 x.0.0 (nat_lt y.0.0 x.0.0) refl
    (not_less (nat_cmp y.0.0 x.0.0) (nat_cmp y.0.1 x.0.1) (nat_cmp y.0.2 x.0.2) h)

one_less : (t u : ℕ) (b : Bool) → nat_le t u ≡ b → t ≤ u → sooner (Some t) (Some u) ≡ Some t
one_less t u true e le = ap (λ b. Some (if b then t else u)) e
one_less t u false e le = absurd (grind (arith, nat_tests))

stays : (t u : ℕ) (o : Option ℕ) → t ≤ u → sooner (Some t) o ≡ Some t
    → sooner (Some t) (sooner (Some u) o) ≡ Some t
stays t u None le e = one_less t u (nat_le t u) refl le
stays t u (Some v) le e =
    elim (nat_le u v) as (λ b. sooner (Some t) (Some (if b then u else v)) ≡ Some t)
    [ true ↦ one_less t u (nat_le t u) refl le | false ↦ e ]

bound : (x : Alarm) (ys : List Alarm) → IsUpperBound in_order x ys
    → sooner (Some x.0.0) (next_time ys) ≡ Some x.0.0
bound x [] h = refl
bound x (y ∷ ys) h = stays x.0.0 y.0.0 (next_time ys) (not_later x y h.0) (bound x ys h.1)

-- one that is first, and that no other is sooner than, is the next
pub first_is_next : (xs : List Alarm) (x : Alarm) → 0 < length xs → x ≡ get_or xs 0 x → IsUpperBound in_order x xs
    → next_time xs ≡ Some x.0.0
first_is_next [] x lt is h = absurd (omega arith)
first_is_next (y ∷ ys) x lt is h =
    ap (λ (z : Alarm). sooner (Some z.0.0) (next_time ys)) (sym is) ∙ bound x ys h.1

-- where the first of a heap is taken out and it rings by now, it was the next alarm
pub rings : (now at : ℕ) (xs ys : List Alarm) (o : Option Alarm) → at ≤ now → Some at ≡ next_time xs
    → IfSome o (λ x. x ≡ get_or xs 0 x) → IfSome o (λ x. IsPermutation xs (x ∷ ys))
    → IfSome o (λ x. PopsGreatest in_order xs x ys) → IsHeap in_order xs → IfSome o (λ x. HasRung now x xs ys)
rings now at xs ys None le e top same greatest heap = tt
rings now at xs ys (Some x) le e top same greatest heap =
    let size : length (x ∷ ys) ≡ length xs = length_permutation xs (x ∷ ys) same in
    let next : next_time xs ≡ Some x.0.0 = first_is_next xs x (omega (arith, size)) top (greatest heap).1 in
    let is : at ≡ x.0.0 = ap (λ o. unwrap_or o 0) (e ∙ next) in
    (subst (λ t. t ≤ now) is le, next, same)
