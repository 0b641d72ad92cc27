-- Where a number stands among numbers that rise, and what stands there.
use Rattle.std.proofs.Common.{◌≡◌, ℕ, zero, suc, ◌+◌, ◌<◌, ◌≤◌, true, false, cond, not, nat_le, ◌==◌, List, [], ◌∷◌, map, length, set, refl, sym, ap, subst, ◌∙◌, arith, get_or, Some, None, ltb}
use mathlib.Core.Bool.{true≢false}
use Rattle.std.specs.List.{find, insert, remove}
use Rattle.std.specs.List.Sorted.{IsNonDecreasingBy, IsPartitionedBy, IsPartitionPoint}
use Rattle.std.proofs.lemmas.Bool.Decides.{nat_tests}
use Rattle.std.proofs.lemmas.List.Sorted.{IsPartitionedBy-ltb}
use Rattle.std.proofs.lemmas.List.Sums.{position_or_len_is}
use Rattle.rt_view.specs.declared.change.Change.{Change}
use Rattle.rt_mail.specs.Mailbox.{Children, played, without_listener, without_request}
use Rattle.rt_mail.specs.inside.Places.{does_stand, after_changes}
use Rattle.rt_mail.specs.laws.Replays.{AreAbove, Rise}
use Rattle.rt_mail.proofs.Places.{numbers, place, next, with_request-place}
use Rattle.rt_mail.proofs.Rising.{same_number, other_number, beyond, below_other, above_lower, rise_with}

-- ---- the place

above_at : (n : ℕ) (ns : List ℕ) (k d : ℕ) → AreAbove n ns → k < length ns → n < get_or ns k d
above_at n [] k d h lt = absurd (omega arith)
above_at n (m ∷ ns) zero d h lt = h.0
above_at n (m ∷ ns) (suc k) d h lt = above_at n ns k d h.1 (omega arith)

never_fall : (ns : List ℕ) → Rise ns → IsNonDecreasingBy (λ n. n) ns
never_fall [] h i j d le lt = absurd (omega arith)
never_fall (n ∷ ns) h zero zero d le lt = omega arith
never_fall (n ∷ ns) h zero (suc j) d le lt = let above = above_at n ns j d h.0 (omega arith) in omega arith
never_fall (n ∷ ns) h (suc i) zero d le lt = absurd (omega arith)
never_fall (n ∷ ns) h (suc i) (suc j) d le lt = never_fall ns h.1 i j d (omega arith) (omega arith)

-- the lesser ones stand before the others
pub lesser_first : (n : ℕ) (ns : List ℕ) → Rise ns → IsPartitionedBy (λ m. ltb m n) ns
lesser_first n ns h = IsPartitionedBy-ltb (λ m. m) ns n (never_fall ns h)

lesser : (m n : ℕ) → ltb m n ≡ true → nat_le n m ≡ false
lesser m n e = grind (arith, nat_tests)

no_lesser : (m n : ℕ) → ltb m n ≡ false → nat_le n m ≡ true
no_lesser m n e = grind (arith, nat_tests)

-- the place between the lesser ones and the others
pub place_is : (n : ℕ) (ns : List ℕ) (i : ℕ) → i ≤ length ns → IsPartitionPoint (λ m. ltb m n ≡ true) (λ m. ltb m n ≡ false) ns i → place n ns ≡ i
place_is n ns i le h =
    position_or_len_is (nat_le n) ns i 0 le
    (λ k lt. lesser (get_or ns k 0) n (h.0 k 0 (omega arith) lt))
    (λ lt. no_lesser (get_or ns i 0) n (h.1 i 0 (omega arith) lt))

-- a number that is put there rises with the others
pub rise_inserted : (n : ℕ) (ns : List ℕ) → Rise ns → does_stand ns (place n ns) n ≡ false → Rise (insert ns (place n ns) n)
rise_inserted n ns h e = subst Rise (with_request-place n ns ∙ ap (λ b. cond b ns (insert ns (place n ns) n)) e) (rise_with n ns h)

-- ---- the listener there

-- no listener is the one
untouched : (n : ℕ) (cs : List Change) (ls : List (ℕ × Children)) → AreAbove n (numbers ls) → map (played n cs) ls ≡ ls
untouched n cs [] h = refl
untouched n cs (l ∷ ls) h =
    let lt = h.0 in
    let other : (l.0 == n) ≡ false = other_number l.0 n (λ e. omega (arith, e, lt)) in
    (λ i. cond (other i) (after_changes cs l) l ∷ map (played n cs) ls) ∙ ap (λ z. l ∷ z) (untouched n cs ls h.1)

-- where the number doesn't stand, all stay
pub played-not_there : (n : ℕ) (cs : List Change) (ls : List (ℕ × Children)) → Rise (numbers ls) → does_stand (numbers ls) (place n (numbers ls)) n ≡ false → map (played n cs) ls ≡ ls
played-not_there n cs [] h e = refl
played-not_there n cs (l ∷ ls) h e =
    let p = place n (numbers ls) in
    elim (nat_le n l.0) as (λ b. nat_le n l.0 ≡ b → does_stand (l.0 ∷ numbers ls) (cond (not b) (1 + p) 0) n ≡ false → map (played n cs) (l ∷ ls) ≡ l ∷ ls) [
      | true ↦ λ t f. untouched n cs (l ∷ ls) (let lt = below_other n l.0 t f in (lt, above_lower n l.0 (numbers ls) lt h.0))
      | false ↦ λ t f.
          let lt = beyond n l.0 t in
          let other : (l.0 == n) ≡ false = other_number l.0 n (λ s. omega (arith, s, lt)) in
          (λ i. cond (other i) (after_changes cs l) l ∷ map (played n cs) ls)
          ∙ ap (λ z. l ∷ z) (played-not_there n cs ls h.1 (ap (λ q. does_stand (l.0 ∷ numbers ls) q n) (next p) ∙ f))
    ] refl e

-- where it stands, the one there has changed, and no other
pub played-there : (n : ℕ) (cs : List Change) (ls : List (ℕ × Children)) (d : ℕ × Children) → Rise (numbers ls)
    → does_stand (numbers ls) (place n (numbers ls)) n ≡ true
    → map (played n cs) ls ≡ set ls (place n (numbers ls)) (after_changes cs (get_or ls (place n (numbers ls)) d))
played-there n cs [] d h e = absurd (true≢false (sym e))
played-there n cs (l ∷ ls) d h e =
    let p = place n (numbers ls) in
    elim (nat_le n l.0) as (λ b. nat_le n l.0 ≡ b → does_stand (l.0 ∷ numbers ls) (cond (not b) (1 + p) 0) n ≡ true
    → map (played n cs) (l ∷ ls) ≡ set (l ∷ ls) (cond (not b) (1 + p) 0) (after_changes cs (get_or (l ∷ ls) (cond (not b) (1 + p) 0) d))) [
      | true ↦ λ t f.
          (λ i. cond (f i) (after_changes cs l) l ∷ map (played n cs) ls)
          ∙ ap (λ z. after_changes cs l ∷ z) (untouched n cs ls (subst (λ x. AreAbove x (numbers ls)) (same_number l.0 n f) h.0))
      | false ↦ λ t f.
          let lt = beyond n l.0 t in
          let other : (l.0 == n) ≡ false = other_number l.0 n (λ s. omega (arith, s, lt)) in
          (λ i. cond (other i) (after_changes cs l) l ∷ map (played n cs) ls)
          ∙ ap (λ z. l ∷ z) (played-there n cs ls d h.1 (ap (λ q. does_stand (l.0 ∷ numbers ls) q n) (next p) ∙ f))
          ∙ ap (λ q. set (l ∷ ls) q (after_changes cs (get_or (l ∷ ls) q d))) (next p)
    ] refl e

-- the number stands within the list
pub stands_within : (n : ℕ) (ls : List (ℕ × Children)) (p : ℕ) → does_stand (numbers ls) p n ≡ true → p < length ls
stands_within n [] p e = absurd (true≢false (sym e))
stands_within n (l ∷ ls) zero e = omega arith
stands_within n (l ∷ ls) (suc p) e = let rest = stands_within n ls p e in omega arith

-- ---- the children there

missing : (n : ℕ) (ls : List (ℕ × Children)) → AreAbove n (numbers ls) → find (λ l. l.0 == n) ls ≡ None
missing n [] h = refl
missing n (l ∷ ls) h =
    let lt = h.0 in
    ap (λ b. cond b (Some l) (find (λ x. x.0 == n) ls)) (other_number l.0 n (λ e. omega (arith, e, lt))) ∙ missing n ls h.1

pub find-not_there : (n : ℕ) (ls : List (ℕ × Children)) → Rise (numbers ls) → does_stand (numbers ls) (place n (numbers ls)) n ≡ false → find (λ l. l.0 == n) ls ≡ None
find-not_there n [] h e = refl
find-not_there n (l ∷ ls) h e =
    let p = place n (numbers ls) in
    elim (nat_le n l.0) as (λ b. nat_le n l.0 ≡ b → does_stand (l.0 ∷ numbers ls) (cond (not b) (1 + p) 0) n ≡ false → find (λ x. x.0 == n) (l ∷ ls) ≡ None) [
      | true ↦ λ t f. missing n (l ∷ ls) (let lt = below_other n l.0 t f in (lt, above_lower n l.0 (numbers ls) lt h.0))
      | false ↦ λ t f.
          let lt = beyond n l.0 t in
          ap (λ b. cond b (Some l) (find (λ x. x.0 == n) ls)) (other_number l.0 n (λ s. omega (arith, s, lt)))
          ∙ find-not_there n ls h.1 (ap (λ q. does_stand (l.0 ∷ numbers ls) q n) (next p) ∙ f)
    ] refl e

pub find-there : (n : ℕ) (ls : List (ℕ × Children)) (d : ℕ × Children) → does_stand (numbers ls) (place n (numbers ls)) n ≡ true
    → find (λ l. l.0 == n) ls ≡ Some (get_or ls (place n (numbers ls)) d)
find-there n [] d e = absurd (true≢false (sym e))
find-there n (l ∷ ls) d e =
    let p = place n (numbers ls) in
    elim (nat_le n l.0) as (λ b. nat_le n l.0 ≡ b → does_stand (l.0 ∷ numbers ls) (cond (not b) (1 + p) 0) n ≡ true
    → find (λ x. x.0 == n) (l ∷ ls) ≡ Some (get_or (l ∷ ls) (cond (not b) (1 + p) 0) d)) [
      | true ↦ λ t f. ap (λ b. cond b (Some l) (find (λ x. x.0 == n) ls)) f
      | false ↦ λ t f.
          let lt = beyond n l.0 t in
          ap (λ b. cond b (Some l) (find (λ x. x.0 == n) ls)) (other_number l.0 n (λ s. omega (arith, s, lt)))
          ∙ find-there n ls d (ap (λ q. does_stand (l.0 ∷ numbers ls) q n) (next p) ∙ f)
          ∙ ap (λ q. Some (get_or (l ∷ ls) q d)) (next p)
    ] refl e

-- ---- the others

-- a number below all of these is none of them
none_gone : (n : ℕ) (ns : List ℕ) → AreAbove n ns → without_request n ns ≡ ns
none_gone n [] h = refl
none_gone n (m ∷ ns) h =
    let lt = h.0 in
    ap (λ b. cond (not b) (m ∷ without_request n ns) (without_request n ns)) (other_number m n (λ e. omega (arith, e, lt)))
    ∙ ap (λ z. m ∷ z) (none_gone n ns h.1)

pub without-not_there : (n : ℕ) (ns : List ℕ) → Rise ns → does_stand ns (place n ns) n ≡ false → ns ≡ without_request n ns
without-not_there n [] h e = refl
without-not_there n (m ∷ ns) h e =
    let p = place n ns in
    elim (nat_le n m) as (λ b. nat_le n m ≡ b → does_stand (m ∷ ns) (cond (not b) (1 + p) 0) n ≡ false → m ∷ ns ≡ without_request n (m ∷ ns)) [
      | true ↦ λ t f. sym (none_gone n (m ∷ ns) (let lt = below_other n m t f in (lt, above_lower n m ns lt h.0)))
      | false ↦ λ t f.
          let lt = beyond n m t in
          ap (λ z. m ∷ z) (without-not_there n ns h.1 (ap (λ q. does_stand (m ∷ ns) q n) (next p) ∙ f))
          ∙ sym (ap (λ b. cond (not b) (m ∷ without_request n ns) (without_request n ns)) (other_number m n (λ s. omega (arith, s, lt))))
    ] refl e

pub without-there : (n : ℕ) (ns : List ℕ) → Rise ns → does_stand ns (place n ns) n ≡ true → remove ns (place n ns) ≡ without_request n ns
without-there n [] h e = absurd (true≢false (sym e))
without-there n (m ∷ ns) h e =
    let p = place n ns in
    elim (nat_le n m) as (λ b. nat_le n m ≡ b → does_stand (m ∷ ns) (cond (not b) (1 + p) 0) n ≡ true → remove (m ∷ ns) (cond (not b) (1 + p) 0) ≡ without_request n (m ∷ ns)) [
      | true ↦ λ t f.
          sym (ap (λ b. cond (not b) (m ∷ without_request n ns) (without_request n ns)) f
          ∙ none_gone n ns (subst (λ x. AreAbove x ns) (same_number m n f) h.0))
      | false ↦ λ t f.
          let lt = beyond n m t in
          ap (λ q. remove (m ∷ ns) q) (sym (next p))
          ∙ ap (λ z. m ∷ z) (without-there n ns h.1 (ap (λ q. does_stand (m ∷ ns) q n) (next p) ∙ f))
          ∙ sym (ap (λ b. cond (not b) (m ∷ without_request n ns) (without_request n ns)) (other_number m n (λ s. omega (arith, s, lt))))
    ] refl e

-- and so of listeners
none_left : (n : ℕ) (ls : List (ℕ × Children)) → AreAbove n (numbers ls) → without_listener n ls ≡ ls
none_left n [] h = refl
none_left n (l ∷ ls) h =
    let lt = h.0 in
    ap (λ b. cond (not b) (l ∷ without_listener n ls) (without_listener n ls)) (other_number l.0 n (λ e. omega (arith, e, lt)))
    ∙ ap (λ z. l ∷ z) (none_left n ls h.1)

pub left-not_there : (n : ℕ) (ls : List (ℕ × Children)) → Rise (numbers ls) → does_stand (numbers ls) (place n (numbers ls)) n ≡ false → ls ≡ without_listener n ls
left-not_there n [] h e = refl
left-not_there n (l ∷ ls) h e =
    let p = place n (numbers ls) in
    elim (nat_le n l.0) as (λ b. nat_le n l.0 ≡ b → does_stand (l.0 ∷ numbers ls) (cond (not b) (1 + p) 0) n ≡ false → l ∷ ls ≡ without_listener n (l ∷ ls)) [
      | true ↦ λ t f. sym (none_left n (l ∷ ls) (let lt = below_other n l.0 t f in (lt, above_lower n l.0 (numbers ls) lt h.0)))
      | false ↦ λ t f.
          let lt = beyond n l.0 t in
          ap (λ z. l ∷ z) (left-not_there n ls h.1 (ap (λ q. does_stand (l.0 ∷ numbers ls) q n) (next p) ∙ f))
          ∙ sym (ap (λ b. cond (not b) (l ∷ without_listener n ls) (without_listener n ls)) (other_number l.0 n (λ s. omega (arith, s, lt))))
    ] refl e

pub left-there : (n : ℕ) (ls : List (ℕ × Children)) → Rise (numbers ls) → does_stand (numbers ls) (place n (numbers ls)) n ≡ true → remove ls (place n (numbers ls)) ≡ without_listener n ls
left-there n [] h e = absurd (true≢false (sym e))
left-there n (l ∷ ls) h e =
    let p = place n (numbers ls) in
    elim (nat_le n l.0) as (λ b. nat_le n l.0 ≡ b → does_stand (l.0 ∷ numbers ls) (cond (not b) (1 + p) 0) n ≡ true → remove (l ∷ ls) (cond (not b) (1 + p) 0) ≡ without_listener n (l ∷ ls)) [
      | true ↦ λ t f.
          sym (ap (λ b. cond (not b) (l ∷ without_listener n ls) (without_listener n ls)) f
          ∙ none_left n ls (subst (λ x. AreAbove x (numbers ls)) (same_number l.0 n f) h.0))
      | false ↦ λ t f.
          let lt = beyond n l.0 t in
          ap (λ q. remove (l ∷ ls) q) (sym (next p))
          ∙ ap (λ z. l ∷ z) (left-there n ls h.1 (ap (λ q. does_stand (l.0 ∷ numbers ls) q n) (next p) ∙ f))
          ∙ sym (ap (λ b. cond (not b) (l ∷ without_listener n ls) (without_listener n ls)) (other_number l.0 n (λ s. omega (arith, s, lt))))
    ] refl e
