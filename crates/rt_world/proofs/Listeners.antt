-- Listeners by their numbers.
use Rattle.std.proofs.Common.{◌≡◌, ℕ, zero, suc, ◌+◌, ◌<◌, Bool, true, false, cond, ◌||◌, ◌==◌, List, [], ◌∷◌, ◌++◌, map, length, refl, sym, ap, subst, ◌∙◌, arith, slice_index_or, Some, None}
use mathlib.Core.Bool.{true≢false}
use lib.Dec.{T, eqb→eq}
use Rattle.std.specs.Cmp.{nat_eq_equiv}
use Rattle.std.specs.List.{find, list_any, All, Contains}
use Rattle.std.specs.Option.{option_and_then}
use Rattle.std.proofs.lemmas.List.Elements.{All-map, All-push, All-weaker}
use Rattle.std.proofs.lemmas.List.Folds.{list_any_at, list_any_none}
use Rattle.rt_query.specs.Supply.{form}
use Rattle.rt_writes.specs.Writes.{Write}
use Rattle.rt_cache.specs.Brought.{Brought}
use Rattle.rt_world.specs.Views.{is_known, view_of}
use Rattle.rt_world.specs.World.{Listener, registered}
use Rattle.rt_world.specs.After.{renewed}
use Rattle.rt_world.specs.Answers.{view_before}
use Rattle.rt_world.specs.Sound.{Rises}

-- ---- numbers

pub same_number : (m n : ℕ) → (m == n) ≡ true → m ≡ n
same_number m n e = eqb→eq m n (subst (λ b. T b) (sym e) tt)

pub other_number : (m n : ℕ) → (m ≡ n → ⊥) → (m == n) ≡ false
other_number m n apart = elim (m == n) as (λ b. (m == n) ≡ b → b ≡ false) [
  | true ↦ λ e. absurd (apart (same_number m n e))
  | false ↦ λ e. refl
] refl

pub or_false_left : (a b : Bool) → (a || b) ≡ false → a ≡ false
or_false_left true b e = e
or_false_left false b e = refl

pub or_false_right : (a b : Bool) → (a || b) ≡ false → b ≡ false
or_false_right true b e = absurd (true≢false e)
or_false_right false b e = e

-- whether a listener has the number
abbrev pub has_number : ℕ → List Listener → Bool
has_number n ls = list_any (λ m. m.number == n) ls

-- a number below all others is no other's
pub not_above : (n : ℕ) (ls : List Listener) → All (λ (m : Listener). n < m.number) ls → has_number n ls ≡ false
not_above n ls h = list_any_none (λ m. m.number == n) ls (λ k d lt. other_number (slice_index_or ls k d).number n (λ e. omega (arith, e, h k d lt)))

-- nor is one at the bound
pub not_bound : (n : ℕ) (ls : List Listener) → All (λ (m : Listener). m.number < n) ls → has_number n ls ≡ false
not_bound n ls h = list_any_none (λ m. m.number == n) ls (λ k d lt. other_number (slice_index_or ls k d).number n (λ e. omega (arith, e, h k d lt)))

pub has_number-there : (ls : List Listener) (k : ℕ) (l : Listener) → k < length ls → slice_index_or ls k l ≡ l → has_number l.number ls ≡ true
has_number-there ls k l lt e = list_any_at (λ m. m.number == l.number) ls k l lt (ap (λ m. m.number == l.number) e ∙ nat_eq_equiv.refl l.number)

-- ---- what a listener was shown before

find-number_at : (ls : List Listener) (k : ℕ) (l : Listener) → Rises ls → k < length ls → slice_index_or ls k l ≡ l → find (λ m. m.number == l.number) ls ≡ Some l
find-number_at [] k l a lt e = absurd (omega arith)
find-number_at (m ∷ ls) zero l a lt e = ap (λ b. cond b (Some m) (find (λ x. x.number == l.number) ls)) (ap (λ x. x.number == l.number) e ∙ nat_eq_equiv.refl l.number) ∙ ap Some e
find-number_at (m ∷ ls) (suc k) l a lt e =
    let there = has_number-there ls k l (omega arith) e in
    elim (m.number == l.number) as (λ b. (m.number == l.number) ≡ b → cond b (Some m) (find (λ x. x.number == l.number) ls) ≡ Some l) [
      | true ↦ λ t. absurd (true≢false (sym there ∙ ap (λ n. has_number n ls) (sym (same_number m.number l.number t)) ∙ not_above m.number ls a.0))
      | false ↦ λ t. find-number_at ls k l a.1 (omega arith) e
    ] refl

-- the listener of a number is found
pub find-number : (ls : List Listener) (l : Listener) → Rises ls → Contains ls l → find (λ m. m.number == l.number) ls ≡ Some l
find-number ls l a m = find-number_at ls m.0 l a m.1 m.2

-- and none is found where none has the number
pub find-no_number : (ls : List Listener) (n : ℕ) → has_number n ls ≡ false → find (λ m. m.number == n) ls ≡ None
find-no_number [] n h = refl
find-no_number (m ∷ ls) n h = ap (λ b. cond b (Some m) (find (λ x. x.number == n) ls)) (or_false_left (m.number == n) _ h) ∙ find-no_number ls n (or_false_right (m.number == n) _ h)

pub view_before-there : (ls : List Listener) (l : Listener) → Rises ls → Contains ls l → view_before ls l.number ≡ l.view
view_before-there ls l a m = ap (option_and_then (λ (x : Listener). x.view)) (find-number ls l a m)

pub view_before-none : (ls : List Listener) (n : ℕ) → has_number n ls ≡ false → view_before ls n ≡ None
view_before-none ls n h = ap (option_and_then (λ (x : Listener). x.view)) (find-no_number ls n h)

-- ---- one more listener

pub Rises-push : (n : ℕ) (ls : List Listener) (l : Listener) → l.number ≡ n → All (λ (m : Listener). m.number < n) ls → Rises ls → Rises (ls ++ l ∷ [])
Rises-push n [] l e b h = (λ k d lt. absurd (omega arith), tt)
Rises-push n (m ∷ ls) l e b h =
    (All-push (λ (x : Listener). m.number < x.number) ls l h.0 (omega (arith, b 0 m (omega arith), e)), Rises-push n ls l e (λ k d lt. b (suc k) d (omega arith)) h.1)

pub below-push : (n : ℕ) (ls : List Listener) (l : Listener) → l.number ≡ n → All (λ (m : Listener). m.number < n) ls → All (λ (m : Listener). m.number < n + 1) (ls ++ l ∷ [])
below-push n ls l e h =
    All-push (λ (m : Listener). m.number < n + 1) ls l
    (All-weaker (λ (m : Listener). m.number < n) (λ (m : Listener). m.number < n + 1) (λ m lt. omega (arith, lt)) ls h) (omega (arith, e))

-- ---- renewed listeners

-- a renewed listener
abbrev pub primed_view : Brought → List Write → Listener → Listener
primed_view b ws l = record l { is_primed = true; view = Some (view_of b ws l.query) }

-- a renewed listener keeps its number and its query
pub number-renewed : (b : Brought) (ws : List Write) (l : Listener) → (renewed b ws l).number ≡ l.number
number-renewed b ws l = elim (l.is_primed || is_known b ws l.query) as (λ k. (cond k (primed_view b ws l) l).number ≡ l.number) [ true ↦ refl | false ↦ refl ]

pub query-renewed : (b : Brought) (ws : List Write) (l : Listener) → (renewed b ws l).query ≡ l.query
query-renewed b ws l = elim (l.is_primed || is_known b ws l.query) as (λ k. (cond k (primed_view b ws l) l).query ≡ l.query) [ true ↦ refl | false ↦ refl ]

pub seat-renewed : (b : Brought) (ws : List Write) (l : Listener) → (renewed b ws l).seat ≡ l.seat
seat-renewed b ws l = elim (l.is_primed || is_known b ws l.query) as (λ k. (cond k (primed_view b ws l) l).seat ≡ l.seat) [ true ↦ refl | false ↦ refl ]

pub has_number-renewed : (b : Brought) (ws : List Write) (n : ℕ) (ls : List Listener) → has_number n (map (renewed b ws) ls) ≡ has_number n ls
has_number-renewed b ws n [] = refl
has_number-renewed b ws n (l ∷ ls) = λ i. (number-renewed b ws l i == n) || has_number-renewed b ws n ls i

pub Rises-renewed : (b : Brought) (ws : List Write) (ls : List Listener) → Rises ls → Rises (map (renewed b ws) ls)
Rises-renewed b ws [] h = tt
Rises-renewed b ws (l ∷ ls) h = (
  All-map (λ (m : Listener). (renewed b ws l).number < m.number) (renewed b ws) ls
      (λ k d lt. omega (arith, number-renewed b ws l, number-renewed b ws (slice_index_or ls k d), h.0 k d lt)),
  Rises-renewed b ws ls h.1,
)

pub below-renewed : (b : Brought) (ws : List Write) (n : ℕ) (ls : List Listener) → All (λ (m : Listener). m.number < n) ls → All (λ (m : Listener). m.number < n) (map (renewed b ws) ls)
below-renewed b ws n ls h = All-map (λ (m : Listener). m.number < n) (renewed b ws) ls (λ k d lt. omega (arith, number-renewed b ws (slice_index_or ls k d), h k d lt))

pub registered-renewed : (b : Brought) (ws : List Write) (ls : List Listener) → registered (map (renewed b ws) ls) ≡ registered ls
registered-renewed b ws [] = refl
registered-renewed b ws (l ∷ ls) = λ i. (number-renewed b ws l i, form (query-renewed b ws l i)) ∷ registered-renewed b ws ls i
