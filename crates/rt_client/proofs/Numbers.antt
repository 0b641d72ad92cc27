-- Numbers, and listeners by theirs.
use Rattle.std.proofs.Common.{◌≡◌, ℕ, suc, ◌<◌, Bool, true, false, cond, ◌&&◌, ◌||◌, not, ◌==◌, List, [], ◌∷◌, ◌++◌, refl, sym, ap, subst, ◌∙◌, arith, slice_index_or}
use mathlib.Core.Bool.{true≢false}
use lib.Dec.{T, eqb→eq}
use Rattle.std.specs.Cmp.{nat_eq_equiv}
use Rattle.std.specs.List.{filter, list_any, All}
use Rattle.std.proofs.lemmas.List.Elements.{All-push, All-filter}
use Rattle.std.proofs.lemmas.List.Folds.{list_any_none}
use Rattle.rt_world.specs.World.{Listener}
use Rattle.rt_world.specs.Sound.{Rises}

pub same_number : (m n : ℕ) → (m == n) ≡ true → m ≡ n
same_number m n e = eqb→eq m n (subst (λ b. T b) (sym e) tt)

pub other_number : (m n : ℕ) → (m ≡ n → ⊥) → (m == n) ≡ false
other_number m n apart = elim (m == n) as (λ b. (m == n) ≡ b → b ≡ false) [
  | true ↦ λ e. absurd (apart (same_number m n e))
  | false ↦ λ e. refl
] refl

pub apart : (m n : ℕ) → (m == n) ≡ false → m ≡ n → ⊥
apart m n e same = true≢false (sym (nat_eq_equiv.refl n) ∙ ap (λ x. x == n) (sym same) ∙ e)

pub flip : (m n : ℕ) → (m == n) ≡ false → (n == m) ≡ false
flip m n e = other_number n m (λ same. apart m n e (sym same))

-- ---- truth values

pub or_false_left : (a b : Bool) → (a || b) ≡ false → a ≡ false
or_false_left true b e = e
or_false_left false b e = refl

pub or_false_right : (a b : Bool) → (a || b) ≡ false → b ≡ false
or_false_right true b e = absurd (true≢false e)
or_false_right false b e = e

pub both_swap : (a b : Bool) → (a && b) ≡ (b && a)
both_swap true true = refl
both_swap true false = refl
both_swap false true = refl
both_swap false false = refl

-- what is of one seat is not of another
pub one_seat : (a seat other : ℕ) → (seat == other) ≡ false → (not (a == other) && (a == seat)) ≡ (a == seat)
one_seat a seat other e = elim (a == seat) as (λ b. (a == seat) ≡ b → (not (a == other) && b) ≡ b) [
  | true ↦ λ t. ap (λ x. not x && true) (ap (λ x. x == other) (same_number a seat t) ∙ e)
  | false ↦ λ t. both_swap (not (a == other)) false
] refl

-- ---- listeners

-- whether a listener has the number
abbrev pub has_number : ℕ → List Listener → Bool
has_number n ls = list_any (λ m. m.number == n) ls

-- a number below all others is no other's
pub not_above : (n : ℕ) (ls : List Listener) → All (λ (m : Listener). n < m.number) ls → has_number n ls ≡ false
not_above n ls h = list_any_none (λ m. m.number == n) ls (λ k d lt. other_number (slice_index_or ls k d).number n (λ e. omega (arith, e, h k d lt)))

-- some of the listeners rise as all of them do
pub Rises-filter : (p : Listener → Bool) (ls : List Listener) → Rises ls → Rises (filter p ls)
Rises-filter p [] r = tt
Rises-filter p (l ∷ ls) r = elim (p l) as (λ b. Rises (cond b (l ∷ filter p ls) (filter p ls))) [
  | true ↦ (All-filter p (λ (m : Listener). l.number < m.number) ls r.0, Rises-filter p ls r.1)
  | false ↦ Rises-filter p ls r.1
]

-- and they rise with one more behind them
pub Rises-push : (n : ℕ) (ls : List Listener) (l : Listener) → l.number ≡ n → All (λ (m : Listener). m.number < n) ls → Rises ls → Rises (ls ++ l ∷ [])
Rises-push n [] l e b h = (λ k d lt. absurd (omega arith), tt)
Rises-push n (m ∷ ls) l e b h =
    (All-push (λ (x : Listener). m.number < x.number) ls l h.0 (omega (arith, b 0 m (omega arith), e)), Rises-push n ls l e (λ k d lt. b (suc k) d (omega arith)) h.1)
