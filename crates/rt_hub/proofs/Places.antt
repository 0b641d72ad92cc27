-- Lines at their places.
use Rattle.std.proofs.Common.{◌≡◌, ℕ, zero, suc, ◌+◌, ◌-◌, ◌<◌, ◌≤◌, true, false, List, [], ◌∷◌, ◌++◌}
use Rattle.std.proofs.Common.{length, set, get_or, refl, sym, ap, ◌∙◌, arith, Option, Some, None}
use Rattle.std.specs.Prelude.{◌==◌, if◌then◌else◌, is_some}
use Rattle.std.proofs.lemmas.Bool.Decides.{nat_tests}
use Rattle.rt_hub.specs.Lines.{Line, line_of}

abbrev pub Places : Type 0
Places = List (Option Line)

-- ---- numbers

pub same_number : (m n : ℕ) → (m == n) ≡ true → m ≡ n
same_number m n e = grind (arith, nat_tests)

apart : (m n : ℕ) → (m == n) ≡ false → m ≡ n → ⊥
apart m n e same = grind (arith, nat_tests)

next_of : (n place : ℕ) → n ≡ place + 1 → n ≡ suc place
next_of n place e = omega arith

-- ---- one place

here : (xs : Places) (p : ℕ) (x : Option Line) → p < length xs → line_of (set xs p x) (suc p) ≡ x
here [] p x lt = absurd (omega arith)
here (y ∷ xs) zero x lt = elim x as (λ x. line_of (x ∷ xs) 1 ≡ x) [ Some l ↦ refl | None ↦ refl ]
here (y ∷ xs) (suc p) x lt = here xs p x (omega arith)

other : (xs : Places) (p k : ℕ) (x : Option Line) → (p ≡ k → ⊥) → line_of (set xs p x) (suc k)
    ≡ line_of xs (suc k)
other [] p k x away = refl
other (y ∷ xs) zero zero x away = absurd (away refl)
other (y ∷ xs) zero (suc k) x away = refl
other (y ∷ xs) (suc p) zero x away = refl
other (y ∷ xs) (suc p) (suc k) x away = other xs p k x (λ e. away (ap suc e))

at : (xs : Places) (p : ℕ) (d : Option Line) → p < length xs → line_of xs (suc p) ≡ get_or xs p d
at [] p d lt = absurd (omega arith)
at (y ∷ xs) zero d lt = elim y as (λ y. line_of (y ∷ xs) 1 ≡ y) [ Some l ↦ refl | None ↦ refl ]
at (y ∷ xs) (suc p) d lt = at xs p d (omega arith)

past : (xs : Places) (p : ℕ) → length xs ≤ p → line_of xs (suc p) ≡ None
past [] p le = refl
past (y ∷ xs) zero le = absurd (omega arith)
past (y ∷ xs) (suc p) le = past xs p (omega arith)

last : (xs : Places) (x : Option Line) → line_of (xs ++ x ∷ []) (suc (length xs)) ≡ x
last [] x = elim x as (λ x. line_of (x ∷ []) 1 ≡ x) [ Some l ↦ refl | None ↦ refl ]
last (y ∷ xs) x = last xs x

before : (xs : Places) (k : ℕ) (x : Option Line) → (length xs ≡ k → ⊥) → line_of (xs ++ x ∷ []) (suc k)
    ≡ line_of xs (suc k)
before [] zero x away = absurd (away refl)
before [] (suc k) x away = refl
before (y ∷ xs) zero x away = refl
before (y ∷ xs) (suc k) x away = before xs k x (λ e. away (ap suc e))

-- ---- numbers of connections

-- the line at a place
pub line_at : (xs : Places) (n p : ℕ) (o : Option Line) → p < length xs → n ≡ p + 1 → o ≡ get_or xs p o
    → line_of xs n ≡ o
line_at xs n p o lt is e = ap (line_of xs) (next_of n p is) ∙ at xs p o lt ∙ sym e

-- no line has a number beyond the last
pub line_past : (xs : Places) (n : ℕ) → length xs ≤ n - 1 → line_of xs n ≡ None
line_past xs zero le = refl
line_past xs (suc p) le = past xs p (omega arith)

within : (xs : Places) (p : ℕ) → is_some (line_of xs (suc p)) ≡ true → p < length xs
within [] p e = cc
within (y ∷ xs) zero e = omega arith
within (y ∷ xs) (suc p) e =
    let less : p < length xs = within xs p e in
    omega (arith, less)

-- where there is a line, the list reaches to it
pub line_within : (xs : Places) (n : ℕ) → is_some (line_of xs n) ≡ true → n ≤ length xs
line_within xs zero e = cc
line_within xs (suc p) e =
    let less : p < length xs = within xs p e in
    omega (arith, less)

-- the line of that number is another one
abbrev pub IsChanged : ℕ → Option Line → Places → Places → Type 0
IsChanged n o old new = (k : ℕ) → line_of new k ≡ (if n == k then o else line_of old k)

changed : (n : ℕ) (o : Option Line) (old new : Places) → line_of new n ≡ o
    → ((k : ℕ) → (n ≡ k → ⊥) → line_of new k ≡ line_of old k) → IsChanged n o old new
changed n o old new own others = λ k.
    elim (n == k) as (λ b. (n == k) ≡ b → line_of new k ≡ (if b then o else line_of old k)) [
      | true ↦ λ e. ap (line_of new) (sym (same_number n k e)) ∙ own
      | false ↦ λ e. others k (apart n k e)
    ] refl

-- the line at a place is set
pub set_line : (xs : Places) (n p : ℕ) (o : Option Line) → p < length xs → n ≡ p + 1
    → IsChanged n o xs (set xs p o)
set_line xs n p o lt is =
    let is_next : n ≡ suc p = next_of n p is in
    changed n o xs (set xs p o) (ap (line_of (set xs p o)) is_next ∙ here xs p o lt) others
  where
    others : (k : ℕ) → (n ≡ k → ⊥) → line_of (set xs p o) k ≡ line_of xs k
    others zero away = refl
    others (suc k) away = other xs p k o (λ e. away (next_of n p is ∙ ap suc e))

-- a line comes behind the others
pub add_last : (xs : Places) (n : ℕ) (o : Option Line) → n ≡ length xs + 1 → IsChanged n o xs (xs ++ o ∷ [])
add_last xs n o is =
    changed n o xs (xs ++ o ∷ []) (ap (line_of (xs ++ o ∷ [])) (next_of n (length xs) is) ∙ last xs o)
    others
  where
    others : (k : ℕ) → (n ≡ k → ⊥) → line_of (xs ++ o ∷ []) k ≡ line_of xs k
    others zero away = refl
    others (suc k) away = before xs k o (λ e. away (next_of n (length xs) is ∙ ap suc e))

-- no line is another one
pub none_changed : (xs : Places) (n : ℕ) (o : Option Line) → line_of xs n ≡ o → IsChanged n o xs xs
none_changed xs n o e = changed n o xs xs e (λ k away. refl)
