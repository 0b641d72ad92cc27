-- Lines of a text that comes in pieces.
use Rattle.std.proofs.Common.{◌≡◌, ℕ, zero, suc, ◌+◌, ◌-◌, ◌<◌, ◌≤◌, List, [], ◌∷◌, ◌++◌, length, take, drop}
use Rattle.std.proofs.Common.{Bool, true, false, cond, not, nat_lt, Some, None, arith}
use Rattle.std.proofs.Common.{refl, sym, ap, subst, ◌∙◌, append-nil}
use Rattle.std.specs.Prelude.{◌==◌, position}
use Rattle.std.specs.List.{onto_first, position_or_len, prefix_len}
use Rattle.std.proofs.lemmas.Bool.Decides.{nat_tests}
use Rattle.std.proofs.lemmas.List.{take-append-le, drop-append-le, drop-take, drop-drop}
use Rattle.std.proofs.lemmas.List.Quantifiers.{position-Some}
use Rattle.std.proofs.lemmas.List.Splits.{slice_split_first}
use Rattle.rt_input.specs.Lines.{lines_of, resumed}

abbrev is_feed : ℕ → Bool
is_feed b = b == 10

abbrev before_feed : List ℕ → ℕ
before_feed xs = prefix_len (λ x. not (is_feed x)) xs

-- ---- a text is the rest of what was read, and what is left

longer : (a : List ℕ) (y : ℕ) (b : List ℕ) → a ++ y ∷ b ≡ (a ++ y ∷ []) ++ b
longer [] y b = refl
longer (z ∷ a) y b = ap (λ l. z ∷ l) (longer a y b)

some_piece : (xs : List ℕ) → (p : List ℕ) × (ps : List (List ℕ)) × (lines_of xs ≡ p ∷ ps)
some_piece [] = ([], [], refl)
some_piece (x ∷ xs) =
    let h = some_piece xs in
    elim (is_feed x) as (λ b. (p : List ℕ) × (ps : List (List ℕ))
    × (cond b ([] ∷ lines_of xs) (onto_first x (lines_of xs)) ≡ p ∷ ps)) [
      | true ↦ ([], lines_of xs, refl)
      | false ↦ (x ∷ h.0, h.1, ap (onto_first x) h.2)
    ]

resumed-onto : (line : List ℕ) (x : ℕ) (xs : List ℕ)
    → resumed line (onto_first x (lines_of xs)) ≡ resumed (line ++ x ∷ []) (lines_of xs)
resumed-onto line x xs =
    let h = some_piece xs in
    ap (λ qs. resumed line (onto_first x qs)) h.2 ∙ ap (λ l. l ∷ h.1) (longer line x h.0)
    ∙ ap (resumed (line ++ x ∷ [])) (sym h.2)

-- no line feed is in the rest
goes_on : (line xs left : List ℕ) → length xs ≤ before_feed xs
    → resumed line (lines_of (xs ++ left)) ≡ resumed (line ++ xs) (lines_of left)
goes_on line [] left h = ap (λ l. resumed l (lines_of left)) (sym (append-nil line))
goes_on line (x ∷ xs) left h =
    elim (is_feed x) as (λ b. suc (length xs) ≤ cond (not b) (1 + before_feed xs) 0
    → resumed line (cond b ([] ∷ lines_of (xs ++ left)) (onto_first x (lines_of (xs ++ left))))
    ≡ resumed (line ++ x ∷ xs) (lines_of left)) [
      | true ↦ λ g. absurd (omega arith)
      | false ↦ λ g.
          resumed-onto line x (xs ++ left) ∙ goes_on (line ++ x ∷ []) xs left (omega arith)
          ∙ ap (λ l. resumed l (lines_of left)) (sym (longer line x xs))
    ] h

-- a line feed is in the rest
same_place : (xs left : List ℕ) → before_feed xs < length xs → before_feed (xs ++ left) ≡ before_feed xs
same_place [] left h = absurd (omega arith)
same_place (x ∷ xs) left h =
    elim (is_feed x) as (λ b. cond (not b) (1 + before_feed xs) 0 < suc (length xs)
    → cond (not b) (1 + before_feed (xs ++ left)) 0 ≡ cond (not b) (1 + before_feed xs) 0) [
      | true ↦ λ g. refl
      | false ↦ λ g. ap (λ n. 1 + n) (same_place xs left (omega arith))
    ] h

longer_len : (xs ys : List ℕ) → length xs ≤ length (xs ++ ys)
longer_len [] ys = omega arith
longer_len (x ∷ xs) ys = omega (arith, longer_len xs ys)

ends : (xs left : List ℕ) (i : ℕ) → before_feed xs ≡ i → i < length xs
    → lines_of (xs ++ left) ≡ take i xs ∷ lines_of (drop (i + 1) xs ++ left)
ends xs left i is h =
    let within : before_feed xs < length xs = omega (arith, is, h) in
    let place : position_or_len is_feed (xs ++ left) ≡ i = same_place xs left within ∙ is in
    let inside : position_or_len is_feed (xs ++ left) < length (xs ++ left) =
    omega (arith, place, h, longer_len xs left) in
    let P : ℕ → Type 0 = λ n. lines_of (xs ++ left)
    ≡ take n (xs ++ left) ∷ lines_of (drop (n + 1) (xs ++ left)) in
    subst P place (slice_split_first is_feed (xs ++ left) 0 inside)
    ∙ ap (λ l. l ∷ lines_of (drop (i + 1) (xs ++ left))) (take-append-le i xs left (omega (arith, h)))
    ∙ ap (λ l. take i xs ∷ lines_of l) (drop-append-le (i + 1) xs left (omega (arith, h)))

none-is : (m n : ℕ) → cond (nat_lt m n) (Some m) None ≡ None → n ≤ m
none-is m n e = grind (arith, nat_tests)

some-is : (n i : ℕ) (b : Bool) → cond b (Some n) None ≡ Some i → n ≡ i
some-is n i true e = cc
some-is n i false e = cc

pub resumed-nil : (pieces : List (List ℕ)) → resumed [] pieces ≡ pieces
resumed-nil [] = refl
resumed-nil (p ∷ ps) = refl

-- what was read is taken on, up to its line feed
pub line_ends : (line xs left : List ℕ) (i : ℕ) → position is_feed xs ≡ Some i
    → resumed line (lines_of (xs ++ left))
    ≡ (line ++ take i xs) ∷ resumed [] (lines_of (drop (i + 1) xs ++ left))
line_ends line xs left i e =
    let is : position_or_len is_feed xs ≡ i = some-is _ i _ e in
    ap (resumed line) (ends xs left i is (position-Some is_feed xs i 0 e).0)
    ∙ ap (λ ls. (line ++ take i xs) ∷ ls) (sym (resumed-nil (lines_of (drop (i + 1) xs ++ left))))

-- or all of it
pub line_goes_on : (line xs left : List ℕ) → position is_feed xs ≡ None
    → resumed line (lines_of (xs ++ left)) ≡ resumed (line ++ xs) (lines_of left)
line_goes_on line xs left e = goes_on line xs left (none-is (position_or_len is_feed xs) (length xs) e)

take_len : (n : ℕ) (xs : List ℕ) → length (take n xs) ≤ n
take_len zero xs = omega arith
take_len (suc n) [] = omega arith
take_len (suc n) (x ∷ xs) = omega (arith, take_len n xs)

-- a part of a list, without its first n + 1
pub behind : (s e n : ℕ) (xs : List ℕ) → n < length (take (e - s) (drop s xs))
    → drop (n + 1) (take (e - s) (drop s xs)) ≡ take (e - (s + (n + 1))) (drop (s + (n + 1)) xs)
behind s e n xs h =
    let m : ℕ = e - (s + (n + 1)) in
    let len : e - s ≡ (n + 1) + m = omega (arith, h, take_len (e - s) (drop s xs)) in
    ap (λ k. drop (n + 1) (take k (drop s xs))) len
    ∙ drop-take (n + 1) m (drop s xs)
    ∙ ap (take m) (drop-drop (n + 1) s xs)

-- its first line feed is within it
pub feed_within : (xs : List ℕ) (i : ℕ) → position is_feed xs ≡ Some i → i < length xs
feed_within xs i e = (position-Some is_feed xs i 0 e).0
