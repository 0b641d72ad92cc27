-- Numbers and their texts in base 64.
use Rattle.std.proofs.Common.{◌≡◌, ℕ, zero, suc, ◌+◌, ◌*◌, ◌/◌, ◌%◌, ◌^◌, ◌<◌, List, [], ◌∷◌, ◌++◌, length, take, refl, ap, sym, ◌∙◌, arith, add-one, append_assoc, length-append, drop, lit<, Bool, true, false, ◌&&◌}
use Rattle.std.specs.List.{fold, list_all}
use Rattle.std.proofs.Math.ListN.{set}
use Rattle.std.proofs.Math.Seq.{drop-append_seam, take-append_seam}
use borrow.Rule.Slice.PartMut.{put_mid}
use Rattle.std.proofs.Math.Nat.{pow-le-pow_right}
use Rattle.std.proofs.lemmas.List.{append-nil, drop-set, drop_all, map-append}
use Rattle.std.proofs.lemmas.Bool.{ltb-true}
use Rattle.rt_push.specs.Digits.{digit_byte, digits, is_digit, number, text}

-- ---- tests

pub and-first : (a b : Bool) → (a && b) ≡ true → a ≡ true
and-first true b e = refl
and-first false b e = e

pub and-second : (a b : Bool) → (a && b) ≡ true → b ≡ true
and-second true b e = e
and-second false b e = cc

-- ---- the number of digits

-- eleven digits and one more
pub room_for_more : (n i : ℕ) → n < 64 ^ i → i < 12 → n < 2 ^ 66
room_for_more n i n_lt i_lt = omega (arith, pow-le-pow_right {n = 64} (lit< tt) {i = i} {j = 11} (omega arith))

-- ---- texts

pub text-suc : (k n : ℕ) → text (suc k) n ≡ text k (n / 64) ++ digit_byte (n % 64) ∷ []
unfolding digits
text-suc k n = map-append digit_byte (digits k (n / 64)) (n % 64 ∷ [])

pub text-zero : (n : ℕ) → text zero n ≡ []
unfolding digits
text-zero n = refl

pub length-text : (k n : ℕ) → length (text k n) ≡ k
length-text zero n = ap length (text-zero n)
length-text (suc k) n = ap length (text-suc k n) ∙ length-append (text k (n / 64)) (digit_byte (n % 64) ∷ []) ∙ omega (arith, length-text k (n / 64))

-- a digit is written before those that stand
pub text-step : (j k n : ℕ) (room : List ℕ) → j ≡ suc k → k < length room → text j n ++ drop j room ≡ text k (n / 64) ++ drop k (set room k (digit_byte (n % 64)))
text-step j k n room e k_lt =
    ap (λ m. text m n ++ drop m room) e ∙ ap (λ t. t ++ drop (suc k) room) (text-suc k n)
    ∙ append_assoc (text k (n / 64)) (digit_byte (n % 64) ∷ []) (drop (suc k) room)
    ∙ ap (λ m. text k (n / 64) ++ digit_byte (n % 64) ∷ drop m room) (sym (add-one k))
    ∙ ap (λ t. text k (n / 64) ++ t) (sym (drop-set room k (digit_byte (n % 64)) k_lt))

-- all are written
pub text-done : (j n : ℕ) (room : List ℕ) → j ≡ 0 → text j n ++ drop j room ≡ room
text-done j n room e = ap (λ m. text m n ++ drop m room) e ∙ ap (λ t. t ++ room) (text-zero n)

-- ---- two texts in one array

pub drop-first : (xs ys : List ℕ) → length xs ≡ 8 → drop 8 (xs ++ ys) ≡ ys
drop-first xs ys e = ap (λ n. drop n (xs ++ ys)) (sym e) ∙ drop-append_seam xs ys

pub take-first : (xs ys : List ℕ) → length xs ≡ 8 → take 8 (xs ++ ys) ≡ xs
take-first xs ys e = ap (λ n. take n (xs ++ ys)) (sym e) ∙ take-append_seam xs ys

-- the second part is written after the first
pub written-second : (xs ys zs : List ℕ) → length xs ≡ 8 → length ys ≡ 12 → put_mid 8 12 (xs ++ ys) zs ≡ xs ++ zs
written-second xs ys zs e f =
    ap (λ t. t ++ (zs ++ drop 12 (drop 8 (xs ++ ys)))) (take-first xs ys e) ∙ ap (λ t. xs ++ (zs ++ drop 12 t)) (drop-first xs ys e)
    ∙ ap (λ t. xs ++ (zs ++ t)) (drop_all 12 ys (omega arith)) ∙ ap (λ t. xs ++ t) (append-nil zs)

-- ---- digits stand

-- after digits of a, those of what is read on from a
read_on : (values : List ℕ) (a j k : ℕ) → j ≡ length values + k → list_all is_digit values ≡ true → digits j (fold (λ n value. 64 * n + value) a values) ≡ digits k a ++ values
unfolding digits
read_on [] a j k e h = let same : j ≡ k = omega arith in ap (λ m. digits m a) same ∙ sym (append-nil (digits k a))
read_on (x ∷ values) a j k e h =
    let x_lt : x < 64 = ltb-true x 64 (and-first (is_digit x) (list_all is_digit values) h) in
    let n = 64 * a + x in
    let quotient : n / 64 ≡ a = omega arith in
    let rest : n % 64 ≡ x = omega arith in
    read_on values n j (suc k) (omega arith) (and-second (is_digit x) (list_all is_digit values) h)
    ∙ ap (λ q. (digits k q ++ n % 64 ∷ []) ++ values) quotient ∙ ap (λ r. (digits k a ++ r ∷ []) ++ values) rest ∙ append_assoc (digits k a) (x ∷ []) values

pub digits-stand : (values : List ℕ) → list_all is_digit values ≡ true → digits (length values) (number values) ≡ values
unfolding digits
digits-stand values h = read_on values 0 (length values) 0 (omega arith) h
