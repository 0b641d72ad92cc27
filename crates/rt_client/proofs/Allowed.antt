-- Each id is a key.
use Rattle.std.proofs.Common.{◌≡◌, ℕ, zero, suc, ◌+◌, ◌/◌, ◌%◌, ◌<◌, ◌≤◌, Bool, true, ◌&&◌, if◌then◌else◌, nat_lt, ◌==◌, [], ◌∷◌, length, Option, Some, None, inl, inr, refl, ap, ◌∙◌, arith, length-append}
use Rattle.std.specs.List.{list_all}
use Rattle.std.proofs.lemmas.Bool.{cases_lt}
use Rattle.std.proofs.lemmas.List.Folds.{list_all-append}
use Rattle.rt_tree.specs.Key.{IsKey, is_allowed}
use Rattle.rt_tree.specs.declared.error.TreeError.{TreeError}
use Rattle.rt_tree.specs.declared.error.TreeError.TheVariants.{BadKey, KeyTooLong}
use Rattle.rt_push.specs.Digits.{digit_byte, text}
use Rattle.rt_push.specs.PushIds.{Stamp, push_id}
use Rattle.rt_push.proofs.DigitLaws.{and-first, and-second, text-suc, text-zero, length-text}

-- whether all numbers from a first one on pass a test, so many of them
abbrev pub each_passes : (ℕ → Bool) → ℕ → ℕ → Bool
each_passes p first zero = true
each_passes p first (suc n) = p (first + n) && each_passes p first n

pub passes : (p : ℕ → Bool) (first n d : ℕ) → each_passes p first n ≡ true → first ≤ d → d < first + n → p d ≡ true
passes p first zero d e low high = absurd (omega arith)
passes p first (suc n) d e low high = elim (cases_lt d (first + n)) [
  | inl less ↦ passes p first n d (and-second (p (first + n)) (each_passes p first n) e) low less
  | inr more ↦ let same : d ≡ first + n = omega arith in ap p same ∙ and-first (p (first + n)) (each_passes p first n) e
]

-- the byte of each digit may stand in a key
digit-allowed : (d : ℕ) → d < 64 → is_allowed (digit_byte d) ≡ true
unfolding digit_byte
digit-allowed d h = passes (λ x. is_allowed (digit_byte x)) 0 64 d refl (omega arith) (omega arith)

text-allowed : (k n : ℕ) → list_all is_allowed (text k n) ≡ true
text-allowed zero n = ap (list_all is_allowed) (text-zero n)
text-allowed (suc k) n =
    ap (list_all is_allowed) (text-suc k n) ∙ list_all-append is_allowed (text k (n / 64)) (digit_byte (n % 64) ∷ [])
    ∙ ap (λ b. b && (is_allowed (digit_byte (n % 64)) && true)) (text-allowed k (n / 64)) ∙ ap (λ b. b && true) (digit-allowed (n % 64) (omega arith))

id-allowed : (s : Stamp) → list_all is_allowed (push_id s) ≡ true
id-allowed s =
    list_all-append is_allowed (text 8 s.0) (text 12 s.1) ∙ ap (λ b. b && list_all is_allowed (text 12 s.1)) (text-allowed 8 s.0) ∙ text-allowed 12 s.1

length-id : (s : Stamp) → length (push_id s) ≡ 20
length-id s = length-append (text 8 s.0) (text 12 s.1) ∙ omega (arith, length-text 8 s.0, length-text 12 s.1)

-- the fault of a text by its length and whether all its bytes are allowed
abbrev fault_by : ℕ → Bool → Option TreeError
fault_by n allowed = if n == 0 then Some BadKey else if nat_lt 768 n then Some KeyTooLong else if allowed then None else Some BadKey

pub id-key : (s : Stamp) → IsKey (push_id s)
id-key s = ap (λ n. fault_by n (list_all is_allowed (push_id s))) (length-id s) ∙ ap (fault_by 20) (id-allowed s)
