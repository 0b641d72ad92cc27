-- What std's `parse` reads is the number of an integer key, where no plus stands first.
use Rattle.std.proofs.Common.{◌≡◌, ℕ, zero, suc, ◌*◌, ◌+◌, ◌-◌, ◌≤◌, ◌<◌, true, false, ◌&&◌, List, [], ◌∷◌, length, get_or, refl, sym, ap, ◌∙◌, arith, ℤ, pos, negsuc, neg_ℤ, Some, None, ◌==◌, w32, eqb-true, eq-eqb}
use Rattle.std.specs.Prelude.{if◌then◌else◌}
use Rattle.std.proofs.lemmas.Bool.{le-leb, lt-leb}
use Rattle.std.specs.declared.result.Result.{Result}
use Rattle.std.specs.declared.result.Result.TheVariants.{Ok, Err}
use Rattle.std.specs.List.{fold, list_all}
use Rattle.std.specs.Option.{option_map}
use Rattle.std.specs.Char.{is_ascii_digit}
use Rattle.std.specs.Result.{OkIff, result_ok}
use Rattle.std.specs.Str.{all_ascii_digits}
use Rattle.std.specs.Str.Parse.{ParsesSigned}
use Rattle.std.proofs.lemmas.Str.Parse.{IsDigitsTest, FoldsDigits, IsNumeralModel, numerals_by_fold, tells_all_ascii_digits, parse_signed_minus, parse_signed_plain}
use Rattle.rt_order.specs.KeyOrder.{decimal, digits_value, within_32_bits, integer_of}

-- ---- the numbers of 32 bits

neg_fits : (n : ℕ) → n ≤ 2147483648 → within_32_bits (Some (neg_ℤ (pos n))) ≡ Some (neg_ℤ (pos n))
neg_fits zero h = refl
neg_fits (suc n) h = ap (λ b. if b && true then Some (negsuc n) else None) (le-leb n 2147483647 (omega arith))

neg_large : (n : ℕ) → 2147483648 < n → within_32_bits (Some (neg_ℤ (pos n))) ≡ None
neg_large zero h = absurd (omega arith)
neg_large (suc n) h = ap (λ b. if b && true then Some (negsuc n) else None) (lt-leb n 2147483647 (omega arith))

pos_fits : (n : ℕ) → n < 2147483648 → within_32_bits (Some (pos n)) ≡ Some (pos n)
pos_fits n h = ap (λ b. if b then Some (pos n) else None) (le-leb n 2147483647 (omega arith))

pos_large : (n : ℕ) → 2147483648 ≤ n → within_32_bits (Some (pos n)) ≡ None
pos_large n h = ap (λ b. if b then Some (pos n) else None) (lt-leb n 2147483647 (omega arith))

-- ---- digits

abbrev AreDigits : List ℕ → Type 0
AreDigits ds = list_all is_ascii_digit ds ≡ true

all_same : (ds : List ℕ) → all_ascii_digits ds ≡ list_all is_ascii_digit ds
all_same [] = refl
all_same (d ∷ ds) = ap (λ b. is_ascii_digit d && b) (all_same ds)

tells : IsDigitsTest AreDigits
tells = record {
  empty = refl;
  parts = λ c cs e. let h = tells_all_ascii_digits.parts c cs (all_same (c ∷ cs) ∙ e) in (h.0, sym (all_same cs) ∙ h.1);
  more = λ c cs k e. sym (all_same (c ∷ cs)) ∙ tells_all_ascii_digits.more c cs k (all_same cs ∙ e);
}

decimal_after : ℕ → List ℕ → ℕ
decimal_after n digits = fold (λ n digit. 10 * n + (digit - 48)) n digits

folds : FoldsDigits decimal_after
unfolding decimal_after
folds = record { empty = λ n. refl; more = λ n c cs k. let e : 10 * n + (c - 48) ≡ n * 10 + (c - 48) = omega arith in ap (λ m. decimal_after m cs) e }

-- std's words for digits are these
own : IsNumeralModel AreDigits decimal
unfolding decimal_after
own = numerals_by_fold AreDigits tells decimal_after folds

-- ---- what is read

-- what some digits are read as, where f gives them a sign and Fit says which numbers there are
read_as : {E : Type 0} (f : ℕ → ℤ) (Fit : ℕ → Type 0) (ds : List ℕ) (r : Result ℤ E)
    → ((n : ℕ) → Fit n → within_32_bits (Some (f n)) ≡ Some (f n))
    → ((n : ℕ) → (Fit n → ⊥) → within_32_bits (Some (f n)) ≡ None)
    → OkIff r (AreDigits ds × (0 < length ds) × Fit (decimal ds)) (f (decimal ds))
    → result_ok r ≡ within_32_bits (option_map f (digits_value ds))
read_as f Fit [] (Ok x) fits large h = absurd (omega (arith, h.0.1))
read_as f Fit [] (Err e) fits large h = refl
read_as f Fit (d ∷ ds) (Ok x) fits large h =
    ap Some h.1 ∙ sym (ap (λ b. within_32_bits (option_map f (if b then Some (decimal (d ∷ ds)) else None))) h.0.0 ∙ fits (decimal (d ∷ ds)) h.0.2)
read_as f Fit (d ∷ ds) (Err e) fits large h =
    elim (list_all is_ascii_digit (d ∷ ds)) as (λ b. list_all is_ascii_digit (d ∷ ds) ≡ b → None ≡ within_32_bits (option_map f (if b then Some (decimal (d ∷ ds)) else None))) [
      | true ↦ λ are. sym (large (decimal (d ∷ ds)) (λ fit. h (are, omega arith, fit)))
      | false ↦ λ are. refl
    ] refl

-- what a text without a plus is read as
module _ {E : Type 0} where
  pub parsed_is_integer : (bs : List ℕ) (r : Result ℤ E) → ParsesSigned w32 10 bs r → (get_or bs 0 0 == 43) ≡ false → result_ok r ≡ integer_of bs
  parsed_is_integer [] (Ok x) h plus = absurd (omega (arith, h.0.0.0))
  parsed_is_integer [] (Err e) h plus = refl
  parsed_is_integer (c ∷ cs) r h plus =
      elim (c == 45) as (λ b. (c == 45) ≡ b → result_ok r ≡ within_32_bits (if b then option_map (λ n. neg_ℤ (pos n)) (digits_value cs) else option_map pos (digits_value (c ∷ cs)))) [
        | true ↦ λ minus. read_as (λ n. neg_ℤ (pos n)) (λ n. n ≤ 2147483648) cs r neg_fits (λ n large. neg_large n (omega (arith, large))) (parse_signed_minus own w32 (c ∷ cs) r h (eqb-true c 45 minus))
        | false ↦ λ minus. read_as pos (λ n. n < 2147483648) (c ∷ cs) r pos_fits (λ n large. pos_large n (omega (arith, large)))
            (parse_signed_plain own w32 (c ∷ cs) r h (λ e. cc (eq-eqb c 43 e, plus)) (λ e. cc (eq-eqb c 45 e, minus)))
      ] refl
