-- Numbers that digits write.
use Rattle.std.proofs.Common.{◌≡◌, ℕ, ◌+◌, ◌*◌, ◌-◌, ◌<◌, ◌≤◌, Bool, true, false, List, length, take, get_or, refl, ap, ◌∙◌, arith}
use Rattle.std.specs.Char.{digit_value, is_ascii_digit}
use Rattle.std.specs.Int.{IsInRange}
use Rattle.std.specs.List.{list_all}
use Rattle.std.specs.Str.Parse.{digits_value}
use Rattle.std.proofs.lemmas.Int.Digits.{digits_value_more}
use Rattle.std.proofs.lemmas.List.Folds.{list_all_at}
use Rattle.std.proofs.lemmas.Str.{digit_value_digit}
use Rattle.std.proofs.lemmas.Str.Parse.{digits_value-take-le}

true_unless_false : (b : Bool) → ¬ (b ≡ false) → b ≡ true
true_unless_false true h = refl
true_unless_false false h = absurd (h refl)

not_both : (b : Bool) → b ≡ true → b ≡ false → ⊥
not_both true e f = cc
not_both false e f = cc

each_digit : (ds : List ℕ) (i : ℕ) → i < length ds → list_all is_ascii_digit ds ≡ true
    → is_ascii_digit (get_or ds i 0) ≡ true
each_digit ds i within all =
    true_unless_false (is_ascii_digit (get_or ds i 0))
    (λ e. not_both (list_all is_ascii_digit ds) all (list_all_at is_ascii_digit ds i 0 within e))

digit_is : (c : ℕ) → is_ascii_digit c ≡ true → digit_value c ≡ c - 48
digit_is c e = let ranged : IsInRange 48 57 c = grind arith in omega (arith, digit_value_digit c ranged)

-- one more digit
pub one_more : (ds : List ℕ) (i : ℕ) → i < length ds → list_all is_ascii_digit ds ≡ true
    → digits_value 10 (take (i + 1) ds) ≡ digits_value 10 (take i ds) * 10 + (get_or ds i 0 - 48)
one_more ds i within all =
    digits_value_more 10 ds i within
    ∙ ap (λ v. digits_value 10 (take i ds) * 10 + v) (digit_is (get_or ds i 0) (each_digit ds i within all))

-- the number of some first digits is at most that of all
pub no_more : (ds : List ℕ) (i : ℕ) → digits_value 10 (take i ds) ≤ digits_value 10 ds
no_more ds i = digits_value-take-le 10 ds i (omega arith)
