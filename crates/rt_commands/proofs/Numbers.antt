-- The numbers among the words.
use Rattle.std.proofs.Common.{◌≡◌, ◌&&◌, ℕ, Bool, true, false, List, [], ◌∷◌, length, nat_lt}
use Rattle.std.proofs.Common.{Option, Some, None, Result, Ok, Err, refl, sym, ap, true≢false, lt-ltb, ltb-true}
use Rattle.std.specs.List.{list_all}
use Rattle.std.specs.Option.{unwrap_or}
use Rattle.std.specs.Result.{result_unwrap_or}
use Rattle.std.specs.Char.{digit_value}
use Rattle.std.specs.Str.Parse.{AllDigits, ParsesUnsigned, digits_value, without_leading_plus}
use Rattle.clap.specs.ValueTests.{is_numeral}
use Rattle.clap.specs.Words.{ReadsOne}
use Rattle.rt_commands.specs.Words.{number_of}

digits_pass : (ds : List ℕ) → AllDigits 10 ds → list_all (λ d. nat_lt (digit_value d) 10) ds ≡ true
digits_pass [] h = refl
digits_pass (d ∷ ds) h = rw (lt-ltb (digit_value d) 10 h.0) (digits_pass ds h.1)

both : (a b : Bool) → (a && b) ≡ true → (a ≡ true) × (b ≡ true)
both true b e = (refl, e)
both false b e = absurd (true≢false (sym e))

digits_from : (ds : List ℕ) → list_all (λ d. nat_lt (digit_value d) 10) ds ≡ true → AllDigits 10 ds
digits_from [] e = tt
digits_from (d ∷ ds) e =
    let parts = both _ _ e in
    (ltb-true _ _ parts.0, digits_from ds parts.1)

abbrev is_short : List ℕ → Bool
is_short ds = is_numeral ds && nat_lt (digits_value 10 ds) 65536

-- what 16 bits read of a text
read_number : {E : Type 0} (text : List ℕ) (r : Result ℕ E) → ParsesUnsigned 16 10 text r → result_unwrap_or r 0 ≡ number_of (Some text)
read_number text (Ok n) h =
    let ds = without_leading_plus text in
    rw (lt-ltb 0 (length ds) h.0.0.0, digits_pass ds h.0.0.1, lt-ltb (digits_value 10 ds) 65536 h.0.1) h.1
read_number text (Err e) h = go (is_short (without_leading_plus text)) refl
  where
    go : (b : Bool) → is_short (without_leading_plus text) ≡ b → 0 ≡ number_of (Some text)
    go false t = rw t refl
    go true t =
        let outer = both _ _ t in
        let inner = both _ _ outer.0 in
        absurd (h ((ltb-true _ _ inner.0, digits_from (without_leading_plus text) inner.1), ltb-true _ _ outer.1))

-- what `get_one` gives, where a text is read as G says
pub one_number : {E : Type 0} (G : List ℕ → Result ℕ E → Type 0) (text : Option (List ℕ)) (got : Option ℕ)
    → ((t : List ℕ) (r : Result ℕ E) → G t r → ParsesUnsigned 16 10 t r)
    → (text ≡ None → got ≡ None) → ((t : List ℕ) → text ≡ Some t → ReadsOne G t got)
    → unwrap_or got 0 ≡ number_of text
one_number {E} G None got parses none value = ap (λ g. unwrap_or g 0) (none refl)
one_number {E} G (Some t) (Some n) parses none value = read_number {E = E} t (Ok n) (parses t (Ok n) (value t refl))
one_number {E} G (Some t) None parses none value =
    let read = value t refl in
    read_number t (Err read.0) (parses t (Err read.0) read.1)
