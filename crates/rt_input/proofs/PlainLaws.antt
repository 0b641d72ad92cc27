-- A text without the characters that a terminal obeys, character by character.
use Rattle.std.proofs.Common.{◌≡◌, ◌++◌, ℕ, List, [], length, chars, encode_utf8, IsUtf8, ap, ◌∙◌}
use Rattle.std.proofs.lemmas.Str.{chars_past_char, chars-nil}
use Rattle.std.proofs.lemmas.List.{nil_from_length}
use Rattle.rt_input.specs.Plains.{plain, plain_of}

pub plain_empty : (text : List ℕ) → length text ≡ 0 → plain text ≡ []
unfolding plain
plain_empty text none = rw (ap chars (nil_from_length text none) ∙ chars-nil)

pub plain_step : (text rest : List ℕ) (c : ℕ) → IsUtf8 text → text ≡ encode_utf8 c ++ rest
    → plain text ≡ plain_of c ++ plain rest
unfolding plain
plain_step text rest c utf8 parts = rw (chars_past_char text rest c utf8 parts)
