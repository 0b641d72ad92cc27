-- A text as a line shows it: without what a terminal obeys.
use Rattle.std.specs.Prelude.{◌≡◌, ℕ, List, [], ◌∷◌, ◌++◌, ◌/◌, ◌%◌, flat_map, Bool, ◌||◌, ◌==◌, if◌then◌else◌}
use Rattle.std.specs.Char.{digit_char, encode_utf8, is_control}
use Rattle.std.specs.Int.{is_in_range}
use Rattle.std.specs.Str.{chars}

-- a mark of the order of letters, or the end of a line or of a paragraph
abbrev pub is_mark : ℕ → Bool
is_mark c =
    c == 0x61C || (c == 0x200E || (c == 0x200F || (is_in_range 0x2028 0x202E c || is_in_range 0x2066 0x2069 c)))

-- a control character, or such a mark: a terminal obeys it
abbrev pub is_hidden : ℕ → Bool
is_hidden c = is_mark c || is_control c

-- a character as JSON escapes it: four hexadecimal digits behind `\u`
abbrev pub escaped : ℕ → List ℕ
escaped c =
    92 ∷ 117 ∷ digit_char (c / 0x1000 % 16) ∷ digit_char (c / 0x100 % 16) ∷ digit_char (c / 0x10 % 16)
    ∷ digit_char (c % 16) ∷ []

-- a character as it is shown: one that a terminal obeys by its number, as `\u009b`
abbrev pub plain_of : ℕ → List ℕ
plain_of c = if is_hidden c then escaped c else encode_utf8 c

unfoldable pub plain : List ℕ → List ℕ
plain text = flat_map plain_of (chars text)

-- a list grows by what a text begins with
abbrev pub AddsPart : List ℕ → List ℕ → List ℕ → Type 0
AddsPart old new text = (part rest : List ℕ) × (text ≡ part ++ rest) × (new ≡ old ++ part)
