-- What a journal's lines are, and what is read of them.
use Rattle.std.specs.Prelude.{ℕ, ◌+◌, ◌-◌, ◌*◌, ◌^◌, Bool, true, false, ◌==◌, ◌&&◌, nat_lt, cond}
use Rattle.std.specs.Prelude.{if◌then◌else◌, List, [], ◌∷◌, ◌++◌, length, Option, Some, None}
use Rattle.std.specs.Prelude.{decimal, position, take, drop, ◌<◌, ◌≡◌, IfSome}
use Rattle.std.specs.Char.{is_ascii_digit}
use Rattle.std.specs.List.{All, flat_map, slice_split}
use Rattle.std.specs.Option.{option_map, option_map_or, option_and_then}
use Rattle.std.specs.Str.{IsUtf8, is_utf8}

-- of which connection, and the text of its request as it came; none where the connection ended
abbrev pub Entry : Type 0
Entry = ℕ × Option (List ℕ)

-- ---- what is written

-- a line feed and an escape stand behind an escape
abbrev pub escaped_byte : ℕ → List ℕ
escaped_byte b = if b == 10 then 27 ∷ 110 ∷ [] else if b == 27 then 27 ∷ 27 ∷ [] else b ∷ []

-- a text without a line feed
abbrev pub escaped : List ℕ → List ℕ
escaped text = flat_map escaped_byte text

-- behind the connection's number: a space and the text, if there is one
abbrev pub text_part : Option (List ℕ) → List ℕ
text_part None = []
text_part (Some text) = 32 ∷ escaped text

-- an entry's line, with the line feed at its end
abbrev pub line_of : Entry → List ℕ
line_of e = decimal e.0 ++ text_part e.1 ++ 10 ∷ []

-- the journal of entries
abbrev pub journal_of : List Entry → List ℕ
journal_of entries = flat_map line_of entries

-- ---- what is read

abbrev pub is_feed : ℕ → Bool
is_feed b = b == 10

abbrev pub is_space : ℕ → Bool
is_space b = b == 32

-- a number of 64 bits that goes on with a digit
abbrev pub next_number : ℕ → ℕ → Option ℕ
next_number n b =
    if is_ascii_digit b && nat_lt (n * 10 + (b - 48)) (2 ^ 64) then Some (n * 10 + (b - 48)) else None

-- a number that goes on with digits
abbrev pub number_on : ℕ → List ℕ → Option ℕ
number_on n [] = Some n
number_on n (b ∷ bs) = option_and_then (λ m. number_on m bs) (next_number n b)

-- the number that digits write
abbrev pub number_in : List ℕ → Option ℕ
number_in digits = if nat_lt 0 (length digits) then number_on 0 digits else None

-- the byte that stands behind an escape
abbrev pub meant : ℕ → Option ℕ
meant b = if b == 110 then Some 10 else if b == 27 then Some 27 else None

-- a byte before a text, where both are there
abbrev pub before_text : Option ℕ → Option (List ℕ) → Option (List ℕ)
before_text None text = None
before_text (Some b) text = option_map (λ bs. b ∷ bs) text

-- the text that was escaped so; first says whether it begins behind an escape
abbrev pub unescaped : Bool → List ℕ → Option (List ℕ)
unescaped behind [] = cond behind None (Some [])
unescaped behind (b ∷ bs) =
    cond behind (before_text (meant b) (unescaped false bs))
    (cond (b == 27) (unescaped true bs) (before_text (Some b) (unescaped false bs)))

-- the bytes, where they are UTF-8
abbrev pub as_text : List ℕ → Option (List ℕ)
as_text bytes = if is_utf8 bytes then Some bytes else None

-- what stands before the first space of a line
abbrev pub head_of : List ℕ → List ℕ
head_of line = option_map_or (λ i. take i line) (position is_space line) line

-- what stands behind it, if there is one
abbrev pub tail_of : List ℕ → Option (List ℕ)
tail_of line = option_map (λ i. drop (i + 1) line) (position is_space line)

-- the text of a line, none where it has none; or it is no text
abbrev pub text_in : Option (List ℕ) → Option (Option (List ℕ))
text_in None = Some None
text_in (Some part) = option_map Some (option_and_then as_text (unescaped false part))

-- the entry of a line, without its line feed; none where it is no line of a journal
abbrev pub entry_in : List ℕ → Option Entry
entry_in line =
    option_and_then (λ n. option_map (λ text. (n, text)) (text_in (tail_of line))) (number_in (head_of line))

-- the lines of a journal, and last what stands behind the last line feed
abbrev pub pieces_of : List ℕ → List (List ℕ)
pieces_of bytes = slice_split is_feed bytes

-- ---- entries as they come

-- a number of 64 bits, and a text
abbrev pub IsEntry : Entry → Type 0
IsEntry e = (e.0 < 2 ^ 64) × IfSome e.1 IsUtf8

-- nothing of it is a line feed
abbrev pub HasNoFeed : List ℕ → Type 0
HasNoFeed bytes = All (λ b. is_feed b ≡ false) bytes
