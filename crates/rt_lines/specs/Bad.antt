-- What is told of a line: what is wrong with it.
use Rattle.std.specs.Prelude.{◌≡◌, ◌≢◌, ℕ, List, [], ◌∷◌, ◌++◌, codes, decimal, map, if◌then◌else◌}
use Rattle.std.specs.Prelude.{Option, Some, None, Result, Ok, Err}
use Rattle.std.specs.Borrow.{Bor}
use Rattle.std.specs.Str.{bytes_eq}
use Rattle.std.specs.Io.KnownBytes.{Appends}
use Rattle.serde_json.specs.Data.{Data as Json}
use Rattle.rt_input.specs.Log.{log_line}
use Rattle.rt_lines.specs.Lines.{has_mark, line_of_bytes}
use Rattle.rt_lines.specs.Typing.{typed_of_bytes}
use Rattle.rt_lines.specs.Words.{parts_in}
use Rattle.rt_lines.specs.declared.error.LinesTaken.{LinesTaken}
use Rattle.rt_lines.specs.declared.error.LineError.{LineError}
use Rattle.rt_lines.specs.declared.error.LineError.TheVariants as line
use Rattle.rt_lines.specs.declared.error.Refusal.{Refusal}
use Rattle.rt_lines.specs.declared.line.Line.{Line}
use Rattle.rt_lines.specs.declared.order.Typed.{Typed}

-- words, and the form of the lines of each
abbrev pub rows_of : List (Bor (List ℕ) × Bor (List ℕ)) → List (List ℕ × List ℕ)
rows_of rows = map (λ row. (row.0.now, row.1.now)) rows

-- the form of a word's lines, if there is one
abbrev pub form_among : List ℕ → List (List ℕ × List ℕ) → Option (List ℕ)
form_among word [] = None
form_among word (row ∷ rows) = if bytes_eq row.0 word then Some row.1 else form_among word rows

-- what is said behind the number of a line whose first word is that, and which has not its form
abbrev pub named_text : LinesTaken → List ℕ → Option (List ℕ) → List ℕ
named_text taken word (Some form) = codes " is no " ++ word ++ codes ": " ++ form
named_text taken word None = codes " begins with none of the words " ++ taken.words.now

abbrev pub form_text : LinesTaken → List ℕ → List ℕ
form_text taken word = named_text taken word (form_among word (rows_of taken.forms.now))

-- what is said of JSON that is no line
abbrev pub parts_text : LinesTaken → Option (List ℕ × List Json) → List ℕ
parts_text taken (Some parts) = form_text taken parts.0
parts_text taken None = codes " is no array that begins with a word"

abbrev pub formless_text : LinesTaken → Json → List ℕ
formless_text taken value = parts_text taken (parts_in value)

-- what is said of a line that has none of the forms, by its JSON value
abbrev pub fault_text : LinesTaken → Option Json → List ℕ
fault_text taken None = codes " is no JSON"
fault_text taken (Some value) = formless_text taken value

-- so of the line of that number
abbrev pub fault_line : LinesTaken → ℕ → Option Json → List ℕ
fault_line taken number value = codes "line " ++ decimal number ++ fault_text taken value

-- why a word of a line is refused that is no script's, if one is
abbrev pub typed_refusal : Result Typed LineError → Option Refusal
typed_refusal (Err (line.Refused why)) = Some why
typed_refusal (Err line.Bad) = None
typed_refusal (Err line.NoMemory) = None
typed_refusal (Ok t) = None

-- why a word of a line is refused, if one is: of a script's, or of one that a watched client takes
abbrev pub refusal_or : Result Line LineError → Option Refusal → Option Refusal
refusal_or (Err (line.Refused why)) typed = Some why
refusal_or (Err line.Bad) typed = typed
refusal_or (Err line.NoMemory) typed = None
refusal_or (Ok l) typed = None

abbrev pub refusal_of_bytes : List ℕ → Option Refusal
refusal_of_bytes bytes = refusal_or (line_of_bytes bytes) (typed_refusal (typed_of_bytes bytes))

-- that it is, in words
abbrev pub why_line : ℕ → List ℕ → List ℕ
why_line number words = codes "line " ++ (decimal number ++ (codes " is refused: " ++ words))

-- that a line begins with a byte order mark; nothing where it doesn't
abbrev pub mark_line : ℕ → List ℕ → List ℕ
mark_line number bytes =
    if has_mark bytes
    then codes "line " ++ decimal number ++ codes " begins with a byte order mark, which is passed over"
    else []

-- what is said of a line that has one of the forms: why a word of it is refused, or its mark
abbrev pub IsNote : Option Refusal → ℕ → List ℕ → List ℕ → Type 0
IsNote (Some why) number bytes text = (words : List ℕ) × (text ≡ why_line number words)
IsNote None number bytes text = text ≡ mark_line number bytes

-- a line is told, and nothing where it has no byte
abbrev pub Tells : Option (List ℕ) → Option (List ℕ) → List ℕ → Type 0
Tells old new line = (line ≡ [] → new ≡ old) × (line ≢ [] → Appends old new (log_line line))
