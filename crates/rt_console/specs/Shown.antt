-- Which printed lines have a whole value of a listener, and what is shown of a text.
use Rattle.std.specs.Prelude.{ℕ, ◌&&◌, ◌==◌, Bool, nat_eq, codes, drop, if◌then◌else◌, List, [], ◌∷◌, Option, None, Some}
use Rattle.std.specs.Char.{is_ascii_digit}
use Rattle.std.specs.List.{starts_with}
use Rattle.std.specs.Str.{is_utf8}
use Rattle.rt_input.specs.Plains.{plain}

-- what stands behind the word of a whole value, where that is what begins there
abbrev pub value_of : List ℕ → Option (List ℕ)
value_of rest = if starts_with nat_eq rest (codes " value ") then Some (drop 7 rest) else None

-- the whole value of a line, by what stands behind the letter of its listener: its number comes first
abbrev pub value_behind : List ℕ → Option (List ℕ)
value_behind [] = None
value_behind (c ∷ rest) = if is_ascii_digit c then value_behind rest else value_of (c ∷ rest)

-- the whole value of a line, where it has one: an L, a number, and the word of a value
abbrev pub value_in : List ℕ → Option (List ℕ)
value_in [] = None
value_in (c ∷ rest) = if c == 76 then value_behind rest else None

-- a text as it is, or without what a terminal obeys; what is no UTF-8 stays as it is
abbrev pub text_as : Bool → List ℕ → List ℕ
text_as is_escaped text = if is_escaped && is_utf8 text then plain text else text
