-- What a line asks of a client that is watched: what it asks of any client, what a listener shows, or a write by
-- a push id.
use Rattle.std.specs.Prelude.{ℕ, bytes_eq, codes, if◌then◌else◌, List, [], ◌∷◌, Option, Some, None, Result, Ok, Err}
use Rattle.std.specs.Option.{option_map_or}
use Rattle.serde_json.specs.Data.{Data as Json}
use Rattle.serde_json.specs.Find.{as_str}
use Rattle.rt_lines.specs.declared.error.LineError.{LineError}
use Rattle.rt_lines.specs.declared.error.LineError.TheVariants.{Bad}
use Rattle.rt_lines.specs.declared.order.Typed.{Typed}
use Rattle.rt_lines.specs.declared.order.Typed.TheVariants as typed
use Rattle.rt_lines.specs.Lines.{data_of_bytes}
use Rattle.rt_lines.specs.Orders.{order_named}
use Rattle.rt_lines.specs.Reading.{and_then, path_in, tree_in}
use Rattle.rt_lines.specs.Words.{parts_in, seat_in, whole}

-- `["view",listener]`
abbrev pub view_in : List Json → Result Typed LineError
view_in (listener ∷ []) = option_map_or (λ n. Ok (typed.View n)) (whole listener) (Err Bad)
view_in _ = Err Bad

-- a write of a seat below a path
abbrev pub push_of : ℕ → List ℕ → Json → Result Typed LineError
push_of seat path value =
    and_then (path_in path) (λ p. and_then (tree_in value) (λ t. Ok (typed.Push seat p t)))

-- so where the seat is one, and the path is a text
abbrev pub push_if : Option ℕ → Option (List ℕ) → Json → Result Typed LineError
push_if None path value = Err Bad
push_if (Some seat) None value = Err Bad
push_if (Some seat) (Some path) value = push_of seat path value

-- `["push",seat,path,value]`
abbrev pub push_in : List Json → Result Typed LineError
push_in (seat ∷ path ∷ value ∷ []) = push_if (seat_in seat) (as_str path) value
push_in _ = Err Bad

-- what a name and the words behind it ask for
abbrev pub typed_named : List ℕ → List Json → Result Typed LineError
typed_named name words =
    if bytes_eq name (codes "view") then view_in words
    else if bytes_eq name (codes "push") then push_in words
    else and_then (order_named name words) (λ order. Ok (typed.Order order))

-- what a JSON value asks for
abbrev pub typed_of_data : Json → Result Typed LineError
typed_of_data d = option_map_or (λ parts. typed_named parts.0 parts.1) (parts_in d) (Err Bad)

-- what bytes ask for: they are a text of UTF-8 that is JSON
abbrev pub typed_of_bytes : List ℕ → Result Typed LineError
typed_of_bytes bytes = option_map_or typed_of_data (data_of_bytes bytes) (Err Bad)
