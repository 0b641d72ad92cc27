-- The calls that a listen makes on its query: `["orderByChild",path]` and the like.
use Rattle.std.specs.Prelude.{ℕ, List, [], ◌∷◌, bytes_eq, codes, if◌then◌else◌, Option, Some, None}
use Rattle.std.specs.Prelude.{option_map, option_and_then}
use Rattle.serde_json.specs.Data.{Data as Json, null, boolean, number, string, array, object}
use Rattle.serde_json.specs.Find.{as_array, as_str}
use Rattle.rt_lines.specs.declared.call.BoundCall.{BoundCall}
use Rattle.rt_lines.specs.declared.call.BoundCall.TheVariants.{StartAt, StartAfter, EndAt, EndBefore}
use Rattle.rt_lines.specs.declared.call.BoundCall.TheVariants.{EqualTo}
use Rattle.rt_lines.specs.Words.{count_in, elements, named_in}

-- a call of one of the forms; a bound has a value, and perhaps the text of a key
pub data QueryCall : Type 0 where
  OrderByKey : QueryCall
  OrderByValue : QueryCall
  OrderByChild : List ℕ → QueryCall
  LimitToFirst : ℕ → QueryCall
  LimitToLast : ℕ → QueryCall
  Bound : BoundCall → Json → Option (List ℕ) → QueryCall

-- the words behind the name, form by form: none
abbrev pub lone_call : QueryCall → List Json → Option QueryCall
lone_call call [] = Some call
lone_call call _ = None

-- a path
abbrev pub child_call : List Json → Option QueryCall
child_call (path ∷ []) = option_map OrderByChild (as_str path)
child_call _ = None

-- how many
abbrev pub limit_call : (ℕ → QueryCall) → List Json → Option QueryCall
limit_call limit (n ∷ []) = option_map limit (count_in n)
limit_call limit _ = None

-- null, a truth value, a number or a text
abbrev pub scalar : Json → Option Json
scalar null = Some null
scalar (boolean b) = Some (boolean b)
scalar (number n) = Some (number n)
scalar (string s) = Some (string s)
scalar (array ds) = None
scalar (object ms) = None

-- a value, and perhaps the text of a key
abbrev pub bound_call : BoundCall → List Json → Option QueryCall
bound_call bound (value ∷ []) = option_map (λ v. Bound bound v None) (scalar value)
bound_call bound (value ∷ key ∷ []) =
    option_and_then (λ v. option_map (λ k. Bound bound v (Some k)) (as_str key)) (scalar value)
bound_call bound _ = None

-- the bound of that name
abbrev pub bound_named : List ℕ → Option BoundCall
bound_named name =
    if bytes_eq name (codes "startAt") then Some StartAt
    else if bytes_eq name (codes "startAfter") then Some StartAfter
    else if bytes_eq name (codes "endAt") then Some EndAt
    else if bytes_eq name (codes "endBefore") then Some EndBefore
    else if bytes_eq name (codes "equalTo") then Some EqualTo
    else None

-- a call of that name
abbrev pub named_call : List ℕ → List Json → Option QueryCall
named_call name words =
    if bytes_eq name (codes "orderByKey") then lone_call OrderByKey words
    else if bytes_eq name (codes "orderByValue") then lone_call OrderByValue words
    else if bytes_eq name (codes "orderByChild") then child_call words
    else if bytes_eq name (codes "limitToFirst") then limit_call LimitToFirst words
    else if bytes_eq name (codes "limitToLast") then limit_call LimitToLast words
    else option_and_then (λ bound. bound_call bound words) (bound_named name)

-- the call that a JSON value is, if it is one
abbrev pub call_in : Json → Option QueryCall
call_in d = named_in named_call d

-- the calls that JSON values are, if each is one
abbrev pub calls_of : List Json → Option (List QueryCall)
calls_of [] = Some []
calls_of (d ∷ ds) = option_and_then (λ call. option_map (λ calls. call ∷ calls) (calls_of ds))
    (call_in d)

-- the calls of an array
abbrev pub calls_in : Json → Option (List QueryCall)
calls_in d = option_and_then (λ ds. calls_of (elements ds)) (as_array d)
