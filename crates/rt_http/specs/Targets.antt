-- What the target of a request names.
use Rattle.std.specs.Prelude.{ℕ, List, [], ◌∷◌, ◌-◌, Bool, true, false, ◌||◌, ◌==◌, take, drop, length, if◌then◌else◌, codes}
use Rattle.std.specs.Prelude.{Option, Some, None, Result, Ok, Err}
use Rattle.std.specs.List.{before_first, list_all, list_any}
use Rattle.std.specs.Option.{option_map_or}
use Rattle.std.specs.Str.{bytes_eq, is_utf8}
use Rattle.percent_encoding.specs.Percent.{percent_decode}
use Rattle.rt_tree.specs.Path.{path_fault, path_keys}
use Rattle.rt_http.specs.Steps.{and_then}
use Rattle.rt_http.specs.declared.fault.Fault.{Fault}
use Rattle.rt_http.specs.declared.fault.Fault.TheVariants as fault
use Rattle.rt_http.specs.declared.head.Unsupported.TheVariants.{Login}
use Rattle.rt_http.specs.declared.resource.TargetPlace.{TargetPlace}
use Rattle.rt_http.specs.declared.resource.TargetPlace.TheVariants.{Health, Tree}
use Rattle.rt_http.specs.declared.resource.Words.{Words}

-- the mark between a path and a query
abbrev pub is_mark : ℕ → Bool
is_mark b = b == 63

-- what stands before `.json` at the end
abbrev pub stem_of : List ℕ → Option (List ℕ)
stem_of path =
    if bytes_eq (drop (length path - 5) path) (codes ".json") then Some (take (length path - 5) path)
    else None

-- the text that bytes with escapes stand for, if it is one
abbrev pub unescaped : List ℕ → Option (List ℕ)
unescaped bytes = if is_utf8 (percent_decode bytes) then Some (percent_decode bytes) else None

-- the path that a target names without a query, as a text without escapes
abbrev pub path_named : List ℕ → Option (List ℕ)
path_named target = unescaped (before_first is_mark target)

-- the path of a text
abbrev pub path_of : List ℕ → Result (List (List ℕ)) Fault
path_of text = option_map_or (λ e. Err (fault.Path e)) (path_fault text) (Ok (path_keys text))

-- the place of the tree that a stem names
abbrev pub place_at : List ℕ → Result TargetPlace Fault
place_at stem =
    option_map_or (λ text. and_then (path_of text) (λ path. Ok (Tree path))) (unescaped stem)
    (Err fault.PathNoText)

-- what stands at a path
abbrev pub place_of : List ℕ → Result TargetPlace Fault
place_of path =
    if bytes_eq path (codes "/healthz") then Ok Health
    else option_map_or place_at (stem_of path) (Err fault.NotFound)

-- the value of the first word of that name
abbrev pub value_of : List ℕ → List (List ℕ × List ℕ) → Option (List ℕ)
value_of name [] = None
value_of name (pair ∷ pairs) = if bytes_eq pair.0 name then Some pair.1 else value_of name pairs

-- the words of a login
abbrev pub is_login : List ℕ → Bool
is_login word = bytes_eq word (codes "auth") || bytes_eq word (codes "access_token")

-- the words of bounds and limits, which come after an order
abbrev pub is_filter : List ℕ → Bool
is_filter word =
    bytes_eq word (codes "startAt") || bytes_eq word (codes "endAt") || bytes_eq word (codes "equalTo")
    || bytes_eq word (codes "limitToFirst") || bytes_eq word (codes "limitToLast")

-- the words that there are
abbrev pub is_known : List ℕ → Bool
is_known word = bytes_eq word (codes "print") || bytes_eq word (codes "shallow") || bytes_eq word (codes "orderBy") || is_filter word

-- whether an answer is laid out, by the value of `print`
abbrev pub pretty_of : Option (List ℕ) → Result Bool Fault
pretty_of None = Ok false
pretty_of (Some value) = if bytes_eq value (codes "pretty") then Ok true else Err fault.BadWord

-- whether a tree is cut to its children, by the value of `shallow`
abbrev pub shallow_said : Option (List ℕ) → Result Bool Fault
shallow_said None = Ok false
shallow_said (Some value) =
    if bytes_eq value (codes "true") then Ok true
    else (if bytes_eq value (codes "false") then Ok false else Err fault.BadWord)

-- what the words of a query say, where no one is of a login and all are known
abbrev pub words_in : List (List ℕ × List ℕ) → Result Words Fault
words_in pairs =
    if list_any (λ pair. is_login pair.0) pairs then Err (fault.Lacks Login)
    else (if list_all (λ pair. is_known pair.0) pairs
    then and_then (pretty_of (value_of (codes "print") pairs)) (λ pretty.
    and_then (shallow_said (value_of (codes "shallow") pairs)) (λ shallow.
    Ok (record { is_pretty = pretty; is_shallow = shallow })))
    else Err fault.UnknownWord)
