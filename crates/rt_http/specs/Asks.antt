-- What requests ask for.
use Rattle.std.specs.Prelude.{ℕ, List, [], ◌∷◌, ◌++◌, Bool, true, false, nat_le, length, if◌then◌else◌}
use Rattle.std.specs.Prelude.{Option, Some, None, Result, Ok, Err}
use Rattle.std.specs.List.{before_first, after_first}
use Rattle.std.specs.Option.{option_map_or}
use Rattle.std.specs.Str.{is_utf8}
use Rattle.form_urlencoded.specs.Form.{raw_pairs}
use Rattle.serde_json.specs.Data.{Data, Members, no_members, member}
use Rattle.serde_json.specs.Find.{as_object}
use Rattle.serde_json.specs.Read.{read}
use Rattle.rt_tree.specs.Assignments.{Assignment}
use Rattle.rt_tree.specs.PathTree.{Path, PathTree}
use Rattle.rt_tree.specs.Reading.{data_fault, tree_of_data}
use Rattle.rt_tree.specs.declared.error.TreeError.TheVariants as tree
use Rattle.rt_tree.specs.declared.limits.TheConstants.{MAX_KEYS}
use Rattle.rt_wire.specs.Crowds.{is_crowded}
use Rattle.rt_http.specs.Filters.{does_query, query_in}
use Rattle.rt_http.specs.Heads.{Said}
use Rattle.rt_http.specs.Steps.{and_then}
use Rattle.rt_http.specs.Targets.{is_mark, path_of, place_of, words_in}
use Rattle.rt_http.specs.declared.ask.Ask.{Ask}
use Rattle.rt_http.specs.declared.ask.Ask.TheVariants as ask
use Rattle.rt_http.specs.declared.ask.Asked.{Asked}
use Rattle.rt_http.specs.declared.fault.Fault.{Fault}
use Rattle.rt_http.specs.declared.fault.Fault.TheVariants as fault
use Rattle.rt_http.specs.declared.head.Unsupported.{Unsupported}
use Rattle.rt_http.specs.declared.head.Method.{Method}
use Rattle.rt_http.specs.declared.head.Method.TheVariants as method
use Rattle.rt_http.specs.declared.resource.TargetPlace.{TargetPlace}
use Rattle.rt_http.specs.declared.resource.TargetPlace.TheVariants as place

-- ---- bodies

-- a text that holds no more than a message may
abbrev pub bounded : List ℕ → Result (List ℕ) Fault
bounded text = if is_crowded text then Err (fault.Body tree.TooManyNodes) else Ok text

-- a body as a text
abbrev pub text_of : List ℕ → Result (List ℕ) Fault
text_of body = if is_utf8 body then bounded body else Err fault.BodyNoText

-- the tree that data is
abbrev pub tree_in : Data → Result PathTree Fault
tree_in d = option_map_or (λ e. Err (fault.Body e)) (data_fault d) (Ok (tree_of_data d))

-- the tree that a body is
abbrev pub read_tree : List ℕ → Result PathTree Fault
read_tree body =
    and_then (text_of body) (λ text. option_map_or tree_in (read text) (Err (fault.Body tree.NotJson)))

-- the data that a body is
abbrev pub json_of : List ℕ → Result Data Fault
json_of body =
    and_then (text_of body) (λ text. option_map_or (λ d. Ok d) (read text) (Err fault.NoObject))

-- the members of data that is an object
abbrev pub members_in : Data → Result Members Fault
members_in d = option_map_or (λ members. Ok members) (as_object d) (Err fault.NoObject)

-- the object that a body is
abbrev pub object_of : List ℕ → Result Members Fault
object_of body = and_then (json_of body) members_in

-- the path of these keys, where they are not too many
abbrev pub path_with : Path → Result Path Fault
path_with keys = if nat_le (length keys) MAX_KEYS then Ok keys else Err (fault.Path tree.TooDeep)

-- the path that a name means below another
abbrev pub spot_of : Path → List ℕ → Result Path Fault
spot_of base name = and_then (path_of name) (λ below. path_with (base ++ below))

-- the entry that a member of an update is
abbrev pub entry_of : Path → List ℕ → Data → Result Assignment Fault
entry_of base name d = and_then (spot_of base name) (λ spot. and_then (tree_in d) (λ tree. Ok (spot, tree)))

-- the entries that the members of an update are, or what is wrong with the first of them
abbrev pub entries_in : Path → Members → Result (List Assignment) Fault
entries_in base no_members = Ok []
entries_in base (member name d members) =
    and_then (entry_of base name d) (λ entry.
    and_then (entries_in base members) (λ entries. Ok (entry ∷ entries)))

-- entries, of which an update has one at least
abbrev pub filled : List Assignment → Result (List Assignment) Fault
filled [] = Err fault.NoObject
filled (entry ∷ entries) = Ok (entry ∷ entries)

-- the entries that a body is
abbrev pub read_entries : Path → List ℕ → Result (List Assignment) Fault
read_entries base body = and_then (and_then (object_of body) (entries_in base)) filled

-- ---- requests

-- what a request that reads asks for at a path: no query of what is cut to its children
abbrev pub read_at : Path → Bool → List (List ℕ × List ℕ) → Result Ask Fault
read_at path false pairs = and_then (query_in path pairs) (λ query. Ok (ask.Read query))
read_at path true pairs = if does_query pairs then Err fault.Mixed else Ok (ask.Look path)

-- what a method asks for at a path: a browser that asks what may be asked is told that the server is there
abbrev pub ask_at : Path → Method → Bool → List (List ℕ × List ℕ) → List ℕ → Result Ask Fault
ask_at path method.Get shallow pairs body = read_at path shallow pairs
ask_at path method.Head shallow pairs body = read_at path shallow pairs
ask_at path method.Put shallow pairs body = and_then (read_tree body) (λ tree. Ok (ask.Put path tree))
ask_at path method.Patch shallow pairs body = and_then (read_entries path body) (λ entries. Ok (ask.Merge entries))
ask_at path method.Post shallow pairs body = and_then (read_tree body) (λ tree. Ok (ask.Push path tree))
ask_at path method.Delete shallow pairs body = Ok (ask.Remove path)
ask_at path method.Options shallow pairs body = Ok ask.Health
ask_at path method.Other shallow pairs body = Err fault.Method

-- what a method asks for of the server itself
abbrev pub health_of : Method → Result Asked Fault
health_of method.Get = Ok (record { ask = ask.Health; is_pretty = false })
health_of method.Head = Ok (record { ask = ask.Health; is_pretty = false })
health_of method.Put = Err fault.Method
health_of method.Patch = Err fault.Method
health_of method.Post = Err fault.Method
health_of method.Delete = Err fault.Method
health_of method.Options = Ok (record { ask = ask.Health; is_pretty = false })
health_of method.Other = Err fault.Method

-- what a method and a query ask for at a path
abbrev pub asked_at : Path → Method → List ℕ → List ℕ → Result Asked Fault
asked_at path method query body =
    and_then (words_in (raw_pairs query)) (λ words.
    and_then (ask_at path method words.is_shallow (raw_pairs query) body) (λ ask. Ok (record { ask = ask; is_pretty = words.is_pretty })))

-- what is asked for at a place
abbrev pub asked_in : TargetPlace → Method → List ℕ → List ℕ → Result Asked Fault
asked_in place.Health method query body = health_of method
asked_in (place.Tree path) method query body = asked_at path method query body

-- what is asked for, where nothing is wanted that isn't there
abbrev pub asked_if : Option Unsupported → Said → List ℕ → Result Asked Fault
asked_if (Some lack) said body = Err (fault.Lacks lack)
asked_if None said body =
    and_then (place_of (before_first is_mark said.target)) (λ place.
    asked_in place said.marks.method (after_first is_mark said.target) body)

-- what a request asks for
abbrev pub asked_of : Said → List ℕ → Result Asked Fault
asked_of said body = asked_if said.marks.lacks said body
