-- What is printed: each line of a script has lines of its own.
use Rattle.std.specs.Prelude.{ℕ, List, [], ◌∷◌, ◌++◌, flat_map, codes, decimal, if◌then◌else◌}
use Rattle.std.specs.Prelude.{Option, Some, None}
use Rattle.serde_json.specs.Data.{string}
use Rattle.serde_json.specs.Written.{compact_text}
use Rattle.rt_tree.specs.Leaf.{LeafValue}
use Rattle.rt_tree.specs.Path.{path_text}
use Rattle.rt_tree.specs.PathTree.{Key, PathTree, of_leaf}
use Rattle.rt_tree.specs.Writing.{data_of}
use Rattle.rt_query.specs.declared.row.Row.{Row}
use Rattle.rt_query.specs.Queries.{Query, is_filtered}
use Rattle.rt_query.specs.Select.{Shown}
use Rattle.rt_cover.specs.declared.listen.Kept.{Kept}
use Rattle.rt_view.specs.declared.change.Batch.{Batch}
use Rattle.rt_view.specs.declared.change.Change.{Change}
use Rattle.rt_view.specs.declared.change.Change.TheVariants.{Removed, Added, Moved, Changed, Value}
use Rattle.rt_wire.specs.declared.client.ClientMessage.{ClientMessage}
use Rattle.rt_wire.specs.ClientData.{client_data}
use Rattle.rt_wire.specs.QueryData.{query_data}
use Rattle.rt_world.specs.declared.report.Body.{Body}
use Rattle.rt_world.specs.declared.report.Body.TheVariants as body
use Rattle.rt_world.specs.declared.report.Note.{Note}
use Rattle.rt_world.specs.declared.report.Outcome.{Outcome}
use Rattle.rt_world.specs.declared.report.Outcome.TheVariants.{Done, Stale}
use Rattle.rt_world.specs.declared.report.Report.{Report}
use Rattle.rt_lines.specs.declared.error.Refusal.{Refusal}
use Rattle.rt_lines.specs.Refusals.{layer_of, code_of, name_of}

-- a text and the end of its line
abbrev pub line : List ℕ → List ℕ
line text = text ++ 10 ∷ []

-- a tree as compact JSON
abbrev pub tree_text : PathTree → List ℕ
tree_text t = compact_text (data_of t)

-- a key or a reason as a JSON text
abbrev pub json_text : List ℕ → List ℕ
json_text text = compact_text (string text)

-- ---- changes of a view

-- `NAME KEY TREE`
abbrev pub row_text : List ℕ → Key → PathTree → List ℕ
row_text name key t = name ++ codes " " ++ json_text key ++ codes " " ++ tree_text t

-- the key of the row before
abbrev pub after_text : Option Key → List ℕ
after_text None = codes " after none"
after_text (Some key) = codes " after " ++ json_text key

abbrev pub change_text : Change → List ℕ
change_text (Removed key old) = row_text (codes "removed") key old
change_text (Added key value after) = row_text (codes "added") key value ++ after_text after
change_text (Moved key value after) = row_text (codes "moved") key value ++ after_text after
change_text (Changed key value after) = row_text (codes "changed") key value ++ after_text after
change_text (Value value) = codes "value " ++ tree_text value

-- `L` and the listener's number come first
abbrev pub change_line : ℕ → Change → List ℕ
change_line listener change =
    line (codes "L" ++ decimal listener ++ codes " " ++ change_text change)

-- a line for each change of a listener's view
abbrev pub batch_text : Batch → List ℕ
batch_text b = flat_map (change_line b.listener) b.changes

-- ---- what a step answers

-- that a request is accepted, or why it is refused
abbrev pub settled_text : Option (List ℕ) → List ℕ
settled_text None = codes " ok"
settled_text (Some why) = codes " refused " ++ json_text why

-- what a seat is told
abbrev pub body_text : Body → List ℕ
body_text (body.Settled id why) = line (codes "R" ++ decimal id ++ settled_text why)
body_text (body.Cancelled listener why) =
    line (codes "L" ++ decimal listener ++ codes " cancelled " ++ json_text why)
body_text (body.Batch b) = batch_text b

abbrev pub note_text : Note → List ℕ
note_text note = body_text note.body

-- `done N` where a number is given
abbrev pub outcome_text : Outcome → Option ℕ → List ℕ
outcome_text Done (Some n) = codes "done " ++ decimal n
outcome_text Done None = codes "done"
outcome_text Stale given = codes "stale"

-- the outcome, then the notes in their order
abbrev pub report_text : Report → List ℕ
report_text r = line (outcome_text r.outcome r.given) ++ flat_map note_text r.notes

-- `refused LAYER CODE NAME`
abbrev pub refused_line : List ℕ → ℕ → List ℕ → List ℕ
refused_line layer code name =
    line (codes "refused " ++ layer ++ codes " " ++ decimal code ++ codes " " ++ name)

abbrev pub refusal_text : Refusal → List ℕ
refusal_text r = refused_line (layer_of r) (code_of r) (name_of r)

-- a line of no form
abbrev pub bad_line : ℕ → List ℕ
bad_line number = line (codes "bad line " ++ decimal number)

-- a push id
abbrev pub id_line : List ℕ → List ℕ
id_line id = line (codes "id " ++ id)

-- ---- what a look at the core shows

abbrev pub row_line : Row → List ℕ
row_line row = line (row_text (codes "row") row.key row.value)

-- a line for each row of a view, or that it has none
abbrev pub rows_text : List Row → List ℕ
rows_text [] = line (codes "empty")
rows_text (r ∷ rs) = flat_map row_line (r ∷ rs)

abbrev pub shown_text : Option LeafValue → List Row → List ℕ
shown_text (Some leaf) rows = line (codes "leaf " ++ tree_text (of_leaf leaf))
shown_text None rows = rows_text rows

-- a view
abbrev pub view_text : Option Shown → List ℕ
view_text None = line (codes "unknown")
view_text (Some shown) = shown_text shown.leaf shown.rows

-- what follows the path of a kept listen
abbrev pub filter_text : Option (List ℕ) → List ℕ
filter_text None = []
filter_text (Some q) = codes " " ++ q

-- where the query is filtered, the text of the listen's `q`
abbrev pub query_words : Query → List ℕ
query_words q = filter_text (if is_filtered q then Some (compact_text (query_data q)) else None)

-- `T<tag> PATH by L<n>`
abbrev pub kept_line : Kept → List ℕ
kept_line k =
    line (codes "T" ++ decimal k.tag ++ codes " " ++ path_text k.query.path ++ query_words k.query
    ++ codes " by L" ++ decimal k.listener)

-- a line for each kept listen, or that there is none
abbrev pub cover_text : List Kept → List ℕ
cover_text [] = line (codes "T none")
cover_text (k ∷ ks) = flat_map kept_line (k ∷ ks)

-- a message to the server
abbrev pub message_line : ClientMessage → List ℕ
message_line m = line (codes "> " ++ compact_text (client_data m))

-- a line for each message, or that there is none
abbrev pub messages_text : List ClientMessage → List ℕ
messages_text [] = line (codes "> none")
messages_text (m ∷ ms) = flat_map message_line (m ∷ ms)
