-- What the member `q` of a listen is written as: its members in the order of the bytes of their names.
use Rattle.std.specs.Prelude.{ℕ, List, [], ◌∷◌, ◌++◌, codes, if◌then◌else◌, Option, Some, None}
use Rattle.serde_json.specs.Data.{Data, Items, no_items, item}
use Rattle.serde_json.specs.Data as json
use Rattle.rt_tree.specs.Path.{path_text}
use Rattle.rt_tree.specs.Writing.{leaf_data}
use Rattle.rt_order.specs.declared.index.Index.{Index}
use Rattle.rt_order.specs.declared.index.Index.TheVariants.{Key, Child, Value}
use Rattle.rt_order.specs.declared.cut.Mark.{Mark}
use Rattle.rt_order.specs.declared.cut.Mark.TheVariants.{Null, Leaf}
use Rattle.rt_order.specs.declared.cut.Place.{Place}
use Rattle.rt_order.specs.declared.cut.Place.TheVariants.{Min, Before, After, Max}
use Rattle.rt_order.specs.declared.cut.Cut.{Cut}
use Rattle.rt_query.specs.declared.query.Limit.{Limit}
use Rattle.rt_query.specs.declared.query.Limit.TheVariants.{First, Last}
use Rattle.rt_query.specs.Queries.{Query, is_filtered}
use Rattle.rt_wire.specs.FieldData.{Field, object_of}

abbrev pub index_data : Index → Data
index_data Key = json.string (codes "key")
index_data (Child path) = json.string (path_text path)
index_data Value = json.string (codes "value")

abbrev pub mark_data : Mark → Data
mark_data Null = json.null
mark_data (Leaf l) = leaf_data l

-- what follows a cut's value
abbrev pub place_items : Place → Items
place_items Min = item (json.string (codes "min")) no_items
place_items (Before k) = item (json.string (codes "before")) (item (json.string k) no_items)
place_items (After k) = item (json.string (codes "after")) (item (json.string k) no_items)
place_items Max = item (json.string (codes "max")) no_items

abbrev pub cut_data : Cut → Data
cut_data cut = json.array (item (mark_data cut.value) (place_items cut.place))

abbrev pub limit_data : Limit → Data
limit_data (First n) =
    json.array (item (json.string (codes "first")) (item (json.number (json.unsigned n)) no_items))
limit_data (Last n) =
    json.array (item (json.string (codes "last")) (item (json.number (json.unsigned n)) no_items))

-- a member that may be left out
abbrev pub field_if : {A : Type 0} → (A → Data) → List ℕ → Option A → List Field
field_if f name None = []
field_if f name (Some x) = (name, f x) ∷ []

abbrev pub query_data : Query → Data
query_data q = object_of (
    field_if limit_data (codes "limit") q.limit
    ++ (field_if cut_data (codes "lower") q.range.lower
    ++ ((codes "order", index_data q.index) ∷ field_if cut_data (codes "upper") q.range.upper)))

-- the member `q`, where the query is filtered
abbrev pub query_field : Query → List Field
query_field q = if is_filtered q then (codes "q", query_data q) ∷ [] else []
