-- What a seat is told, as JSON: members stand in the order of the bytes of their names.
use Rattle.std.specs.Prelude.{ℕ, List, [], ◌∷◌, ◌++◌, codes, decimal, flat_map, Option, Some, None}
use Rattle.rt_tree.specs.PathTree.{Key, PathTree}
use Rattle.rt_view.specs.declared.change.Batch.{Batch}
use Rattle.rt_view.specs.declared.change.Change.{Change}
use Rattle.rt_view.specs.declared.change.Change.TheVariants.{Removed, Added, Moved, Changed, Value}
use Rattle.rt_lines.specs.Printing.{json_text, tree_text}
use Rattle.rt_mail.specs.declared.item.Item.{Item}
use Rattle.rt_mail.specs.declared.item.Item.TheVariants as told
use Rattle.rt_mail.specs.declared.item.Receipt.{Receipt}
use Rattle.rt_mail.specs.declared.item.Receipt.TheVariants.{Listened, Unlistened, Wrote, Asked}

-- ---- changes of a view

-- the key of the row before, or null where there is none
abbrev pub after_text : Option Key → List ℕ
after_text None = codes "null"
after_text (Some key) = json_text key

-- a row that came, moved or changed
abbrev pub row_text : List ℕ → Key → PathTree → Option Key → List ℕ
row_text kind key value after =
    codes "{\"after\":" ++ after_text after ++ codes ",\"k\":\"" ++ kind ++ codes "\",\"key\":" ++ json_text key
    ++ codes ",\"value\":" ++ tree_text value ++ codes "}"

-- a row that is there no more
abbrev pub removed_text : Key → PathTree → List ℕ
removed_text key old =
    codes "{\"k\":\"removed\",\"key\":" ++ json_text key ++ codes ",\"old\":" ++ tree_text old ++ codes "}"

-- the whole view
abbrev pub value_text : PathTree → List ℕ
value_text value = codes "{\"k\":\"value\",\"value\":" ++ tree_text value ++ codes "}"

abbrev pub change_text : Change → List ℕ
change_text (Removed key old) = removed_text key old
change_text (Added key value after) = row_text (codes "added") key value after
change_text (Moved key value after) = row_text (codes "moved") key value after
change_text (Changed key value after) = row_text (codes "changed") key value after
change_text (Value value) = value_text value

-- each behind a comma
abbrev pub later_changes : List Change → List ℕ
later_changes changes = flat_map (λ c. codes "," ++ change_text c) changes

-- a comma between each two
abbrev pub changes_text : List Change → List ℕ
changes_text [] = []
changes_text (c ∷ cs) = change_text c ++ later_changes cs

abbrev pub batch_text : Batch → List ℕ
batch_text b =
    codes "{\"changes\":[" ++ changes_text b.changes ++ codes "],\"k\":\"batch\",\"listener\":"
    ++ decimal b.listener ++ codes "}"

-- ---- what else a seat is told

-- what its own call has made, by its number
abbrev pub receipt_text : Receipt → List ℕ
receipt_text (Listened listener query) =
    codes "{\"k\":\"listened\",\"listener\":" ++ decimal listener ++ codes "}"
receipt_text (Unlistened listener) =
    codes "{\"k\":\"unlistened\",\"listener\":" ++ decimal listener ++ codes "}"
receipt_text (Wrote id what) = codes "{\"id\":" ++ decimal id ++ codes ",\"k\":\"wrote\"}"
receipt_text (Asked id what) = codes "{\"id\":" ++ decimal id ++ codes ",\"k\":\"asked\"}"

-- a request is accepted, or refused for a reason
abbrev pub settled_text : ℕ → Option (List ℕ) → List ℕ
settled_text id None = codes "{\"id\":" ++ decimal id ++ codes ",\"k\":\"ok\"}"
settled_text id (Some why) =
    codes "{\"id\":" ++ decimal id ++ codes ",\"k\":\"no\",\"why\":" ++ json_text why ++ codes "}"

-- a listener has ended, for a reason
abbrev pub cancelled_text : ℕ → List ℕ → List ℕ
cancelled_text listener why =
    codes "{\"k\":\"cancelled\",\"listener\":" ++ decimal listener ++ codes ",\"why\":" ++ json_text why
    ++ codes "}"

abbrev pub item_text : Item → List ℕ
item_text (told.Receipt receipt) = receipt_text receipt
item_text (told.Batch batch) = batch_text batch
item_text (told.Settled id why) = settled_text id why
item_text (told.Cancelled listener why) = cancelled_text listener why
