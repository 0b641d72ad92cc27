-- What is known of a seat's listeners by the items that it was given, for whoever shows them.
use Rattle.std.specs.Prelude.{ℕ, ◌-◌, if◌then◌else◌, List, length, Option, Some, None, is_some}
use Rattle.std.specs.BTreeMap.{insert_entry, is_at}
use Rattle.std.specs.Map.{lookup, remove_entry, set_value}
use Rattle.std.specs.List.{fold, slice_get}
use Rattle.std.specs.Option.{option_map, option_map_or, option_and_then}
use Rattle.std.specs.Ordering.{nat_cmp}
use Rattle.rt_tree.specs.PathTree.{PathTree}
use Rattle.rt_query.specs.Queries.{Query}
use Rattle.rt_query.specs.Select.{Shown, select}
use Rattle.rt_view.specs.declared.change.Change.{Change}
use Rattle.rt_view.specs.declared.change.Change.TheVariants as change
use Rattle.rt_mail.specs.declared.item.Item.{Item}
use Rattle.rt_mail.specs.declared.item.Item.TheVariants as item
use Rattle.rt_mail.specs.declared.item.Receipt.{Receipt}
use Rattle.rt_mail.specs.declared.item.Receipt.TheVariants.{Listened, Unlistened, Wrote, Asked}

-- a listener's query, and what it shows as a tree; none while nothing is known of its path
pub record Seen : Type 0 where
  pub query : Query
  pub value : Option PathTree

-- the same as a leaf or as rows, in the query's order
abbrev pub shown_of : Seen → Option Shown
shown_of s = option_map (select s.query) s.value

-- what is known of listeners, by their numbers, which rise
abbrev pub Known : Type 0
Known = List (ℕ × Seen)

-- of the listener of a number
abbrev pub seen_of : ℕ → Known → Option Seen
seen_of n known = lookup (is_at (nat_cmp n)) known

-- what it shows, as a leaf or as rows; none where no such listener is known, or nothing of its path yet
abbrev pub shown_to : ℕ → Known → Option Shown
shown_to n known = option_and_then shown_of (seen_of n known)

-- a new listener, of which nothing is known yet; one that is there stays as it is
abbrev pub begun : ℕ → Query → Known → Known
begun n query known =
    if is_some (seen_of n known)
    then known
    else insert_entry nat_cmp known n (record { query = query; value = None })

-- one that has ended goes
abbrev pub ended : ℕ → Known → Known
ended n known = remove_entry (is_at (nat_cmp n)) known

-- the tree that a change tells, which is what the listener shows after it
abbrev pub tree_in : Change → Option PathTree
tree_in (change.Removed key old) = None
tree_in (change.Added key value after) = None
tree_in (change.Moved key value after) = None
tree_in (change.Changed key value after) = None
tree_in (change.Value value) = Some value

-- the tree that the last of the changes tells
abbrev pub tree_told : List Change → Option PathTree
tree_told changes = option_and_then tree_in (slice_get changes (length changes - 1))

-- a listener shows another tree
abbrev pub with_tree : ℕ → PathTree → Known → Known
with_tree n tree known =
    option_map_or
    (λ s. set_value (is_at (nat_cmp n)) known (record s { value = Some tree }))
    (seen_of n known) known

-- a listener after a batch of it, which ends with the tree that it shows
abbrev pub shows : ℕ → List Change → Known → Known
shows n changes known = option_map_or (λ tree. with_tree n tree known) (tree_told changes) known

-- what is known after a receipt
abbrev pub signed : Known → Receipt → Known
signed known (Listened n query) = begun n query known
signed known (Unlistened n) = ended n known
signed known (Wrote id what) = known
signed known (Asked id what) = known

-- and after an item
abbrev pub after_item : Known → Item → Known
after_item known (item.Receipt r) = signed known r
after_item known (item.Batch b) = shows b.listener b.changes known
after_item known (item.Settled id why) = known
after_item known (item.Cancelled n why) = ended n known

-- after the items, one after another
abbrev pub after_items : Known → List Item → Known
after_items known items = fold after_item known items
