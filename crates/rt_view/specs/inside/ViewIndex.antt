-- What a view keeps, and how a child is put and taken out.
use Rattle.std.specs.Prelude.{◌≡◌, Bool, true, false, not, ◌&&◌, if◌then◌else◌, List, [], map}
use Rattle.std.specs.Prelude.{Option, Some, None, is_some}
use Rattle.std.specs.List.{AllByRecursion, filter, list_any}
use Rattle.rt_tree.specs.PathTree.{Key, PathTree, key_eq, is_null, leaf_of, child_of}
use Rattle.rt_tree.specs.Children.{children_of}
use Rattle.rt_tree.specs.Leaf.{LeafValue}
use Rattle.rt_order.specs.declared.index.Index.{Index}
use Rattle.rt_order.specs.declared.index.Index.TheVariants as index
use Rattle.rt_order.specs.KeyOrder.{integer_of}
use Rattle.rt_order.specs.Values.{Null}
use Rattle.rt_order.specs.Entries.{Entry, entry}
use Rattle.rt_order.specs.Cuts.{has}
use Rattle.rt_query.specs.Queries.{Query, is_filtered}
use Rattle.rt_query.specs.Select.{Shown, limited, sorted_by, select, tree_of, row_of}
use Rattle.rt_view.specs.declared.view.ViewIndex.{ViewIndex}
use Rattle.rt_view.specs.declared.view.ViewIndex.TheVariants.{Ordered, Plain, Filtered}
use Rattle.rt_view.specs.inside.Ranged.{OrderedChildren}
use Rattle.rt_view.specs.declared.change.Change.{Change}
use Rattle.rt_view.specs.declared.change.Change.TheVariants.{Removed}
use Rattle.rt_view.specs.declared.change.Kind.{Kind}
use Rattle.rt_view.specs.Changes.{row_changes}
use Rattle.rt_view.specs.inside.Given.{change_of, is_given}
use Rattle.rt_view.specs.inside.Windows.{Entries, IsWindow, value_at, without, before, known_in, put_inside, rest_in, shown_in}

-- the children in the range, in order
abbrev pub in_order : Query → List (Key × PathTree) → Entries
in_order q cs = filter (λ e. has q.range e.0) (sorted_by q.index cs)

-- and of these the ones that the limit shows
abbrev pub entries_shown : Query → PathTree → Entries
entries_shown q t = limited q.limit (in_order q (children_of t))

-- all children by their entries, in the order of their keys' bytes
abbrev pub entries_of : Index → List (Key × PathTree) → Entries
entries_of index cs = map (λ c. (entry index c, c.1)) cs

-- the query of all children in the same order
abbrev pub wholly : Query → Query
wholly q =
    record { path = q.path; index = q.index; range = record { lower = None; upper = None }; limit = q.limit }

-- the window of a tree: all its children, and of these the ones in the range cut by the limit
pub record IsWindowOf (query : Query) (known : PathTree) (window : OrderedChildren) : Type 0 where
  pub limit : window.limit ≡ query.limit
  pub range : window.children.range ≡ query.range
  pub all : known_in window ≡ sorted_by query.index (children_of known)
  pub cut : IsWindow query.limit (shown_in window) (rest_in window)
      (in_order query (children_of known))

-- none of these children has an integer key
abbrev pub AreWords : List (Key × PathTree) → Type 0
AreWords cs = AllByRecursion (λ c. integer_of c.0 ≡ None) cs

-- an unfiltered query by key shows the children of a tree as they stand there, if none has an integer key
pub record IsOrdered (query : Query) (known : PathTree) : Type 0 where
  pub plain : is_filtered query ≡ false
  pub index : query.index ≡ index.Key
  pub words : AreWords (children_of known)

-- the query's order: the tree's own, or that of a window
abbrev pub IsInOrder : Query → PathTree → Option OrderedChildren → Type 0
IsInOrder query known None = IsOrdered query known
IsInOrder query known (Some window) = IsWindowOf query known window

-- what is kept of a known tree: nothing, if it is in the query's order; its window; or with that what a
-- filtered query shows as a tree of its own
abbrev pub IsKept : Query → PathTree → ViewIndex → Type 0
IsKept query known Ordered = IsOrdered query known
IsKept query known (Plain window) = IsWindowOf query known window × (is_filtered query ≡ false)
IsKept query known (Filtered window tree) = IsWindowOf query known window × (is_filtered query ≡ true)
    × (tree ≡ tree_of (select query known))

-- what is shown as a tree: one of its own, or the known one
abbrev pub tree_in : PathTree → ViewIndex → PathTree
tree_in known Ordered = known
tree_in known (Plain window) = known
tree_in known (Filtered window tree) = tree

-- the window that is kept, if one is
abbrev pub window_in : ViewIndex → Option OrderedChildren
window_in Ordered = None
window_in (Plain window) = Some window
window_in (Filtered window tree) = Some window

-- the children in order: of a window, or by their keys as they stand in a tree
abbrev pub ordered_in : PathTree → Option OrderedChildren → Entries
ordered_in known None = entries_of index.Key (children_of known)
ordered_in known (Some window) = shown_in window

-- none of the named children comes to an integer key
abbrev pub ComesToWord : Key × PathTree → Type 0
ComesToWord c = is_null c.1 ≡ false → integer_of c.0 ≡ None

abbrev pub NameWords : List (Key × PathTree) → Type 0
NameWords cs = AllByRecursion ComesToWord cs

-- an entry of which the child before can be asked
abbrev pub CanAsk : PathTree → Option OrderedChildren → Entry → Type 0
CanAsk known None e = (e.0 ≡ Null) × (integer_of e.1 ≡ None) × AreWords (children_of known)
CanAsk known (Some window) e = has window.children.range e ≡ true

-- the leaf that is shown of a tree
abbrev pub leaf_in : Query → PathTree → Option LeafValue
leaf_in q t = if is_filtered q then None else leaf_of t

-- the children of what is shown, in order
abbrev pub rows_in_tree : Index → PathTree → Entries
rows_in_tree index t = sorted_by index (children_of t)

-- what stands under a key of a tree
abbrev pub stands_in : PathTree → Key → Option PathTree
stands_in t k = child_of (children_of t) k

-- what is shown, read off its tree
abbrev pub shown_by : Index → PathTree → Shown
shown_by index t = record { leaf = leaf_of t; rows = map row_of (rows_in_tree index t) }

-- ---- a child is put, or taken out

-- a child is put in its place, where it is in the range
abbrev pub put_in : Query → Key × PathTree → Entries → Entries
put_in q c es = put_inside q.range (entry q.index c) c.1 es

-- a child that may be null is put
abbrev pub brought_in : Query → Key → PathTree → Entries → Entries
brought_in q k t es = if is_null t then es else put_in q (k, t) es

-- the child that stood at a key is taken out
abbrev pub taken_out : Query → Key → Option PathTree → Entries → Entries
taken_out q k None es = es
taken_out q k (Some t) es = if has q.range (entry q.index (k, t)) then without
    (entry q.index (k, t)) es else es

-- ---- the keys of children that may be shown otherwise

abbrev pub is_noted : List Key → Key → Bool
is_noted noted k = list_any (λ j. key_eq j k) noted

-- more keys are noted, and under those that are not the same is shown
abbrev pub Notes : List Key → List Key → Entries → Entries → Type 0
Notes old new before after = (k : Key) → is_noted new k ≡ false → (is_noted old k ≡ false)
    × (value_at after k ≡ value_at before k)

-- the notes between a tree that was shown and what is shown now
abbrev pub NotesAll : Index → List Key → PathTree → Entries → Type 0
NotesAll index noted old shown = Notes [] noted (rows_in_tree index old) shown

-- of the entries those whose keys are noted
abbrev pub noted_in : List Key → Entries → Entries
noted_in noted es = filter (λ e. is_noted noted e.0.1) es

-- of the noted entries those that are shown no more
abbrev pub gone_from : List Key → Entries → Entries → Entries
gone_from noted new old = filter (λ e. is_noted noted e.0.1 && not (is_some (value_at new e.0.1))) old

-- of what is shown under a key now, and of what was, that which is gone
abbrev pub gone_at : Option PathTree → Option PathTree → Option PathTree
gone_at new old = if is_some new then None else old

-- under one key another child stands, or none, and under the others those before
abbrev pub SetsChild : Key → Option PathTree → List (Key × PathTree) → List (Key × PathTree) → Type 0
SetsChild key child before after = (k : Key)
    → child_of after k ≡ if key_eq key k then child else child_of before k

-- under each noted key the children after are what is shown there, and under another one those before
abbrev pub SetsNoted : List Key → Entries → List (Key × PathTree) → List (Key × PathTree) → Type 0
SetsNoted noted shown before after = (k : Key)
    → child_of after k ≡ if is_noted noted k then value_at shown k else child_of before k

-- ---- what is told of some entries

-- the changes of the rows, from a tree that was shown to what is shown now
abbrev pub changes_to : Index → PathTree → Entries → List Change
changes_to index old shown = row_changes index (map row_of (rows_in_tree index old)) (map row_of shown)

-- a child that is shown no more
abbrev pub removed_of : Entry × PathTree → Change
removed_of e = Removed e.0.1 e.1

-- the changes of one kind of these entries, which are among those that are shown, where a tree was
-- shown before
abbrev pub given_in : Kind → Index → PathTree → Entries → Entries → List Change
given_in kind index old shown es =
    map (λ e. change_of kind e.0.1 e.1 (before e.0 shown))
    (filter (λ e. is_given kind index (child_of (children_of old) e.0.1) e.1) es)
