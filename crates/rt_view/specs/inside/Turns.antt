-- What is shown otherwise once a child was put or taken out: at its own entry, and for the cut that moves.
use Rattle.std.specs.Prelude.{◌≡◌, Bool, true, false, if◌then◌else◌, Option, Some, None, is_some, IfSome}
use Rattle.std.specs.FinMap as map_of
use Rattle.std.specs.FinMap.Entries.{find}
use Rattle.rt_tree.specs.PathTree.{Key, PathTree, key_eq}
use Rattle.rt_order.specs.Entries.{Entry, entry, entry_cmp}
use Rattle.rt_order.specs.Cuts.{has}
use Rattle.rt_tree.specs.PathTree.{is_null}
use Rattle.rt_query.specs.Queries.{Query}
use Rattle.rt_view.specs.declared.window.Turned.{Turned}
use Rattle.rt_view.specs.inside.Windows.{Entries, value_at, without}

-- ---- as entries

-- a child was taken out of those that are shown, which leaves these; another one of the rest may have come
-- in for it
abbrev pub Refilled : Option (Key × PathTree) → Entries → Entries → Entries → Type 0
Refilled None rest left new = new ≡ left
Refilled (Some c) rest left new =
    (e : Entry) × (e.1 ≡ c.0) × (find entry_cmp e rest ≡ Some c.1) × (new ≡ map_of.put entry_cmp e c.1 left)

-- and only where it was shown
abbrev pub Refills : Turned → Entries → Entries → Entries → Type 0
Refills turned rest left new =
    Refilled turned.crossed rest left new × IfSome turned.crossed (λ c. turned.was ≡ true)

-- a child was put to those that are shown, which makes these; another one of them, or itself, may have gone
-- out for it
abbrev pub Spilled : Option (Key × PathTree) → Entries → Entries → Type 0
Spilled None more new = new ≡ more
Spilled (Some c) more new =
    (e : Entry) × (e.1 ≡ c.0) × (find entry_cmp e more ≡ Some c.1) × (new ≡ without e more)

-- or it was put to the rest, and all is shown as before
abbrev pub SpilledBy : Bool → Bool → Option (Key × PathTree) → Entries → Entries → Entries → Type 0
SpilledBy true was crossed old more new = Spilled crossed more new
SpilledBy false was crossed old more new = (crossed ≡ None) × (was ≡ false) × (new ≡ old)

abbrev pub Spills : Turned → Entries → Entries → Entries → Type 0
Spills turned old more new = SpilledBy turned.is turned.was turned.crossed old more new

-- ---- as values under keys

abbrev pub Values : Type 0
Values = Key → Option PathTree

-- another value under one key
abbrev pub set_at : Key → Option PathTree → Values → Values
set_at k v f j = if key_eq k j then v else f j

-- with a child that crossed, and without it
abbrev pub came_in : Option (Key × PathTree) → Values → Values
came_in None f = f
came_in (Some c) f = set_at c.0 (Some c.1) f

abbrev pub went_out : Option (Key × PathTree) → Values → Values
went_out None f = f
went_out (Some c) f = set_at c.0 None f

-- what is shown under a key has the entry of the child that comes there
abbrev pub Stands : Query → Key → PathTree → Entries → Type 0
Stands q k child es = (x : PathTree) → value_at es k ≡ Some x
    → (is_null child ≡ false) × (entry q.index (k, x) ≡ entry q.index (k, child))
    × (has q.range (entry q.index (k, child)) ≡ true)

-- what stood at a key was taken out, or stands at the entry of the child that comes
pub record Leaves (q : Query) (k : Key) (old : Option PathTree) (new : PathTree) (was : Bool)
    (crossed : Option (Key × PathTree)) (before after : Entries) : Type 0 where
  pub own : (if was then old else value_at after k) ≡ value_at before k
  pub stands : Stands q k new after
  pub apart : IfSome crossed (λ c. (value_at before c.0 ≡ None) × (key_eq k c.0 ≡ false))
  pub others : (j : Key) → key_eq k j ≡ false → value_at after j ≡ came_in crossed (value_at before) j

-- a child that comes, where it is shown
abbrev pub shown_if : Bool → PathTree → Option PathTree
shown_if is child = if is then Some child else None

-- a child came to a key
pub record Comes (k : Key) (child : PathTree) (was is : Bool) (crossed : Option (Key × PathTree))
    (before after : Entries) : Type 0 where
  pub own : was ≡ is_some (value_at before k)
  pub apart : IfSome crossed (λ c. set_at k (shown_if is child) (value_at before) c.0 ≡ Some c.1)
  pub all : (j : Key) → value_at after j ≡ went_out crossed (set_at k (shown_if is child) (value_at before)) j
