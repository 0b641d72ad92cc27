-- Laws of the rows that a walk meets.
use Rattle.std.specs.Prelude.{◌≡◌}
use Rattle.std.specs.List.Sorted.{IsStrictlySortedBy}
use Rattle.std.specs.Map.{keys_of}
use Rattle.rt_tree.specs.PathTree.{Key, Path, PathTree, sub, child, child_of, non_null}
use Rattle.rt_order.specs.KeyOrder.{key_cmp}
use Rattle.rt_store.specs.Rows.{row, from_path}
use Rattle.rt_store.specs.Stored.{first_tree}

-- in the row of a tree each key stands in front of all behind it, so none stands twice
abbrev pub RowsRise : Type 0
RowsRise = (t : PathTree) → IsStrictlySortedBy key_cmp (keys_of (row t))

-- a key stands in the row just where the child of the key isn't null, and with that child
abbrev pub RowsHaveTheChildren : Type 0
RowsHaveTheChildren = (t : PathTree) (k : Key) → child_of (row t) k ≡ non_null (child t k)

-- what stands at a path is met first from there
abbrev pub PathsLead : Type 0
PathsLead = (t : PathTree) (p : Path) → first_tree (from_path t p) ≡ sub t p
