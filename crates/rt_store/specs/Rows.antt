-- The children of a tree in the order of keys, and the rows that a walk meets.
use Rattle.std.specs.Prelude.{cond, List, [], ◌∷◌}
use Rattle.std.specs.FinMap as map_of
use Rattle.rt_tree.specs.PathTree.{Key, Path, PathTree, key_eq, is_null, child}
use Rattle.rt_tree.specs.Children.{children_of}
use Rattle.rt_order.specs.KeyOrder.{key_cmp}

-- some siblings: each key with the tree that stands there
abbrev pub Row : Type 0
Row = List (Key × PathTree)

-- the same entries in the order of keys
abbrev pub in_key_order : Row → Row
in_key_order [] = []
in_key_order (e ∷ es) = map_of.put key_cmp e.0 e.1 (in_key_order es)

-- the children of a tree in the order of keys
abbrev pub row : PathTree → Row
row t = in_key_order (children_of t)

-- the entries from the key on; none where it is not there
abbrev pub from_key : Key → Row → Row
from_key k [] = []
from_key k (e ∷ es) = cond (key_eq k e.0) (e ∷ es) (from_key k es)

-- the root alone, which has no key; none where the tree is null
abbrev pub root_row : PathTree → Row
root_row t = cond (is_null t) [] (([], t) ∷ [])

-- what stands at the path, and its siblings behind it; none where nothing stands there
abbrev pub from_path : PathTree → Path → Row
from_path t [] = root_row t
from_path t (k ∷ []) = from_key k (row t)
from_path t (k ∷ j ∷ p) = from_path (child t k) (j ∷ p)
