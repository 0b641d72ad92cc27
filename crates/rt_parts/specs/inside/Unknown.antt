-- The children of a tree that are not known, and the tree without them.
use Rattle.std.specs.Prelude.{Bool, not, List, [], ◌∷◌}
use Rattle.std.specs.List.{filter, fold}
use Rattle.rt_tree.specs.PathTree.{Key, PathTree, null, put}

-- the keys of the children that are not known, in order
abbrev pub unknown_keys : (Key → Bool) → List Key → List Key
unknown_keys is_known keys = filter (λ k. not (is_known k)) keys

-- the tree without the child of that key
abbrev pub without_child : PathTree → Key → PathTree
without_child t k = put t (k ∷ []) null

-- the tree without the children of these keys
abbrev pub without_children : PathTree → List Key → PathTree
without_children t keys = fold without_child t keys
