-- Runs of changes: the tree after any list of them.
use Rattle.std.specs.Prelude.{◌+◌, nat_lt, if◌then◌else◌, List, length}
use Rattle.std.specs.List.{fold}
use Rattle.rt_tree.specs.PathTree.{PathTree, null, put, levels}
use Rattle.rt_tree.specs.declared.limits.TheConstants.{MAX_LEVELS}
use Rattle.rt_store.specs.declared.store.Change.{Change}
use Rattle.rt_store.specs.declared.store.Change.TheVariants.{Set, Clear}

-- the tree after a change; one that is too deep leaves it as it was
abbrev pub after : PathTree → Change → PathTree
after t (Set p u) = if nat_lt MAX_LEVELS (length p + levels u) then t else put t p u
after t (Clear p) = put t p null

-- the tree after changes, one after another
abbrev pub after_all : PathTree → List Change → PathTree
after_all t changes = fold after t changes
