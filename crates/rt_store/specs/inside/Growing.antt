-- The children that nodes are made of.
use Rattle.rt_tree.specs.PathTree.{Key, PathTree}
use Rattle.rt_store.specs.declared.nodes.StoreChild.{StoreChild}

-- a borrowed child
abbrev pub seen : StoreChild → Key × PathTree
seen c = (c.key.now, c.tree.now)
