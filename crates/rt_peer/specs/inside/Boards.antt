-- A board: the tree, and who listens.
use Rattle.std.specs.Prelude.{List}
use Rattle.rt_tree.specs.PathTree.{PathTree}
use Rattle.rt_peer.specs.Peers.{Listen}

pub record Board : Type 0 where
  pub tree : PathTree
  pub listens : List Listen
