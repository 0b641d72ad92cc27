use Rattle.std.proofs.Common.{◌≡◌, ◌==◌, length, not}
use Rattle.std.specs.List.{filter}
use Rattle.rt_peer.specs.Peers.{Listen}
use Rattle.rt_peer.proofs.state.Board.remove_of.Given as goal

-- the tree stays, and the listens of others are those of before
abbrev pub invariant-loop-first : goal.invariant-loop-first
invariant-loop-first l = record {
  tree : l.self.tree ≡ l.fn.self.tree;
  others : filter (λ (m : Listen). not (m.connection == l.connection)) l.self.listens
      ≡ filter (λ (m : Listen). not (m.connection == l.connection)) l.fn.self.listens;
}

abbrev pub decreases-loop-first : goal.decreases-loop-first
decreases-loop-first l = length l.self.listens
