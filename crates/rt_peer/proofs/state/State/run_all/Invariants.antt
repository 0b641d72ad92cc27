use Rattle.std.proofs.Common.{◌≡◌, ◌++◌, drop}
use Rattle.rt_peer.specs.Pushes.{tree_after, pushes_after}
use Rattle.rt_peer.proofs.state.State.run_all.Given as goal

abbrev pub invariant-loop-action : goal.invariant-loop-action
invariant-loop-action l =
    record {
      peer :
          record l.self { tree = tree_after l.self.tree (drop l.action-index l.actions) }
          ≡ record l.initial.self { tree = tree_after l.initial.self.tree l.actions };
      sent :
          l.sent.items
          ++ pushes_after l.self.newer l.self.listens l.self.tree (drop l.action-index l.actions)
          ≡ l.initial.sent.items
          ++ pushes_after l.initial.self.newer l.initial.self.listens l.initial.self.tree l.actions;
    }
