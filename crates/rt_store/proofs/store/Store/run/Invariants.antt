use Rattle.std.proofs.Common.{◌≡◌, take}
use Rattle.rt_store.specs.Runs.{after_all}
use Rattle.rt_store.proofs.store.Store.run.Given as goal

abbrev pub invariant-loop-change : goal.invariant-loop-change
invariant-loop-change l = l.self.tree ≡ after_all l.initial.self.tree (take l.change-index l.changes)
