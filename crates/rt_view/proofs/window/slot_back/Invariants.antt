use Rattle.std.proofs.Common.{◌-◌, ◌≤◌}
use Rattle.rt_view.specs.inside.ChildChain.{Backs}
use Rattle.rt_view.proofs.window.slot_back.Given as goal

abbrev pub invariant-loop-left : goal.invariant-loop-left
invariant-loop-left l = (l.left ≤ l.fn.number) × Backs l.chain.front (l.fn.number - l.left) l.slot l.previous

abbrev pub decreases-loop-left : goal.decreases-loop-left
decreases-loop-left l = l.left
