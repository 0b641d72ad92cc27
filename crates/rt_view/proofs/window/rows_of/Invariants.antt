use Rattle.std.proofs.Common.{◌-◌, length}
use Rattle.rt_chain.specs.Chains.{in_half}
use Rattle.rt_view.specs.inside.ChildChain.{Walks, near_cut}
use Rattle.rt_view.proofs.window.rows_of.Given as goal

abbrev pub invariant-loop-alloc : goal.invariant-loop-alloc
invariant-loop-alloc l = Walks (near_cut l.fn.half l.fn.number (in_half l.fn.half l.chain)) l.rows.items l.next

abbrev pub decreases-loop-alloc : goal.decreases-loop-alloc
decreases-loop-alloc l = l.fn.number - length l.rows.items
