use Rattle.std.proofs.Common.{◌≡◌, ◌-◌, ◌+◌, ℕ, vec_len}
use Rattle.rt_nodes.specs.inside.Often.{in_nth}
use Rattle.rt_nodes.proofs.children.lengthen.Given as goal

abbrev pub invariant-loop-alloc : goal.invariant-loop-alloc
invariant-loop-alloc l = (m n : ℕ) → in_nth m l.below.items n ≡ in_nth m l.initial.below.items n

abbrev pub decreases-loop-alloc : goal.decreases-loop-alloc
decreases-loop-alloc l = l.node + 1 - vec_len l.below
