use Rattle.std.proofs.Common.{◌≤◌, length}
use Rattle.rt_tree.specs.Assignments.{is_at_or_above}
use Rattle.rt_parts.specs.inside.Pairs.{KeepsPairs}
use Rattle.rt_parts.specs.inside.Placed.{HaveFrom, is_paired}
use Rattle.rt_parts.proofs.places.push_above.Given as goal

-- the others are done
abbrev pub invariant-loop-left : goal.invariant-loop-left
invariant-loop-left l = record {
  within : l.left ≤ length l.places;
  kept : KeepsPairs l.initial.pairs.items l.pairs.items;
  all : HaveFrom (λ x. is_at_or_above x.path l.path) (is_paired l.entry l.pairs.items) l.places l.left;
}

abbrev pub decreases-loop-left : goal.decreases-loop-left
decreases-loop-left l = l.left
