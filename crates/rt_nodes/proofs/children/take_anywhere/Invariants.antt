use Rattle.std.proofs.Common.{◌≡◌, take}
use Rattle.rt_nodes.specs.inside.Often.{in_pieces}
use Rattle.rt_nodes.proofs.children.take_anywhere.Given as goal

abbrev pub invariant-loop-at : goal.invariant-loop-at
invariant-loop-at g l = (l.pieces ≡ l.initial.pieces) × (in_pieces l.child (take l.at l.pieces.items) ≡ 0)
