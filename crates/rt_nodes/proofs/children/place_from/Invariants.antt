use Rattle.std.proofs.Common.{◌≡◌, take}
use Rattle.rt_nodes.specs.inside.Often.{in_piece}
use Rattle.rt_nodes.proofs.children.place_from.Given as goal

abbrev pub invariant-loop-place : goal.invariant-loop-place
invariant-loop-place l = l.from ≡ 0 → in_piece l.child (take l.place l.piece) ≡ 0
