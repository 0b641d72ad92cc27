use Rattle.std.proofs.Common.{◌≡◌, length}
use Rattle.std.specs.Prelude.{◌&&◌}
use Rattle.std.specs.Cmp.Lexicographic.{pointwise}
use Rattle.rt_map.proofs.map.same_entries.Given as goal

abbrev pub invariant-loop-key : goal.invariant-loop-key
invariant-loop-key g l = pointwise (λ p q. g.K.PartialEq.eq p.0 q.0 && g.V.PartialEq.eq p.1 q.1) l.initial.left l.initial.right ≡ pointwise (λ p q. g.K.PartialEq.eq p.0 q.0 && g.V.PartialEq.eq p.1 q.1) l.left l.right

abbrev pub decreases-loop-key : goal.decreases-loop-key
decreases-loop-key g l = length l.left
