use Rattle.std.proofs.Common.{take}
use Rattle.rt_parts.specs.inside.Placed.{HaveAt}
use Rattle.rt_parts.proofs.renewal.numbers_at.Given as goal

-- those at the paths so far
abbrev pub invariant-loop-at : goal.invariant-loop-at
invariant-loop-at l = HaveAt (take l.at l.queries) l.numbers.items l.places
