use Rattle.rt_world.proofs.HeadlineLaws.{headline_sound}
use Rattle.rt_world.proofs.HoldsLaws.{stays_called, empty_is_within, stays_within}
use Rattle.rt_world.proofs.laws.holding_law.Goals as goal

pub returns : goal.returns
returns c = record { called = stays_called; empty = empty_is_within; within = stays_within; headline = headline_sound }
