use Rattle.rt_world.proofs.HoldsLaws.{empty_is_steady, stays_steady, worlds_are_steady}
use Rattle.rt_world.proofs.laws.steady_law.Goals as goal

pub returns : goal.returns
returns c = record { empty = empty_is_steady; next = stays_steady; worlds = worlds_are_steady }
