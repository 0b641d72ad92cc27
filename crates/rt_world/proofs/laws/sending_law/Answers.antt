use Rattle.rt_world.proofs.HoldsLaws.{taken_is_sound, taken_is_steady}
use Rattle.rt_world.proofs.laws.sending_law.Goals as goal

pub returns : goal.returns
returns c = record { sound = taken_is_sound; steady = taken_is_steady }
