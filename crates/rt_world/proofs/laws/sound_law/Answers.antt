use Rattle.rt_world.specs.World.{empty_world}
use Rattle.rt_world.proofs.HoldsLaws.{called_world}
use Rattle.rt_world.proofs.SoundLaws.{sound_empty, sound_next, sound_run}
use Rattle.rt_world.proofs.laws.sound_law.Goals as goal

pub returns : goal.returns
returns c = record {
  worlds = λ limits steps. sound_run steps (empty_world limits) (sound_empty limits);
  called = called_world;
  next = sound_next;
}
