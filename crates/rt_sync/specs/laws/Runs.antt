-- Laws of runs.
use Rattle.std.specs.Prelude.{◌≡◌, List, Some}
use Rattle.rt_world.specs.declared.step.Step.{Step}
use Rattle.rt_world.specs.World.{World}
use Rattle.rt_world.specs.Answers.{Answer, answers, world_after}
use Rattle.rt_sync.specs.Core.{AppliesAll}

-- the world's steps are made and answered, one after another
pub record MakesAll (w : World) (steps : List Step) (told : List Answer) (v : World) : Type 0 where
  pub answers : told ≡ answers w steps
  pub world : v ≡ world_after w steps

-- so they are where each step is answered in order, and none lacked memory
abbrev pub AnsweredIsMade : Type 0
AnsweredIsMade =
    (steps : List Step) (told : List Answer) (w v : World)
    → AppliesAll (Some w) steps told (Some v) → MakesAll w steps told v
