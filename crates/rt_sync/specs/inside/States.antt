-- What holds of a core's state between steps, and what a step makes of it.
use Rattle.std.specs.Prelude.{◌≡◌}
use Rattle.rt_world.specs.declared.step.Step.{Step}
use Rattle.rt_world.specs.Answers.{Answer, step}
use Rattle.rt_sync.specs.declared.state.State.{State}
use Rattle.rt_sync.specs.declared.state.StepNews.{StepNews}
use Rattle.rt_sync.specs.inside.Due.{IsDue, IsGood, IsNext}
use Rattle.rt_sync.specs.inside.StateView.{held_of, world_of, IsTied}
use Rattle.rt_sync.specs.inside.Viewed.{AreViewed, FollowsStep, HasViews}

-- what holds between steps
pub record HoldsWell (state : State) : Type 0 where
  pub tied : IsTied state.cover (world_of state)
  pub good : IsGood (world_of state)
  pub viewed : AreViewed (held_of state)

-- so it is, and the step is neither refused nor stale
pub record IsReady (state : State) (s : Step) : Type 0 where
  pub tied : IsTied state.cover (world_of state)
  pub viewed : AreViewed (held_of state)
  pub due : IsDue (world_of state) s

-- the step is made of it, and this is told
pub record Makes (old : State) (s : Step) (new : State) (told : StepNews) : Type 0 where
  pub tied : IsTied new.cover (world_of new)
  pub next : IsNext (world_of old) s (world_of new, told)
  pub views : HasViews (held_of old) s (held_of new)

-- the step is answered, whether it is made or not
pub record Takes (old : State) (s : Step) (new : State) (answer : Answer) : Type 0 where
  pub tied : IsTied new.cover (world_of new)
  pub answered : step (world_of old) s ≡ (world_of new, answer)
  pub follows : FollowsStep (held_of old) s (held_of new)
