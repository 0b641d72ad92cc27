-- When a step is made, and what is owed then.
use Rattle.std.specs.Prelude.{◌≡◌, ℕ, false, Option, Some, None}
use Rattle.rt_world.specs.declared.step.Step.{Step}
use Rattle.rt_world.specs.World.{Reason, World}
use Rattle.rt_world.specs.Messages.{next}
use Rattle.rt_world.specs.Refusals.{refusal, is_stale}
use Rattle.rt_world.specs.Answers.{done_report}
use Rattle.rt_world.specs.Called.{IsCalled}
use Rattle.rt_world.specs.Limited.{IsWithin}
use Rattle.rt_world.specs.Reached.{IsReached}
use Rattle.rt_world.specs.Sound.{IsSound}
use Rattle.rt_sync.specs.declared.state.StepNews.{StepNews}

-- what holds between steps
pub record IsGood (w : World) : Type 0 where
  pub sound : IsSound w
  pub called : IsCalled w.brought
  pub reached : IsReached w
  pub within : IsWithin w

-- the step is neither refused nor stale
pub record IsDue (w : World) (s : Step) : Type 0 where
  pub good : IsGood w
  pub not_refused : refusal w s ≡ None
  pub not_stale : is_stale w s ≡ false

-- the world after the step, with what the report says
pub record IsNext (w : World) (s : Step) (made : World × StepNews) : Type 0 where
  pub world : made.0 ≡ next w s
  pub given : made.1.given ≡ (done_report w s).given
  pub notes : made.1.notes.items ≡ (done_report w s).notes

-- the step that settles a request: it is accepted, or refused for a reason
abbrev pub settling : ℕ → Option Reason → Step
settling id None = Step.Accepted id
settling id (Some why) = Step.Refused id why
