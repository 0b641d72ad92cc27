-- What holds of a world between steps stays so after each, and is so before any step.
use Rattle.std.specs.Prelude.{◌≡◌, List, Some, None}
use Rattle.rt_cover.specs.Runs.{Change, told}
use Rattle.rt_wire.specs.declared.client.ClientMessage.{ClientMessage}
use Rattle.rt_world.specs.declared.limits.Limits.{Limits}
use Rattle.rt_world.specs.declared.step.Step.{Step}
use Rattle.rt_world.specs.World.{World, empty_world}
use Rattle.rt_world.specs.Messages.{next}
use Rattle.rt_world.specs.Refusals.{refusal}
use Rattle.rt_world.specs.Answers.{answers, world_after}
use Rattle.rt_world.specs.Covering.{cover_in, cover_after, change_by, delta_by}
use Rattle.rt_world.specs.Headline.{Headline}
use Rattle.rt_world.specs.Called.{IsCalled}
use Rattle.rt_world.specs.Limited.{IsWithin}
use Rattle.rt_world.specs.Reached.{IsReached}
use Rattle.rt_world.specs.Sound.{IsSound}

-- ---- worlds between steps

-- what holds between steps
pub record IsSteady (w : World) : Type 0 where
  pub sound : IsSound w
  pub called : IsCalled w.brought
  pub reached : IsReached w

-- it holds before any step
abbrev pub EmptyIsSteady : Type 0
EmptyIsSteady = (limits : Limits) → IsSteady (empty_world limits)

-- and after a step that is not refused
abbrev pub StaysSteady : Type 0
StaysSteady = (w : World) (s : Step) → IsSteady w → refusal w s ≡ None → IsSteady (next w s)

-- so in each world that steps lead to
abbrev pub WorldsAreSteady : Type 0
WorldsAreSteady =
    (limits : Limits) (steps : List Step) → IsSteady (world_after (empty_world limits) steps)

-- ---- each on its own

-- what is brought is what calls of a cache leave
abbrev pub StaysCalled : Type 0
StaysCalled =
    (w : World) (s : Step) → IsSound w → IsCalled w.brought → IsReached w → refusal w s ≡ None
    → IsCalled (next w s).brought

-- no limit is passed
abbrev pub EmptyIsWithin : Type 0
EmptyIsWithin = (limits : Limits) → IsWithin (empty_world limits)

abbrev pub StaysWithin : Type 0
StaysWithin =
    (w : World) (s : Step) → IsSound w → IsWithin w → refusal w s ≡ None → IsWithin (next w s)

-- ---- messages that are taken out

-- the world with other messages to be sent
abbrev pub sending : World → List ClientMessage → World
sending w messages = record w { outgoing = messages }

-- it is as sound
abbrev pub TakenIsSound : Type 0
TakenIsSound = (w : World) (messages : List ClientMessage) → IsSound w → IsSound (sending w messages)

-- and as steady
abbrev pub TakenIsSteady : Type 0
TakenIsSteady =
    (w : World) (messages : List ClientMessage) → IsSteady w → IsSteady (sending w messages)

-- ---- the headline

-- it holds of any steps, from a sound world
abbrev pub HeadlineOfSound : Type 0
HeadlineOfSound = (w : World) (steps : List Step) → IsSound w
    → Headline w steps (answers w steps) (world_after w steps)

-- ---- covers

-- a step takes the cover to what its change of listeners makes of it
abbrev pub CoverFollows : Type 0
CoverFollows = (w : World) (s : Step) → IsSound w → cover_in (next w s) ≡ cover_after w s

-- and starts and stops what that change tells
abbrev pub DeltaFollows : Type 0
DeltaFollows =
    (w : World) (s : Step) → IsSound w → (change : Change) → change_by w s ≡ Some change
    → told (cover_in w) change ≡ delta_by w s
