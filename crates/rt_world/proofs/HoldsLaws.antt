-- What holds between steps stays so.
use Rattle.std.proofs.Common.{◌≡◌, List, refl, arith, slice_index_or, [], ◌∷◌, Bool, true, false, Option, Some, None, ◌∙◌}
use Rattle.rt_query.specs.Queries.{Query}
use Rattle.rt_world.specs.declared.error.CoreError.{CoreError}
use Rattle.rt_world.specs.declared.step.Step.{Step}
use Rattle.rt_world.specs.World.{World, empty_world}
use Rattle.rt_world.specs.Refusals.{refusal, is_stale}
use Rattle.rt_world.specs.Answers.{step, step_by, world_after}
use Rattle.rt_world.specs.Headline.{view_by}
use Rattle.rt_world.specs.laws.Holds.{sending, TakenIsSound, TakenIsSteady, IsSteady, EmptyIsSteady, StaysSteady, WorldsAreSteady, EmptyIsWithin, StaysWithin, StaysCalled}
use Rattle.rt_world.specs.laws.Steps.{WorldsAreCalled}
use Rattle.rt_world.proofs.CalledLaws.{called_next}
use Rattle.rt_world.proofs.LimitLaws.{allowed, counts, within_next}
use Rattle.rt_world.proofs.ReachedLaws.{stays_reached}
use Rattle.rt_world.proofs.SoundLaws.{sound_empty, sound_next}

-- ---- worlds

pub empty_is_steady : EmptyIsSteady
empty_is_steady limits = record {
  sound = sound_empty limits;
  called = record { calls = []; allowed = tt; left = refl };
  reached = record { forms = refl; regions = λ k d lt. absurd (omega arith); windows = λ k d lt. absurd (omega arith) };
}

pub stays_steady : StaysSteady
stays_steady w s h free = record { sound = sound_next w s h.sound; called = called_next w h.sound h.reached s h.called free; reached = stays_reached w s }

pub steady_step : (w : World) (s : Step) → IsSteady w → IsSteady (step w s).0
steady_step w s h = at (refusal w s) (is_stale w s) refl
  where
    at : (o : Option CoreError) (b : Bool) → refusal w s ≡ o → IsSteady (step_by o b w s).0
    at (Some e) b f = h
    at None true f = h
    at None false f = stays_steady w s h f

steady_run : (steps : List Step) (w : World) → IsSteady w → IsSteady (world_after w steps)
steady_run [] w h = h
steady_run (s ∷ rest) w h = steady_run rest (step w s).0 (steady_step w s h)

pub worlds_are_steady : WorldsAreSteady
worlds_are_steady limits steps = steady_run steps (empty_world limits) (empty_is_steady limits)

pub called_world : WorldsAreCalled
called_world limits steps = (worlds_are_steady limits steps).called

pub stays_called : StaysCalled
stays_called w s sound called reached free = called_next w sound reached s called free

pub empty_is_within : EmptyIsWithin
empty_is_within limits = record { listeners = omega arith; requests = omega arith; next_listener = omega arith; next_request = omega arith; next_tag = omega arith }

pub stays_within : StaysWithin
stays_within w s h i free = within_next w s (counts w s h i (allowed w s free))

-- ---- messages that are taken out

pub taken_is_sound : TakenIsSound
taken_is_sound w messages h = record {
  rises = h.rises;
  below = h.below;
  views = λ k d lt. let l = slice_index_or w.listeners k d in h.views k d lt ∙ same l.is_primed l.query;
  primed = h.primed;
  requests = h.requests;
  unsettled = h.unsettled;
  listens = h.listens;
}
  where
    same : (b : Bool) (q : Query) → view_by b w q ≡ view_by b (sending w messages) q
    same true q = refl
    same false q = refl

pub taken_is_steady : TakenIsSteady
taken_is_steady w messages h = record {
  sound = taken_is_sound w messages h.sound;
  called = h.called;
  reached = record { forms = (h.reached).forms; regions = (h.reached).regions; windows = (h.reached).windows };
}
