-- What a seat is told keeps it up to date: what it knows is what the core knows of it.
use Rattle.std.specs.Prelude.{◌≡◌, ℕ, false, List, [], ◌++◌, ◌⊎◌, true, None, IsTrue, is_some}
use Rattle.std.specs.List.{All}
use Rattle.rt_world.specs.declared.limits.Limits.{Limits}
use Rattle.rt_world.specs.declared.step.Step.{Step}
use Rattle.rt_world.specs.World.{World, empty_world}
use Rattle.rt_world.specs.Messages.{next}
use Rattle.rt_world.specs.Refusals.{refusal, is_stale}
use Rattle.rt_world.specs.Answers.{done_report, step, world_after}
use Rattle.rt_world.specs.Sound.{IsSound}
use Rattle.rt_mail.specs.Mailbox.{nothing_known, known_of}
use Rattle.rt_client.specs.Seats.{reflection, told_to, receipts_to, told_by, told_in, does_close}

-- ---- one step

-- of a step that is made: the receipt of the seat's own call and then its notes, taken by one who
-- knew what the core knew of the seat, make what the core knows of it after the step
abbrev pub MadeReflects : Type 0
MadeReflects =
    (w : World) (s : Step) (seat : ℕ) → IsSound w → refusal w s ≡ None → does_close seat s ≡ false
    → known_of (reflection w seat) (receipts_to seat w s ++ told_to seat (done_report w s).notes)
    ≡ reflection (next w s) seat

-- of a step that is refused or stale no seat is told anything, and the core knows what it knew
pub record TellsNothing (w : World) (s : Step) (seat : ℕ) : Type 0 where
  pub told : told_by seat w s (step w s).1 ≡ []
  pub stays : reflection (step w s).0 seat ≡ reflection w seat

abbrev pub UnmadeTellsNothing : Type 0
UnmadeTellsNothing =
    (w : World) (s : Step) (seat : ℕ)
    → IsTrue (is_some (refusal w s)) ⊎ is_stale w s ≡ true → TellsNothing w s seat

-- so of each step, whatever it is answered
abbrev pub StepReflects : Type 0
StepReflects =
    (w : World) (s : Step) (seat : ℕ) → IsSound w → does_close seat s ≡ false
    → known_of (reflection w seat) (told_by seat w s (step w s).1) ≡ reflection (step w s).0 seat

-- of a seat that the step closes the core knows nothing any more
abbrev pub ClosedIsForgotten : Type 0
ClosedIsForgotten =
    (w : World) (seat : ℕ) → reflection (next w (Step.CloseSeat seat)) seat ≡ nothing_known

-- ---- any steps

-- a seat that no step closes, and that takes all that it is told, in order, knows after any steps
-- just what the core knows of it
abbrev pub MirrorIsCore : Type 0
MirrorIsCore =
    (limits : Limits) (steps : List Step) (seat : ℕ)
    → All (λ (s : Step). does_close seat s ≡ false) steps
    → known_of nothing_known (told_in seat (empty_world limits) steps)
    ≡ reflection (world_after (empty_world limits) steps) seat

-- so it goes on from any world that holds what holds between steps
abbrev pub MirrorStaysCore : Type 0
MirrorStaysCore =
    (w : World) (steps : List Step) (seat : ℕ) → IsSound w
    → All (λ (s : Step). does_close seat s ≡ false) steps
    → known_of (reflection w seat) (told_in seat w steps) ≡ reflection (world_after w steps) seat
