-- What a step answers, and the world after steps.
use Rattle.std.specs.Prelude.{ℕ, Bool, true, false, if◌then◌else◌, List, [], ◌∷◌, ◌++◌, map, ◌==◌}
use Rattle.std.specs.Prelude.{Option, Some, None, Ok, Err, Result}
use Rattle.std.specs.List.{filter, filter_map, find, fold}
use Rattle.std.specs.Option.{option_map, option_map_or, option_and_then, option_or}
use Rattle.rt_query.specs.Select.{Shown}
use Rattle.rt_view.specs.declared.change.Change.{Change}
use Rattle.rt_view.specs.Changes.{changes}
use Rattle.rt_world.specs.declared.error.CoreError.{CoreError}
use Rattle.rt_world.specs.declared.report.Body.TheVariants.{Settled, Cancelled, Batch}
use Rattle.rt_world.specs.declared.report.Note.{Note}
use Rattle.rt_world.specs.declared.report.Outcome.TheVariants.{Done, Stale}
use Rattle.rt_world.specs.declared.report.Report.{Report}
use Rattle.rt_world.specs.declared.step.Request.{Request}
use Rattle.rt_world.specs.declared.step.Step.{Step}
use Rattle.rt_world.specs.World.{Reason, Listener, World}
use Rattle.rt_world.specs.After.{kind, renewed_after, listener_given}
use Rattle.rt_world.specs.After.{request_given}
use Rattle.rt_world.specs.steps.Revoking.{is_cancelled}
use Rattle.rt_world.specs.Messages.{next}
use Rattle.rt_world.specs.Refusals.{refusal, is_stale}

-- ---- notes

-- the note of a settled request, if its seat is open
abbrev pub settled_note : ℕ × Option Reason → Request → Option Note
settled_note d r =
    if r.id == d.0
    then option_map (λ seat. record { seat = seat; body = Settled d.0 d.1 }) r.seat
    else None

-- the settled request's seat is told
abbrev pub settled_notes : World → Step → List Note
settled_notes w s = option_map_or (λ d. filter_map (settled_note d) w.requests) (kind s).settled []

-- the listeners that a revocation ends are told, by number
abbrev pub cancelled_notes : World → Step → List Note
cancelled_notes w s =
    option_map_or
    (λ r. map
    (λ l. record { seat = l.seat; body = Cancelled l.number r.1 })
    (filter (is_cancelled w r.0) w.listeners))
    (kind s).revoked
    []

-- the changes from a listener's view to its next one
abbrev pub batch_from : Option Shown → Listener → List Change
batch_from old l = option_map_or (λ new. changes l.query.index old new) l.view []

-- the note of a batch, where it is not empty
abbrev pub batch_note : Listener → List Change → Option Note
batch_note l [] = None
batch_note l (c ∷ cs) =
    Some (record { seat = l.seat; body = Batch (record { listener = l.number; changes = c ∷ cs }) })

-- the view that a listener of that number had
abbrev pub view_before : List Listener → ℕ → Option Shown
view_before listeners number =
    option_and_then (λ l. l.view) (find (λ l. l.number == number) listeners)

-- those who are told of their changes: each listener whose view is another now, by number
abbrev pub changed_notes : List Listener → List Listener → List Note
changed_notes old new =
    filter_map (λ l. batch_note l (batch_from (view_before old l.number) l)) new

-- each listener's batch, by number
abbrev pub batch_notes : World → Step → List Note
batch_notes w s = changed_notes w.listeners (renewed_after w s)

-- ---- answers

-- the answer to a step
abbrev pub Answer : Type 0
Answer = Result Report CoreError

-- the report of a step that is stale
abbrev pub stale_report : Report
stale_report = record { outcome = Stale; given = None; notes = [] }

-- the report of a step that is done: the number that it gives; who is told of a settlement, of a
-- listener's end, and of changes
abbrev pub done_report : World → Step → Report
done_report w s = record {
  outcome = Done;
  given = option_or (listener_given w s) (request_given w s);
  notes = settled_notes w s ++ cancelled_notes w s ++ changed_notes w.listeners (renewed_after w s);
}

-- the answer and the world after it, by the refusal and whether it is stale
abbrev pub step_by : Option CoreError → Bool → World → Step → World × Answer
step_by (Some e) stale w s = (w, Err e)
step_by None true w s = (w, Ok stale_report)
step_by None false w s = (next w s, Ok (done_report w s))

-- one step of the core
abbrev pub step : World → Step → World × Answer
step w s = step_by (refusal w s) (is_stale w s) w s

-- the world after the steps, one after another
abbrev pub world_after : World → List Step → World
world_after w steps = fold (λ v s. (step v s).0) w steps

-- the answers to the steps
abbrev pub answers : World → List Step → List Answer
answers w [] = []
answers w (s ∷ rest) = (step w s).1 ∷ answers (step w s).0 rest
