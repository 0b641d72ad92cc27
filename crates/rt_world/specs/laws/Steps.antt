-- Laws of one step of a world that holds what holds between steps, for whoever keeps such a world.
use Rattle.std.specs.Prelude.{◌≡◌, ◌<◌, ◌==◌, ℕ, true, false, not, List, [], ◌∷◌, ◌++◌, map}
use Rattle.std.specs.Prelude.{Option, Some, None}
use Rattle.std.specs.List.{filter, filter_map, find, list_any, AllPairs, Contains}
use Rattle.std.specs.Option.{option_and_then, option_to_list}
use Rattle.rt_tree.specs.Assignments.{do_overlap}
use Rattle.rt_query.specs.Queries.{Query}
use Rattle.rt_writes.specs.Writes.{Write, without}
use Rattle.rt_query.specs.Supply.{form}
use Rattle.rt_cache.specs.Brought.{Brought, with_form, may_put}
use Rattle.rt_cache.specs.Recover.{is_moved}
use Rattle.rt_wire.specs.declared.request.Action.{Action}
use Rattle.rt_wire.specs.declared.request.Asked.TheVariants.{Now, AtDisconnect}
use Rattle.rt_wire.specs.declared.request.Ending.{Ending}
use Rattle.rt_world.specs.declared.limits.Limits.{Limits}
use Rattle.rt_world.specs.declared.report.Note.{Note}
use Rattle.rt_world.specs.declared.step.Request.{Request}
use Rattle.rt_world.specs.declared.step.Step.{Step}
use Rattle.rt_world.specs.World.{Reason, Listener, World, empty_world, entries_of, pending}
use Rattle.rt_world.specs.World.{listen_of}
use Rattle.rt_world.specs.After.{listeners_after, requests_after, kept_after, started_by, pushed}
use Rattle.rt_world.specs.After.{brought_after, renewed}
use Rattle.rt_world.specs.steps.Closing.{unseated}
use Rattle.rt_world.specs.Messages.{stopped_by, next}
use Rattle.rt_world.specs.Refusals.{refusal}
use Rattle.rt_world.specs.Answers.{batch_from, batch_note, batch_notes, settled_note, world_after}
use Rattle.rt_world.specs.Touched.{entries_by}
use Rattle.rt_world.specs.Called.{IsCalled}
use Rattle.rt_world.specs.Limited.{IsAllowed}
use Rattle.rt_world.specs.Reached.{IsReached}
use Rattle.rt_world.specs.Sound.{IsSound}
use Rattle.rt_world.specs.laws.World.{changes_listeners}

-- ---- what holds between steps

-- a world that steps lead to is sound
abbrev pub WorldsAreSound : Type 0
WorldsAreSound =
    (limits : Limits) (steps : List Step) → IsSound (world_after (empty_world limits) steps)

-- and what is brought there is what calls of a cache leave
abbrev pub WorldsAreCalled : Type 0
WorldsAreCalled =
    (limits : Limits) (steps : List Step)
    → IsCalled (world_after (empty_world limits) steps).brought

-- a step that is done keeps a world sound
abbrev pub StaysSound : Type 0
StaysSound = (w : World) (s : Step) → IsSound w → IsSound (next w s)

-- of a step that is not refused no refusal's condition holds
abbrev pub NotRefusedIsAllowed : Type 0
NotRefusedIsAllowed = (w : World) (s : Step) → refusal w s ≡ None → IsAllowed w s

-- ---- what a step leaves as it is

-- the listeners stay where it registers and ends none
abbrev pub ListenersStay : Type 0
ListenersStay =
    (w : World) (s : Step) → changes_listeners s ≡ false → listeners_after w s ≡ w.listeners

-- and where it does it has no entries
abbrev pub ChangesHaveNoEntries : Type 0
ChangesHaveNoEntries =
    (w : World) (s : Step) → changes_listeners s ≡ true → entries_by w s ≡ []

-- a step starts and stops no listen
pub record KeepsListens (w : World) (s : Step) : Type 0 where
  pub kept : kept_after w s ≡ w.kept
  pub started : started_by w s ≡ []
  pub stopped : stopped_by w s ≡ []

-- so it is where the listeners stay
abbrev pub ListensStay : Type 0
ListensStay =
    (w : World) (s : Step) → IsSound w → listeners_after w s ≡ w.listeners → KeepsListens w s

-- a listener that is not moved and whose path no entry of the step overlaps, renewed after the step
abbrev pub UnmetStays : Type 0
UnmetStays =
    (w : World) (s : Step) → IsSound w → IsCalled w.brought → IsReached w → refusal w s ≡ None
    → (l : Listener) → Contains w.listeners l → Contains (listeners_after w s) l
    → list_any (λ a. do_overlap a.0 l.query.path) (entries_by w s) ≡ false
    → is_moved w.brought (brought_after w s) l.query ≡ false
    → renewed (brought_after w s) (pending (requests_after w s)) l ≡ l

-- a listener that is renewed is one of that number, seat and query
abbrev pub RenewedIsOne : Type 0
RenewedIsOne =
    (brought : Brought) (writes : List Write) (l : Listener)
    → let m = renewed brought writes l in
    (m.number ≡ l.number) × (m.seat ≡ l.seat) × (m.query ≡ l.query)

-- ---- what the listens brought

-- what a step leaves brought is reached
abbrev pub StaysReached : Type 0
StaysReached = (w : World) (s : Step) → IsReached (next w s)

-- where a step registers and ends no listener its change of cover leaves what is brought
abbrev pub PushIsBrought : Type 0
PushIsBrought =
    (w : World) (s : Step) → IsSound w → IsCalled w.brought → IsReached w → refusal w s ≡ None
    → changes_listeners s ≡ false → brought_after w s ≡ pushed w s

-- where a step registers a listener its change of cover leaves what is brought, with the listener's
-- form registered
abbrev pub ListenBringsNothing : Type 0
ListenBringsNothing =
    (w : World) (seat : ℕ) (query : Query) → IsSound w → IsCalled w.brought → IsReached w
    → brought_after w (Step.Listen seat query) ≡ with_form (form query) w.brought

-- a push may be put on each listen that is kept
abbrev pub KeptMayBePut : Type 0
KeptMayBePut =
    (w : World) (tag : ℕ) (query : Query) → IsSound w → IsReached w → listen_of w tag ≡ Some query
    → may_put w.brought query ≡ true

-- ---- pending writes

-- a request to write is pending, as the last
abbrev pub WriteIsPending : Type 0
WriteIsPending =
    (rs : List Request) (id : ℕ) (seat : Option ℕ) (action : Action)
    → pending (rs ++ record { id = id; seat = seat; asked = Now action } ∷ [])
    ≡ pending rs ++ record { id = id; entries = entries_of action } ∷ []

-- a request for the end of the connection is not pending
abbrev pub EndingIsNotPending : Type 0
EndingIsNotPending =
    (rs : List Request) (id : ℕ) (seat : Option ℕ) (ending : Ending)
    → pending (rs ++ record { id = id; seat = seat; asked = AtDisconnect ending } ∷ [])
    ≡ pending rs

-- a settled request is not pending
abbrev pub SettledIsNotPending : Type 0
SettledIsNotPending =
    (rs : List Request) (id : ℕ)
    → pending (filter (λ r. not (r.id == id)) rs) ≡ without id (pending rs)

-- that of a closed seat stays
abbrev pub UnseatedIsPending : Type 0
UnseatedIsPending = (rs : List Request) (seat : ℕ) → pending (map (unseated seat) rs) ≡ pending rs

-- ---- notes

-- of a settlement the seat of the one request of that number is told
abbrev pub SettledOnceTold : Type 0
SettledOnceTold =
    (d : ℕ × Option Reason) (rs : List Request) → AllPairs (λ (r s : Request). r.id < s.id) rs
    → filter_map (settled_note d) rs
    ≡ option_to_list (option_and_then (settled_note d) (find (λ r. r.id == d.0) rs))

-- the note of a listener's change of view in a step
abbrev pub note_of : World → Step → Listener → Option Note
note_of w s l =
    let m = renewed (brought_after w s) (pending (requests_after w s)) l in
    batch_note m (batch_from l.view m)

-- the batches of a step are those of its listeners, each from the view that it has
abbrev pub BatchesAreNotes : Type 0
BatchesAreNotes =
    (w : World) (s : Step) → IsSound w
    → batch_notes w s ≡ filter_map (note_of w s) (listeners_after w s)

-- a listener that stays as it is is told nothing
abbrev pub StillIsQuiet : Type 0
StillIsQuiet =
    (w : World) (l : Listener) → IsSound w → Contains w.listeners l
    → batch_note l (batch_from l.view l) ≡ None
