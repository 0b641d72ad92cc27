-- What each kind of step leaves and tells, part by part, as a core makes it.
use Rattle.std.specs.Prelude.{◌≡◌, ◌<◌, ℕ, ◌+◌, Bool, true, false, not, if◌then◌else◌, List, [], ◌∷◌}
use Rattle.std.specs.Prelude.{◌++◌, map, ◌==◌, Option, Some, None}
use Rattle.std.specs.List.{filter, find, fold, All}
use Rattle.std.specs.Option.{option_and_then, option_to_list}
use Rattle.rt_tree.specs.Assignments.{Assignment, is_at_or_above}
use Rattle.rt_query.specs.Queries.{Query}
use Rattle.rt_writes.specs.Writes.{Write, IsShallow, without}
use Rattle.rt_wire.specs.declared.client.ClientMessage.{ClientMessage}
use Rattle.rt_wire.specs.declared.request.Action.{Action}
use Rattle.rt_wire.specs.declared.request.Asked.{Asked}
use Rattle.rt_wire.specs.declared.request.Asked.TheVariants.{Now, AtDisconnect}
use Rattle.rt_wire.specs.declared.request.Ending.{Ending}
use Rattle.rt_world.specs.declared.report.Note.{Note}
use Rattle.rt_world.specs.declared.step.Step.{Step}
use Rattle.rt_world.specs.World.{Reason, World, entries_of, pending, listen_of}
use Rattle.rt_world.specs.After.{kind, requests_after, part_pushed, pushed}
use Rattle.rt_world.specs.Messages.{greeting, request_sent}
use Rattle.rt_world.specs.Messages.{messages_online, next}
use Rattle.rt_world.specs.Refusals.{refusal, is_stale}
use Rattle.rt_world.specs.Answers.{settled_note, batch_notes, done_report}
use Rattle.rt_world.specs.Touched.{entries_settled, entries_pushed, entries_by}
use Rattle.rt_world.specs.steps.Kind.{Part}
use Rattle.rt_world.specs.steps.Pushing.{push_of}
use Rattle.rt_world.specs.Met.{renewed_met, all_told}
use Rattle.rt_world.specs.Called.{IsCalled}
use Rattle.rt_world.specs.Reached.{IsReached}
use Rattle.rt_world.specs.Sound.{IsSound}
use Rattle.rt_world.specs.laws.World.{changes_listeners}

-- ---- a step that is made

-- what holds of a world between steps, and the step is neither refused nor stale
pub record IsMade (w : World) (s : Step) : Type 0 where
  pub sound : IsSound w
  pub called : IsCalled w.brought
  pub not_refused : refusal w s ≡ None
  pub not_stale : is_stale w s ≡ false

-- the step leaves this world, and tells this
pub record Leaves (w : World) (s : Step) (v : World) (said : List Note) : Type 0 where
  pub world : next w s ≡ v
  pub notes : (done_report w s).notes ≡ said

-- ---- where no listener begins or ends

-- the listeners that an entry meets are renewed and told, over what is pushed and is pending then;
-- the listens stay, and of messages the request's alone is sent
pub record LeavesListens (w : World) (s : Step) : Type 0 where
  pub listeners : (next w s).listeners
      ≡ map (renewed_met (entries_by w s) (pushed w s) (pending (requests_after w s))) w.listeners
  pub brought : (next w s).brought ≡ pushed w s
  pub kept : (next w s).kept ≡ w.kept
  pub next_tag : (next w s).next_tag ≡ w.next_tag
  pub messages : messages_online w s ≡ request_sent w s
  pub notes : batch_notes w s
      ≡ all_told (entries_by w s) (pushed w s) (pending (requests_after w s)) w.listeners

-- so it is where what is brought is reached, whatever the step
abbrev pub StillLeavesListens : Type 0
StillLeavesListens =
    (w : World) (s : Step) → IsMade w s → IsReached w → changes_listeners s ≡ false
    → LeavesListens w s

-- ---- settlements

-- the world without the request of that number, where its write's entries meet the views
abbrev pub settled_world : World → ℕ → World
settled_world w id =
    let writes = without id (pending w.requests) in
    record w {
      listeners = map (renewed_met (entries_settled w id) w.brought writes) w.listeners;
      requests = filter (λ r. not (r.id == id)) w.requests;
    }

-- the seat of the request is told, if it is open, and then the listeners
abbrev pub settled_told : World → ℕ → Option Reason → List Note
settled_told w id why =
    let writes = without id (pending w.requests) in
    option_to_list (option_and_then (settled_note (id, why)) (find (λ r. r.id == id) w.requests))
    ++ all_told (entries_settled w id) w.brought writes w.listeners

-- what the acceptance of a request makes
abbrev pub AcceptedIsMade : Type 0
AcceptedIsMade =
    (w : World) (id : ℕ) → let s = Step.Accepted id in
    IsMade w s → IsReached w → Leaves w s (settled_world w id) (settled_told w id None)

-- what the refusal of a request makes
abbrev pub RefusedIsMade : Type 0
RefusedIsMade =
    (w : World) (id : ℕ) (why : Reason) → let s = Step.Refused id why in
    IsMade w s → IsReached w → Leaves w s (settled_world w id) (settled_told w id (Some why))

-- ---- pushes

-- the world once the parts are pushed
abbrev pub pushed_world : World → List Part → World
pushed_world w parts =
    let brought = fold (part_pushed w) w.brought parts in
    record w {
      listeners = map (renewed_met (entries_pushed parts) brought (pending w.requests)) w.listeners;
      brought = brought;
    }

-- what the listeners are told then: each once, however many parts it meets
abbrev pub pushed_told : World → List Part → List Note
pushed_told w parts =
    all_told (entries_pushed parts) (fold (part_pushed w) w.brought parts) (pending w.requests)
    w.listeners

-- a push of these parts, in whatever form it came
abbrev pub Pushes : List Part → Step → Type 0
Pushes parts s = kind s ≡ push_of parts

-- what it makes
abbrev pub PushIsMade : Type 0
PushIsMade =
    (w : World) (s : Step) (parts : List Part) → Pushes parts s
    → IsMade w s → IsReached w → Leaves w s (pushed_world w parts) (pushed_told w parts)

-- an entry that may be pushed on the listen of the query
pub record IsPushOn (q : Query) (a : Assignment) : Type 0 where
  pub under : is_at_or_above q.path a.0 ≡ true
  pub shallow : IsShallow a

-- so may each entry of a part, where its tag is kept
abbrev pub IsPartOn : World → Part → Type 0
IsPartOn w p = (q : Query) → listen_of w p.0 ≡ Some q → All (IsPushOn q) p.1

-- so is each part of a push that is not refused
abbrev pub PushMayPush : Type 0
PushMayPush =
    (w : World) (s : Step) (parts : List Part) → Pushes parts s → refusal w s ≡ None
    → All (IsPartOn w) parts

-- ---- requests and the connection

-- the message of a request, while there is a connection
abbrev pub asked_sent : Bool → ℕ → Asked → List ClientMessage
asked_sent is_connected id asked = if is_connected then ClientMessage.Ask id asked ∷ [] else []

-- the world once the seat has asked for this, and what is sent of it
abbrev pub asked_world : World → ℕ → Asked → World
asked_world w seat asked =
    record w {
      requests =
          w.requests ++ record { id = w.next_request; seat = Some seat; asked = asked } ∷ [];
      outgoing = w.outgoing ++ asked_sent w.is_connected w.next_request asked;
      next_request = w.next_request + 1;
    }

-- the pending writes with that of the next number
abbrev pub writes_with : World → Action → List Write
writes_with w action =
    pending w.requests ++ record { id = w.next_request; entries = entries_of action } ∷ []

-- a write shows in the views that its entries meet
abbrev pub WriteIsMade : Type 0
WriteIsMade =
    (w : World) (seat : ℕ) (action : Action) → let s = Step.Write seat action in
    IsMade w s → IsReached w
    → Leaves w s (record (asked_world w seat (Now action)) {
      listeners =
          map (renewed_met (entries_of action) w.brought (writes_with w action)) w.listeners;
    }) (all_told (entries_of action) w.brought (writes_with w action) w.listeners)

-- what is asked for the end of the connection shows nowhere
abbrev pub EndingIsMade : Type 0
EndingIsMade =
    (w : World) (seat : ℕ) (ending : Ending) → let s = Step.OnDisconnect seat ending in
    IsMade w s → IsReached w → Leaves w s (asked_world w seat (AtDisconnect ending)) []

-- a connection that opens sends the version, the listens that are kept, and then the unsettled requests
abbrev pub ConnectedIsMade : Type 0
ConnectedIsMade =
    (w : World) → let s = Step.Connected in
    IsMade w s → IsReached w
    → Leaves w s (record w {
      is_connected = true;
      outgoing = greeting w;
    }) []

-- one that ends drops what is to be sent
abbrev pub DisconnectedIsMade : Type 0
DisconnectedIsMade =
    (w : World) → let s = Step.Disconnected in
    IsMade w s → IsReached w → Leaves w s (record w { is_connected = false; outgoing = [] }) []

-- ---- what a write may be asked

-- the entries of a write that is not refused are no deeper than trees are
abbrev pub WritesAreShallow : Type 0
WritesAreShallow =
    (w : World) (seat : ℕ) (action : Action) → refusal w (Step.Write seat action) ≡ None
    → All IsShallow (entries_of action)

-- the next number is above those of all pending writes
abbrev pub NextIsAbovePending : Type 0
NextIsAbovePending =
    (w : World) → IsSound w → All (λ (x : Write). x.id < w.next_request) (pending w.requests)
