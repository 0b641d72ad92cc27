-- Seats: what the core knows of one, and what a step tells it.
use Rattle.std.specs.Prelude.{ℕ, Bool, false, if◌then◌else◌, List, [], ◌∷◌, ◌++◌, map, ◌==◌}
use Rattle.std.specs.Prelude.{Option, Some, None, Ok, Err, unwrap_or}
use Rattle.std.specs.List.{filter, filter_map}
use Rattle.std.specs.Option.{option_map, option_map_or, option_or}
use Rattle.rt_view.specs.Changes.{by_keys, rows_in}
use Rattle.rt_world.specs.declared.report.Body.{Body}
use Rattle.rt_world.specs.declared.report.Body.TheVariants as body
use Rattle.rt_world.specs.declared.report.Note.{Note}
use Rattle.rt_world.specs.declared.step.Call.{Call}
use Rattle.rt_world.specs.declared.step.Call.TheVariants as call
use Rattle.rt_world.specs.declared.step.Request.{Request}
use Rattle.rt_world.specs.declared.step.Step.{Step}
use Rattle.rt_world.specs.After.{listener_given, request_given}
use Rattle.rt_world.specs.World.{Listener, World}
use Rattle.rt_world.specs.Answers.{Answer, step}
use Rattle.rt_mail.specs.declared.item.Item.{Item}
use Rattle.rt_mail.specs.declared.item.Item.TheVariants as item
use Rattle.rt_mail.specs.declared.item.Receipt.{Receipt}
use Rattle.rt_mail.specs.declared.item.Receipt.TheVariants.{Listened, Unlistened, Wrote, Asked}
use Rattle.rt_mail.specs.Mailbox.{Children, Known}

-- ---- what the core knows of a seat

-- a listener with the rows of its view by their keys; it has none while there is no view
abbrev pub shown_by : Listener → ℕ × Children
shown_by l = (l.number, by_keys (rows_in l.view))

-- whether the request is that seat's
abbrev pub is_of_seat : ℕ → Request → Bool
is_of_seat seat r = option_map_or (λ s. s == seat) r.seat false

-- a seat's listeners with the rows of their views, and its unsettled requests
abbrev pub reflection : World → ℕ → Known
reflection w seat = record {
  listeners = map shown_by (filter (λ l. l.seat == seat) w.listeners);
  requests = map (λ r. r.id) (filter (is_of_seat seat) w.requests);
}

-- ---- what a step tells a seat

-- what a note tells, as an item
abbrev pub item_of : Body → Item
item_of (body.Settled id why) = item.Settled id why
item_of (body.Cancelled n why) = item.Cancelled n why
item_of (body.Batch b) = item.Batch b

-- what the notes tell a seat, in order
abbrev pub told_to : ℕ → List Note → List Item
told_to seat notes = filter_map (λ n. if n.seat == seat then Some (item_of n.body) else None) notes

-- the seat whose call the step is, and the call, if it is one
abbrev pub call_of : Step → Option (ℕ × Call)
call_of (Step.Listen seat query) = Some (seat, call.Listen query)
call_of (Step.Unlisten seat listener) = Some (seat, call.Unlisten listener)
call_of (Step.Write seat action) = Some (seat, call.Write action)
call_of (Step.OnDisconnect seat ending) = Some (seat, call.OnDisconnect ending)
call_of (Step.Data tag path tree) = None
call_of (Step.DataMerge tag entries) = None
call_of (Step.Push parts) = None
call_of (Step.Accepted id) = None
call_of (Step.Refused id why) = None
call_of (Step.Revoked tag why) = None
call_of Step.Connected = None
call_of Step.Disconnected = None
call_of (Step.CloseSeat seat) = None

abbrev pub caller_of : Step → Option ℕ
caller_of s = option_map (λ c. c.0) (call_of s)

-- the receipt of a call whose step gives that number: it repeats the call
abbrev pub receipt_with : ℕ → Call → Receipt
receipt_with number (call.Listen query) = Listened number query
receipt_with number (call.Unlisten listener) = Unlistened listener
receipt_with number (call.Write action) = Wrote number action
receipt_with number (call.OnDisconnect ending) = Asked number ending

-- the number that a step gives to the listener or the request that it makes, if it makes one
abbrev pub given_by : World → Step → Option ℕ
given_by w s = option_or (listener_given w s) (request_given w s)

-- the seat whose call the step is, and the receipt that the call is answered with; the end of a listener
-- is given no number
abbrev pub receipt_of : World → Step → Option (ℕ × Receipt)
receipt_of w s =
    option_map (λ c. (c.0, receipt_with (unwrap_or (given_by w s) 0) c.1)) (call_of s)

-- the receipt for a seat, where the step is its call
abbrev pub receipts_to : ℕ → World → Step → List Item
receipts_to seat w s =
    option_map_or (λ r. if r.0 == seat then item.Receipt r.1 ∷ [] else []) (receipt_of w s) []

-- the receipts among items, in order
abbrev pub receipt_in : Item → Option Receipt
receipt_in (item.Receipt r) = Some r
receipt_in (item.Settled id why) = None
receipt_in (item.Cancelled n why) = None
receipt_in (item.Batch b) = None

abbrev pub receipts_in : List Item → List Receipt
receipts_in items = filter_map receipt_in items

-- what a seat is told of an answer to a step: the receipt of its own call, and then its notes; of a
-- refusal nothing
abbrev pub told_by : ℕ → World → Step → Answer → List Item
told_by seat w s (Ok report) = receipts_to seat w s ++ told_to seat report.notes
told_by seat w s (Err e) = []

-- what a seat is told of the steps, one after another
abbrev pub told_in : ℕ → World → List Step → List Item
told_in seat w [] = []
told_in seat w (s ∷ rest) = told_by seat w s (step w s).1 ++ told_in seat (step w s).0 rest

-- ---- the end of a seat

-- the seat that the step closes, if it closes one
abbrev pub closed_by : Step → Option ℕ
closed_by (Step.Listen seat query) = None
closed_by (Step.Unlisten seat listener) = None
closed_by (Step.Write seat action) = None
closed_by (Step.OnDisconnect seat ending) = None
closed_by (Step.Data tag path tree) = None
closed_by (Step.DataMerge tag entries) = None
closed_by (Step.Push parts) = None
closed_by (Step.Accepted id) = None
closed_by (Step.Refused id why) = None
closed_by (Step.Revoked tag why) = None
closed_by Step.Connected = None
closed_by Step.Disconnected = None
closed_by (Step.CloseSeat seat) = Some seat

-- whether the step closes that seat
abbrev pub does_close : ℕ → Step → Bool
does_close seat s = option_map_or (λ n. n == seat) (closed_by s) false
