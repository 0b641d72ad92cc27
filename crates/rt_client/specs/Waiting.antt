-- What a seat's thread waits for, and what calls make that lock the client themselves.
use Rattle.std.specs.Prelude.{◌≡◌, ℕ, Bool, true, false, ◌||◌, not, ◌==◌, List, [], length}
use Rattle.std.specs.Prelude.{Option, Some, None, Result, Ok, Err}
use Rattle.std.specs.Option.{option_map_or}
use Rattle.rt_wire.specs.declared.client.ClientMessage.{ClientMessage}
use Rattle.rt_world.specs.declared.step.Call.{Call}
use Rattle.rt_world.specs.declared.report.Outcome.{Outcome}
use Rattle.rt_world.specs.declared.step.Step.{Step}
use Rattle.rt_mail.specs.declared.item.Item.{Item}
use Rattle.rt_mail.specs.Lanes.{Line, with_items}
use Rattle.rt_client.specs.declared.shared.Done.{Done}
use Rattle.rt_client.specs.declared.error.ClientError.{ClientError}
use Rattle.rt_client.specs.declared.error.ClientError.TheVariants.{Failed}
use Rattle.rt_client.specs.Calls.{Locked, Seated, own_lane, MakesCall, Numbers, RefusesCall}
use Rattle.rt_client.specs.Calls.{Comes, RefusesOn, HasFailed, Keeps}
use Rattle.rt_client.specs.Opened.{OpensSeat, RefusesSeat}
use Rattle.rt_client.specs.Settling.{Settles, RefusesSettle, Closes, RefusesClose, TakesMessage}

-- whether there are none
abbrev pub has_none : List Item → Bool
has_none items = length items == 0

-- whether an open lane has nothing for its seat
abbrev pub is_quiet : Option Line → Bool
is_quiet None = false
is_quiet (Some lane) = has_none lane.waiting

-- whether something is there for the seat: an item in its ring or its lane, or what it would be refused for,
-- as it would where the client has failed, or the seat is closed or another client's
abbrev pub is_due : Locked → Seated → Bool
is_due locked seat =
    not (has_none seat.ring.items)
    || option_map_or (λ h. not (is_quiet (own_lane locked h seat))) locked.held true

-- ---- under the client's own lock: `old` is the value that the guard gave and `new` the one that it took back,
-- and of both holds what the lock keeps

-- the seat is settled, once something was there for it, or those who wait were told to stop
pub record IsSettled (had left : Seated) : Type 0 where
  pub old : Locked
  pub new : Locked
  pub settles : Settles old had new left
  pub gave : Keeps old
  pub took : Keeps new
  pub due : (is_due old had || old.stopped) ≡ true

-- or it is not
pub record IsUnsettled (had : Seated) (why : ClientError) (left : Seated) : Type 0 where
  pub old : Locked
  pub new : Locked
  pub refused : RefusesSettle old had why new left
  pub gave : Keeps old
  pub took : Keeps new

-- what a wait makes of the seat: where its ring holds something, nothing; else it is settled, and items come
-- that its lane held, unless the client was told to stop
pub record Awaits (had : Seated) (there : Bool) (left : Seated) : Type 0 where
  pub came : List Item
  pub seat : left ≡ record had { ring = with_items came had.ring }
  pub told : there ≡ not (has_none left.ring.items)
  pub held : has_none had.ring.items ≡ false → came ≡ []
  pub settled : has_none had.ring.items ≡ true → IsSettled had left

-- what one who waits for a message finds: the first that is to be sent, which is taken out; that none is,
-- where those who wait were told to stop; that the client has failed; or nothing, and it waits on
abbrev pub FindsMessage : Locked → Option (Result (Option ClientMessage) ClientError) → Locked → Type 0
FindsMessage old None new = TakesMessage old None new × (old.stopped ≡ false)
FindsMessage old (Some (Ok None)) new = TakesMessage old None new × (old.stopped ≡ true)
FindsMessage old (Some (Ok (Some message))) new = TakesMessage old (Some message) new
FindsMessage old (Some (Err why)) new = (why ≡ Failed) × HasFailed old × (new ≡ old)

-- it is found in the value that the guard gave, and this is what is left
pub record IsFound (answer : Result (Option ClientMessage) ClientError) (new : Locked) : Type 0 where
  pub old : Locked
  pub finds : FindsMessage old (Some answer) new
  pub gave : Keeps old

-- and that is taken back
pub record IsSent (answer : Result (Option ClientMessage) ClientError) : Type 0 where
  pub new : Locked
  pub found : IsFound answer new
  pub took : Keeps new

-- ---- calls, so

-- the seat's call is made, and the new listener or request has that number
pub record IsNumbered (seat : Seated) (c : Call) (n : ℕ) (left : Seated) : Type 0 where
  pub old : Locked
  pub new : Locked
  pub made : Numbers old seat c n new left
  pub gave : Keeps old
  pub took : Keeps new

-- so of a call that is given none
pub record IsMade (seat : Seated) (c : Call) (left : Seated) : Type 0 where
  pub old : Locked
  pub new : Locked
  pub done : Done
  pub made : MakesCall old seat c done new left
  pub gave : Keeps old
  pub took : Keeps new

-- so of any call, which is answered so
pub record IsDone (seat : Seated) (c : Call) (done : Done) (left : Seated) : Type 0 where
  pub old : Locked
  pub new : Locked
  pub made : MakesCall old seat c done new left
  pub gave : Keeps old
  pub took : Keeps new

-- or it is refused
pub record IsUnmade (seat : Seated) (c : Call) (why : ClientError) (left : Seated) : Type 0 where
  pub old : Locked
  pub new : Locked
  pub refused : RefusesCall old seat c why new left
  pub gave : Keeps old
  pub took : Keeps new

-- the seat is closed
pub record IsClosed (seat : Seated) : Type 0 where
  pub old : Locked
  pub new : Locked
  pub closes : Closes old seat new
  pub gave : Keeps old
  pub took : Keeps new

-- or it is not
pub record IsUnclosed (seat : Seated) (why : ClientError) : Type 0 where
  pub old : Locked
  pub new : Locked
  pub refused : RefusesClose old seat why new
  pub gave : Keeps old
  pub took : Keeps new

-- a seat is opened
pub record IsOpened (capacity : ℕ) (seat : Seated) : Type 0 where
  pub old : Locked
  pub new : Locked
  pub opens : OpensSeat old capacity new seat
  pub gave : Keeps old
  pub took : Keeps new

-- or none is
pub record IsUnopened (why : ClientError) : Type 0 where
  pub old : Locked
  pub refused : RefusesSeat old why
  pub gave : Keeps old

-- a step of the connection is made, and has that outcome: one that the step can have
pub record HasOutcome (s : Step) (outcome : Outcome) : Type 0 where
  pub old : Locked
  pub new : Locked
  pub comes : Comes old s outcome new
  pub gave : Keeps old
  pub took : Keeps new

-- or it is refused, for a cause that the step can have
pub record HasRefusal (s : Step) (why : ClientError) : Type 0 where
  pub old : Locked
  pub new : Locked
  pub refused : RefusesOn old s why new
  pub gave : Keeps old
  pub took : Keeps new
