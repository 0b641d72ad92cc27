-- What of a seat's ring is given to a sink or a mirror, and delivered over turns.
use Rattle.std.specs.Prelude.{◌≡◌, ◌<◌, ◌≤◌, ◌+◌, ◌*◌, ◌⊎◌, ℕ, List, [], ◌++◌, length, drop}
use Rattle.std.specs.Prelude.{Option, Some, None, IsTrue, is_some}
use Rattle.std.specs.List.{fold}
use Rattle.rt_mail.specs.declared.error.MailError.{MailError}
use Rattle.rt_mail.specs.declared.error.MailError.TheVariants as mail
use Rattle.rt_mail.specs.declared.item.Item.{Item}
use Rattle.rt_mail.specs.Mailbox.{Known, known_of}
use Rattle.rt_mail.specs.Lanes.{Ring, with_items}
use Rattle.rt_client.specs.declared.error.ClientError.{ClientError}
use Rattle.rt_client.specs.declared.error.ClientError.TheVariants.{Failed, WrongSeat, MailboxFull}
use Rattle.rt_client.specs.declared.error.ClientError.TheVariants.{TooManySeats, Core, NoMemory}
use Rattle.rt_client.specs.Calls.{Locked, Seated}
use Rattle.rt_client.specs.Settling.{Settles, RefusesSettle, Comes}

-- the seat with nothing in its ring
abbrev pub emptied : Seated → Seated
emptied seat = record seat { ring = record seat.ring { items = [] } }

-- ---- to a mirror

-- a mirror that has not failed takes all that the ring holds, in order, and they are counted
pub record TakesAll (had : Ring) (old : Option Known) (count : ℕ) (left : Ring) (new : Option Known)
    : Type 0 where
  pub known : Known
  pub works : old ≡ Some known
  pub counted : count ≡ length had.items
  pub knows : new ≡ Some (known_of known had.items)
  pub ring : left ≡ record had { items = [] }

-- after some first items memory lacks for the next one, which is dropped; those behind it stay, and the
-- mirror has failed
pub record TakesSome (had : Ring) (old : Option Known) (left : Ring) (new : Option Known)
    : Type 0 where
  pub worked : IsTrue (is_some old)
  pub before : ℕ
  pub next : before < length had.items
  pub ring : left ≡ record had { items = drop (before + 1) had.items }
  pub failed : new ≡ None

-- so of a seat's ring
pub record IsMirrored (old : Seated) (mirror : Option Known) (count : ℕ) (new : Seated)
    (known : Option Known) : Type 0 where
  pub ring : Ring
  pub takes : TakesAll old.ring mirror count ring known
  pub seat : new ≡ record old { ring = ring }

-- why it is not: the mirror has failed before, which changes nothing, or memory lacks
abbrev pub RefusesMirror : Seated → Option Known → MailError → Seated → Option Known → Type 0
RefusesMirror old mirror mail.Failed new known = (mirror ≡ None) × (known ≡ None) × (new ≡ old)
RefusesMirror old mirror mail.NoMemory new known =
    (ring : Ring) × TakesSome old.ring mirror ring known × (new ≡ record old { ring = ring })

-- ---- to a sink, over turns: `after` is what an item makes of the sink

-- one turn on the locked value: the seat's ring is filled from its lane, and then the sink takes all that
-- the ring holds, in order; the ring is empty
pub record Turns {S : Type 0} (after : S → Item → S) (locked : Locked) (had : Seated) (old : S)
    (left : Seated) (new : S) : Type 0 where
  pub rest : Locked
  pub between : Seated
  pub settles : Settles locked had rest between
  pub sink : new ≡ fold after old between.ring.items
  pub seat : left ≡ emptied between

-- why it is not made: the seat is not settled
pub record RefusesTurnOf (locked : Locked) (had : Seated) (why : ClientError) (left : Seated)
    : Type 0 where
  pub rest : Locked
  pub refused : RefusesSettle locked had why rest left

-- over so many turns, one at least: the sink takes what the ring held and then what its seat's lane handed
-- over to it, in order, which in no turn is more than the ring can hold; the ring is empty
pub record HandsOut {S : Type 0} (after : S → Item → S) (turns : ℕ) (had : Seated) (old : S)
    (left : Seated) (new : S) : Type 0 where
  pub came : List Item
  pub comes : Comes turns had came
  pub fits : length came ≤ turns * had.ring.capacity
  pub sink : new ≡ fold after old (had.ring.items ++ came)
  pub seat : left ≡ emptied had

-- after so many turns; after none nothing is changed
abbrev pub AfterTurns : {S : Type 0} → (S → Item → S) → ℕ → Seated → S → Seated → S → Type 0
AfterTurns after turns had old left new =
    ((turns ≡ 0) × (left ≡ had) × (new ≡ old)) ⊎ ((0 < turns) × HandsOut after turns had old left new)

-- all turns are made, or fewer where the gate may stop
pub record Delivers {S : Type 0} (after : S → Item → S) (MayStop : Type 0) (turns : ℕ)
    (had : Seated) (old : S) (left : Seated) (new : S) : Type 0 where
  pub made : ℕ
  pub most : made ≤ turns
  pub all : MayStop ⊎ made ≡ turns
  pub turned : AfterTurns after made had old left new

-- what a turn that is refused makes of the seat: nothing, or for want of memory some items are handed
-- over
abbrev pub RefusesTurn : Seated → ClientError → Seated → Type 0
RefusesTurn had Failed left = left ≡ had
RefusesTurn had WrongSeat left = left ≡ had
RefusesTurn had MailboxFull left = ⊥
RefusesTurn had TooManySeats left = ⊥
RefusesTurn had (Core why) left = ⊥
RefusesTurn had NoMemory left =
    (came : List Item) × (left ≡ record had { ring = with_items came had.ring })

-- fewer turns are made, and the next one is refused
pub record RefusesDelivery {S : Type 0} (after : S → Item → S) (turns : ℕ) (had : Seated) (old : S)
    (why : ClientError) (left : Seated) (new : S) : Type 0 where
  pub made : ℕ
  pub fewer : made < turns
  pub between : Seated
  pub turned : AfterTurns after made had old between new
  pub refused : RefusesTurn between why left
