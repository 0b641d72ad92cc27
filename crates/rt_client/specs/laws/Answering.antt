-- Each call of a seat that is made is answered by one receipt, whatever else is done beside.
use Rattle.std.specs.Prelude.{◌≡◌, ℕ, List, [], ◌∷◌, ◌++◌, unwrap_or}
use Rattle.rt_mail.specs.declared.item.Item.{Item}
use Rattle.rt_world.specs.declared.step.Call.{Call}
use Rattle.rt_client.specs.declared.shared.Done.{Done}
use Rattle.rt_client.specs.Seats.{receipt_with, receipts_in}
use Rattle.rt_client.specs.Calls.{Locked, Seated, Keeps, MakesCall}
use Rattle.rt_client.specs.Settling.{Settles, Comes}
use Rattle.rt_client.specs.Waiting.{IsMade}

-- the ring gets one receipt, behind those that it holds: it repeats the call, with the number that the call
-- is given
abbrev pub AnswersOnce : Type 0
AnswersOnce =
    (old new : Locked) (seat left : Seated) (c : Call) (done : Done) → Keeps old
    → MakesCall old seat c done new left
    → receipts_in left.ring.items
    ≡ receipts_in seat.ring.items ++ receipt_with (unwrap_or done.given 0) c ∷ []

-- a settling gives it none
abbrev pub SettlesUnasked : Type 0
SettlesUnasked =
    (old new : Locked) (seat left : Seated) → Keeps old → Settles old seat new left
    → receipts_in left.ring.items ≡ receipts_in seat.ring.items

-- nor do any settlings
abbrev pub ComesUnasked : Type 0
ComesUnasked = (n : ℕ) (seat : Seated) (came : List Item) → Comes n seat came → receipts_in came ≡ []

-- what two calls make of a seat under the client's own lock, one call doesn't
abbrev pub TwiceIsNotOnce : Type 0
TwiceIsNotOnce =
    (seat between left : Seated) (first second c : Call) → IsMade seat first between
    → IsMade between second left → IsMade seat c left → ⊥
