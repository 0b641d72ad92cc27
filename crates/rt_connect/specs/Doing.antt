-- What lines and the connection do to a client and its seats, and what is printed for it. Where memory is
-- refused nothing is answered: a call that answers was refused for another cause.
use Rattle.std.specs.Prelude.{◌≡◌, ◌≢◌, ◌⊎◌, ◌-◌, ◌==◌, ◌++◌, ℕ, if◌then◌else◌, codes}
use Rattle.std.specs.Prelude.{List, [], ◌∷◌, set, Option, Some, None}
use Rattle.std.specs.Option.{option_and_then}
use Rattle.std.specs.List.{slice_get}
use Rattle.rt_cover.specs.declared.listen.Kept.{Kept}
use Rattle.rt_world.specs.declared.step.Call.{Call}
use Rattle.rt_world.specs.declared.report.Outcome.{Outcome}
use Rattle.rt_world.specs.declared.report.Outcome.TheVariants.{Done as IsDone}
use Rattle.rt_world.specs.declared.step.Step.{Step}
use Rattle.rt_client.specs.declared.shared.Done.{Done}
use Rattle.rt_client.specs.declared.error.ClientError.{ClientError}
use Rattle.rt_client.specs.declared.error.ClientError.TheVariants.{NoMemory, WrongSeat}
use Rattle.rt_client.specs.Calls.{Comes, Locked, MakesCall, RefusesCall, RefusesOn, Seated}
use Rattle.rt_client.specs.Settling.{Closes, RefusesClose, RefusesCover, ShowsCover}
use Rattle.rt_lines.specs.Printing.{cover_text, line, outcome_text}
use Rattle.rt_lines.specs.Printing as lines
use Rattle.rt_lines.specs.declared.error.Refusal.TheVariants.{Wire}
use Rattle.rt_lines.specs.declared.order.Order.{Order}
use Rattle.rt_lines.specs.declared.order.Order.TheVariants as order
use Rattle.rt_wire.specs.declared.error.WireError.TheVariants.{NotJson}
use Rattle.rt_wire.specs.Server.{server_message}
use Rattle.rt_connect.specs.declared.link.ServerFrame.{ServerFrame}
use Rattle.rt_connect.specs.declared.link.ServerFrame.TheVariants.{Text, Binary}
use Rattle.rt_connect.specs.Printing.{refusal_text}
use Rattle.rt_connect.specs.Taking.{Takes}

-- ---- seats by their numbers

-- the client's seats by their numbers, from 1; none where one is closed
abbrev pub Seats : Type 0
Seats = List (Option Seated)

-- the seat at a place, if it is there and open
abbrev pub open_in : Option (Option Seated) → Option Seated
open_in place = option_and_then (λ (seat : Option Seated). seat) place

-- the seat of that number, if the client has it and it is open
abbrev pub seat_at : Seats → ℕ → Option Seated
seat_at seats number = if number == 0 then None else open_in (slice_get seats (number - 1))

-- that seat is another then, or closed
abbrev pub with_seat : Seats → ℕ → Option Seated → Seats
with_seat seats number seat = set seats (number - 1) seat

-- ---- calls of seats

-- a call of a seat is made and its outcome printed, or it is refused and printed why
abbrev pub IsCalled : Locked → Seated → Call → List ℕ → Locked → Seated → Type 0
IsCalled old seat call text new left =
    ((done : Done) × MakesCall old seat call done new left
    × (text ≡ line (outcome_text done.outcome done.given)))
    ⊎ ((why : ClientError) × RefusesCall old seat call why new left × (why ≢ NoMemory)
    × (text ≡ refusal_text why))

-- there is no such seat, which changes nothing
abbrev pub IsNoSeat : Locked → Seats → List ℕ → Locked → Seats → Type 0
IsNoSeat old seats text new left = (text ≡ refusal_text WrongSeat) × (new ≡ old) × (left ≡ seats)

-- a call of the seat of that number; the others stay
abbrev pub CallsSeat : Option Seated → Locked → Seats → ℕ → Call → List ℕ → Locked → Seats → Type 0
CallsSeat None old seats number call text new left = IsNoSeat old seats text new left
CallsSeat (Some seat) old seats number call text new left =
    (after : Seated) × IsCalled old seat call text new after × (left ≡ with_seat seats number (Some after))

abbrev pub Calls : Locked → Seats → ℕ → Call → List ℕ → Locked → Seats → Type 0
Calls old seats number call text new left =
    CallsSeat (seat_at seats number) old seats number call text new left

-- ---- the end of a seat

-- a seat is closed, or stays as it is, and is printed why
abbrev pub IsClosed : Locked → Seated → List ℕ → Locked → Option Seated → Type 0
IsClosed old seat text new left =
    (Closes old seat new × (text ≡ line (outcome_text IsDone None)) × (left ≡ None))
    ⊎ ((why : ClientError) × RefusesClose old seat why new × (why ≢ NoMemory)
    × (text ≡ refusal_text why) × (left ≡ Some seat))

-- the seat of that number is closed; the others stay
abbrev pub ClosesSeat : Option Seated → Locked → Seats → ℕ → List ℕ → Locked → Seats → Type 0
ClosesSeat None old seats number text new left = IsNoSeat old seats text new left
ClosesSeat (Some seat) old seats number text new left =
    (after : Option Seated) × IsClosed old seat text new after × (left ≡ with_seat seats number after)

abbrev pub ClosesAt : Locked → Seats → ℕ → List ℕ → Locked → Seats → Type 0
ClosesAt old seats number text new left =
    ClosesSeat (seat_at seats number) old seats number text new left

-- ---- looks, messages and the connection

-- the listens that are kept are printed, or why they are not
abbrev pub Shows : Locked → List ℕ → Type 0
Shows locked text =
    ((kept : List Kept) × ShowsCover locked kept × (text ≡ cover_text kept))
    ⊎ ((why : ClientError) × RefusesCover locked why × (why ≢ NoMemory) × (text ≡ refusal_text why))

-- a message of the server is taken; one that is no text changes nothing
abbrev pub TakesTold : ServerFrame → Locked → Locked → List ℕ → Type 0
TakesTold (Text words) old new text = Takes (server_message words) old new text
TakesTold Binary old new text = (new ≡ old) × (text ≡ lines.refusal_text (Wire NotJson))

-- a step of the connection is made, of which nothing is printed, or it is refused and printed why
abbrev pub IsTold : Locked → Step → Locked → List ℕ → Type 0
IsTold old step new text =
    ((outcome : Outcome) × Comes old step outcome new × (text ≡ []))
    ⊎ ((why : ClientError) × RefusesOn old step why new × (why ≢ NoMemory) × (text ≡ refusal_text why))

-- the line that says that a connection is gone, or did not come about
abbrev pub disconnected : List ℕ
disconnected = codes "disconnected" ++ 10 ∷ []

-- ---- orders

-- an order is done; of one that reads messages nothing is done here
abbrev pub Obeys : Order → Locked → Seats → List ℕ → Locked → Seats → Type 0
Obeys (order.Seat number call) old seats text new left = Calls old seats number call text new left
Obeys (order.Close number) old seats text new left = ClosesAt old seats number text new left
Obeys order.Cover old seats text new left = Shows old text × (new ≡ old) × (left ≡ seats)
Obeys (order.Read times) old seats text new left = (text ≡ []) × (new ≡ old) × (left ≡ seats)
