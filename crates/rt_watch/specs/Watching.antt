-- What a line does to a client that is watched, and what is printed of what the server sends.
use Rattle.std.specs.Prelude.{◌≡◌, ◌≢◌, ◌⊎◌, ℕ, List, [], ◌∷◌, ◌++◌, map}
use Rattle.std.specs.Prelude.{Bool, true, false, if◌then◌else◌, Option, Result, Ok, Err}
use Rattle.std.specs.List.{flat_map}
use Rattle.std.specs.Option.{option_map}
use Rattle.rt_query.specs.Select.{Shown}
use Rattle.rt_client.specs.Calls.{Locked}
use Rattle.rt_client.specs.Delivery.{emptied}
use Rattle.rt_client.specs.Viewing.{RefusesView, ShowsView}
use Rattle.rt_client.specs.declared.error.ClientError.{ClientError}
use Rattle.rt_client.specs.declared.error.ClientError.TheVariants.{NoMemory}
use Rattle.rt_lines.specs.Typing.{typed_of_bytes}
use Rattle.rt_lines.specs.Printing.{bad_line, id_line, refusal_text, view_text}
use Rattle.rt_lines.specs.declared.error.LineError.{LineError}
use Rattle.rt_lines.specs.declared.error.LineError.TheVariants as line
use Rattle.rt_lines.specs.declared.error.Refusal.TheVariants.{Core, Wire}
use Rattle.rt_lines.specs.declared.order.Order.{Order}
use Rattle.rt_lines.specs.declared.order.Order.TheVariants as order
use Rattle.rt_lines.specs.declared.order.Typed.{Typed}
use Rattle.rt_lines.specs.declared.order.Typed.TheVariants as typed
use Rattle.rt_connect.specs.Doing.{Obeys, Seats}
use Rattle.rt_connect.specs.Printing as client
use Rattle.rt_connect.specs.Run.{one_more}
use Rattle.rt_connect.specs.Telling.{TellsAll}
use Rattle.rt_link.specs.declared.turn.Passed.{Passed}
use Rattle.rt_link.specs.declared.turn.Passed.TheVariants as passed
use Rattle.rt_watch.specs.Asking.{Asks, is_done}
use Rattle.rt_watch.specs.declared.effect.AskedLine.{AskedLine}
use Rattle.rt_watch.specs.declared.effect.AskedLine.TheVariants as asked
use Rattle.rt_wire.specs.declared.request.Action.TheVariants.{Put}
use Rattle.rt_world.specs.declared.step.Call.TheVariants.{Write}

-- ---- lines

-- whether a line is good that asks for this, though a word of it may be refused
abbrev pub is_good : Result Typed LineError → Bool
is_good (Ok (typed.Order o)) = is_done o
is_good (Ok (typed.View listener)) = true
is_good (Ok (typed.Push seat path tree)) = true
is_good (Err line.Bad) = false
is_good (Err (line.Refused why)) = true
is_good (Err line.NoMemory) = true

-- one more is bad, or not
abbrev pub counted : Bool → ℕ → ℕ
counted good n = if good then n else one_more n

-- whether a line is good: empty, or one that is done
abbrev pub is_good_line : List ℕ → Bool
is_good_line [] = true
is_good_line (b ∷ bs) = is_good (typed_of_bytes (b ∷ bs))

-- so many were bad before these lines: how many are with them
abbrev pub bad_with : List (List ℕ) → ℕ → ℕ
bad_with [] n = n
bad_with (line ∷ lines) n = bad_with lines (counted (is_good_line line) n)

-- lines are numbered on from there, also those that are empty
abbrev pub numbered : List (List ℕ) → ℕ → ℕ
numbered [] n = n
numbered (line ∷ lines) n = numbered lines (one_more n)

-- this is printed, and nothing else is done
abbrev pub Prints : List ℕ → Locked → Seats → List ℕ → Locked → Seats → Type 0
Prints says old seats text new left = (text ≡ says) × (new ≡ old) × (left ≡ seats)

-- an order is obeyed, or is none that is done
abbrev pub DoesOrder : Bool → Order → ℕ → Locked → Seats → List ℕ → Locked → Seats → Type 0
DoesOrder true o number old seats text new left = Obeys o old seats text new left
DoesOrder false o number old seats text new left = Prints (bad_line number) old seats text new left

-- what a listener shows is printed, or why that is refused
abbrev pub Views : Locked → ℕ → List ℕ → Type 0
Views locked listener text =
    ((shown : Option Shown) × ShowsView locked listener shown × (text ≡ view_text shown))
    ⊎ ((why : ClientError) × RefusesView locked listener why × (why ≢ NoMemory)
    × (text ≡ client.refusal_text why))

-- the push id is printed, and then what becomes of the write
abbrev pub Pushes : List ℕ → Order → Locked → Seats → List ℕ → Locked → Seats → Type 0
Pushes id o old seats text new left =
    (says : List ℕ) × Obeys o old seats says new left × (text ≡ id_line id ++ says)

-- what the line of that number does that asks for this
abbrev pub DoesAsked : AskedLine → ℕ → Locked → Seats → List ℕ → Locked → Seats → Type 0
DoesAsked (asked.Order o) number old seats text new left =
    DoesOrder (is_done o) o number old seats text new left
DoesAsked (asked.View listener) number old seats text new left =
    Views old listener text × (new ≡ old) × (left ≡ seats)
DoesAsked (asked.Push id seat path tree) number old seats text new left =
    Pushes id (order.Seat seat (Write (Put path tree))) old seats text new left
DoesAsked (asked.Refused why) number old seats text new left =
    Prints (refusal_text why) old seats text new left
DoesAsked asked.Bad number old seats text new left = Prints (bad_line number) old seats text new left

-- what a line asks for is done, and the seats are told what waits for them then
pub record DoesLine (asks : AskedLine) (number : ℕ) (old : Locked) (seats : Seats) (text : List ℕ)
    (new : Locked) (left : Seats) : Type 0 where
  pub says : List ℕ
  pub tells : List ℕ
  pub mid : Locked
  pub placed : Seats
  pub asked : DoesAsked asks number old seats says mid placed
  pub told : TellsAll mid placed tells new
  pub printed : text ≡ says ++ tells
  pub rings : left ≡ map (option_map emptied) placed

-- a line that isn't empty is done by some client: of what a lock holds nothing is known beforehand
abbrev pub PrintsDone : List ℕ → ℕ → Seats → List ℕ → Seats → Type 0
PrintsDone bytes number seats text left =
    (asks : AskedLine) × Asks (typed_of_bytes bytes) asks
    × ((old new : Locked) × DoesLine asks number old seats text new left)

-- an empty one does nothing
abbrev pub PrintsLine : List ℕ → ℕ → Seats → List ℕ → Seats → Type 0
PrintsLine [] number seats text left = (text ≡ []) × (left ≡ seats)
PrintsLine (b ∷ bs) number seats text left = PrintsDone (b ∷ bs) number seats text left

-- lines are done one after another, numbered on from there
abbrev pub PrintsLines : List (List ℕ) → ℕ → Seats → List ℕ → Seats → Type 0
PrintsLines [] number seats text left = (text ≡ []) × (left ≡ seats)
PrintsLines (line ∷ lines) number seats text left =
    (first rest : List ℕ) × (mid : Seats) × PrintsLine line (one_more number) seats first mid
    × PrintsLines lines (one_more number) mid rest left × (text ≡ first ++ rest)

-- ---- what the server sends

-- why a message of the server was passed over, as a refusal
abbrev pub passed_text : Passed → List ℕ
passed_text (passed.Wire why) = refusal_text (Wire why)
passed_text (passed.Core why) = refusal_text (Core why)

-- of several messages, in order
abbrev pub passed_texts : List Passed → List ℕ
passed_texts passed = flat_map passed_text passed

-- once messages were taken, it is printed why any were passed over, and the seats are told what waits for
-- them
pub record TellsNews (passed : List Passed) (old : Locked) (seats : Seats) (text : List ℕ) (new : Locked)
    (left : Seats) : Type 0 where
  pub tells : List ℕ
  pub told : TellsAll old seats tells new
  pub printed : text ≡ passed_texts passed ++ tells
  pub rings : left ≡ map (option_map emptied) seats

-- some client has taken them
abbrev pub PrintsNews : List Passed → Seats → List ℕ → Seats → Type 0
PrintsNews passed seats text left = (old new : Locked) × TellsNews passed old seats text new left
