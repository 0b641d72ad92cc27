-- A client with its seats, as C holds it.
use Rattle.std.specs.Prelude.{ℕ, ◌==◌, ◌-◌, List, [], length, map, set, if◌then◌else◌, Option, None}
use Rattle.std.specs.List.{slice_get}
use Rattle.rt_world.specs.World.{full_limits}
use Rattle.rt_wire.specs.declared.client.ClientMessage.{ClientMessage}
use Rattle.rt_lines.specs.declared.error.Refusal.{Refusal}
use Rattle.rt_client.specs.Calls.{Locked, Seated}
use Rattle.rt_client.specs.Opened.{new_locked, seats_from}
use Rattle.rt_foreign.specs.Places.{OpenSeat}

-- the client inside; its seats by their numbers, from 1; the message that was taken out of it and is still to
-- be given; and which layer refused the last call, and why, if one did
pub record Client : Type 0 where
  pub shared : Locked
  pub places : List OpenSeat
  pub message : Option ClientMessage
  pub refused : Option Refusal

-- seats of whose rings nothing was taken, and whose listeners are told all
abbrev pub new_place : Seated → OpenSeat
new_place seat = record { seat = seat; taken = []; wants = [] }

abbrev pub places_from : List Seated → List OpenSeat
places_from seats = map new_place seats

-- a new client with a seat for each capacity of a ring, which takes all that a client takes
abbrev pub new_client : List ℕ → Client
new_client rings = record {
  shared = new_locked 1 (length rings) full_limits;
  places = places_from (seats_from 1 1 rings);
  message = None;
  refused = None;
}

-- the seat of that number, if the client has it
abbrev pub place_at : List OpenSeat → ℕ → Option OpenSeat
place_at places number = if number == 0 then None else slice_get places (number - 1)

-- that seat is another then
abbrev pub with_place : ℕ → OpenSeat → List OpenSeat → List OpenSeat
with_place number place places = set places (number - 1) place

-- no layer has refused the last call
abbrev pub unrefused : Client → Client
unrefused client = record client { refused = None }
