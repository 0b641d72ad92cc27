-- What seats are told of what waits for them, and what is printed of it.
use Rattle.std.specs.Prelude.{◌≡◌, ◌≢◌, ◌⊎◌, ◌<◌, ℕ, List, [], ◌∷◌, ◌++◌, Option, Some, None}
use Rattle.std.specs.Option.{option_and_then, option_map_or}
use Rattle.rt_mail.specs.declared.item.Item.{Item}
use Rattle.rt_mail.specs.Lanes.{Line}
use Rattle.rt_client.specs.declared.error.ClientError.{ClientError}
use Rattle.rt_client.specs.declared.error.ClientError.TheVariants.{NoMemory}
use Rattle.rt_client.specs.Calls.{Locked, Seated, own_lane}
use Rattle.rt_client.specs.Lanes.{IsChanged}
use Rattle.rt_client.specs.Settling.{RefusesSettle, Settles}
use Rattle.rt_client.specs.Shared.{Held, foreseen}
use Rattle.rt_connect.specs.Doing.{Seats}
use Rattle.rt_connect.specs.Printing.{items_text}

-- the seat's lane; none where the client has failed, or the seat is another client's or closed
abbrev pub lane_for : Locked → Seated → Option Line
lane_for locked seat = option_and_then (λ (h : Held). own_lane locked h seat) locked.held

-- what waits for the seat, in order
abbrev pub waits_for : Locked → Seated → List Item
waits_for locked seat = option_map_or (λ (l : Line). l.waiting) (lane_for locked seat) []

-- what the seat is still to be told, in order: what its ring holds, and then what waits for it
abbrev pub to_tell : Locked → Seated → List Item
to_tell locked seat = seat.ring.items ++ waits_for locked seat

-- the seat's ring is filled from its lane, or that is refused for another cause than memory
abbrev pub FillsRing : Locked → Seated → Locked → Seated → Type 0
FillsRing old seat new left =
    Settles old seat new left
    ⊎ ((why : ClientError) × RefusesSettle old seat why new left × (why ≢ NoMemory))

-- the seat's lane alone is changed, and what the seat will know once it has taken all is the same
pub record ChangesLane (old : Locked) (seat : Seated) (lane : Line) (new : Locked) : Type 0 where
  pub before : Held
  pub held : old.held ≡ Some before
  pub after : Held
  pub locked : new ≡ record old { held = Some after }
  pub core : after.core ≡ before.core
  pub left : Line
  pub lanes : IsChanged seat.number (Some left) before.lanes after.lanes
  pub knows : foreseen left ≡ foreseen lane

-- where the seat has no lane nothing is changed
abbrev pub ChangesOwn : Option Line → Locked → Seated → Locked → Type 0
ChangesOwn None old seat new = new ≡ old
ChangesOwn (Some lane) old seat new = ChangesLane old seat lane new

-- the seat is told the first items of what it is to be told, each is printed, and the others wait: none
-- does where the seat's ring can hold an item
pub record TellsSeat (old : Locked) (seat : Seated) (text : List ℕ) (new : Locked) : Type 0 where
  pub told : List Item
  pub printed : text ≡ items_text told
  pub rest : to_tell old seat ≡ told ++ waits_for new seat
  pub all : 0 < seat.ring.capacity → waits_for new seat ≡ []
  pub own : ChangesOwn (lane_for old seat) old seat new

-- a place among the seats; a closed seat is told nothing
abbrev pub TellsPlace : Locked → Option Seated → List ℕ → Locked → Type 0
TellsPlace old None text new = (text ≡ []) × (new ≡ old)
TellsPlace old (Some seat) text new = TellsSeat old seat text new

-- the seats are told one after another
abbrev pub TellsAll : Locked → Seats → List ℕ → Locked → Type 0
TellsAll old [] text new = (text ≡ []) × (new ≡ old)
TellsAll old (place ∷ places) text new =
    (first rest : List ℕ) × (mid : Locked) × TellsPlace old place first mid × TellsAll mid places rest new
    × (text ≡ first ++ rest)
