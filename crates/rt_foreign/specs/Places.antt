-- A seat as C has it, and how its next item is given.
use Rattle.std.specs.Prelude.{◌≡◌, ◌⊎◌, ◌==◌, ℕ, List, [], ◌∷◌, take, drop, if◌then◌else◌}
use Rattle.std.specs.Prelude.{Option, Some, None}
use Rattle.std.specs.List.{slice_get}
use Rattle.rt_mail.specs.declared.item.Item.{Item}
use Rattle.rt_client.specs.Calls.{Seated}
use Rattle.rt_foreign.specs.Items.{item_text}
use Rattle.rt_foreign.specs.Status as status
use Rattle.rt_foreign.specs.Texts.{Gives}
use Rattle.rt_foreign.specs.Wants.{Wants, after_given, told}

-- a seat with its ring; the items that were taken out of the ring and are given before those in it; and which
-- kinds of changes its listeners are told
pub record OpenSeat : Type 0 where
  pub seat : Seated
  pub taken : List Item
  pub wants : Wants

-- the place with these items taken out, and those in its ring
abbrev pub holding : List Item → List Item → OpenSeat → OpenSeat
holding taken ring place = record place {
  seat = record place.seat { ring = record place.seat.ring { items = ring } };
  taken = taken;
}

-- the first item of the ring is taken out, where none was before
abbrev pub look_at : List Item → OpenSeat → OpenSeat
look_at [] place = holding (take 1 place.seat.ring.items) (drop 1 place.seat.ring.items) place
look_at (item ∷ rest) place = place

abbrev pub looked : OpenSeat → OpenSeat
looked place = look_at place.taken place

-- an item is given, and is gone
abbrev pub given : Item → OpenSeat → OpenSeat
given item place = record place { taken = drop 1 place.taken; wants = after_given place.wants item }

-- nothing is given
abbrev pub GivesNothing : ℕ → List ℕ → ℕ → List ℕ → ℕ → Type 0
GivesNothing wanted had result left len = (result ≡ wanted) × (left ≡ had) × (len ≡ 0)

-- an item is given whole, and then it is gone; or not at all, and then it is still to be had
pub record GivesItem (item : Item) (place : OpenSeat) (had : List ℕ) (result : ℕ) (new : OpenSeat)
    (left : List ℕ) (len : ℕ) : Type 0 where
  pub text : Gives (item_text (told place.wants item)) had result left len
  pub rest : new ≡ (if result == status.done then given item place else place)

-- the first item of a seat is given, if it has one; memory may lack for its text, and then it stays
abbrev pub GivesFirst : Option Item → OpenSeat → List ℕ → ℕ → OpenSeat → List ℕ → ℕ → Type 0
GivesFirst None place had result new left len =
    GivesNothing status.none had result left len × (new ≡ place)
GivesFirst (Some item) place had result new left len =
    GivesItem item place had result new left len
    ⊎ (GivesNothing status.no_memory had result left len × (new ≡ place))

abbrev pub GivesNext : OpenSeat → List ℕ → ℕ → OpenSeat → List ℕ → ℕ → Type 0
GivesNext old had result new left len =
    GivesFirst (slice_get (looked old).taken 0) (looked old) had result new left len
