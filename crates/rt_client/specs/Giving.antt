-- What a seat is told is given to a thread's work, item by item.
use Rattle.std.specs.Prelude.{◌≡◌, ℕ, true, List, [], ◌++◌, Option, Some, Result, Ok, Err, drop}
use Rattle.std.specs.Borrow.{Bor}
use Rattle.std.specs.Fn.{CalledAt, Mut}
use Rattle.std.specs.List.{FoldsTo, slice_get}
use Rattle.rt_mail.specs.declared.item.Item.{Item}
use Rattle.rt_client.specs.declared.error.ClientError.{ClientError}
use Rattle.rt_client.specs.Calls.{Seated}
use Rattle.rt_client.specs.Delivery.{RefusesTurn}
use Rattle.rt_client.specs.Settling.{Comes}
use Rattle.rt_client.specs.Waiting.{has_none}

-- the seat with other items in its ring
abbrev pub with_ring : List Item → Seated → Seated
with_ring items seat = record seat { ring = record seat.ring { items = items } }

module _ {F E : Type 0} (g : Mut F (Bor Item × Unit {0}) (Result (Unit {0}) E)) where
  -- some first items of what the ring held and of what its seat's lane handed over were given to the work, in
  -- order, each taken without a fault; the others are in the ring
  pub record HasGiven (f : F) (old : Seated) (last : F) (new : Seated) : Type 0 where
    pub came : List Item
    pub settlings : ℕ
    pub comes : Comes settlings old came
    pub given : List Item
    pub items : old.ring.items ++ came ≡ given ++ new.ring.items
    pub taken : FoldsTo (λ at item next. CalledAt g at item (Ok tt) next) f given last
    pub seat : new ≡ with_ring new.ring.items old

  -- all of them
  pub record GivesAll (f : F) (old new : Seated) : Type 0 where
    pub last : F
    pub gave : HasGiven f old last new
    pub all : new.ring.items ≡ []

  -- up to one that the work refuses, for a reason of its own
  pub record GivesUpTo (f : F) (old : Seated) (why : E) (new : Seated) : Type 0 where
    pub last : F
    pub between : Seated
    pub gave : HasGiven f old last between
    pub item : Item
    pub first : slice_get between.ring.items 0 ≡ Some item
    pub next : F
    pub refused : CalledAt g last item (Err why) next
    pub left : new ≡ with_ring (drop 1 between.ring.items) between

  -- so it ends, once all are told to stop or the work refuses an item
  abbrev pub Gives : F → Seated → Result (Unit {0}) E → Seated → Type 0
  Gives f old (Ok done) new = GivesAll f old new
  Gives f old (Err why) new = GivesUpTo f old why new

  -- or all that came is given, and no more comes: the client has failed, or the seat is closed or another
  -- client's
  pub record RefusesGiving (f : F) (old : Seated) (why : ClientError) (new : Seated) : Type 0 where
    pub last : F
    pub between : Seated
    pub gave : HasGiven f old last between
    pub all : has_none between.ring.items ≡ true
    pub refused : RefusesTurn between why new
