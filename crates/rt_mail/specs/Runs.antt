-- Any calls on a lane and its ring, one after another, and what they leave.
use Rattle.std.specs.Prelude.{ℕ, min, List, [], ◌∷◌, ◌++◌, length, take, drop, Some}
use Rattle.std.specs.List.{fold, flat_map}
use Rattle.rt_mail.specs.declared.item.Item.{Item}
use Rattle.rt_mail.specs.declared.item.Item.TheVariants as item
use Rattle.rt_mail.specs.declared.item.Receipt.{Receipt}
use Rattle.rt_mail.specs.Mailbox.{nothing_known}
use Rattle.rt_mail.specs.Lanes.{Ring, Line, room, with_items, with_waiting, without_first, signed_lane}

-- a call: an item is queued; as many as have room are handed over; all that waits is, and then a
-- receipt; the seat takes an item. Calls that are refused and change nothing are left out.
pub data Call : Type 0 where
  Queue : Item → Call
  Flush : Call
  Sign : Receipt → Call
  Next : Call

-- a lane, its ring, and what the seat has taken from it, in order
pub record Mail : Type 0 where
  pub lane : Line
  pub ring : Ring
  pub gone : List Item

-- before any call
abbrev pub new_mail : ℕ → Mail
new_mail capacity = record {
  lane = record { waiting = []; mirror = Some nothing_known };
  ring = record { items = []; capacity = capacity };
  gone = [];
}

-- the first n that wait are handed over
abbrev pub handed : ℕ → Mail → Mail
handed n m = record m {
  lane = without_first n m.lane;
  ring = with_items (take n m.lane.waiting) m.ring;
}

-- the mail after a call
abbrev pub after : Mail → Call → Mail
after m (Queue new) = record m { lane = with_waiting new m.lane }
after m Flush = handed (min (length m.lane.waiting) (room m.ring)) m
after m (Sign receipt) = record m {
  lane = signed_lane receipt m.lane;
  ring = with_items (m.lane.waiting ++ item.Receipt receipt ∷ []) m.ring;
}
after m Next = record m {
  ring = record (m.ring) { items = drop 1 m.ring.items };
  gone = m.gone ++ take 1 m.ring.items;
}

-- the mail after the calls
abbrev pub after_all : Mail → List Call → Mail
after_all m calls = fold after m calls

-- what a call puts in: what is queued, and what is signed
abbrev pub put_by : Call → List Item
put_by (Queue new) = new ∷ []
put_by Flush = []
put_by (Sign receipt) = item.Receipt receipt ∷ []
put_by Next = []

-- what the calls put in, in order
abbrev pub put : List Call → List Item
put calls = flat_map put_by calls

-- what was handed over: what the seat has taken, and then what the ring holds
abbrev pub handed_over : Mail → List Item
handed_over m = m.gone ++ m.ring.items
