-- Rings and lanes, and how items are handed over.
use Rattle.std.specs.Prelude.{◌≡◌, ◌≤◌, ◌-◌, ℕ, Bool, List, [], ◌∷◌, ◌++◌, length, take, drop}
use Rattle.std.specs.Prelude.{min, max, if◌then◌else◌, Option, None, is_some, IsTrue}
use Rattle.std.specs.Option.{option_map}
use Rattle.rt_mail.specs.declared.error.MailError.{MailError}
use Rattle.rt_mail.specs.declared.error.MailError.TheVariants.{Failed, NoMemory}
use Rattle.rt_mail.specs.declared.lane.TheConstants.{MAX_CAPACITY}
use Rattle.rt_mail.specs.declared.item.Item.{Item}
use Rattle.rt_mail.specs.declared.item.Item.TheVariants as item
use Rattle.rt_mail.specs.declared.item.Receipt.{Receipt}
use Rattle.rt_mail.specs.Mailbox.{Known, taken, known_of}

-- the items that are still to be taken, in order, and how many there is room for
pub record Ring : Type 0 where
  pub items : List Item
  pub capacity : ℕ

-- a ring with nothing in it; a 0 counts as 1, and more than the most as that
abbrev pub new_ring : ℕ → Ring
new_ring capacity = record { items = []; capacity = min (max 1 capacity) MAX_CAPACITY }

-- the items that wait, in order, and the mirror of all that went before them; none once it has
-- lacked memory: the lane has failed
pub record Line : Type 0 where
  pub waiting : List Item
  pub mirror : Option Known

-- whether the lane has not failed
abbrev pub is_working : Line → Bool
is_working lane = is_some lane.mirror

-- why a lane refuses to queue
abbrev pub why_not : Line → MailError
why_not lane = if is_working lane then NoMemory else Failed

-- how many more items the ring has room for
abbrev pub room : Ring → ℕ
room ring = ring.capacity - length ring.items

-- the ring with more items behind its own
abbrev pub with_items : List Item → Ring → Ring
with_items items ring = record ring { items = ring.items ++ items }

-- the lane with one more item that waits, last
abbrev pub with_waiting : Item → Line → Line
with_waiting new lane = record lane { waiting = lane.waiting ++ new ∷ [] }

-- the lane without its first n items, which its mirror has taken
abbrev pub without_first : ℕ → Line → Line
without_first n lane = record {
  waiting = drop n lane.waiting;
  mirror = option_map (λ m. known_of m (take n lane.waiting)) lane.mirror;
}

-- the first n waiting items go into the ring, behind what it holds, and the lane's mirror takes
-- just these
pub record HandsOver (n : ℕ) (old : Line) (old_ring : Ring) (new : Line) (new_ring : Ring) : Type 0 where
  pub ring : new_ring ≡ with_items (take n old.waiting) old_ring
  pub lane : new ≡ without_first n old

-- a lane from which all that waited and then a receipt were handed over
abbrev pub signed_lane : Receipt → Line → Line
signed_lane r lane = record {
  waiting = [];
  mirror = option_map (λ m. taken (known_of m lane.waiting) (item.Receipt r)) lane.mirror;
}
