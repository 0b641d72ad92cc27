-- A mirror that takes all that calls hand over to a seat follows the one that the seat's lane has.
use Rattle.std.specs.Prelude.{◌≡◌, ◌≢◌, ◌≤◌, ℕ, List, [], ◌∷◌, ◌++◌, drop, Some, None}
use Rattle.std.specs.List.{slice_get}
use Rattle.rt_world.specs.declared.limits.Limits.{Limits}
use Rattle.rt_world.specs.declared.step.Step.{Step}
use Rattle.rt_world.specs.World.{World}
use Rattle.rt_mail.specs.declared.item.Item.{Item}
use Rattle.rt_mail.specs.Mailbox.{Known, nothing_known, taken, known_of}
use Rattle.rt_mail.specs.Lanes.{Line}
use Rattle.rt_world.specs.declared.step.Call.{Call}
use Rattle.rt_client.specs.declared.shared.Done.{Done}
use Rattle.rt_client.specs.Seats.{reflection, caller_of, closed_by}
use Rattle.rt_client.specs.Shared.{Held, IsKept}
use Rattle.rt_client.specs.Calls.{Locked, Seated, IsOpen, MakesOn, MakesCall}
use Rattle.rt_client.specs.Settling.{Settles}
use Rattle.rt_client.specs.Delivery.{IsMirrored}
use Rattle.rt_client.specs.Opened.{new_locked, OpensSeat}

-- ---- a ring that is emptied each time

-- the seat is open, its ring is empty, and its lane's mirror of all that was handed over knows that
pub record HasTaken (locked : Locked) (seat : Seated) (known : Known) : Type 0 where
  pub before : Held
  pub lane : Line
  pub is_open : IsOpen locked before seat lane
  pub empty : seat.ring.items ≡ []
  pub mirror : lane.mirror ≡ Some known

-- a mirror that knows as much, and takes what the ring holds once the seat has settled
abbrev pub FollowsSettling : Type 0
FollowsSettling =
    (old new : Locked) (seat mid left : Seated) (had has : Known) (count : ℕ)
    → HasTaken old seat had → Settles old seat new mid
    → IsMirrored mid (Some had) count left (Some has) → HasTaken new left has

-- so where the seat has made a call
abbrev pub FollowsCalls : Type 0
FollowsCalls =
    (old new : Locked) (seat mid left : Seated) (c : Call) (done : Done) (had has : Known) (count : ℕ)
    → HasTaken old seat had → MakesCall old seat c done new mid
    → IsMirrored mid (Some had) count left (Some has) → HasTaken new left has

-- ---- whatever stands in the ring

-- the seat is open, and a mirror knows what its lane's does: all that was handed over to the seat
pub record Follows (locked : Locked) (seat : Seated) (known : Known) : Type 0 where
  pub before : Held
  pub lane : Line
  pub is_open : IsOpen locked before seat lane
  pub mirror : lane.mirror ≡ Some known

-- these items were put into the ring, behind what stood there
abbrev pub ArePut : Seated → List Item → Seated → Type 0
ArePut seat items left = left.ring.items ≡ seat.ring.items ++ items

-- a mirror that takes, one by one, just what a settling put into the ring follows it
abbrev pub FollowsWhatSettles : Type 0
FollowsWhatSettles =
    (old new : Locked) (seat left : Seated) (known : Known) (items : List Item)
    → Follows old seat known → Settles old seat new left → ArePut seat items left
    → Follows new left (known_of known items)

-- so of the seat's call
abbrev pub FollowsWhatIsCalled : Type 0
FollowsWhatIsCalled =
    (old new : Locked) (seat left : Seated) (c : Call) (done : Done) (known : Known)
    (items : List Item)
    → Follows old seat known → MakesCall old seat c done new left → ArePut seat items left
    → Follows new left (known_of known items)

-- what others do puts nothing into the ring, and the mirror goes on following: a step of the connection,
-- another seat's call, another seat that settles
abbrev pub FollowsTheConnection : Type 0
FollowsTheConnection =
    (old new : Locked) (seat : Seated) (s : Step) (done : Done) (known : Known)
    → caller_of s ≡ None → closed_by s ≡ None
    → Follows old seat known → MakesOn old s done new → Follows new seat known

abbrev pub FollowsAnothersCall : Type 0
FollowsAnothersCall =
    (old new : Locked) (seat other left : Seated) (c : Call) (done : Done) (known : Known)
    → other.number ≢ seat.number
    → Follows old seat known → MakesCall old other c done new left → Follows new seat known

abbrev pub FollowsAnothersSettling : Type 0
FollowsAnothersSettling =
    (old new : Locked) (seat other left : Seated) (known : Known)
    → other.number ≢ seat.number
    → Follows old seat known → Settles old other new left → Follows new seat known

-- ---- what the seat takes from its ring

-- a mirror that took all that the ring gave, in order, and nothing of what still stands in it: once it
-- takes that too, it follows. What others do changes nothing of it, as of one that follows.
abbrev pub Trails : Locked → Seated → Known → Type 0
Trails locked seat known = Follows locked seat (known_of known seat.ring.items)

-- so it is of a new mirror, for each seat of a new client, and for one that is opened later
abbrev pub TrailsAtFirst : Type 0
TrailsAtFirst =
    (number seats : ℕ) (limits : Limits) (seat : Seated)
    → seat.client ≡ number → 1 ≤ seat.number → seat.number ≤ seats → seat.ring.items ≡ []
    → Trails (new_locked number seats limits) seat nothing_known

abbrev pub TrailsWhatIsOpened : Type 0
TrailsWhatIsOpened =
    (old new : Locked) (capacity : ℕ) (seat : Seated)
    → OpensSeat old capacity new seat → Trails new seat nothing_known

-- where the seat settles or makes a call, whatever stands in its ring
abbrev pub TrailsAsItSettles : Type 0
TrailsAsItSettles =
    (old new : Locked) (seat left : Seated) (known : Known)
    → Trails old seat known → Settles old seat new left → Trails new left known

abbrev pub TrailsAsItCalls : Type 0
TrailsAsItCalls =
    (old new : Locked) (seat left : Seated) (c : Call) (done : Done) (known : Known)
    → Trails old seat known → MakesCall old seat c done new left → Trails new left known

-- where the seat takes the first item from its ring, and the mirror takes that
abbrev pub after_next : Seated → Seated
after_next seat = record seat { ring = record seat.ring { items = drop 1 seat.ring.items } }

abbrev pub TrailsAsItTakes : Type 0
TrailsAsItTakes =
    (locked : Locked) (seat : Seated) (known : Known) (first : Item)
    → Trails locked seat known → slice_get seat.ring.items 0 ≡ Some first
    → Trails locked (after_next seat) (taken known first)

-- and where it takes all that the ring holds
abbrev pub TrailsAsItMirrors : Type 0
TrailsAsItMirrors =
    (locked : Locked) (seat left : Seated) (had has : Known) (count : ℕ)
    → Trails locked seat had → IsMirrored seat (Some had) count left (Some has)
    → Trails locked left has

-- where the ring holds nothing more, it follows
abbrev pub FollowsInTheEnd : Type 0
FollowsInTheEnd =
    (locked : Locked) (seat : Seated) (known : Known)
    → Trails locked seat known → seat.ring.items ≡ [] → Follows locked seat known

-- a mirror does not trail that leaves out what the seat took
abbrev pub LeavesOut : Type 0
LeavesOut =
    (locked : Locked) (seat : Seated) (known : Known) (first : Item)
    → Trails locked seat known → slice_get seat.ring.items 0 ≡ Some first
    → Trails locked (after_next seat) known

abbrev pub NotLeftOut : Type 0
NotLeftOut = LeavesOut → ⊥

-- nor does one follow that takes the first item last
abbrev pub TakesFirstLast : Type 0
TakesFirstLast =
    (locked : Locked) (seat : Seated) (known : Known) (first : Item) (rest : List Item)
    → Trails locked seat known → seat.ring.items ≡ first ∷ rest
    → Follows locked seat (known_of known (rest ++ first ∷ []))

abbrev pub NotFirstLast : Type 0
NotFirstLast = TakesFirstLast → ⊥

-- ---- what is known

-- where nothing waits, that is just what the core knows of the seat
abbrev pub KnowsAll : Type 0
KnowsAll =
    (locked : Locked) (seat : Seated) (w : World) (h : Held) (lane : Line) (known : Known)
    → IsKept h → h.core ≡ Some w → IsOpen locked h seat lane → lane.waiting ≡ []
    → lane.mirror ≡ Some known → known ≡ reflection w seat.number
