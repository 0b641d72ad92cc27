-- Snapshots that take what is handed over to a seat show the views that the core has.
use Rattle.std.specs.Prelude.{◌≡◌, ◌≢◌, ◌≤◌, ℕ, false, List, [], map, ◌==◌, Option, Some, None}
use Rattle.std.specs.List.{filter, find, All}
use Rattle.std.specs.Option.{option_map, IfSome}
use Rattle.rt_query.specs.Select.{tree_of}
use Rattle.rt_wire.specs.declared.client.ClientMessage.{ClientMessage}
use Rattle.rt_world.specs.declared.step.Call.{Call}
use Rattle.rt_world.specs.declared.limits.Limits.{Limits}
use Rattle.rt_world.specs.declared.step.Step.{Step}
use Rattle.rt_world.specs.World.{Listener, World, empty_world}
use Rattle.rt_world.specs.Answers.{step, world_after}
use Rattle.rt_world.specs.Sound.{IsSound}
use Rattle.rt_mail.specs.declared.item.Item.{Item}
use Rattle.rt_mail.specs.Lanes.{Line}
use Rattle.rt_mail.specs.Snapshots.{Seen, Known, shown_of, seen_of, after_items}
use Rattle.rt_client.specs.declared.shared.Done.{Done}
use Rattle.rt_client.specs.Seats.{caller_of, does_close, told_by, told_in}
use Rattle.rt_client.specs.Shared.{Held, IsWhole}
use Rattle.rt_client.specs.Calls.{Locked, Seated, IsOpen, MakesOn, MakesCall}
use Rattle.rt_client.specs.Settling.{Settles, Closes, TakesMessage}
use Rattle.rt_client.specs.Opened.{new_locked, OpensSeat}
use Rattle.rt_client.specs.laws.Following.{ArePut}

-- ---- what the core shows a seat

-- a listener's query, and the tree of its view; none while there is no view
abbrev pub seen_by : Listener → ℕ × Seen
seen_by l = (l.number, record { query = l.query; value = option_map tree_of l.view })

-- so of each of a seat's listeners, by number
abbrev pub seen_in : World → ℕ → Known
seen_in w seat = map seen_by (filter (λ l. l.seat == seat) w.listeners)

-- ---- steps

-- snapshots that show what the core did, and take what a step tells the seat, show what it does then
abbrev pub StepShows : Type 0
StepShows =
    (w : World) (s : Step) (seat : ℕ) → IsSound w → does_close seat s ≡ false
    → after_items (seen_in w seat) (told_by seat w s (step w s).1) ≡ seen_in (step w s).0 seat

-- after any steps a seat that none of them closes is shown what the core shows, by snapshots that took
-- all that it was told, in order
abbrev pub SnapshotsAreCore : Type 0
SnapshotsAreCore =
    (limits : Limits) (steps : List Step) (seat : ℕ)
    → All (λ (s : Step). does_close seat s ≡ false) steps
    → after_items [] (told_in seat (empty_world limits) steps)
    ≡ seen_in (world_after (empty_world limits) steps) seat

-- ---- over runs of a client

-- the seat is open, and its snapshots show what the core does, once they take what waits for it
pub record Foresees (locked : Locked) (seat : Seated) (known : Known) : Type 0 where
  pub before : Held
  pub lane : Line
  pub is_open : IsOpen locked before seat lane
  pub world : World
  pub core : before.core ≡ Some world
  pub sound : IsSound world
  pub shows : after_items known lane.waiting ≡ seen_in world seat.number

-- so it is of new snapshots, for each seat of a new client, and for one that is opened later
abbrev pub ForeseesAtFirst : Type 0
ForeseesAtFirst =
    (number seats : ℕ) (limits : Limits) (seat : Seated)
    → seat.client ≡ number → 1 ≤ seat.number → seat.number ≤ seats
    → Foresees (new_locked number seats limits) seat []

abbrev pub ForeseesWhatIsOpened : Type 0
ForeseesWhatIsOpened =
    (old new : Locked) (capacity : ℕ) (seat : Seated)
    → IfSome old.held IsWhole → OpensSeat old capacity new seat → Foresees new seat []

-- and of snapshots that take, one by one, just what a settling put into the ring, whatever stood there
abbrev pub ForeseesWhatSettles : Type 0
ForeseesWhatSettles =
    (old new : Locked) (seat left : Seated) (known : Known) (items : List Item)
    → Foresees old seat known → Settles old seat new left → ArePut seat items left
    → Foresees new left (after_items known items)

-- so of the seat's call
abbrev pub ForeseesWhatIsCalled : Type 0
ForeseesWhatIsCalled =
    (old new : Locked) (seat left : Seated) (c : Call) (done : Done) (known : Known)
    (items : List Item)
    → Foresees old seat known → MakesCall old seat c done new left → ArePut seat items left
    → Foresees new left (after_items known items)

-- what others do puts nothing into the ring, and it stays so: a step that is nobody's call and does not
-- close the seat, as those of the connection; another seat's call, its settling and its end; a message
-- that is taken out; and a seat that is opened
abbrev pub ForeseesSteps : Type 0
ForeseesSteps =
    (old new : Locked) (seat : Seated) (s : Step) (done : Done) (known : Known)
    → caller_of s ≡ None → does_close seat.number s ≡ false
    → Foresees old seat known → MakesOn old s done new → Foresees new seat known

abbrev pub ForeseesAnothersCall : Type 0
ForeseesAnothersCall =
    (old new : Locked) (seat other left : Seated) (c : Call) (done : Done) (known : Known)
    → other.number ≢ seat.number
    → Foresees old seat known → MakesCall old other c done new left → Foresees new seat known

abbrev pub ForeseesAnothersSettling : Type 0
ForeseesAnothersSettling =
    (old new : Locked) (seat other left : Seated) (known : Known)
    → other.number ≢ seat.number
    → Foresees old seat known → Settles old other new left → Foresees new seat known

abbrev pub ForeseesAnothersEnd : Type 0
ForeseesAnothersEnd =
    (old new : Locked) (seat other : Seated) (known : Known)
    → other.number ≢ seat.number
    → Foresees old seat known → Closes old other new → Foresees new seat known

abbrev pub ForeseesMessages : Type 0
ForeseesMessages =
    (old new : Locked) (seat : Seated) (message : Option ClientMessage) (known : Known)
    → Foresees old seat known → TakesMessage old message new → Foresees new seat known

abbrev pub ForeseesOpenings : Type 0
ForeseesOpenings =
    (old new : Locked) (seat other : Seated) (capacity : ℕ) (known : Known)
    → Foresees old seat known → OpensSeat old capacity new other → Foresees new seat known

-- so it stays where neither what is held nor the seat's number changes: a push id is given out, those who
-- wait are told to stop, a call is refused and changes nothing, or the seat takes an item from its ring
abbrev pub ForeseesWhatStays : Type 0
ForeseesWhatStays =
    (old new : Locked) (seat left : Seated) (known : Known)
    → new.number ≡ old.number → new.held ≡ old.held
    → left.client ≡ seat.client → left.number ≡ seat.number
    → Foresees old seat known → Foresees new left known

-- ---- what is shown

-- where nothing waits, the snapshots show just the seat's listeners that the core has: each with its
-- query, and the view that the core has of it
pub record ShowsCore (w : World) (seat : ℕ) (known : Known) : Type 0 where
  pub all : known ≡ seen_in w seat
  pub each :
      (n : ℕ) (l : Listener) → find (λ l. l.number == n) w.listeners ≡ Some l → l.seat ≡ seat
      → (s : Seen) × (seen_of n known ≡ Some s) × (s.query ≡ l.query) × (shown_of s ≡ l.view)

abbrev pub ShowsAll : Type 0
ShowsAll =
    (locked : Locked) (seat : Seated) (known : Known) (k : Foresees locked seat known)
    → k.lane.waiting ≡ [] → ShowsCore k.world seat.number known
