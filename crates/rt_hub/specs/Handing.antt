-- What a hub hands over to a door.
use Rattle.std.specs.Prelude.{◌≡◌, ◌≤◌, ◌+◌, ℕ, List, [], ◌∷◌, length, Option, Some, None, ⊤}
use Rattle.std.specs.Option.{option_map_or}
use Rattle.rt_hub.specs.Hubs.{Hub, first_of}
use Rattle.rt_hub.specs.Lines.{Line, line_of}
use Rattle.rt_hub.specs.Runs.{Asked, DoesAll, Next, OfPeer, given_all, watched_in}
use Rattle.rt_hub.specs.Doors.{Takes}
use Rattle.rt_hub.specs.declared.door.Flushed.{Flushed}
use Rattle.rt_hub.specs.declared.door.Flushed.TheVariants as Flush
use Rattle.rt_hub.specs.declared.turn.Handed.{Handed}
use Rattle.rt_hub.specs.declared.turn.Handed.TheVariants.{Drained, Blocked, More, Failed}
use Rattle.rt_hub.specs.declared.turn.Passed.{Passed}
use Rattle.rt_hub.specs.declared.turn.Passed.TheVariants as Pass

-- each of these asks for the oldest text that waits for the connection
abbrev pub AreNexts : ℕ → List Asked → Type 0
AreNexts n [] = ⊤
AreNexts n (OfPeer call ∷ asked) = ⊥
AreNexts n (Next m ∷ asked) = (m ≡ n) × AreNexts n asked

-- the hub gave texts of the connection, oldest first, and nothing else of it changed
pub record HasGiven (n : ℕ) (old new : Hub) : Type 0 where
  pub asked : List Asked
  pub nexts : AreNexts n asked
  pub made : DoesAll old asked new

-- and the door took just what the connection was given, in order
pub record HasHanded (n : ℕ) (had has : Option (List (List ℕ))) (old new : Hub) : Type 0 where
  pub asked : List Asked
  pub nexts : AreNexts n asked
  pub made : DoesAll old asked new
  pub took : Takes had has (given_all old.bounds n (watched_in n old) asked)

-- and then nothing waits for the connection
pub record HasDrained (n : ℕ) (had has : Option (List (List ℕ))) (old new : Hub) : Type 0 where
  pub handed : HasHanded n had has old new
  pub drained : first_of (line_of new.lines n) ≡ None

-- so it is of a hub that hasn't lacked memory; one that has stays so
abbrev pub InHub : (Hub → Hub → Type 0) → Option Hub → Option Hub → Type 0
InHub is None new = new ≡ None
InHub is (Some old) None = ⊥
InHub is (Some old) (Some new) = is old new

-- what became of texts that wait: there is none any more, the door took them, or it takes nothing any more,
-- and what it was given is not known
abbrev pub IsPassed : Passed → ℕ → Option (List (List ℕ)) → Option (List (List ℕ)) → Option Hub → Option Hub
    → Type 0
IsPassed Pass.Nothing n had has old new = InHub (HasDrained n had has) old new
IsPassed (Pass.Texts bytes) n had has old new = InHub (HasHanded n had has) old new
IsPassed Pass.Failed n had has old new = InHub (HasGiven n) old new

-- how far it went, where nothing waits, by how the flush went
abbrev pub handed_by : Flushed → Handed
handed_by Flush.Done = Drained
handed_by Flush.Blocked = Blocked
handed_by Flush.Failed = Failed

-- what was handed over: nothing waits and all is on its way, the door blocks, more may wait, or it takes
-- nothing any more
abbrev pub Hands : Handed → ℕ → Option (List (List ℕ)) → Option (List (List ℕ)) → Flushed → Option Hub
    → Option Hub → Type 0
Hands Drained n had has flushed old new = InHub (HasDrained n had has) old new × (flushed ≡ Flush.Done)
Hands Blocked n had has flushed old new = InHub (HasHanded n had has) old new × (flushed ≡ Flush.Blocked)
Hands More n had has flushed old new = InHub (HasHanded n had has) old new
Hands Failed n had has flushed old new = InHub (HasGiven n) old new

-- ---- how much was handed over

-- how many texts wait in a line
abbrev pub waits : Option Line → ℕ
waits line = option_map_or (λ (l : Line). length l.waiting) line 0

-- at least so many texts fewer wait for the connection; a hub that has lacked memory hands none over
abbrev pub Fewer : ℕ → ℕ → Option Hub → Option Hub → Type 0
Fewer count n None new = (count ≡ 0) × (new ≡ None)
Fewer count n (Some old) None = ⊥
Fewer count n (Some old) (Some new) = waits (line_of new.lines n) + count ≤ waits (line_of old.lines n)

-- where the door took texts, there is one of them at least
abbrev pub PassesFewer : Passed → ℕ → Option Hub → Option Hub → Type 0
PassesFewer Pass.Nothing n old new = ⊤
PassesFewer (Pass.Texts bytes) n old new = Fewer 1 n old new
PassesFewer Pass.Failed n old new = ⊤
