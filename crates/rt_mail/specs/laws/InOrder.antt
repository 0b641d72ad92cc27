-- Laws of any calls on a lane and its ring.
use Rattle.std.specs.Prelude.{◌≡◌, ℕ, min, List, ◌++◌, length, Some}
use Rattle.rt_mail.specs.Mailbox.{nothing_known, known_of}
use Rattle.rt_mail.specs.Lanes.{Ring, Line, room, HandsOver}
use Rattle.rt_mail.specs.Runs.{Call, Flush}
use Rattle.rt_mail.specs.Runs.{Mail, new_mail, after, after_all, put, handed_over}

-- what was handed over, and then what waits, is what was queued and signed, in order: nothing is
-- lost, and nothing twice
abbrev pub HandsOverInOrder : Type 0
HandsOverInOrder = (capacity : ℕ) (calls : List Call)
    → let m = after_all (new_mail capacity) calls in
    handed_over m ++ m.lane.waiting ≡ put calls

-- a lane's mirror knows what one knows who takes what was handed over, and no more
abbrev pub MirrorsWhatIsHandedOver : Type 0
MirrorsWhatIsHandedOver = (capacity : ℕ) (calls : List Call)
    → let m = after_all (new_mail capacity) calls in
    m.lane.mirror
    ≡ Some (known_of nothing_known (handed_over m))

-- the mail of a lane and a ring, beside what is gone
abbrev pub beside : Mail → Line → Ring → Mail
beside m lane ring = record m { lane = lane; ring = ring }

-- what is promised of a call on a lane makes it one of these calls
pub record CallsAreMade : Type 0 where
  pub flush : (m : Mail) (lane : Line) (ring : Ring)
      → HandsOver (min (length m.lane.waiting) (room m.ring)) m.lane m.ring lane ring
      → beside m lane ring ≡ after m Flush
