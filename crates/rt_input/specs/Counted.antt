-- A stream whose bytes are counted while a message is awaited, and that can be read on where it can't be
-- written to.
use Rattle.std.specs.Prelude.{ℕ, ◌==◌, Bool, true, false, List, Option, None, Result, Ok, Err, if◌then◌else◌}

-- the stream, how many of its bytes may be read for one message, and how many of these are left;
-- whether the last read found its end, and the last write failed; and whether what is written goes
-- nowhere
pub record CountedStream (S : Type 0) : Type 0 where
  pub stream : S
  pub most : ℕ
  pub left : ℕ
  pub has_ended : Bool
  pub has_failed : Bool
  pub is_shut : Bool

-- where a first message is awaited all are left
abbrev pub awaiting : {S : Type 0} → S → ℕ → CountedStream S
awaiting stream most = record {
  stream = stream;
  most = most;
  left = most;
  has_ended = false;
  has_failed = false;
  is_shut = false;
}

-- whether a read or a write failed, or moved no byte
abbrev pub moves_nothing : {E : Type 0} → Result ℕ E → Bool
moves_nothing (Ok n) = n == 0
moves_nothing (Err e) = true

-- the bytes that were written, where they are known: not where they go nowhere
abbrev pub known_output : {S : Type 0} → (S → Option (List ℕ)) → CountedStream S → Option (List ℕ)
known_output contents c = if c.is_shut then None else contents c.stream
