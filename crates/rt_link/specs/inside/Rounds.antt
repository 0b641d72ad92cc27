-- What a turn takes of a wire for the client, and what it gives the wire of the client's. The client's locked
-- value is the one that the lock gave.
use Rattle.std.specs.Prelude.{◌≡◌, ◌⊎◌, ◌<◌, ℕ, zero, suc, List, ◌++◌, length, Option, Some, None, Result}
use Rattle.rt_wire.specs.declared.client.ClientMessage.{ClientMessage}
use Rattle.rt_wire.specs.declared.error.WireError.{WireError}
use Rattle.rt_wire.specs.declared.server.ServerMessage.{ServerMessage}
use Rattle.rt_world.specs.declared.step.Step.TheVariants as step
use Rattle.rt_client.specs.Calls.{HasFailed, Locked}
use Rattle.rt_client.specs.Waiting.{HasRefusal}
use Rattle.rt_client.specs.declared.error.ClientError.{ClientError}
use Rattle.rt_client.specs.declared.error.ClientError.TheVariants as client
use Rattle.rt_socket.specs.Reading.{ReadsMost, texts_of}
use Rattle.rt_socket.specs.Wires.{Takes}
use Rattle.rt_socket.specs.declared.wire.Pause.{Pause}
use Rattle.rt_socket.specs.declared.wire.Pause.TheVariants as pause
use Rattle.rt_socket.specs.declared.wire.Flushed.{Flushed}
use Rattle.rt_socket.specs.declared.wire.Flushed.TheVariants as flush
use Rattle.rt_socket.specs.declared.wire.Heard.{Heard}
use Rattle.rt_socket.specs.declared.wire.Said.{Said}
use Rattle.rt_link.specs.Taking.{TakesAll, TakesBatch}
use Rattle.rt_link.specs.Turning.{is_there_more}
use Rattle.rt_link.specs.declared.error.LinkFault.{LinkFault}
use Rattle.rt_link.specs.declared.error.LinkFault.TheVariants as fault
use Rattle.rt_link.specs.declared.turn.Passed.{Passed}
use Rattle.rt_link.specs.declared.turn.SentOff.{SentOff}
use Rattle.rt_link.specs.declared.turn.SentOff.TheVariants as sent
use Rattle.rt_link.specs.declared.turn.TheConstants.{BATCH, ROUNDS}

-- why a turn is not made: the client has failed, or memory lacks
abbrev pub RefusesTurn : LinkFault → Type 0
RefusesTurn e =
    (e ≡ fault.Client client.Failed) ⊎ ((e ≡ fault.Client client.NoMemory) ⊎ (e ≡ fault.NoMemory))

-- ---- what is heard

-- the client takes messages of the server, in order, and noted is which were passed over
abbrev pub TakesHeard : List (Result ServerMessage WireError) → Locked → List Passed → List Passed → Type 0
TakesHeard messages old had has =
    (more : List Passed) × (new : Locked) × TakesAll messages old more new × (has ≡ had ++ more)

-- the messages that a wire gave in one go are those that the client takes
pub record HearsTurn (p : Pause) (told : Said) (gave left : Option (List Heard)) (had has : List Passed)
    : Type 0 where
  pub messages : List (Result ServerMessage WireError)
  pub reads : ReadsMost p BATCH told gave left messages
  pub old : Locked
  pub takes : TakesHeard messages old had has

-- ---- what is said

-- what is left to be done for a wire by what became of what it has taken: nothing, or why it takes nothing
-- any more; none where it can be given more
abbrev pub held_up : Flushed → Option SentOff
held_up flush.Done = None
held_up flush.Blocked = Some sent.Done
held_up (flush.Failed why) = Some (sent.Lost why)

-- messages are given to a wire, each of them unless it takes nothing any more; there is nothing left to be
-- done where there are none
abbrev pub SaysAll : List ClientMessage → SentOff → Option (List (List ℕ)) → Option (List (List ℕ)) → Type 0
SaysAll messages sent.Done had has = (length messages ≡ 0) × (has ≡ had)
SaysAll messages sent.More had has = (0 < length messages) × Takes had has (texts_of messages)
SaysAll messages (sent.Lost why) had has = 0 < length messages

-- they are the next messages that the client has to send
abbrev pub SaysNext : Locked → SentOff → Option (List (List ℕ)) → Option (List (List ℕ)) → Type 0
SaysNext old s had has =
    (messages : List ClientMessage) × (new : Locked) × TakesBatch BATCH old messages new
    × SaysAll messages s had has

-- why they are not given
abbrev pub RefusesNext : Locked → LinkFault → Type 0
RefusesNext old e =
    ((e ≡ fault.Client client.Failed) × HasFailed old)
    ⊎ ((e ≡ fault.Client client.NoMemory) ⊎ (e ≡ fault.NoMemory))

-- a round: a wire that is held up is given nothing, and another one the next messages
abbrev pub SaysRound : SentOff → Option (List (List ℕ)) → Option (List (List ℕ)) → Type 0
SaysRound s had has =
    ((flushed : Flushed) × (held_up flushed ≡ Some s) × (has ≡ had))
    ⊎ ((old : Locked) × SaysNext old s had has)

-- so many rounds, each of which gives messages
abbrev pub SaysRounds : ℕ → Option (List (List ℕ)) → Option (List (List ℕ)) → Type 0
SaysRounds zero had has = has ≡ had
SaysRounds (suc count) had has =
    (mid : Option (List (List ℕ))) × SaysRounds count had mid × SaysRound sent.More mid has

-- and then one that gives none, or to which the wire is lost
pub record SaysLast (s : SentOff) (had has : Option (List (List ℕ))) : Type 0 where
  pub count : ℕ
  pub few : count < ROUNDS
  pub mid : Option (List (List ℕ))
  pub first : SaysRounds count had mid
  pub last : SaysRound s mid has

-- a turn: rounds up to such a one, or as many as are made in one go
abbrev pub SaysTurn : SentOff → Option (List (List ℕ)) → Option (List (List ℕ)) → Type 0
SaysTurn sent.Done had has = SaysLast sent.Done had has
SaysTurn sent.More had has = (count : ℕ) × (count ≡ ROUNDS) × SaysRounds count had has
SaysTurn (sent.Lost why) had has = SaysLast (sent.Lost why) had has

-- a turn of a wire of which no more is read for such a cause: nothing is said to one that has ended
abbrev pub AnswersTurn : Pause → SentOff → Option (List (List ℕ)) → Option (List (List ℕ)) → Type 0
AnswersTurn pause.Idle s had has = SaysTurn s had has
AnswersTurn pause.More s had has = (said : SentOff) × (s ≡ is_there_more said) × SaysTurn said had has
AnswersTurn (pause.Ended why) s had has = (s ≡ sent.Lost why) × (has ≡ had)

abbrev pub RefusesAnswer : Pause → LinkFault → Type 0
RefusesAnswer pause.Idle e = RefusesTurn e
RefusesAnswer pause.More e = RefusesTurn e
RefusesAnswer (pause.Ended why) e = ⊥

-- ---- what the client is told

-- why it is not told that its connection has ended
abbrev pub RefusesEnd : LinkFault → Type 0
RefusesEnd e = (why : ClientError) × (e ≡ fault.Client why) × HasRefusal step.Disconnected why
