-- What a turn takes of a wire and gives to it, round by round.
use Rattle.std.proofs.Common.{◌≡◌, ◌<◌, ℕ, ◌+◌, List, [], ◌++◌, length, false, Option, Some, None, Result, inl, inr, ◌⊎◌, refl, sym, subst, append-nil, add-one}
use Rattle.std.proofs.lemmas.List.{nil_from_length}
use Rattle.rt_wire.specs.declared.client.ClientMessage.{ClientMessage}
use Rattle.rt_wire.specs.declared.error.WireError.{WireError}
use Rattle.rt_wire.specs.declared.server.ServerMessage.{ServerMessage}
use Rattle.rt_world.specs.declared.step.Step.TheVariants as step
use Rattle.rt_client.specs.Calls.{HasFailed, Locked}
use Rattle.rt_client.specs.Waiting.{HasRefusal}
use Rattle.rt_client.specs.declared.error.ClientError.{ClientError}
use Rattle.rt_client.specs.declared.error.ClientError.TheVariants as client
use Rattle.rt_socket.specs.Reading.{ReadsMost}
use Rattle.rt_socket.specs.declared.wire.Pause.{Pause}
use Rattle.rt_socket.specs.declared.wire.Pause.TheVariants as pause
use Rattle.rt_socket.specs.declared.wire.Flushed.{Flushed}
use Rattle.rt_socket.specs.declared.wire.Heard.{Heard}
use Rattle.rt_socket.specs.declared.wire.Said.{Said}
use Rattle.rt_link.specs.Taking.{TakesAll, TakesBatch}
use Rattle.rt_link.specs.Turning.{is_there_more}
use Rattle.rt_link.specs.inside.Rounds.{held_up, AnswersTurn, HearsTurn, RefusesEnd, RefusesNext, RefusesTurn}
use Rattle.rt_link.specs.inside.Rounds.{SaysAll, SaysLast, SaysNext, SaysRound, SaysRounds, SaysTurn}
use Rattle.rt_link.specs.declared.error.LinkFault.{LinkFault}
use Rattle.rt_link.specs.declared.error.LinkFault.TheVariants as fault
use Rattle.rt_link.specs.declared.turn.Passed.{Passed}
use Rattle.rt_link.specs.declared.turn.SentOff.{SentOff}
use Rattle.rt_link.specs.declared.turn.SentOff.TheVariants as sent
use Rattle.rt_link.specs.declared.turn.TheConstants.{BATCH, ROUNDS}

-- ---- what is heard

-- a client that holds nothing
unheld : Locked
unheld = record { number = 0; ids = None; held = None; stopped = false }

-- where nothing was read, nothing is taken
pub heard_none : (p : Pause) (told : Said) (gave left : Option (List Heard)) (ps : List Passed)
    (messages : List (Result ServerMessage WireError)) → length messages ≡ 0
    → ReadsMost p BATCH told gave left messages → HearsTurn p told gave left ps ps
heard_none p told gave left ps messages none reads = record {
  messages = messages;
  reads = reads;
  old = unheld;
  takes = (
    [],
    unheld,
    subst (λ ms. TakesAll ms unheld [] unheld) (sym (nil_from_length messages none)) (refl, refl),
    sym (append-nil ps),
  );
}

-- what was read is taken
pub heard_some : (p : Pause) (told : Said) (gave left : Option (List Heard)) (had has : List Passed)
    (messages : List (Result ServerMessage WireError)) (old new : Locked)
    → ReadsMost p BATCH told gave left messages
    → (more : List Passed) × TakesAll messages old more new × (has ≡ had ++ more)
    → HearsTurn p told gave left had has
heard_some p told gave left had has messages old new reads t = record {
  messages = messages;
  reads = reads;
  old = old;
  takes = (t.0, new, t.1, t.2);
}

-- why nothing is taken
pub untaken : (old : Locked) (why : ClientError) (e : LinkFault)
    → ((why ≡ client.Failed) × HasFailed old) ⊎ (why ≡ client.NoMemory) → e ≡ fault.Client why → RefusesTurn e
untaken old why e (inl h) is = inl (subst (λ w. e ≡ fault.Client w) h.0 is)
untaken old why e (inr h) is = inr (inl (subst (λ w. e ≡ fault.Client w) h is))

pub ruleset all_heard = (heard_none, heard_some, untaken)

-- ---- what is said

pub next_said : (old new : Locked) (messages : List ClientMessage) (s : SentOff) (had has : Option (List (List ℕ)))
    → TakesBatch BATCH old messages new → SaysAll messages s had has → SaysNext old s had has
next_said old new messages s had has taken said = (messages, new, taken, said)

pub not_next : (old : Locked) (why : ClientError) (e : LinkFault)
    → ((why ≡ client.Failed) × HasFailed old) ⊎ (why ≡ client.NoMemory) → e ≡ fault.Client why
    → RefusesNext old e
not_next old why e (inl h) is = inl (subst (λ w. e ≡ fault.Client w) h.0 is, h.1)
not_next old why e (inr h) is = inr (inl (subst (λ w. e ≡ fault.Client w) h is))

pub ruleset all_next = (next_said, not_next)

-- ---- round by round

pub held_round : (flushed : Flushed) (s : SentOff) (had has : Option (List (List ℕ))) → held_up flushed ≡ Some s
    → has ≡ had → SaysRound s had has
held_round flushed s had has held same = inl (flushed, held, same)

pub next_round : (old : Locked) (s : SentOff) (had mid has : Option (List (List ℕ))) → mid ≡ had
    → SaysNext old s mid has → SaysRound s had has
next_round old s had mid has same said = inr (old, subst (λ x. SaysNext old s x has) same said)

pub not_round : (old : Locked) (e : LinkFault) → RefusesNext old e → RefusesTurn e
not_round old e (inl h) = inl h.0
not_round old e (inr h) = inr h

pub ruleset all_round = (held_round, next_round, not_round)

-- some rounds, and one more
pub one_more_round : (count : ℕ) (had mid has : Option (List (List ℕ))) → SaysRounds count had mid
    → SaysRound sent.More mid has → SaysRounds (count + 1) had has
one_more_round count had mid has first last =
    subst (λ n. SaysRounds n had has) (sym (add-one count)) (mid, first, last)

pub last_round : (count : ℕ) (s : SentOff) (had mid has : Option (List (List ℕ))) → count < ROUNDS
    → SaysRounds count had mid → SaysRound s mid has → SaysLast s had has
last_round count s had mid has few first last = record {
  count = count;
  few = few;
  mid = mid;
  first = first;
  last = last;
}

-- as many as are made in one go
pub all_rounds : (count : ℕ) (had has : Option (List (List ℕ))) → count ≡ ROUNDS → SaysRounds count had has
    → SaysTurn sent.More had has
all_rounds count had has all made = (count, all, made)

pub ruleset all_turn = (one_more_round, last_round, all_rounds)

pub more_answered : (said s : SentOff) (had has : Option (List (List ℕ))) → s ≡ is_there_more said
    → SaysTurn said had has → AnswersTurn pause.More s had has
more_answered said s had has is made = (said, is, made)

-- ---- what the client is told

pub not_told : (why : ClientError) (e : LinkFault) → e ≡ fault.Client why → HasRefusal step.Disconnected why
    → RefusesEnd e
not_told why e is refused = (why, is, refused)
