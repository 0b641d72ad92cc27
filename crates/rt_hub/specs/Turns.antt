-- What a turn of a connection leaves of a hub.
use Rattle.std.specs.Prelude.{◌≡◌, ◌≤◌, ◌⊎◌, ℕ, List, [], ◌∷◌, ◌++◌, length, map, Option, Some, None, ⊤}
use Rattle.std.specs.Prelude.{Result, Ok, Err, string_bytes}
use Rattle.std.specs.List.{flat_map}
use Rattle.rt_wire.specs.Client.{client_message}
use Rattle.rt_wire.specs.declared.client.ClientMessage.{ClientMessage}
use Rattle.rt_wire.specs.declared.error.WireError.{WireError}
use Rattle.rt_peer.specs.Peers.{Peer}
use Rattle.rt_peer.specs.Runs.{Call, Message}
use Rattle.rt_hub.specs.Bounded.{after_bounded, bounded, sent_bounded}
use Rattle.rt_hub.specs.Hubs.{Hub, receivers}
use Rattle.rt_hub.specs.Runs.{DoesAll, OfPeer}
use Rattle.rt_hub.specs.Verdicts.{verdict_of}
use Rattle.rt_hub.specs.declared.refusal.Verdict.{Verdict}
use Rattle.rt_hub.specs.declared.refusal.Verdict.TheVariants as Is
use Rattle.rt_hub.specs.declared.refusal.When.{When}
use Rattle.rt_hub.specs.Doors.{Gives}
use Rattle.rt_hub.specs.Refusing.{given_answers}
use Rattle.rt_hub.specs.declared.door.DoorRead.{DoorRead}
use Rattle.rt_hub.specs.declared.door.DoorRead.TheVariants as Says
use Rattle.rt_hub.specs.declared.hub.Accepted.{Accepted}
use Rattle.rt_hub.specs.declared.hub.Notes.{Notes}
use Rattle.rt_hub.specs.declared.turn.Turn.{Turn}
use Rattle.rt_hub.specs.declared.turn.Turn.TheVariants.{Idle, More, Ended}

-- ---- calls

-- what a text is to the peer: a message of the connection, or nothing where it is none of a client
abbrev pub text_call : ℕ → Result ClientMessage WireError → List Call
text_call n (Ok message) = Message n message ∷ []
text_call n (Err why) = []

-- what a door gives is to the peer: nothing where it is no text
abbrev pub given_call : ℕ → Option (List ℕ) → List Call
given_call n None = []
given_call n (Some text) = text_call n (client_message text)

-- what a door gives, one after another
abbrev pub calls_of : ℕ → List (Option (List ℕ)) → List Call
calls_of n given = flat_map (given_call n) given

-- the hub is as after these calls of its peer, in order, and nothing was handed over; one that has lacked
-- memory stays so
abbrev pub AreMade : Option Hub → List Call → Option Hub → Type 0
AreMade None calls new = new ≡ None
AreMade (Some old) calls None = ⊥
AreMade (Some old) calls (Some new) = DoesAll old (map OfPeer calls) new

-- ---- what is accepted

-- when a request is done, and its text
abbrev pub Request : Type 0
Request = When × List ℕ

abbrev pub request_of : Accepted → Request
request_of a = (a.when, string_bytes a.text)

-- by what became of a message
abbrev pub accepted_as : Verdict → List ℕ → List Request
accepted_as (Is.Accepted when) text = (when, text) ∷ []
accepted_as Is.Refused text = []
accepted_as Is.NoRequest text = []

-- a text of the connection, where it is a request that the peer accepts
abbrev pub text_accepted : ℕ → Peer → List ℕ → Result ClientMessage WireError → List Request
text_accepted n p text (Ok message) = accepted_as (verdict_of message (bounded p (Message n message)).1) text
text_accepted n p text (Err why) = []

abbrev pub given_accepted : ℕ → Peer → Option (List ℕ) → List Request
given_accepted n p None = []
given_accepted n p (Some text) = text_accepted n p text (client_message text)

-- of what a door gives, one after another
abbrev pub all_accepted : ℕ → Peer → List (Option (List ℕ)) → List Request
all_accepted n p [] = []
all_accepted n p (g ∷ given) = given_accepted n p g ++ all_accepted n (after_bounded p (given_call n g)) given

-- ---- what is heard

-- the hub is as after what was given; those to whom something was sent for that, and the requests among it
-- that were accepted, come behind
pub record HasHeard (n : ℕ) (given : List (Option (List ℕ))) (old new : Hub) (was is : Notes) : Type 0 where
  pub made : DoesAll old (map OfPeer (calls_of n given)) new
  pub told : is.told.items ≡ was.told.items ++ receivers (sent_bounded old.peer (calls_of n given))
  pub accepted : map request_of is.accepted.items
      ≡ map request_of was.accepted.items ++ all_accepted n old.peer given

abbrev pub HasHeardIn : ℕ → List (Option (List ℕ)) → Option Hub → Option Hub → Notes → Notes → Type 0
HasHeardIn n given None new was is = new ≡ None
HasHeardIn n given (Some old) None was is = ⊥
HasHeardIn n given (Some old) (Some new) was is = HasHeard n given old new was is

-- a door gave just so many messages, the hub is as after them, and what the connection is answered for
-- those that can't be taken comes behind
pub record Hears (count n : ℕ) (old new : Option Hub) (had has : Option (List (Option (List ℕ))))
    (was is : Notes) : Type 0 where
  pub given : List (Option (List ℕ))
  pub many : length given ≡ count
  pub gave : Gives had has given
  pub heard : HasHeardIn n given old new was is
  pub answered : map string_bytes is.answers.items
      ≡ map string_bytes was.answers.items ++ flat_map given_answers given

-- ---- turns

-- how many messages are taken next: one, where the turn goes on
abbrev pub next_count : Option Turn → ℕ
next_count None = 1
next_count (Some turn) = 0

-- a turn goes on where the door gave a message, and else ends as the door says
abbrev pub IsNext : Option Turn → DoorRead → Type 0
IsNext None said = (said ≡ Says.Text) ⊎ (said ≡ Says.Other)
IsNext (Some Idle) said = said ≡ Says.Nothing
IsNext (Some More) said = ⊥
IsNext (Some Ended) said = said ≡ Says.Ended

-- a turn takes at most so many messages, and as many where it ends because of that
abbrev pub IsCount : Turn → ℕ → ℕ → Type 0
IsCount Idle most count = count ≤ most
IsCount More most count = count ≡ most
IsCount Ended most count = count ≤ most

abbrev pub HearsTurn : Turn → ℕ → ℕ → Option Hub → Option Hub → Option (List (Option (List ℕ)))
    → Option (List (Option (List ℕ))) → Notes → Notes → Type 0
HearsTurn turn most n old new had has was is =
    (count : ℕ) × IsCount turn most count × Hears count n old new had has was is

-- a turn that doesn't end for that ends as the door says
abbrev pub IsTurn : Turn → DoorRead → Type 0
IsTurn Idle said = said ≡ Says.Nothing
IsTurn More said = ⊤
IsTurn Ended said = said ≡ Says.Ended
