-- What an item says of a request, and what a seat's items say of all of them.
use Rattle.std.specs.Prelude.{◌≡◌, ◌⊎◌, ◌==◌, ◌+◌, ℕ, min, List, [], ◌∷◌, ◌++◌, if◌then◌else◌}
use Rattle.std.specs.Prelude.{Option, Some, None, IsTrue, is_some}
use Rattle.std.specs.List.{fold}
use Rattle.std.specs.Option.{option_or}
use Rattle.rt_wire.specs.declared.request.Reason.{Reason}
use Rattle.rt_world.specs.declared.step.Call.{Call}
use Rattle.rt_world.specs.declared.step.Call.TheVariants as call
use Rattle.rt_mail.specs.declared.item.Item.{Item}
use Rattle.rt_mail.specs.declared.item.Item.TheVariants as item
use Rattle.rt_mail.specs.Mailbox.{Known, known_of}
use Rattle.rt_client.specs.declared.shared.Done.{Done}
use Rattle.rt_client.specs.declared.error.ClientError.{ClientError}
use Rattle.rt_client.specs.declared.error.ClientError.TheVariants as client
use Rattle.rt_client.specs.Calls.{Seated}
use Rattle.rt_client.specs.Delivery.{emptied}
use Rattle.rt_client.specs.Waiting.{IsDone, IsUnmade}
use Rattle.rt_link.specs.declared.answers.Answer.{Answer}
use Rattle.rt_link.specs.declared.answers.Answer.TheVariants as answer
use Rattle.rt_link.specs.declared.answers.Answered.{Answered}

-- the server has done it, or refuses it for a reason
abbrev pub settled_by : Option Reason → Answer
settled_by None = answer.Done
settled_by (Some why) = answer.Refused why

-- the listener that a call ends; 0 of another call
abbrev pub ended_by : Call → ℕ
ended_by (call.Unlisten listener) = listener
ended_by (call.Listen query) = 0
ended_by (call.Write action) = 0
ended_by (call.OnDisconnect ending) = 0

-- the number that a call is given, or the other one where it is given none
abbrev pub number_in : Option ℕ → ℕ → ℕ
number_in (Some n) ended = n
number_in None ended = ended

-- the seat's call is made, and answered by the number of what is new, or of the listener that it ends
pub record IsAsked (seat : Seated) (c : Call) (n : ℕ) (left : Seated) : Type 0 where
  pub done : Done
  pub made : IsDone seat c done left
  pub number : n ≡ number_in done.given (ended_by c)

-- an item says of a request how it is settled, or nothing
abbrev pub answer_in : Item → ℕ → Option Answer
answer_in (item.Receipt receipt) request = None
answer_in (item.Batch batch) request = None
answer_in (item.Settled id why) request = if id == request then Some (settled_by why) else None
answer_in (item.Cancelled listener why) request = None

-- what the first of some items that speaks of a request says of it, or nothing
abbrev pub answer_among : List Item → ℕ → Option Answer
answer_among [] request = None
answer_among (i ∷ is) request = option_or (answer_in i request) (answer_among is request)

-- the items behind that one; none where none speaks of it
abbrev pub behind_answer : List Item → ℕ → List Item
behind_answer [] request = []
behind_answer (i ∷ is) request = if is_some (answer_in i request) then is else behind_answer is request

-- what is said of a request by the items that the seat's ring held and then those that came, in order: up to
-- the first that speaks of it they are passed over, and all where none does
pub record Answers (old : Seated) (request : ℕ) (said : Option Answer) (new : Seated) : Type 0 where
  pub came : List Item
  pub told : said ≡ answer_among (old.ring.items ++ came) request
  pub seat : new ≡ record old {
    ring = record old.ring { items = behind_answer (old.ring.items ++ came) request };
  }

-- nothing is said of it so far: the seat is as it was, or items were passed over
abbrev pub IsSilent : Seated → ℕ → Seated → Type 0
IsSilent old request new = (new ≡ old) ⊎ Answers old request None new

-- why it is waited for no more: the client has failed, or the seat is closed or another client's
abbrev pub RefusesAnswering : Seated → ℕ → ClientError → Seated → Type 0
RefusesAnswering old request client.Failed new = IsSilent old request new
RefusesAnswering old request client.WrongSeat new = IsSilent old request new
RefusesAnswering old request client.MailboxFull new = ⊥
RefusesAnswering old request client.TooManySeats new = ⊥
RefusesAnswering old request (client.Core why) new = ⊥
RefusesAnswering old request client.NoMemory new = ⊥

-- a seat stays the same one: what its ring holds may change
abbrev pub IsSameSeat : Seated → Seated → Type 0
IsSameSeat old new = (new.client ≡ old.client) × (new.number ≡ old.number)

-- ---- what a seat is told is heard

-- before any answer
abbrev pub none_answered : Answered
none_answered = record { done = 0; refused = 0 }

-- one more, as far as a count of 64 bits goes
abbrev pub one_more : ℕ → ℕ
one_more count = min (count + 1) 18446744073709551615

-- what an item adds: a request that is settled is done, or refused; no other item answers one
abbrev pub tallied : Answered → Item → Answered
tallied a (item.Receipt receipt) = a
tallied a (item.Batch batch) = a
tallied a (item.Settled id None) = record a { done = one_more a.done }
tallied a (item.Settled id (Some why)) = record a { refused = one_more a.refused }
tallied a (item.Cancelled listener why) = a

-- a mirror that has not failed takes all that the seat's ring held, and then what came, in order; each is
-- counted, and the ring is empty
pub record HearsAll (old : Seated) (mirror : Option Known) (had : Answered) (new : Seated)
    (heard : Option Known) (has : Answered) : Type 0 where
  pub came : List Item
  pub known : Known
  pub works : mirror ≡ Some known
  pub knows : heard ≡ Some (known_of known (old.ring.items ++ came))
  pub counted : has ≡ fold tallied had (old.ring.items ++ came)
  pub seat : new ≡ emptied old

-- so it is, or nothing is heard
abbrev pub Hears : Seated → Option Known → Answered → Seated → Option Known → Answered → Type 0
Hears old mirror had new heard has =
    ((new ≡ old) × (heard ≡ mirror) × (has ≡ had)) ⊎ HearsAll old mirror had new heard has

-- why no more is heard: the client or the mirror has failed, or the seat is closed or another client's; or
-- memory lacks for an item, and the mirror fails
abbrev pub RefusesHearing : Seated → Option Known → Answered → ClientError → Seated → Option Known
    → Answered → Type 0
RefusesHearing old mirror had client.Failed new heard has = Hears old mirror had new heard has
RefusesHearing old mirror had client.WrongSeat new heard has = Hears old mirror had new heard has
RefusesHearing old mirror had client.MailboxFull new heard has = ⊥
RefusesHearing old mirror had client.TooManySeats new heard has = ⊥
RefusesHearing old mirror had (client.Core why) new heard has = ⊥
RefusesHearing old mirror had client.NoMemory new heard has =
    IsTrue (is_some mirror) × (heard ≡ None) × IsSameSeat old new

-- ---- a call behind what is heard

-- the call is made, of the seat as it is then
pub record IsDoneBehind (old : Seated) (mirror : Option Known) (had : Answered) (c : Call) (done : Done)
    (new : Seated) (heard : Option Known) (has : Answered) : Type 0 where
  pub behind : Seated
  pub hears : Hears old mirror had behind heard has
  pub made : IsDone behind c done new

-- or it is refused
pub record IsUnmadeBehind (old : Seated) (mirror : Option Known) (had : Answered) (c : Call)
    (why : ClientError) (new : Seated) (heard : Option Known) (has : Answered) : Type 0 where
  pub behind : Seated
  pub hears : Hears old mirror had behind heard has
  pub refused : IsUnmade behind c why new
