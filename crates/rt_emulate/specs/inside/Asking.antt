-- What requests by plain HTTP come to.
use Rattle.std.specs.Prelude.{◌≡◌, ◌⊎◌, ◌≤◌, ◌+◌, ◌-◌, ◌^◌, ◌++◌, ℕ, min, List, [], Bool, true, false, if◌then◌else◌, codes}
use Rattle.std.specs.Prelude.{Option, Some, None, IfSome, Result, Ok, Err, IsOkAnd, MatchResult, String, string_bytes}
use Rattle.std.specs.declared.alloc.Global.{Global}
use Rattle.std.specs.Option.{option_map}
use Rattle.std.specs.Str.{is_utf8}
use Rattle.json.specs.Layout.{pretty}
use Rattle.json.specs.Lex.{tokens}
use Rattle.serde_json.specs.Data.{depth}
use Rattle.serde_json.specs.Read.{max_depth, read}
use Rattle.serde_json.specs.Written.{compact_text}
use Rattle.rt_push.specs.Digits.{number}
use Rattle.rt_push.specs.PushIds.{push_id, used}
use Rattle.rt_wire.specs.Client.{client_message}
use Rattle.rt_wire.specs.ClientData.{client_data}
use Rattle.rt_wire.specs.ReadBack.{IsClientMessage, IsClientText}
use Rattle.rt_wire.specs.Server.{server_message}
use Rattle.rt_wire.specs.declared.client.ClientMessage.{ClientMessage}
use Rattle.rt_wire.specs.declared.error.WireError.{WireError}
use Rattle.rt_wire.specs.declared.error.WireError.TheVariants as wire
use Rattle.rt_wire.specs.declared.server.ServerMessage.{ServerMessage}
use Rattle.rt_peer.specs.Runs.{Connect, EndSome}
use Rattle.rt_hub.specs.Bounded.{bounded}
use Rattle.rt_hub.specs.Hubs.{Hub, IsHanded, IsMade, IsTaken, TakesText, first_of, line_in, receivers}
use Rattle.rt_hub.specs.declared.hub.Taken.{Taken}
use Rattle.rt_hub.specs.declared.hub.Taken.TheVariants.{Message, PassedOver}
use Rattle.rt_hub.specs.declared.refusal.Verdict.{Verdict}
use Rattle.rt_hub.specs.declared.refusal.Verdict.TheVariants.{Accepted, Refused, NoRequest}
use Rattle.rt_journal.specs.Journals.{Journal}
use Rattle.rt_hub.specs.declared.hub.TheConstants.{TURN_ACTIONS}
use Rattle.rt_http.specs.Answers.{answer_bytes}
use Rattle.rt_http.specs.Faults.{fault_status, words_of}
use Rattle.rt_http.specs.Messages.{message_of, object_with, reply_of, wanted_of}
use Rattle.rt_http.specs.declared.ask.Ask.{Ask}
use Rattle.rt_http.specs.declared.ask.Asked.{Asked}
use Rattle.rt_http.specs.declared.fault.Fault.{Fault}
use Rattle.rt_http.specs.declared.fault.Fault.TheVariants.{Host, NoAnswer, NoMemory, Page, TooLarge}
use Rattle.rt_http.specs.declared.answer.Wanted.{Wanted}
use Rattle.rt_http.specs.declared.answer.Status.TheVariants.{Okay}
use Rattle.rt_emulate.specs.declared.calls.Question.{Question}
use Rattle.rt_emulate.specs.declared.edge.Keys.{Keys}
use Rattle.rt_emulate.specs.inside.Keeping.{note_text}

-- ---- keys

-- a key is a push id of the moment, above those before
abbrev pub stamp_at : Keys → ℕ → ℕ × ℕ
stamp_at k now = used k.ids (min (k.start + now) (2 ^ 64 - 1)) (number k.random)

abbrev pub IsNextKey : Keys → ℕ → List ℕ → Keys → Type 0
IsNextKey old now key new =
    (key ≡ push_id (stamp_at old now)) × (new ≡ record old { ids = Some (stamp_at old now) })

-- ---- what the hub is asked

-- the hub is asked by the text of the message that asks a peer for it; it isn't where none does
abbrev pub IsQuestion : Ask → List ℕ → Option Question → Type 0
IsQuestion ask key None = (wanted_of ask ≡ None) ⊎ (message_of ask key ≡ Ok None)
IsQuestion ask key (Some q) =
    (m : ClientMessage) × (wanted_of ask ≡ Some q.wanted) × (message_of ask key ≡ Ok (Some m)) × (q.key ≡ key)
    × (string_bytes q.text ≡ compact_text (client_data m)) × (IsClientMessage m → IsClientText m (string_bytes q.text))

-- so it is for what a request asks for, where a new key is the next one
abbrev pub IsPrepared : Result Asked Fault → Keys → ℕ → Option Question × Bool → Keys → Type 0
IsPrepared (Ok asked) old now p new =
    (key : List ℕ) × IsNextKey old now key new × IsQuestion asked.ask key p.0 × (p.1 ≡ asked.is_pretty)
IsPrepared (Err fault) old now p new = ⊥

-- a request that was accepted is noted
abbrev pub noted_as : ℕ → Verdict → List ℕ → Option Journal → Option Journal
noted_as n (Accepted when) text kept = option_map (note_text n when text) kept
noted_as n Refused text kept = kept
noted_as n NoRequest text kept = kept

-- what came of a text is noted: that it was accepted, and to whom something is sent for it
abbrev pub IsNoted : ℕ → Taken → List ℕ → Option Journal → List ℕ → Option Journal → List ℕ → Type 0
IsNoted n (Message verdict receivers) text kept told kept2 told2 =
    (kept2 ≡ noted_as n verdict text kept) × (told2 ≡ told ++ receivers.items)
IsNoted n (PassedOver why) text kept told kept2 told2 = (kept2 ≡ kept) × (told2 ≡ told)

-- a connection begins, the text is taken as one of it, the first text that waits for it is what it is sent, and it ends
pub record AsksHub (text : List ℕ) (sent : Option (String Global)) (old new : Option Hub) (kept kept2 : Option Journal)
    (told told2 : List ℕ) : Type 0 where
  pub n : ℕ
  pub taken : Taken
  pub begun : Option Hub
  pub done : Option Hub
  pub handed : Option Hub
  pub connects : IsMade old Connect begun
  pub takes : TakesText begun n (client_message text) done
  pub is : IfSome begun (λ (h : Hub). IsTaken h.peer n (client_message text) taken)
  pub hands : IsHanded done n handed
  pub first : option_map string_bytes sent ≡ first_of (line_in done n)
  pub ends : IsMade handed (EndSome n TURN_ACTIONS) new
  pub mid : List ℕ
  pub noted : IsNoted n taken text kept told kept2 mid
  pub tells : IfSome handed (λ (h : Hub). told2 ≡ mid ++ receivers (bounded h.peer (EndSome n TURN_ACTIONS)).1)

-- ---- what is answered

-- why nothing is answered where what the hub has sent can't be read: it has too many values
abbrev pub unread : WireError → Fault
unread wire.NotJson = NoAnswer
unread wire.UnknownKind = NoAnswer
unread wire.BadField = NoAnswer
unread wire.BadTree = TooLarge
unread wire.NoMemory = NoMemory

-- what is answered once the hub has sent that, if it has sent anything
abbrev pub reply_read : Wanted → List ℕ → List ℕ → Result ServerMessage WireError → Result (List ℕ) Fault
reply_read wanted body key (Ok message) = reply_of wanted body key message
reply_read wanted body key (Err why) = Err (unread why)

abbrev pub reply_to : Question → List ℕ → Option (List ℕ) → Result (List ℕ) Fault
reply_to q body None = Err NoAnswer
reply_to q body (Some text) = reply_read q.wanted body q.key (server_message text)

-- it is answered so, but for want of memory
abbrev pub IsReply : Result (List ℕ) Fault → Result (String Global) Fault → Type 0
IsReply expected reply =
    MatchResult reply (λ text. expected ≡ Ok (string_bytes text)) (λ e. (expected ≡ Err e) ⊎ (e ≡ NoMemory))

-- a body as a text; none of what is no text
abbrev pub text_in : List ℕ → List ℕ
text_in body = if is_utf8 body then body else []

-- the hub is asked, and what it sends is answered
abbrev pub Exchanges : Question → List ℕ → Result (String Global) Fault → Option Hub → Option Hub → Option Journal
    → Option Journal → List ℕ → List ℕ → Type 0
Exchanges q body reply old new kept kept2 told told2 =
    (sent : Option (String Global)) × AsksHub (string_bytes q.text) sent old new kept kept2 told told2
    × IsReply (reply_to q (text_in body) (option_map string_bytes sent)) reply

-- a text is laid out for a reader, and read as the same, but for want of memory
abbrev pub IsLaidOut : List ℕ → Result (String Global) Fault → Type 0
IsLaidOut text result =
    MatchResult result (λ out. (string_bytes out ≡ pretty (tokens (string_bytes out)))
    × IfSome (read text) (λ d. depth d ≤ max_depth → read (string_bytes out) ≡ Some d))
    (λ e. (e ≡ NoMemory) ⊎ (read text ≡ None))

-- an answer is laid out where that is asked for, and a refusal stays
abbrev pub IsShown : Bool → Result (String Global) Fault → Result (String Global) Fault → Type 0
IsShown false reply result = result ≡ reply
IsShown true (Ok text) result = IsLaidOut (string_bytes text) result
IsShown true (Err fault) result = result ≡ Err fault

-- what is prepared is answered: a refusal and what the server says of itself without the hub
abbrev pub Answers : Result (Option Question × Bool) Fault → List ℕ → Result (String Global) Fault → Option Hub → Option Hub
    → Option Journal → Option Journal → List ℕ → List ℕ → Type 0
Answers (Err fault) body reply old new kept kept2 told told2 =
    (reply ≡ Err fault) × (new ≡ old) × (kept2 ≡ kept) × (told2 ≡ told)
Answers (Ok (None, is_pretty)) body reply old new kept kept2 told told2 =
    IsOkAnd reply (λ text. string_bytes text ≡ codes "{\"status\":\"ok\"}") × (new ≡ old) × (kept2 ≡ kept) × (told2 ≡ told)
Answers (Ok (Some q, is_pretty)) body reply old new kept kept2 told told2 =
    (plain : Result (String Global) Fault) × Exchanges q body plain old new kept kept2 told told2
    × IsShown is_pretty plain reply

-- the bytes of an answer
abbrev pub reply_bytes : Bool → Bool → Option (List ℕ) → Result (String Global) Fault → List ℕ
reply_bytes is_kept is_bare page (Ok text) = answer_bytes Okay is_kept is_bare page (string_bytes text)
reply_bytes is_kept is_bare page (Err fault) =
    answer_bytes (fault_status fault) is_kept is_bare page (object_with (codes "error") (words_of fault))

-- no page is let in by a refusal of its host or of itself
abbrev pub lets_in : Fault → Bool
lets_in Host = false
lets_in Page = false
lets_in fault = true

-- the origin whose pages may read an answer
abbrev pub page_of : Result (String Global) Fault → Option (List ℕ) → Option (List ℕ)
page_of (Ok text) origin = origin
page_of (Err fault) origin = if lets_in fault then origin else None
