-- Which requests are accepted.
use Rattle.std.specs.Prelude.{◌≡◌, true, ℕ, if◌then◌else◌, List, Option, Some, None}
use Rattle.rt_wire.specs.declared.request.Ending.TheVariants.{Run, Cancel}
use Rattle.rt_wire.specs.declared.request.Asked.TheVariants as Asks
use Rattle.rt_wire.specs.declared.client.ClientMessage.{ClientMessage}
use Rattle.rt_wire.specs.declared.client.ClientMessage.TheVariants.{Hello, Listen, Unlisten, Ask}
use Rattle.rt_peer.specs.Peers.{Peer, is_denied, is_known}
use Rattle.rt_peer.specs.Calls.{entries_of, refusal}
use Rattle.rt_peer.specs.Runs.{Message}
use Rattle.rt_hub.specs.Bounded.{bar_of, bounded}
use Rattle.rt_hub.specs.declared.door.Bar.{Bar}
use Rattle.rt_hub.specs.declared.refusal.Verdict.{Verdict}
use Rattle.rt_hub.specs.declared.refusal.Verdict.TheVariants.{Accepted, Refused, NoRequest}
use Rattle.rt_hub.specs.declared.refusal.When.{When}
use Rattle.rt_hub.specs.declared.refusal.When.TheVariants.{Now, AtEnd}
use Rattle.rt_hub.specs.Verdicts.{verdict_of}

-- on a request with entries, by why they are refused, if they are
abbrev pub unless_why : When → Option (List ℕ) → Verdict
unless_why when None = Accepted when
unless_why when (Some why) = Refused

-- on a message
abbrev pub judged : Peer → ClientMessage → Verdict
judged p (Hello version) = NoRequest
judged p (Listen tag query) = NoRequest
judged p (Unlisten tag) = NoRequest
judged p (Ask id (Asks.Now action)) = unless_why Now (refusal p.denied (entries_of action))
judged p (Ask id (Asks.AtDisconnect (Run action))) = unless_why AtEnd (refusal p.denied (entries_of action))
judged p (Ask id (Asks.AtDisconnect (Cancel path))) = if is_denied p.denied path then Refused else Accepted AtEnd

-- a request that the hub answers itself is refused
abbrev pub judged_barred : ClientMessage → Verdict
judged_barred (Hello version) = NoRequest
judged_barred (Listen tag query) = NoRequest
judged_barred (Unlisten tag) = NoRequest
judged_barred (Ask id asked) = Refused

abbrev pub judged_unless : Option Bar → Peer → ClientMessage → Verdict
judged_unless None p message = judged p message
judged_unless (Some bar) p message = judged_barred message

abbrev pub judged_in : Peer → ℕ → ClientMessage → Verdict
judged_in p n message = judged_unless (bar_of p n message) p message

-- what is sent for a message of a known connection says so
abbrev pub RequestsAreJudged : Type 0
RequestsAreJudged =
    (p : Peer) (n : ℕ) (message : ClientMessage) → is_known p.connections n ≡ true
    → verdict_of message (bounded p (Message n message)).1 ≡ judged_in p n message

-- and what is refused leaves the peer as it was
abbrev pub RefusedChangesNothing : Type 0
RefusedChangesNothing =
    (p : Peer) (n : ℕ) (message : ClientMessage) → judged_in p n message ≡ Refused
    → (bounded p (Message n message)).0 ≡ p
