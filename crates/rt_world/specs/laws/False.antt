-- Steps and runs as they must not be: the headline is met by none of these.
use Rattle.std.specs.Prelude.{◌≡◌, ℕ, true, List, [], ◌∷◌, ◌++◌, Option, Some, None, Ok, Err, codes}
use Rattle.std.specs.Prelude.{pos}
use Rattle.rt_tree.specs.Leaf.{number}
use Rattle.rt_tree.specs.Path.{path_keys}
use Rattle.rt_tree.specs.PathTree.{Path}
use Rattle.rt_query.specs.Queries.{plain}
use Rattle.rt_view.specs.declared.change.Change.TheVariants.{Value}
use Rattle.rt_wire.specs.declared.client.ClientMessage.{ClientMessage}
use Rattle.rt_wire.specs.declared.request.Action.TheVariants.{Put}
use Rattle.rt_world.specs.declared.error.CoreError.TheVariants.{TooManyListeners}
use Rattle.rt_world.specs.declared.report.Body.TheVariants.{Settled, Cancelled}
use Rattle.rt_world.specs.declared.report.Note.{Note}
use Rattle.rt_world.specs.declared.report.Outcome.TheVariants.{Done}
use Rattle.rt_world.specs.declared.step.Step.{Step}
use Rattle.rt_world.specs.World.{World, Listener, empty_world}
use Rattle.rt_world.specs.Messages.{next}
use Rattle.rt_world.specs.Answers.{Answer, stale_report, step, world_after}
use Rattle.rt_world.specs.Headline.{Moves, Headline}
use Rattle.rt_world.specs.laws.Script.{fresh, num, told, batch, shown_leaf}

-- no such step
abbrev pub Never : World → Step → Answer → World → Type 0
Never old s answer new = Moves old s answer new → ⊥

abbrev pub done : Option ℕ → List Note → Answer
done given notes = Ok (record { outcome = Done; given = given; notes = notes })

abbrev pub a : Path
a = path_keys (codes "/a")

-- a connection; then seat 1 listens to /a; then 7 is pushed there; then the seat sets it to 8
abbrev pub connected : World
connected = world_after fresh (Step.Connected ∷ [])

abbrev pub listening : World
listening = world_after connected (Step.Listen 1 (plain a) ∷ [])

abbrev pub seeing : World
seeing = world_after listening (Step.Data 1 a (num 7) ∷ [])

abbrev pub written : World
written = world_after seeing (Step.Write 1 (Put a (num 8)) ∷ [])

-- the listener, as it shows that number
abbrev pub showing : ℕ → Listener
showing n = record {
  number = 1;
  seat = 1;
  query = plain a;
  is_primed = true;
  view = shown_leaf (number (pos n));
}

-- ---- listeners

-- a listen is answered, and nobody listens
abbrev pub ListenLeavesNothing : Type 0
ListenLeavesNothing = Never fresh (Step.Listen 1 (plain a)) (done (Some 1) []) fresh

-- a listen comes too late
abbrev pub ListenIsStale : Type 0
ListenIsStale = Never fresh (Step.Listen 1 (plain a)) (Ok stale_report) fresh

-- the first listener is one too many
abbrev pub ListenIsRefused : Type 0
ListenIsRefused = Never fresh (Step.Listen 1 (plain a)) (Err TooManyListeners) fresh

-- the server does not hear of a listen
abbrev pub ListenIsNotSent : Type 0
ListenIsNotSent =
    Never connected (Step.Listen 1 (plain a)) (done (Some 1) []) (record listening { outgoing = [] })

-- no listen is kept
abbrev pub NoListenIsKept : Type 0
NoListenIsKept =
    Never connected (Step.Listen 1 (plain a)) (done (Some 1) []) (record listening { kept = [] })

-- another seat is told of a listener's end
abbrev pub EndIsToldToAnother : Type 0
EndIsToldToAnother =
    let s = Step.Revoked 1 (codes "denied") in
    Never seeing s (done None (told 2 (Cancelled 1 (codes "denied")) ∷ [])) (step seeing s).0

-- ---- pushes

-- a push changes nothing
abbrev pub PushIsDropped : Type 0
PushIsDropped = Never listening (Step.Data 1 a (num 7)) (done None []) listening

-- a push on a kept listen comes too late
abbrev pub PushIsStale : Type 0
PushIsStale = Never listening (Step.Data 1 a (num 7)) (Ok stale_report) listening

-- nobody is told of a push
abbrev pub PushIsNotTold : Type 0
PushIsNotTold = Never listening (Step.Data 1 a (num 7)) (done None []) seeing

-- another seat is told
abbrev pub PushIsToldToAnother : Type 0
PushIsToldToAnother =
    Never listening (Step.Data 1 a (num 7)) (done None (told 2 (batch 1 (Value (num 7) ∷ [])) ∷ []))
    seeing

-- a push of 7 shows 8
abbrev pub PushShowsAnother : Type 0
PushShowsAnother =
    Never listening (Step.Data 1 a (num 7)) (done None (told 1 (batch 1 (Value (num 8) ∷ [])) ∷ []))
    (record seeing { listeners = showing 8 ∷ [] })

-- a push is brought, and its listener is never primed
abbrev pub PushPrimesNobody : Type 0
PushPrimesNobody =
    Never listening (Step.Data 1 a (num 7)) (done None [])
    (record seeing { listeners = listening.listeners })

-- ---- writes

-- a write does not show
abbrev pub WriteShowsNothing : Type 0
WriteShowsNothing =
    Never seeing (Step.Write 1 (Put a (num 8))) (done (Some 1) [])
    (record written { listeners = seeing.listeners })

-- a write is forgotten
abbrev pub WriteIsForgotten : Type 0
WriteIsForgotten =
    Never seeing (Step.Write 1 (Put a (num 8)))
    (done (Some 1) (told 1 (batch 1 (Value (num 8) ∷ [])) ∷ [])) (record written { requests = [] })

-- a settled write stays pending
abbrev pub SettledIsPending : Type 0
SettledIsPending =
    Never written (Step.Accepted 1) (done None (told 1 (Settled 1 None) ∷ [])) written

-- a refused write still shows
abbrev pub RefusedStillShows : Type 0
RefusedStillShows =
    let s = Step.Refused 1 (codes "denied") in
    Never written s (done None (told 1 (Settled 1 (Some (codes "denied"))) ∷ []))
    (record (step written s).0 { listeners = showing 8 ∷ [] })

-- ---- runs

-- a run does nothing, whatever it answers
abbrev pub RunDoesNothing : Type 0
RunDoesNothing =
    (answers : List Answer) → Headline fresh (Step.Listen 1 (plain a) ∷ []) answers fresh → ⊥

-- a run stops before its last step, wherever it ends
abbrev pub RunStopsShort : Type 0
RunStopsShort =
    (answer : Answer) (new : World)
    → Headline fresh (Step.Connected ∷ Step.Listen 1 (plain a) ∷ []) (answer ∷ []) new → ⊥

-- a connection, a listen and a push leave no listener, whatever they answer
abbrev pub RunRegistersNobody : Type 0
RunRegistersNobody =
    (answers : List Answer) (new : World) → new.listeners ≡ []
    → let steps = Step.Connected ∷ Step.Listen 1 (plain a) ∷ Step.Data 1 a (num 7) ∷ [] in
    Headline fresh steps answers new → ⊥

-- ---- listens and tags

-- one step does not lead there, whatever it answers
abbrev pub NeverLeads : World → Step → World → Type 0
NeverLeads old s new = (answer : Answer) → Headline old (s ∷ []) (answer ∷ []) new → ⊥

-- the same, but that /a is listened to under that tag, and nothing else is
abbrev pub kept_as : ℕ → World → World
kept_as tag w = record w { kept = record { tag = tag; form = plain a } ∷ [] }

abbrev pub set_a : Step
set_a = Step.Write 1 (Put a (num 8))

-- a write begins and ends a listen of nobody's
abbrev pub noisy : World
noisy = record (step connected set_a).0 {
  outgoing =
      ClientMessage.Listen 99 (plain []) ∷ ClientMessage.Unlisten 99
      ∷ (step connected set_a).0.outgoing;
}

abbrev pub WriteBeginsListen : Type 0
WriteBeginsListen = NeverLeads connected set_a noisy

-- a listen gets another tag than the next one
abbrev pub mistagged : World
mistagged = record (kept_as 77 listening) {
  outgoing = connected.outgoing ++ ClientMessage.Listen 77 (plain a) ∷ [];
}

abbrev pub ListenGetsAnyTag : Type 0
ListenGetsAnyTag = NeverLeads connected (Step.Listen 1 (plain a)) mistagged

-- a push ends a listen and begins it again
abbrev pub restarted : World
restarted = record (kept_as 9007199254740992 seeing) {
  outgoing =
      listening.outgoing
      ++ ClientMessage.Listen 9007199254740992 (plain a) ∷ ClientMessage.Unlisten 1 ∷ [];
}

abbrev pub PushRestartsListen : Type 0
PushRestartsListen = NeverLeads listening (Step.Data 1 a (num 7)) restarted

-- without a connection a kept listen gets the next tag
abbrev pub offline : World
offline = (step seeing Step.Disconnected).0

abbrev pub retagged : World
retagged = record (kept_as 2 (step offline set_a).0) { next_tag = 3 }

abbrev pub WriteChangesTag : Type 0
WriteChangesTag = NeverLeads offline set_a retagged

-- the end of a listener begins the listens of two others, the later one's first
abbrev pub b : Path
b = path_keys (codes "/a/b")

abbrev pub c : Path
c = path_keys (codes "/a/c")

abbrev pub three : World
three =
    world_after connected
    (Step.Listen 1 (plain a) ∷ Step.Listen 1 (plain b) ∷ Step.Listen 1 (plain c) ∷ [])

abbrev pub swapped : World
swapped = record (step three (Step.Unlisten 1 1)).0 {
  kept = record { tag = 2; form = plain c } ∷ record { tag = 3; form = plain b } ∷ [];
  outgoing =
      three.outgoing
      ++ ClientMessage.Listen 2 (plain c) ∷ ClientMessage.Listen 3 (plain b) ∷ ClientMessage.Unlisten 1
      ∷ [];
}

abbrev pub UnlistenSwapsTags : Type 0
UnlistenSwapsTags = NeverLeads three (Step.Unlisten 1 1) swapped

-- the next tag is one that a listen just got
abbrev pub lagging : World
lagging = record listening { next_tag = 1 }

abbrev pub NextTagLags : Type 0
NextTagLags = NeverLeads connected (Step.Listen 1 (plain a)) lagging

-- with no number above 2 both tags are given: to /a/b, and to /a, which takes over its listen
abbrev pub spent : World
spent =
    world_after (empty_world (record { listeners = 2; requests = 2; last_number = 2 }))
    (Step.Connected ∷ Step.Listen 1 (plain b) ∷ Step.Listen 1 (plain a) ∷ [])

-- the end of /a begins /a/b again, under tag 3
abbrev pub EndPassesLastTag : Type 0
EndPassesLastTag = NeverLeads spent (Step.Unlisten 1 2) (next spent (Step.Unlisten 1 2))

-- where the listen of /a was lost, a write begins it again, under tag 3
abbrev pub bare : World
bare = record spent { kept = [] }

abbrev pub WritePassesLastTag : Type 0
WritePassesLastTag = NeverLeads bare set_a (step bare set_a).0

-- ---- the version

-- a connection is opened, and the version is not told
abbrev pub unsaid : World
unsaid = record connected { outgoing = [] }

abbrev pub VersionIsNotTold : Type 0
VersionIsNotTold = NeverLeads fresh Step.Connected unsaid

-- one is opened again, and it is told behind the listens, or not told again
abbrev pub said_late : World
said_late = record (step offline Step.Connected).0 {
  outgoing = ClientMessage.Listen 1 (plain a) ∷ ClientMessage.Hello 2 ∷ [];
}

abbrev pub VersionIsToldLate : Type 0
VersionIsToldLate = NeverLeads offline Step.Connected said_late

abbrev pub said_once : World
said_once = record (step offline Step.Connected).0 {
  outgoing = ClientMessage.Listen 1 (plain a) ∷ [];
}

abbrev pub VersionIsToldOnce : Type 0
VersionIsToldOnce = NeverLeads offline Step.Connected said_once
