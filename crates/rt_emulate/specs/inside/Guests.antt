-- Those that are there: what is due of them, and what is heard of one and handed over to it.
use Rattle.std.specs.Prelude.{◌≡◌, ◌≢◌, ◌==◌, ◌+◌, ◌-◌, ◌^◌, ℕ, min, Bool, true, false, not, ◌&&◌, ◌||◌, if◌then◌else◌}
use Rattle.std.specs.Prelude.{List, [], ◌∷◌, ◌++◌, Option, Some, None, Result, Ok, Err}
use Rattle.std.specs.Option.{is_none, option_and_then, option_map, option_map_or}
use Rattle.slab.specs.Slab.{get}
use Rattle.rt_hub.specs.Hubs.{Hub, has_too_many_in, line_in}
use Rattle.rt_hub.specs.Handing.{Hands}
use Rattle.rt_hub.specs.Turns.{HearsTurn}
use Rattle.rt_hub.specs.declared.door.Flushed.{Flushed}
use Rattle.rt_hub.specs.declared.turn.Handed.{Handed}
use Rattle.rt_hub.specs.declared.turn.Handed.TheVariants as hand
use Rattle.rt_hub.specs.declared.hub.Notes.{Notes}
use Rattle.rt_hub.specs.declared.turn.Turn.{Turn}
use Rattle.rt_hub.specs.declared.turn.Turn.TheVariants as turn
use Rattle.rt_journal.specs.Due.{next_at}
use Rattle.rt_emulate.specs.declared.requests.Asking.{Asking as Request}
use Rattle.rt_emulate.specs.declared.emulator.Emulator.{Emulator}
use Rattle.rt_emulate.specs.declared.emulator.TheConstants.{LINES_MS}
use Rattle.rt_emulate.specs.declared.ending.GuestEnd.{GuestEnd}
use Rattle.rt_emulate.specs.declared.ending.GuestEnd.TheVariants.{Silent, Unshaken}
use Rattle.rt_emulate.specs.declared.guest.Guest.{Guest}
use Rattle.rt_emulate.specs.declared.guests.Guests.{Guests}
use Rattle.rt_emulate.specs.declared.guest.Stage.{Stage}
use Rattle.rt_emulate.specs.declared.guest.Stage.TheVariants.{Asking, Shaking, Open, Gone}
use Rattle.rt_emulate.specs.declared.guest.Talk.{Talk}
use Rattle.rt_emulate.specs.declared.guest.Turned.{Turned}
use Rattle.rt_emulate.specs.declared.guest.Turned.TheVariants.{Idle, More, Ends}
use Rattle.rt_emulate.specs.declared.present.Present.{Present}
use Rattle.rt_emulate.specs.declared.guest.Due.{Due}
use Rattle.rt_emulate.specs.declared.guest.Due.TheVariants.{End, Ping, Later}
use Rattle.rt_emulate.specs.declared.guest.Silence.{Silence}
use Rattle.rt_emulate.specs.declared.guest.TheConstants.{SILENCE_MS}
use Rattle.rt_emulate.specs.declared.socket.Socket.{Socket}
use Rattle.rt_emulate.specs.inside.Alarms.{next_time, patience, sooner}
use Rattle.rt_emulate.specs.inside.Endings.{ending_of, too_much}
use Rattle.rt_emulate.specs.inside.Places.{place_of}
use Rattle.rt_emulate.specs.inside.Requests.{rung as asking_rung}
use Rattle.rt_emulate.specs.inside.Silences.{due_of}

-- ---- who has a turn

abbrev pub is_none_of : List ℕ → Bool
is_none_of [] = true
is_none_of (place ∷ places) = false

-- nobody has a turn, and nothing can be handed over
abbrev pub is_idle : Present → Bool
is_idle p = is_none_of p.ready.items && is_none_of p.noted.items

-- somebody has a turn, something can be handed over, somebody goes, or somebody can be let in, where that didn't
-- fail just now
abbrev pub has_work : Present → List ℕ → Bool → Option ℕ → Bool
has_work p leaving has_visitor retry_at =
    not (is_idle p && is_none_of leaving) || (has_visitor && is_none retry_at)

-- a guest that is noted, to whom what waits is handed over next
abbrev pub marked : Guest → Guest
marked g = record g { is_noted = true }

-- those that are noted, in order, where the guest at that place is to be one, if there is a guest: it is noted once
abbrev pub noted_after : Present → ℕ → List ℕ
noted_after p place =
    if option_map_or (λ g. not g.is_noted) (get p.all place) false then p.noted.items ++ place ∷ []
    else p.noted.items

-- what waits for the guest at that place is handed over next
abbrev pub NotesAt : Option ℕ → Present → Present → Type 0
NotesAt None old new = new ≡ old
NotesAt (Some place) old new =
    (new.noted.items ≡ noted_after old place) × (get new.all place ≡ option_map marked (get old.all place))
    × ((q : ℕ) → q ≢ place → get new.all q ≡ get old.all q)
    × (new ≡ record old { all = new.all; noted = new.noted })

-- the same for those of these connections, one after another
abbrev pub NotesEach : List ℕ → Present → Present → Type 0
NotesEach [] old new = new ≡ old
NotesEach (n ∷ ns) old new =
    (mid : Present) × NotesAt (place_of old.places.items n) old mid × NotesEach ns mid new

-- one that has a turn next
abbrev pub readied : Guest → Guest
readied g = record g { is_ready = true }

abbrev pub ready_after : Present → ℕ → List ℕ
ready_after p place =
    if option_map_or (λ g. not g.is_ready) (get p.all place) false then p.ready.items ++ place ∷ []
    else p.ready.items

abbrev pub later : ℕ → ℕ → ℕ
later now wait = min (now + wait) (2 ^ 64 - 1)

-- when lines that wait are handed on
abbrev pub lines_at : Bool → ℕ → Option ℕ
lines_at has_lines now = if has_lines then Some (later now LINES_MS) else None

-- when something of the tree's file is due
abbrev pub kept_at : Guests → ℕ → Option ℕ
kept_at g now = option_and_then (λ j. next_at j.standing now) g.keeper.journal

-- how long an emulator waits
abbrev pub patience_of : Emulator → Bool → Option ℕ
patience_of e has_lines =
    patience (has_work e.guests.present e.guests.leaving e.has_visitor e.retry_at)
    (sooner (sooner (sooner (next_time e.guests.present.alarms) e.retry_at) (lines_at has_lines e.now))
    (kept_at e.guests e.now)) e.now

-- ---- connections

-- a guest that has shaken hands is a connection
abbrev pub talk_of : Stage → Option Talk
talk_of (Asking asking) = None
talk_of (Shaking shaking) = None
talk_of (Open talk) = Some talk
talk_of Gone = None

-- one that asks
abbrev pub asking_of : Stage → Option Request
asking_of (Asking asking) = Some asking
asking_of (Shaking shaking) = None
asking_of (Open talk) = None
asking_of Gone = None

abbrev pub number_of : Stage → Option ℕ
number_of stage = option_map (λ t. t.connection) (talk_of stage)

abbrev pub numbered : ℕ → Talk → Talk
numbered n t = record t { connection = n }

-- the connection of the guest at that place, if it is one
abbrev pub talk_at : Present → ℕ → Option Talk
talk_at p place = option_and_then (λ g. talk_of g.stage) (get p.all place)

-- the place of the guest of that connection: where it was once, if the guest there is that connection
abbrev pub talks_as : ℕ → Option Talk → Bool
talks_as n talk = option_map_or (λ t. t.connection == n) talk false

abbrev pub guest_of : Present → ℕ → Option ℕ
guest_of p n =
    option_and_then (λ place. if talks_as n (talk_at p place) then Some place else None) (place_of p.places.items n)

-- the guest at that place, if it asks
abbrev pub asking_at : Present → ℕ → Option Request
asking_at p place = option_and_then (λ g. asking_of g.stage) (get p.all place)

-- ---- what is due

-- a stream that takes something is not blocked any more
abbrev pub unblocked : Stage → Stage
unblocked (Asking asking) = Asking asking
unblocked (Shaking shaking) = Shaking shaking
unblocked (Open talk) = Open (record talk { is_blocked = false })
unblocked Gone = Gone

-- when the alarm of a connection rings next, or that it goes
abbrev pub next_of : Due → ℕ → Result ℕ GuestEnd
next_of End now = Err Silent
next_of Ping now = Ok (later now SILENCE_MS)
next_of (Later wait) now = Ok (later now wait)

-- one that asks goes once it is waited for too long, and a guest that still shakes hands by an alarm goes
abbrev pub rung_in : Stage → Silence → ℕ → Result ℕ GuestEnd
rung_in (Asking asking) s now = asking_rung asking now
rung_in (Shaking shaking) s now = Err Unshaken
rung_in (Open talk) s now = next_of (due_of s now) now
rung_in Gone s now = Err Unshaken

abbrev pub rung : Guest → ℕ → Result ℕ GuestEnd
rung g now = rung_in g.stage g.silence now

-- one that is sent a ping is waited for
abbrev pub asked : Due → Silence → ℕ → Silence
asked End s now = s
asked Ping s now = record s { pinged_at = Some now }
asked (Later wait) s now = s

abbrev pub silence_after : Guest → ℕ → Silence
silence_after g now = option_map_or (λ t. asked (due_of g.silence now) g.silence now) (talk_of g.stage) g.silence

-- ---- what is heard, and what is handed over

-- what became of a guest's turn, if it is over
abbrev pub turned_by : Turn → Socket → Option Turned
turned_by turn.Idle s = Some (if s.is_spent then More else Idle)
turned_by turn.More s = None
turned_by turn.Ended s = Some (Ends (ending_of s.closed s.why))

-- a message at most is taken, as one of that connection
abbrev pub HearsAs : Option Turned → Talk → Talk → Option Hub → Option Hub → Notes → Notes → Type 0
HearsAs turned old new hub hub2 was is =
    (turn : Turn) × HearsTurn turn 1 old.connection hub hub2 None None was is
    × (turned ≡ turned_by turn new.socket)

abbrev pub is_more : Handed → Bool
is_more hand.Drained = false
is_more hand.Blocked = false
is_more hand.More = true
is_more hand.Failed = false

abbrev pub blocked_by : Handed → Bool → Bool
blocked_by hand.Drained was = was
blocked_by hand.Blocked was = true
blocked_by hand.More was = was
blocked_by hand.Failed was = was

-- texts that wait for that connection are handed over, and no others
abbrev pub HandsAs : Bool → Talk → Talk → Option Hub → Option Hub → Type 0
HandsAs more old new hub hub2 =
    (handed : Handed) × (flushed : Flushed) × Hands handed old.connection None None flushed hub hub2
    × (more ≡ is_more handed) × (new.is_blocked ≡ blocked_by handed old.is_blocked)

-- to a connection that has more listens than it may, or for which more came than may wait, nothing is handed over, and it
-- goes; nor to one whose stream takes nothing for now
abbrev pub HandsTo : Talk → Option GuestEnd → Bool → Option GuestEnd → Option Hub → Option Hub → Type 0
HandsTo t (Some due) is_blocked why hub hub2 = (why ≡ Some due) × (hub2 ≡ hub)
HandsTo t None true why hub hub2 = (why ≡ None) × (hub2 ≡ hub)
HandsTo t None false why hub hub2 =
    (why ≡ None) × ((handed : Handed) × (flushed : Flushed) × Hands handed t.connection None None flushed hub hub2)

abbrev pub HandsAt : Option Talk → Option GuestEnd → Option Hub → Option Hub → Type 0
HandsAt None why hub hub2 = (why ≡ None) × (hub2 ≡ hub)
HandsAt (Some t) why hub hub2 =
    HandsTo t
    (too_much (has_too_many_in hub t.connection) (option_map_or (λ l. l.is_over) (line_in hub t.connection) false))
    t.is_blocked why hub hub2
