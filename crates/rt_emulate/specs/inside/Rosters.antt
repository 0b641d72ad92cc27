-- Who is connected, who asks for that, and who is told.
use Rattle.std.specs.Prelude.{◌≡◌, ◌≢◌, ◌==◌, ◌+◌, ◌-◌, ◌⊎◌, ◌++◌, ◌∷◌, [], ◌^◌, ℕ, List, min, Bool, true, false, not, ◌&&◌, ◌||◌}
use Rattle.std.specs.Prelude.{if◌then◌else◌, Option, Some, None, IfSome, String, string_bytes, codes}
use Rattle.std.specs.declared.alloc.Global.{Global}
use Rattle.std.specs.List.{filter}
use Rattle.std.specs.Net.Text.{socket_text}
use Rattle.std.specs.Option.{option_and_then, option_map, option_map_or}
use Rattle.std.specs.Str.{bytes_eq, is_utf8}
use Rattle.slab.specs.Slab.{get}
use Rattle.tungstenite.specs.Content.{text as Text}
use Rattle.rt_http.specs.Heads.{Said}
use Rattle.rt_peer.specs.Peers.{least_free}
use Rattle.rt_peer.specs.Runs.{Connect}
use Rattle.rt_hub.specs.Hubs.{Hub, IsMade, listen_texts}
use Rattle.rt_emulate.specs.Clients.{Client, bounded, client_text, comma}
use Rattle.rt_emulate.specs.declared.requests.Asking.{Asking as Request}
use Rattle.rt_emulate.specs.declared.guest.Guest.{Guest}
use Rattle.rt_emulate.specs.declared.guest.Talk.{Talk}
use Rattle.rt_emulate.specs.declared.guest.TextSent.{TextSent}
use Rattle.rt_emulate.specs.declared.guest.TextSent.TheVariants as Says
use Rattle.rt_emulate.specs.declared.guest.Turned.{Turned}
use Rattle.rt_emulate.specs.declared.guest.Turned.TheVariants as turns
use Rattle.rt_emulate.specs.declared.present.Present.{Present}
use Rattle.rt_emulate.specs.declared.roster.Roster.{Roster}
use Rattle.rt_emulate.specs.declared.visit.Visit.{Visit}
use Rattle.rt_emulate.specs.inside.Guests.{NotesEach, is_none_of, talk_of, talks_as}
use Rattle.rt_emulate.specs.inside.Sockets.{Puts as PutsText, unsent_with}

-- ---- who comes

-- bytes that are a text
abbrev pub text_if : List ℕ → Option (List ℕ)
text_if bytes = if is_utf8 bytes then Some bytes else None

-- what the request of a handshake says of who comes: the origin of its page, and whether it asks who is connected; one
-- without a request says nothing
abbrev pub IsVisit : Option Said → Visit → Type 0
IsVisit None v = v ≡ record { origin = None; asks = false }
IsVisit (Some said) v =
    (v.asks ≡ bytes_eq said.target (codes "/?clients"))
    × (option_map string_bytes v.origin ≡ option_and_then text_if said.origin)

-- that is kept of one that asks, and nothing else changes
abbrev pub Looks : Option Request → Guest → Guest → Type 0
Looks None old new = new ≡ old
Looks (Some a) old new = IsVisit a.incoming.request new.visit × (new ≡ record old { visit = new.visit })

-- ---- who is connected

-- the guest at that place, if it is the connection of that number
abbrev pub client_at : Present → ℕ → ℕ → Option Guest
client_at p place n =
    option_and_then (λ (g : Guest). if talks_as n (talk_of g.stage) then Some g else None) (get p.all place)

-- the same where there may be no place
abbrev pub client_in : Present → Option ℕ → ℕ → Option Guest
client_in p None n = None
client_in p (Some place) n = client_at p place n

-- what is told of it
abbrev pub client_of : Option Hub → ℕ → Guest → Client
client_of hub n g = record {
  number = n;
  asks = g.visit.asks;
  from = socket_text g.from;
  origin = option_map string_bytes g.visit.origin;
  listens = listen_texts hub n None;
}

abbrev pub client_if : Option Hub → ℕ → Option Guest → List Client → List Client
client_if hub n None clients = clients
client_if hub n (Some g) clients = client_of hub n g ∷ clients

-- those that are connected, by their numbers: these are the places where they were let in, from that number on
abbrev pub clients_from : Option Hub → Present → ℕ → List (Option ℕ) → List Client
clients_from hub p n [] = []
clients_from hub p n (place ∷ places) = client_if hub n (client_in p place n) (clients_from hub p (n + 1) places)

-- all of them
abbrev pub clients_of : Option Hub → Present → List Client
clients_of hub p = clients_from hub p 1 p.places.items

-- ---- a text that is put together

-- a piece comes behind: a text that gets too long is none, and stays none
abbrev pub put_to : List ℕ → Option (List ℕ) → Option (List ℕ)
put_to [] old = old
put_to (c ∷ piece) None = None
put_to (c ∷ piece) (Some text) = bounded (text ++ c ∷ piece)

-- what a draft holds
abbrev pub held_of : Bool → List ℕ → Option (List ℕ)
held_of true text = None
held_of false text = Some text

-- the next listen is put behind, unless the draft is too long
abbrev pub PutsListen : Option Hub → ℕ → Option ℕ → Bool → Option ℕ → Option (List ℕ) → Option (List ℕ) → Type 0
PutsListen hub n above is_first None old new = (new ≡ old) × ((listen_texts hub n above ≡ []) ⊎ (old ≡ None))
PutsListen hub n above is_first (Some tag) old new =
    (text : List ℕ) × (listen_texts hub n above ≡ text ∷ listen_texts hub n (Some tag))
    × (new ≡ put_to (comma is_first ++ text) old)

-- the text of one that is connected, where it is, with what stands before it
abbrev pub text_if_there : Bool → Option Hub → ℕ → Option Guest → List ℕ
text_if_there is_first hub n None = []
text_if_there is_first hub n (Some g) = comma is_first ++ client_text (client_of hub n g)

-- ---- who is told

-- one that begins may ask
abbrev pub Begins : ℕ → Bool → Roster → Roster → Type 0
Begins n asks old new =
    (new.askers.items ≡ (if asks then old.askers.items ++ n ∷ [] else old.askers.items))
    × (new ≡ record old { is_stale = true; askers = new.askers })

-- the hub has a connection more, which begins under its number
abbrev pub BeginsAs : Bool → Option Hub → Option Hub → Roster → Roster → Type 0
BeginsAs asks hub hub2 old new =
    (n : ℕ) × IsMade hub Connect hub2 × IfSome hub (λ (h : Hub). n ≡ least_free h.peer.connections)
    × Begins n asks old new

-- so does a guest that has shaken hands, and asks where its handshake did
abbrev pub BeginsAt : Option Guest → Turned → Option Hub → Option Hub → Roster → Roster → Type 0
BeginsAt None turned hub hub2 old new = (hub2 ≡ hub) × (new ≡ old)
BeginsAt (Some g) turns.Idle hub hub2 old new = (hub2 ≡ hub) × (new ≡ old)
BeginsAt (Some g) turns.More hub hub2 old new = BeginsAs g.visit.asks hub hub2 old new
BeginsAt (Some g) (turns.Ends why) hub hub2 old new = (hub2 ≡ hub) × (new ≡ old)

-- one that ends doesn't any more; where nobody asks, no text counts
abbrev pub Ends : ℕ → Roster → Roster → Type 0
Ends n old new =
    (new.askers.items ≡ filter (λ m. not (m == n)) old.askers.items)
    × (new ≡ record old {
      is_stale = true;
      version = if is_none_of new.askers.items then 0 else old.version;
      askers = new.askers;
    })

-- a new text counts where it says something else, or none counted
abbrev pub is_news : List ℕ → Roster → Bool
is_news text r = r.version == 0 || not (bytes_eq (string_bytes r.text) text)

abbrev pub renewed : String Global → Roster → Roster
renewed text r = record r {
  text = text;
  version = if is_news (string_bytes text) r then min (r.version + 1) (2 ^ 64 - 1) else r.version;
  is_stale = false;
}

-- one that asks is owed each new text
abbrev pub is_owed : ℕ → Talk → Bool
is_owed version t = option_map_or (λ last. not (last == version)) t.told false

-- it is told once its stream has taken all that came before
abbrev pub is_told_now : ℕ → Talk → Bool
is_told_now version t = is_owed version t && (not t.is_blocked && t.socket.unsent == 0)

-- the text is put into its socket; nobody else is told, and nobody twice
abbrev pub TellsIf : Bool → List ℕ → ℕ → Talk → TextSent → Talk → Type 0
TellsIf false text version old said new = (said ≡ Says.Nothing) × (new ≡ old)
TellsIf true text version old said new =
    (said ≢ Says.Nothing) × (new ≡ record old { socket = new.socket; told = Some version })
    × (new.socket.unsent ≡ unsent_with text old.socket.unsent)
    × (said ≡ Says.Text → PutsText (Text text) old.socket.socket new.socket.socket)

abbrev pub Tells : List ℕ → ℕ → Talk → TextSent → Talk → Type 0
Tells text version old said new = TellsIf (is_told_now version old) text version old said new

-- where somebody asks and something may have changed, the text is made anew, but for want of memory, and those that ask
-- are looked at next
abbrev pub RenewsIf : Bool → List ℕ → Roster → Present → Roster → Present → Type 0
RenewsIf false text old p new q = (new ≡ old) × (q ≡ p)
RenewsIf true text old p new q =
    ((new ≡ old) × (q ≡ p))
    ⊎ ((made : String Global) × (string_bytes made ≡ text) × (new ≡ renewed made old) × NotesEach old.askers.items p q)

abbrev pub is_due : Roster → Bool
is_due r = r.is_stale && not (is_none_of r.askers.items)
