-- What a step leaves and tells that registers or ends listeners, in the words of rt_cover's changes.
use Rattle.std.specs.Prelude.{◌≡◌, ℕ, ◌+◌, Bool, false, not, if◌then◌else◌, List, [], ◌∷◌, ◌++◌}
use Rattle.std.specs.Prelude.{map, ◌==◌, Option, None}
use Rattle.std.specs.List.{filter, filter_map}
use Rattle.std.specs.Option.{option_to_list}
use Rattle.rt_query.specs.Queries.{Query}
use Rattle.rt_query.specs.Supply.{form}
use Rattle.rt_cache.specs.Brought.{Brought, with_form}
use Rattle.rt_cache.specs.Recover.{recover, is_moved}
use Rattle.rt_cover.specs.declared.change.Delta.{Delta}
use Rattle.rt_cover.specs.State.{Cover, is_registered, difference, added}
use Rattle.rt_cover.specs.State.{removed, revoked, without_tag, add_fault, remove_fault, revoke_fault}
use Rattle.rt_wire.specs.declared.client.ClientMessage.{ClientMessage}
use Rattle.rt_world.specs.declared.report.Body.TheVariants.{Cancelled}
use Rattle.rt_world.specs.declared.report.Note.{Note}
use Rattle.rt_world.specs.declared.step.Step.{Step}
use Rattle.rt_world.specs.World.{Reason, Listener, World, registered}
use Rattle.rt_world.specs.World.{listening, pending}
use Rattle.rt_world.specs.steps.Revoking.{is_cancelled}
use Rattle.rt_world.specs.steps.Closing.{numbers_of, unseated}
use Rattle.rt_world.specs.After.{renewed}
use Rattle.rt_world.specs.Refusals.{refusal, is_stale}
use Rattle.rt_world.specs.Met.{told}
use Rattle.rt_world.specs.Covering.{cover_in}
use Rattle.rt_world.specs.Reached.{IsReached}
use Rattle.rt_world.specs.Sound.{IsSound}
use Rattle.rt_world.specs.laws.Made.{IsMade, Leaves}

-- the messages of a change of the listens kept, while there is a connection
abbrev pub changing : Bool → Delta → List ClientMessage
changing is_connected delta =
    if is_connected
    then map (λ k. ClientMessage.Listen k.tag k.query) delta.started
    ++ map (λ tag. ClientMessage.Unlisten tag) delta.stopped
    else []

-- ---- a new listener

-- it gets the next number, and is not primed
abbrev pub new_listener : World → ℕ → Query → Listener
new_listener w seat query =
    record {
      number = w.next_listener;
      seat = seat;
      query = query;
      is_primed = false;
      view = None;
    }

-- the cover with it
abbrev pub cover_with : World → Query → Cover
cover_with w query = added (cover_in w) w.next_listener query

-- it alone is renewed, and told; what is brought stays, and its form is registered there
abbrev pub ListenIsMade : Type 0
ListenIsMade =
    (w : World) (seat : ℕ) (query : Query) → let s = Step.Listen seat query in
    IsMade w s → IsReached w
    → let new = new_listener w seat query in
    let c = cover_with w query in
    let b = with_form (form query) w.brought in
    Leaves w s (record w {
      listeners = w.listeners ++ renewed b (pending w.requests) new ∷ [];
      brought = b;
      kept = c.kept;
      outgoing = w.outgoing ++ changing w.is_connected (difference (cover_in w) c);
      next_listener = w.next_listener + 1;
      next_tag = c.next_tag;
    }) (option_to_list (told b (pending w.requests) new))

-- its number is registered for none, and no tag is lacking for it
pub record MayAdd (w : World) (query : Query) : Type 0 where
  pub new : is_registered (registered w.listeners) w.next_listener ≡ false
  pub fault : add_fault (cover_in w) w.next_listener query ≡ None

-- so it is where it is not refused
abbrev pub ListenMayAdd : Type 0
ListenMayAdd =
    (w : World) (seat : ℕ) (query : Query) → IsSound w → refusal w (Step.Listen seat query) ≡ None
    → MayAdd w query

-- ---- listeners that end

-- what is brought over the cover without them: what no listen reaches any more is lost
abbrev pub left_brought : World → Cover → Brought
left_brought w c = recover (listening c.listeners) (map (λ k. k.form) c.kept) w.brought

-- a listener that is moved by that is renewed, and another stays as it was
abbrev pub renewed_moved : World → Cover → Listener → Listener
renewed_moved w c l =
    if is_moved w.brought (left_brought w c) l.query
    then renewed (left_brought w c) (pending w.requests) l
    else l

-- what a listener is told that is moved
abbrev pub told_moved : World → Cover → Listener → Option Note
told_moved w c l =
    if is_moved w.brought (left_brought w c) l.query
    then told (left_brought w c) (pending w.requests) l
    else None

-- the notes of those that stay and are moved, by number
abbrev pub all_moved : World → (Listener → Bool) → Cover → List Note
all_moved w stays c = filter_map (told_moved w c) (filter stays w.listeners)

-- the world with the listeners that stay, over the cover without the others; those that are moved are
-- renewed
abbrev pub left_world : World → (Listener → Bool) → Cover → Delta → World
left_world w stays c delta =
    record w {
      listeners = map (renewed_moved w c) (filter stays w.listeners);
      brought = left_brought w c;
      kept = c.kept;
      outgoing = w.outgoing ++ changing w.is_connected delta;
      next_tag = c.next_tag;
    }

-- one listener ends
abbrev pub UnlistenIsMade : Type 0
UnlistenIsMade =
    (w : World) (seat listener : ℕ) → let s = Step.Unlisten seat listener in
    IsMade w s → IsReached w
    → let c = removed (cover_in w) (listener ∷ []) in
    let stays : Listener → Bool = λ l. not (l.number == listener) in
    Leaves w s (left_world w stays c (difference (cover_in w) c)) (all_moved w stays c)

-- those of a seat do, and its requests stay, without a seat
abbrev pub CloseSeatIsMade : Type 0
CloseSeatIsMade =
    (w : World) (seat : ℕ) → let s = Step.CloseSeat seat in
    IsMade w s → IsReached w
    → let c = removed (cover_in w) (numbers_of w seat) in
    let stays : Listener → Bool = λ l. not (l.seat == seat) in
    Leaves w s (record (left_world w stays c (difference (cover_in w) c)) {
      requests = map (unseated seat) w.requests;
    }) (all_moved w stays c)

-- those of a listen do, and are told, before those that are moved
abbrev pub RevokedIsMade : Type 0
RevokedIsMade =
    (w : World) (tag : ℕ) (why : Reason) → let s = Step.Revoked tag why in
    IsMade w s → IsReached w
    → let c = revoked (cover_in w) tag in
    let delta = without_tag tag (difference (cover_in w) c) in
    let stays : Listener → Bool = λ l. not (is_cancelled w tag l) in
    Leaves w s (left_world w stays c delta)
    (map (λ l. record { seat = l.seat; body = Cancelled l.number why })
    (filter (is_cancelled w tag) w.listeners) ++ all_moved w stays c)

-- where the end of listeners is not refused, rt_cover refuses it neither
abbrev pub UnlistenMayRemove : Type 0
UnlistenMayRemove =
    (w : World) (seat listener : ℕ) → refusal w (Step.Unlisten seat listener) ≡ None
    → remove_fault (cover_in w) (listener ∷ []) ≡ None

abbrev pub CloseSeatMayRemove : Type 0
CloseSeatMayRemove =
    (w : World) (seat : ℕ) → IsSound w → refusal w (Step.CloseSeat seat) ≡ None
    → remove_fault (cover_in w) (numbers_of w seat) ≡ None

abbrev pub RevokedMayRevoke : Type 0
RevokedMayRevoke =
    (w : World) (tag : ℕ) (why : Reason) → refusal w (Step.Revoked tag why) ≡ None
    → is_stale w (Step.Revoked tag why) ≡ false → revoke_fault (cover_in w) tag ≡ None
