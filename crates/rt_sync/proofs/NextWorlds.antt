-- What the code of a step makes that begins and ends no listener is the next world, and its parts agree.
use Rattle.std.proofs.Common.{◌≡◌, ℕ, ◌+◌, Bool, true, false, cond, not, ◌||◌, List, [], ◌∷◌, ◌++◌, map, refl, sym, ap, ◌∙◌, Option, Some, None}
use Rattle.std.specs.Prelude.{◌==◌, is_some}
use Rattle.rt_parts.specs.declared.requests.Settled.{Settled as Left}
use mathlib.Core.Bool.{true≢false}
use Rattle.std.specs.List.{Contains, filter, find, fold, list_any, zip}
use Rattle.std.specs.Option.{option_and_then, option_map, option_map_or, option_to_list}
use Rattle.rt_query.specs.Queries.{Query}
use Rattle.rt_query.specs.Supply.{form}
use Rattle.rt_tree.specs.Assignments.{Assignment}
use Rattle.rt_writes.specs.Writes.{Write}
use Rattle.rt_cache.specs.Brought.{Brought, push}
use Rattle.rt_cover.specs.Cover.{Registered, Tagged}
use Rattle.rt_cover.specs.State.{listen_at, shown, shown_with}
use Rattle.rt_wire.specs.declared.client.ClientMessage.{ClientMessage}
use Rattle.rt_wire.specs.declared.limits.TheConstants.{VERSION}
use Rattle.rt_wire.specs.declared.request.Action.{Action}
use Rattle.rt_wire.specs.declared.request.Asked.TheVariants.{Now, AtDisconnect}
use Rattle.rt_wire.specs.declared.request.Ending.{Ending}
use Rattle.rt_world.specs.declared.step.Request.{Request}
use Rattle.rt_world.specs.declared.step.Step.{Step}
use Rattle.rt_world.specs.declared.report.Body.TheVariants.{Settled}
use Rattle.rt_world.specs.declared.report.Note.{Note}
use Rattle.rt_world.specs.World.{Reason, World, Listener, registered, pending, entries_of}
use Rattle.rt_world.specs.After.{renewed}
use Rattle.rt_world.specs.Messages.{listens, request_message}
use Rattle.rt_parts.specs.Refreshed.{count_heard, hears, view_heard}
use Rattle.rt_parts.specs.Settling.{settled}
use Rattle.rt_world.specs.Refusals.{is_stale}
use Rattle.rt_world.specs.Answers.{settled_note, done_report}
use Rattle.rt_world.specs.steps.Kind.{Part}
use Rattle.rt_world.specs.Touched.{entries_settled, entries_pushed}
use Rattle.rt_world.specs.Met.{do_meet, renewed_met, all_told}
use Rattle.rt_world.specs.laws.Made.{asked_sent, IsMade, Leaves, AcceptedIsMade, RefusedIsMade, PushIsMade, WriteIsMade, EndingIsMade, ConnectedIsMade, DisconnectedIsMade, settled_world, settled_told, writes_with}
use Rattle.rt_world.specs.laws.Steps.{RenewedIsOne, WriteIsPending, SettledIsNotPending}
use Rattle.rt_sync.specs.Core.{Held}
use Rattle.rt_sync.specs.declared.state.StepNews.{StepNews}
use Rattle.rt_sync.specs.inside.Due.{IsDue, IsNext, settling}
use Rattle.rt_sync.specs.inside.Parts.{listens_shown}
use Rattle.rt_sync.specs.declared.state.State.{State}
use Rattle.rt_sync.specs.inside.StateView.{IsTied, world_of}
use Rattle.rt_sync.specs.inside.Viewed.{HasViews, IsStill, RefreshesViews}

-- ---- the parts agree

-- a listener as it is registered
abbrev entry_of : Listener → Registered
entry_of l = (l.number, form l.query)

registered_one : RenewedIsOne → (entries : List Assignment) (b : Brought) (ws : List Write) (l : Listener) → entry_of (renewed_met entries b ws l) ≡ entry_of l
registered_one law entries b ws l = at (do_meet entries l.query.path)
  where
    inner : entry_of (renewed b ws l) ≡ entry_of l
    inner = let one = law b ws l in λ i. (one.0 i, form (one.2 i))

    at : (c : Bool) → entry_of (cond c (renewed b ws l) l) ≡ entry_of l
    at true = inner
    at false = refl

-- listeners stay registered where they are renewed
pub registered_met : RenewedIsOne → (entries : List Assignment) (b : Brought) (ws : List Write) (ls : List Listener) → registered (map (renewed_met entries b ws) ls) ≡ registered ls
registered_met law entries b ws [] = refl
registered_met law entries b ws (l ∷ ls) = λ i. registered_one law entries b ws l i ∷ registered_met law entries b ws ls i

-- the kept listens as they are shown begin as they are
pub listens_same : (ls : List Registered) (kept : List Tagged) → listens_shown (map (shown_with ls) kept) ≡ listens kept
listens_same ls [] = refl
listens_same ls (k ∷ kept) = ap (λ z. ClientMessage.Listen k.tag k.form ∷ z) (listens_same ls kept)

-- ---- settlements

-- the one that is found has the number
found_number : (id : ℕ) (rs : List Request) (r : Request) → find (λ (x : Request). x.id == id) rs ≡ Some r → (r.id == id) ≡ true
found_number id [] r e = cc
found_number id (x ∷ rs) r e = elim (x.id == id) as (λ b. (x.id == id) ≡ b → cond b (Some x) (find (λ (y : Request). y.id == id) rs) ≡ Some r → (r.id == id) ≡ true) [
  | true ↦ λ t f. let same : x ≡ r = cc in ap (λ (y : Request). y.id == id) (sym same) ∙ t
  | false ↦ λ t f. found_number id rs r f
] refl e

-- what is left of a request that is unsettled
pub seat_left : (o : Option Request) (entries : List Assignment) → option_and_then (λ (x : Left). x.seat) (option_map (λ (r : Request). record { seat = r.seat; entries = entries }) o) ≡ option_and_then (λ (r : Request). r.seat) o
seat_left None entries = refl
seat_left (Some r) entries = refl

entries_left : (o : Option Request) (entries : List Assignment) → is_some o ≡ true → option_map_or (λ (x : Left). x.entries) (option_map (λ (r : Request). record { seat = r.seat; entries = entries }) o) [] ≡ entries
entries_left None entries e = cc
entries_left (Some r) entries e = refl

any_find : (id : ℕ) (rs : List Request) → is_some (find (λ (r : Request). r.id == id) rs) ≡ list_any (λ (r : Request). r.id == id) rs
any_find id [] = refl
any_find id (r ∷ rs) = elim (r.id == id) as (λ b. is_some (cond b (Some r) (find (λ (x : Request). x.id == id) rs)) ≡ (b || list_any (λ (x : Request). x.id == id) rs)) [
  | true ↦ refl
  | false ↦ any_find id rs
]

is_there : (b : Bool) → not b ≡ false → b ≡ true
is_there true e = refl
is_there false e = cc

-- its entries, where the settlement is not stale
pub settled_entries : (w : World) (id : ℕ) (why : Option Reason) → is_stale w (settling id why) ≡ false
    → option_map_or (λ (x : Left). x.entries) (settled id w.requests) [] ≡ entries_settled w id
settled_entries w id None e = entries_left (find (λ (r : Request). r.id == id) w.requests) (entries_settled w id) (any_find id w.requests ∙ is_there (list_any (λ (r : Request). r.id == id) w.requests) e)
settled_entries w id (Some why) e = entries_left (find (λ (r : Request). r.id == id) w.requests) (entries_settled w id) (any_find id w.requests ∙ is_there (list_any (λ (r : Request). r.id == id) w.requests) e)

-- the seat of a settled request is told
told_seat : (id : ℕ) (why : Option Reason) (rs : List Request)
    → ◌≡◌ {A = Option Note} (option_map (λ seat. record { seat = seat; body = Settled id why }) (option_and_then (λ (r : Request). r.seat) (find (λ (r : Request). r.id == id) rs)))
    (option_and_then (settled_note (id, why)) (find (λ (r : Request). r.id == id) rs))
told_seat id why rs = at (find (λ (r : Request). r.id == id) rs) refl
  where
    told_if : Request → Bool → Option Note
    told_if r b = cond b (option_map (λ seat. record { seat = seat; body = Settled id why }) r.seat) None

    at : (o : Option Request) → find (λ (r : Request). r.id == id) rs ≡ o
        → ◌≡◌ {A = Option Note} (option_map (λ seat. record { seat = seat; body = Settled id why }) (option_and_then (λ (r : Request). r.seat) o)) (option_and_then (settled_note (id, why)) o)
    at None e = refl
    at (Some r) e = sym (ap (told_if r) (found_number id rs r e))

-- ---- steps

pub made_of : (v : World) (s : Step) → IsDue v s → IsMade v s
made_of v s d = record { sound = d.good.sound; called = d.good.called; not_refused = d.not_refused; not_stale = d.not_stale }

-- a settlement gives no number
none_given : (w : World) (id : ℕ) (why : Option Reason) → (done_report w (settling id why)).given ≡ None
none_given w id None = refl
none_given w id (Some why) = refl

settling_leaves : AcceptedIsMade → RefusedIsMade → (w : World) (id : ℕ) (why : Option Reason) → IsDue w (settling id why)
    → Leaves w (settling id why) (settled_world w id) (settled_told w id why)
settling_leaves accepted refused w id None d = accepted w id (made_of w (Step.Accepted id) d) d.good.reached
settling_leaves accepted refused w id (Some why) d = refused w id why (made_of w (Step.Refused id why) d) d.good.reached

-- so do the views of the listeners that are refreshed, where those that hear of no entry are still
pub refreshes_heard : (h : Held) (k : Held) (range : Option Query) → ((l : Listener) → Contains (h.world).listeners l → hears range l.query ≡ false → IsStill h.world k.world l)
    → (entries es : List Assignment) → entries ≡ es → (ws : List Write) → ws ≡ pending (k.world).requests
    → (k.world).listeners ≡ map (renewed_met entries (k.world).brought ws) (h.world).listeners
    → k.views ≡ map (view_heard range entries (k.world).brought ws) (zip (h.world).listeners h.views)
    → k.counts ≡ map (count_heard range entries (k.world).brought ws) (zip (zip (h.world).listeners h.views) h.counts)
    → RefreshesViews h es k
refreshes_heard h k range still entries es ee ws we ls vs cs = record {
  range = range;
  still = still;
  listeners = ls ∙ (λ i. map (renewed_met (ee i) (k.world).brought (we i)) (h.world).listeners);
  views = vs ∙ (λ i. map (view_heard range (ee i) (k.world).brought (we i)) (zip (h.world).listeners h.views));
  counts = cs ∙ (λ i. map (count_heard range (ee i) (k.world).brought (we i)) (zip (zip (h.world).listeners h.views) h.counts));
}

-- all hear of what is no push on a range alone
pub refreshes : (h : Held) (k : Held) (entries es : List Assignment) → entries ≡ es → (ws : List Write) → ws ≡ pending (k.world).requests
    → (k.world).listeners ≡ map (renewed_met entries (k.world).brought ws) (h.world).listeners
    → k.views ≡ map (view_heard None entries (k.world).brought ws) (zip (h.world).listeners h.views)
    → k.counts ≡ map (count_heard None entries (k.world).brought ws) (zip (zip (h.world).listeners h.views) h.counts)
    → RefreshesViews h es k
refreshes h k entries es ee ws we ls vs cs = refreshes_heard h k None (λ l there e. absurd (true≢false e)) entries es ee ws we ls vs cs

-- where a request is settled, whether it is accepted or refused
pub settled_views : (h : Held) (id : ℕ) (why : Option Reason) (k : Held) → RefreshesViews h (entries_settled h.world id) k → HasViews h (settling id why) k
settled_views h id None k has = has
settled_views h id (Some why) k has = has

module _ (state : State) where
  abbrev w : World
  w = world_of state

  -- the cover stays the world's where the listeners are renewed
  pub tied_after : RenewedIsOne → IsTied state.cover w → (entries : List Assignment) (b : Brought) (writes : List Write) (v : World)
      → v.limits ≡ w.limits → v.listeners ≡ map (renewed_met entries b writes) w.listeners → IsTied state.cover v
  tied_after law t entries b writes v limits is = record {
    listened = t.listened ∙ sym (ap registered is ∙ registered_met law entries b writes w.listeners);
    last_tag = t.last_tag ∙ (λ i. (sym limits i).last_number);
  }

  pub settle_made : AcceptedIsMade → RefusedIsMade → SettledIsNotPending → (id : ℕ) (why : Option Reason) → IsDue w (settling id why)
      → (entries : List Assignment) → entries ≡ entries_settled w id
      → (requests' : List Request) → requests' ≡ filter (λ (r : Request). not (r.id == id)) state.requests
      → (ls' : List Listener) → ls' ≡ map (renewed_met entries state.brought (pending requests')) state.listeners.listeners
      → (told : StepNews) → told.given ≡ None
      → told.notes.items ≡ option_to_list (option_map (λ seat. record { seat = seat; body = Settled id why }) (option_and_then (λ (r : Request). r.seat) (find (λ (r : Request). r.id == id) state.requests))) ++ all_told entries state.brought (pending requests') state.listeners.listeners
      → IsNext w (settling id why) (record w { listeners = ls'; requests = requests' }, told)
  settle_made accepted refused left id why d entries ee requests' re ls' he told given notes =
      let leaves = settling_leaves accepted refused w id why d in
      let ws = ap pending re ∙ left state.requests id in
      record {
        world = (λ i. record w {
          listeners = (he ∙ (λ j. map (renewed_met (ee j) state.brought (ws j)) state.listeners.listeners)) i;
          requests = re i;
        }) ∙ sym leaves.world;
        given = given ∙ sym (none_given w id why);
        notes = notes ∙ (λ i. option_to_list (told_seat id why state.requests i) ++ all_told (ee i) state.brought (ws i) state.listeners.listeners) ∙ sym leaves.notes;
      }

  pub push_made : PushIsMade → (parts : List Part) → IsDue w (Step.Push parts)
      → (b' : Brought) → b' ≡ fold (λ (x : Brought) (p : Part). option_map_or (λ q. fold (push q) x p.1) (option_map (λ (k : Tagged). k.form) (listen_at state.cover p.0)) x) state.brought parts
      → (entries : List Assignment) → entries ≡ entries_pushed parts
      → (ls' : List Listener) → ls' ≡ map (renewed_met entries b' (pending state.requests)) state.listeners.listeners
      → (told : StepNews) → told.given ≡ None → told.notes.items ≡ all_told entries b' (pending state.requests) state.listeners.listeners
      → IsNext w (Step.Push parts) (record w { listeners = ls'; brought = b' }, told)
  push_made law parts d b' be entries ee ls' he told given notes =
      let s : Step = Step.Push parts in
      let leaves = law w s parts refl (made_of w s d) d.good.reached in
      record {
        world = (λ i. record w {
          listeners = (he ∙ (λ j. map (renewed_met (ee j) (be j) (pending state.requests)) state.listeners.listeners)) i;
          brought = be i;
        }) ∙ sym leaves.world;
        given = given;
        notes = notes ∙ (λ i. all_told (ee i) (be i) (pending state.requests) state.listeners.listeners) ∙ sym leaves.notes;
      }

  pub write_made : WriteIsMade → WriteIsPending → (seat : ℕ) (action : Action) → IsDue w (Step.Write seat action)
      → (entries : List Assignment) → entries ≡ entries_of action
      → (requests' : List Request) → requests' ≡ state.requests ++ record { id = state.given_requests + 1; seat = Some seat; asked = Now action } ∷ []
      → (ls' : List Listener) → ls' ≡ map (renewed_met entries state.brought (pending requests')) state.listeners.listeners
      → (out' : List ClientMessage) → out' ≡ state.outgoing.items ++ asked_sent state.is_connected (state.given_requests + 1) (Now action)
      → (told : StepNews) → told.given ≡ Some (state.given_requests + 1) → told.notes.items ≡ all_told entries state.brought (pending requests') state.listeners.listeners
      → IsNext w (Step.Write seat action) (record w { listeners = ls'; requests = requests'; outgoing = out'; next_request = state.given_requests + 1 + 1 }, told)
  write_made law more seat action d entries ee requests' re ls' he out' oe told given notes =
      let leaves = law w seat action (made_of w (Step.Write seat action) d) d.good.reached in
      let ws : pending requests' ≡ writes_with w action = ap pending re ∙ more state.requests (state.given_requests + 1) (Some seat) action in
      record {
        world = (λ i. record w {
          listeners = (he ∙ (λ j. map (renewed_met (ee j) state.brought (ws j)) state.listeners.listeners)) i;
          requests = re i;
          outgoing = oe i;
          next_request = state.given_requests + 1 + 1;
        }) ∙ sym leaves.world;
        given = given;
        notes = notes ∙ (λ i. all_told (ee i) state.brought (ws i) state.listeners.listeners) ∙ sym leaves.notes;
      }

  pub connect_made : ConnectedIsMade → IsDue w Step.Connected → (out' : List ClientMessage) → out' ≡ ClientMessage.Hello VERSION ∷ (listens_shown (shown state.cover) ++ map request_message state.requests)
      → (told : StepNews) → told.given ≡ None → told.notes.items ≡ [] → IsNext w Step.Connected (record w { is_connected = true; outgoing = out' }, told)
  connect_made law d out' oe told given notes =
      let leaves = law w (made_of w Step.Connected d) d.good.reached in
      record {
        world = (λ i. record w {
          is_connected = true;
          outgoing = (oe ∙ ap (λ ms. ClientMessage.Hello VERSION ∷ (ms ++ map request_message state.requests)) (listens_same state.cover.listeners state.cover.kept)) i;
        }) ∙ sym leaves.world;
        given = given;
        notes = notes ∙ sym leaves.notes;
      }

  pub disconnect_made : DisconnectedIsMade → IsDue w Step.Disconnected → (out' : List ClientMessage) → out' ≡ []
      → (told : StepNews) → told.given ≡ None → told.notes.items ≡ [] → IsNext w Step.Disconnected (record w { is_connected = false; outgoing = out' }, told)
  disconnect_made law d out' oe told given notes =
      let leaves = law w (made_of w Step.Disconnected d) d.good.reached in
      record {
        world = (λ i. record w { is_connected = false; outgoing = oe i }) ∙ sym leaves.world;
        given = given;
        notes = notes ∙ sym leaves.notes;
      }

  pub ask_made : EndingIsMade → (seat : ℕ) (ending : Ending) → IsDue w (Step.OnDisconnect seat ending)
      → (out' : List ClientMessage) → out' ≡ state.outgoing.items ++ asked_sent state.is_connected (state.given_requests + 1) (AtDisconnect ending)
      → (requests' : List Request) → requests' ≡ state.requests ++ record { id = state.given_requests + 1; seat = Some seat; asked = AtDisconnect ending } ∷ []
      → (told : StepNews) → told.given ≡ Some (state.given_requests + 1) → told.notes.items ≡ []
      → IsNext w (Step.OnDisconnect seat ending) (record w { requests = requests'; outgoing = out'; next_request = state.given_requests + 1 + 1 }, told)
  ask_made law seat ending d out' oe requests' re told given notes =
      let leaves = law w seat ending (made_of w (Step.OnDisconnect seat ending) d) d.good.reached in
      record {
        world = (λ i. record w {
          requests = re i;
          outgoing = oe i;
          next_request = state.given_requests + 1 + 1;
        }) ∙ sym leaves.world;
        given = given;
        notes = notes ∙ sym leaves.notes;
      }
