-- What the code of a step makes that registers or ends listeners is the next world, and its parts agree.
use Rattle.std.proofs.Common.{◌≡◌, ℕ, suc, ◌+◌, Bool, true, false, cond, not, List, [], ◌∷◌, ◌++◌, map, refl, sym, ap, ◌∙◌, arith, Option, Some, None}
use Rattle.std.specs.Prelude.{◌==◌}
use Rattle.std.specs.List.{filter, filter_map, cons_option, list_any, zip, Contains}
use Rattle.std.specs.Option.{option_map, option_map_or, option_to_list}
use Rattle.std.proofs.lemmas.List.Folds.{list_any_at}
use Rattle.rt_query.specs.Queries.{Query}
use Rattle.rt_query.specs.QueryEq.{query_eq}
use Rattle.rt_query.specs.Supply.{form}
use Rattle.rt_query.specs.laws.QueryEq.{query_eq_tells}
use Rattle.rt_writes.specs.Writes.{Write}
use Rattle.rt_cache.specs.Brought.{Brought, with_form}
use Rattle.rt_cache.specs.Recover.{is_among, is_moved, recover}
use Rattle.rt_cover.specs.declared.change.Delta.{Delta}
use Rattle.rt_cover.specs.Cover.{Registered, Tagged}
use Rattle.rt_cover.specs.laws.KeepLaws.{Contains-map}
use Rattle.rt_cover.specs.State.{Cover, added, difference, listen_at, removed, revoked, without_tag}
use Rattle.rt_wire.specs.declared.client.ClientMessage.{ClientMessage}
use Rattle.rt_parts.specs.Listeners.{Listeners, cancelled_note, counts_left, new_listener, views_left}
use Rattle.rt_parts.specs.Renewed.{all_told_of, count_of, renewed_of, told_of, view_of}
use Rattle.rt_world.specs.declared.step.Request.{Request}
use Rattle.rt_world.specs.declared.step.Step.{Step}
use Rattle.rt_world.specs.World.{Reason, World, Listener, registered, listening, pending, listen_of}
use Rattle.rt_world.specs.After.{brought_after, listeners_after, renewed, requests_after}
use Rattle.rt_world.specs.steps.Closing.{numbers_of, unseated}
use Rattle.rt_world.specs.steps.Revoking.{is_cancelled}
use Rattle.rt_world.specs.Messages.{next}
use Rattle.rt_world.specs.Met.{told}
use Rattle.rt_world.specs.Covering.{cover_in, cover_after}
use Rattle.rt_world.specs.Sound.{IsSound}
use Rattle.rt_world.specs.laws.Listened.{CloseSeatIsMade, left_brought, ListenIsMade, renewed_moved, RevokedIsMade, told_moved, UnlistenIsMade}
use Rattle.rt_world.proofs.Listeners.{registered-renewed}
use Rattle.rt_world.specs.laws.Holds.{CoverFollows}
use Rattle.rt_sync.specs.Core.{Held}
use Rattle.rt_sync.specs.declared.state.StepNews.{StepNews}
use Rattle.rt_sync.specs.inside.Due.{IsDue, IsNext}
use Rattle.rt_sync.specs.inside.Losing.{AreMoved}
use Rattle.rt_sync.specs.inside.Parts.{changing}
use Rattle.rt_sync.specs.declared.state.State.{State}
use Rattle.rt_sync.specs.inside.StateView.{IsTied, world_of}
use Rattle.rt_sync.specs.inside.Viewed.{LeavesViews, all_in}
use Rattle.rt_sync.proofs.NextWorlds.{made_of}
use Rattle.rt_sync.proofs.TagLaws.{cover_tied}

-- ---- listeners that stay

-- alike for each of a list
map_alike : {X Y : Type 0} (f g : X → Y) (xs : List X) → ((x : X) → Contains xs x → f x ≡ g x) → map f xs ≡ map g xs
map_alike f g [] h = refl
map_alike f g (x ∷ xs) h =
    let head = h x (0, omega arith, refl) in
    let tail = map_alike f g xs (λ y m. h y (suc m.0, omega (arith, m.1), m.2)) in
    λ i. head i ∷ tail i

gather_alike : {X Y : Type 0} (f g : X → Option Y) (xs : List X) → ((x : X) → Contains xs x → f x ≡ g x) → filter_map f xs ≡ filter_map g xs
gather_alike f g [] h = refl
gather_alike f g (x ∷ xs) h =
    let head = h x (0, omega arith, refl) in
    let tail = gather_alike f g xs (λ y m. h y (suc m.0, omega (arith, m.1), m.2)) in
    λ i. cons_option (head i) (tail i)

-- the queries that are told are those of the listeners that are moved
abbrev pub IsJust : (moved : List Query) → (old new : Brought) → List Listener → Type 0
IsJust moved old new ls = (l : Listener) → Contains ls l → is_among moved l.query ≡ is_moved old new l.query

-- so these are renewed, and told
pub moved_renewed : (w : World) (c : Cover) (ls : List Listener) (moved : List Query) (b : Brought) → b ≡ left_brought w c → (ws : List Write) → ws ≡ pending w.requests → IsJust moved w.brought b ls
    → map (renewed_of moved b ws) ls ≡ map (renewed_moved w c) ls
moved_renewed w c ls moved b be ws we just = map_alike (renewed_of moved b ws) (renewed_moved w c) ls (λ l m.
    (λ i. cond ((just l m ∙ ap (λ (x : Brought). is_moved w.brought x l.query) be) i) (renewed (be i) (we i) l) l))

pub moved_told : (w : World) (c : Cover) (ls : List Listener) (moved : List Query) (b : Brought) → b ≡ left_brought w c → (ws : List Write) → ws ≡ pending w.requests → IsJust moved w.brought b ls
    → all_told_of moved b ws ls ≡ filter_map (told_moved w c) ls
moved_told w c ls moved b be ws we just = gather_alike (told_of moved b ws) (told_moved w c) ls (λ l m.
    (λ i. cond ((just l m ∙ ap (λ (x : Brought). is_moved w.brought x l.query) be) i) (told (be i) (we i) l) None))

-- the cover after the step is of the listeners that stay
pub left_listeners : (w : World) (s : Step) (test : Listener → Bool) → listeners_after w s ≡ filter test w.listeners → (c : Cover) → c ≡ cover_in (next w s) → c.listeners ≡ registered (filter test w.listeners)
left_listeners w s test left c e =
    ap (λ (x : Cover). x.listeners) e
    ∙ registered-renewed (brought_after w s) (pending (requests_after w s)) (listeners_after w s)
    ∙ ap registered left

-- where a cover is of listeners, these are just the moved ones of theirs
pub just_of : (c : Cover) (ls : List Listener) (old new : Brought) (moved : List Query) → c.listeners ≡ registered ls → AreMoved c old new moved → IsJust moved old new ls
just_of c ls old new moved e all l m =
    all l.query (ap (list_any (λ (r : Registered). query_eq r.1 (form l.query))) e ∙ there ls l m)
  where
    there : (xs : List Listener) (l : Listener) → Contains xs l → list_any (λ (r : Registered). query_eq r.1 (form l.query)) (registered xs) ≡ true
    there xs l m =
        let k = Contains-map {Y = Registered} (λ (x : Listener). (x.number, form x.query)) xs m.0 l m.1 m.2 in
        list_any_at (λ (r : Registered). query_eq r.1 (form l.query)) (registered xs) k.0 (l.number, form l.query) k.1 (ap (λ (r : Registered). query_eq r.1 (form l.query)) k.2 ∙ (query_eq_tells (form l.query) (form l.query)).1 refl)

-- the views of those that stay are left, and the moved ones' are taken anew
pub left_views : (h : Held) (s : Step) (k : Held) (test : Listener → Bool) → listeners_after h.world s ≡ filter test (h.world).listeners
    → (moved : List Query) → IsJust moved (h.world).brought (k.world).brought (filter test (h.world).listeners)
    → (left : Listeners) → left.listeners ≡ filter test (h.world).listeners → left.views ≡ views_left test (all_in h) → left.counts ≡ counts_left test (all_in h)
    → (ws : List Write) → ws ≡ pending (k.world).requests
    → (k.world).listeners ≡ map (renewed_of moved (k.world).brought ws) left.listeners
    → k.views ≡ map (view_of moved (k.world).brought ws) (zip left.listeners left.views)
    → k.counts ≡ map (count_of moved (k.world).brought ws) (zip (zip left.listeners left.views) left.counts)
    → LeavesViews h s k
left_views h s k test after moved just left ls vs cs ws we kl kv kc = record {
  test = test;
  left = after;
  moved = moved;
  just = just;
  listeners = kl ∙ (λ i. map (renewed_of moved (k.world).brought (we i)) (ls i));
  views = kv ∙ (λ i. map (view_of moved (k.world).brought (we i)) (zip (ls i) (vs i)));
  counts = kc ∙ (λ i. map (count_of moved (k.world).brought (we i)) (zip (zip (ls i) (vs i)) (cs i)));
}

-- ---- steps

-- the cover that takes the step's change is that of the world after it
pub tied_next : CoverFollows → (v : World) (s : Step) → IsSound v → (cover' : Cover) (w' : World) → cover' ≡ cover_after v s → w' ≡ next v s → IsTied cover' w'
tied_next law v s h cover' w' ce we =
    let same : cover' ≡ cover_in (next v s) = ce ∙ sym (law v s h) in
    record {
      listened = ap (λ (x : Cover). x.listeners) same ∙ ap (λ (x : World). registered x.listeners) (sym we);
      last_tag = ap (λ (x : Cover). x.last_tag) same ∙ ap (λ (x : World). x.limits.last_number) (sym we);
    }

module _ (state : State) where
  abbrev w : World
  w = world_of state

  -- the cover with the new listener
  pub added_is : IsTied state.cover w → (seat : ℕ) (query : Query) → added state.cover (state.given_listeners + 1) query ≡ cover_after w (Step.Listen seat query)
  added_is t seat query = ap (λ (x : Cover). added x (state.given_listeners + 1) query) (cover_tied state.cover w t refl refl)

  pub listen_made : ListenIsMade → IsTied state.cover w → (seat : ℕ) (query : Query) → IsDue w (Step.Listen seat query)
      → (cover' : Cover) → cover' ≡ added state.cover (state.given_listeners + 1) query
      → (b' : Brought) → b' ≡ with_form (form query) state.brought
      → (ls' : List Listener) → ls' ≡ state.listeners.listeners ++ renewed b' (pending state.requests) (new_listener (state.given_listeners + 1) seat query) ∷ []
      → (delta : Delta) → delta ≡ difference state.cover (added state.cover (state.given_listeners + 1) query)
      → (out' : List ClientMessage) → out' ≡ state.outgoing.items ++ changing state.is_connected delta
      → (said : StepNews) → said.given ≡ Some (state.given_listeners + 1) → said.notes.items ≡ option_to_list (told b' (pending state.requests) (new_listener (state.given_listeners + 1) seat query))
      → IsNext w (Step.Listen seat query) (record w { listeners = ls'; brought = b'; kept = cover'.kept; outgoing = out'; next_listener = state.given_listeners + 1 + 1; next_tag = cover'.next_tag }, said)
  listen_made law t seat query d cover' ce b' be ls' le delta de out' oe said given notes =
      let leaves = law w seat query (made_of w (Step.Listen seat query) d) d.good.reached in
      let whole : state.cover ≡ cover_in w = cover_tied state.cover w t refl refl in
      let covers : cover' ≡ added (cover_in w) (state.given_listeners + 1) query = ce ∙ ap (λ (x : Cover). added x (state.given_listeners + 1) query) whole in
      let sent : out' ≡ state.outgoing.items ++ changing state.is_connected (difference (cover_in w) (added (cover_in w) (state.given_listeners + 1) query)) =
      oe ∙ ap (λ x. state.outgoing.items ++ changing state.is_connected x) (de ∙ ap (λ (x : Cover). difference x (added x (state.given_listeners + 1) query)) whole) in
      let listed : ls' ≡ state.listeners.listeners ++ renewed (with_form (form query) state.brought) (pending state.requests) (new_listener (state.given_listeners + 1) seat query) ∷ [] =
      le ∙ ap (λ (x : Brought). state.listeners.listeners ++ renewed x (pending state.requests) (new_listener (state.given_listeners + 1) seat query) ∷ []) be in
      record {
        world = (λ i. record w { listeners = listed i; brought = be i; kept = (covers i).kept; outgoing = sent i; next_listener = state.given_listeners + 1 + 1; next_tag = (covers i).next_tag }) ∙ sym leaves.world;
        given = given;
        notes = notes ∙ ap (λ (x : Brought). option_to_list (told x (pending state.requests) (new_listener (state.given_listeners + 1) seat query))) be ∙ sym leaves.notes;
      }

  -- the cover without the listener
  pub removed_is : IsTied state.cover w → (seat listener : ℕ) → removed state.cover (listener ∷ []) ≡ cover_after w (Step.Unlisten seat listener)
  removed_is t seat listener = ap (λ (x : Cover). removed x (listener ∷ [])) (cover_tied state.cover w t refl refl)

  -- of those that stay just the moved ones are told
  pub unlisten_just : CoverFollows → IsSound w → IsTied state.cover w → (seat listener : ℕ) → (cover' : Cover) → cover' ≡ removed state.cover (listener ∷ [])
      → (b' : Brought) (moved : List Query) → AreMoved cover' state.brought b' moved → IsJust moved state.brought b' (filter (λ (l : Listener). not (l.number == listener)) state.listeners.listeners)
  unlisten_just follows h t seat listener cover' ce b' moved are =
      just_of cover' (filter (λ (l : Listener). not (l.number == listener)) state.listeners.listeners) state.brought b' moved
      (left_listeners w (Step.Unlisten seat listener) (λ l. not (l.number == listener)) refl cover' (ce ∙ removed_is t seat listener ∙ sym (follows w (Step.Unlisten seat listener) h)))
      are

  pub unlisten_made : UnlistenIsMade → IsTied state.cover w → (seat listener : ℕ) → IsDue w (Step.Unlisten seat listener)
      → (cover' : Cover) → cover' ≡ removed state.cover (listener ∷ [])
      → (b' : Brought) → b' ≡ recover (listening cover'.listeners) (map (λ k. k.form) cover'.kept) state.brought
      → (moved : List Query) → IsJust moved state.brought b' (filter (λ (l : Listener). not (l.number == listener)) state.listeners.listeners)
      → (ws : List Write) → ws ≡ pending state.requests
      → (ls' : List Listener) → ls' ≡ map (renewed_of moved b' ws) (filter (λ (l : Listener). not (l.number == listener)) state.listeners.listeners)
      → (delta : Delta) → delta ≡ difference state.cover (removed state.cover (listener ∷ []))
      → (out' : List ClientMessage) → out' ≡ state.outgoing.items ++ changing state.is_connected delta
      → (said : StepNews) → said.given ≡ None → said.notes.items ≡ all_told_of moved b' ws (filter (λ (l : Listener). not (l.number == listener)) state.listeners.listeners)
      → IsNext w (Step.Unlisten seat listener) (record w { listeners = ls'; brought = b'; kept = cover'.kept; outgoing = out'; next_tag = cover'.next_tag }, said)
  unlisten_made law t seat listener d cover' ce b' be moved just ws we ls' le delta de out' oe said given notes =
      let leaves = law w seat listener (made_of w (Step.Unlisten seat listener) d) d.good.reached in
      let whole : state.cover ≡ cover_in w = cover_tied state.cover w t refl refl in
      let covers : cover' ≡ removed (cover_in w) (listener ∷ []) = ce ∙ ap (λ (x : Cover). removed x (listener ∷ [])) whole in
      let sent : out' ≡ state.outgoing.items ++ changing state.is_connected (difference (cover_in w) (removed (cover_in w) (listener ∷ []))) =
      oe ∙ ap (λ x. state.outgoing.items ++ changing state.is_connected x) (de ∙ ap (λ (x : Cover). difference x (removed x (listener ∷ []))) whole) in
      let brings : b' ≡ recover (listening (removed (cover_in w) (listener ∷ [])).listeners) (map (λ k. k.form) (removed (cover_in w) (listener ∷ [])).kept) state.brought =
      be ∙ ap (λ (x : Cover). recover (listening x.listeners) (map (λ k. k.form) x.kept) state.brought) covers in
      let left : List Listener = filter (λ (l : Listener). not (l.number == listener)) state.listeners.listeners in
      let listed = le ∙ moved_renewed w (removed (cover_in w) (listener ∷ [])) left moved b' brings ws we just in
      record {
        world = (λ i. record w { listeners = listed i; brought = brings i; kept = (covers i).kept; outgoing = sent i; next_tag = (covers i).next_tag }) ∙ sym leaves.world;
        given = given;
        notes = notes ∙ moved_told w (removed (cover_in w) (listener ∷ [])) left moved b' brings ws we just ∙ sym leaves.notes;
      }

  -- the cover without the listeners of the seat
  pub closed_is : IsTied state.cover w → (seat : ℕ) (numbers : List ℕ) → numbers ≡ numbers_of w seat → removed state.cover numbers ≡ cover_after w (Step.CloseSeat seat)
  closed_is t seat numbers e = λ i. removed (cover_tied state.cover w t refl refl i) (e i)

  pub close_just : CoverFollows → IsSound w → IsTied state.cover w → (seat : ℕ) → (numbers : List ℕ) → numbers ≡ numbers_of w seat → (cover' : Cover) → cover' ≡ removed state.cover numbers
      → (b' : Brought) (moved : List Query) → AreMoved cover' state.brought b' moved → IsJust moved state.brought b' (filter (λ (l : Listener). not (l.seat == seat)) state.listeners.listeners)
  close_just follows h t seat numbers ne cover' ce b' moved are =
      just_of cover' (filter (λ (l : Listener). not (l.seat == seat)) state.listeners.listeners) state.brought b' moved
      (left_listeners w (Step.CloseSeat seat) (λ l. not (l.seat == seat)) refl cover' (ce ∙ closed_is t seat numbers ne ∙ sym (follows w (Step.CloseSeat seat) h)))
      are

  pub close_made : CloseSeatIsMade → IsTied state.cover w → (seat : ℕ) → IsDue w (Step.CloseSeat seat)
      → (numbers : List ℕ) → numbers ≡ numbers_of w seat
      → (cover' : Cover) → cover' ≡ removed state.cover numbers
      → (requests' : List Request) → requests' ≡ map (unseated seat) state.requests
      → (b' : Brought) → b' ≡ recover (listening cover'.listeners) (map (λ k. k.form) cover'.kept) state.brought
      → (moved : List Query) → IsJust moved state.brought b' (filter (λ (l : Listener). not (l.seat == seat)) state.listeners.listeners)
      → (ws : List Write) → ws ≡ pending state.requests
      → (ls' : List Listener) → ls' ≡ map (renewed_of moved b' ws) (filter (λ (l : Listener). not (l.seat == seat)) state.listeners.listeners)
      → (delta : Delta) → delta ≡ difference state.cover (removed state.cover numbers)
      → (out' : List ClientMessage) → out' ≡ state.outgoing.items ++ changing state.is_connected delta
      → (said : StepNews) → said.given ≡ None → said.notes.items ≡ all_told_of moved b' ws (filter (λ (l : Listener). not (l.seat == seat)) state.listeners.listeners)
      → IsNext w (Step.CloseSeat seat) (record w { listeners = ls'; requests = requests'; brought = b'; kept = cover'.kept; outgoing = out'; next_tag = cover'.next_tag }, said)
  close_made law t seat d numbers ne cover' ce requests' re b' be moved just ws we ls' le delta de out' oe said given notes =
      let leaves = law w seat (made_of w (Step.CloseSeat seat) d) d.good.reached in
      let whole : state.cover ≡ cover_in w = cover_tied state.cover w t refl refl in
      let covers : cover' ≡ removed (cover_in w) (numbers_of w seat) = ce ∙ (λ i. removed (whole i) (ne i)) in
      let sent : out' ≡ state.outgoing.items ++ changing state.is_connected (difference (cover_in w) (removed (cover_in w) (numbers_of w seat))) =
      oe ∙ ap (λ x. state.outgoing.items ++ changing state.is_connected x) (de ∙ (λ i. difference (whole i) (removed (whole i) (ne i)))) in
      let brings : b' ≡ recover (listening (removed (cover_in w) (numbers_of w seat)).listeners) (map (λ k. k.form) (removed (cover_in w) (numbers_of w seat)).kept) state.brought =
      be ∙ ap (λ (x : Cover). recover (listening x.listeners) (map (λ k. k.form) x.kept) state.brought) covers in
      let left : List Listener = filter (λ (l : Listener). not (l.seat == seat)) state.listeners.listeners in
      let listed = le ∙ moved_renewed w (removed (cover_in w) (numbers_of w seat)) left moved b' brings ws we just in
      record {
        world = (λ i. record w { listeners = listed i; requests = re i; brought = brings i; kept = (covers i).kept; outgoing = sent i; next_tag = (covers i).next_tag }) ∙ sym leaves.world;
        given = given;
        notes = notes ∙ moved_told w (removed (cover_in w) (numbers_of w seat)) left moved b' brings ws we just ∙ sym leaves.notes;
      }

  -- the cover without the listeners of the listen
  pub revoked_is : IsTied state.cover w → (tag : ℕ) (why : Reason) → revoked state.cover tag ≡ cover_after w (Step.Revoked tag why)
  revoked_is t tag why = ap (λ (x : Cover). revoked x tag) (cover_tied state.cover w t refl refl)

  pub revoke_just : CoverFollows → IsSound w → IsTied state.cover w → (tag : ℕ) (why : Reason)
      → (listened : Query) → option_map (λ (k : Tagged). k.form) (listen_at state.cover tag) ≡ Some listened
      → (cover' : Cover) → cover' ≡ revoked state.cover tag
      → (b' : Brought) (moved : List Query) → AreMoved cover' state.brought b' moved → IsJust moved state.brought b' (filter (λ (l : Listener). not (query_eq (form l.query) listened)) state.listeners.listeners)
  revoke_just follows h t tag why listened fe cover' ce b' moved are =
      let ended : Some listened ≡ listen_of w tag = sym fe in
      just_of cover' (filter (λ (l : Listener). not (query_eq (form l.query) listened)) state.listeners.listeners) state.brought b' moved
      (left_listeners w (Step.Revoked tag why) (λ l. not (is_cancelled w tag l)) refl cover' (ce ∙ revoked_is t tag why ∙ sym (follows w (Step.Revoked tag why) h))
      ∙ ap registered (sym (λ i. filter (λ (l : Listener). not (option_map_or (query_eq (form l.query)) (ended i) false)) state.listeners.listeners)))
      are

  pub revoke_made : RevokedIsMade → IsTied state.cover w → (tag : ℕ) (why : Reason) → IsDue w (Step.Revoked tag why)
      → (listened : Query) → option_map (λ (k : Tagged). k.form) (listen_at state.cover tag) ≡ Some listened
      → (cover' : Cover) → cover' ≡ revoked state.cover tag
      → (b' : Brought) → b' ≡ recover (listening cover'.listeners) (map (λ k. k.form) cover'.kept) state.brought
      → (moved : List Query) → IsJust moved state.brought b' (filter (λ (l : Listener). not (query_eq (form l.query) listened)) state.listeners.listeners)
      → (ws : List Write) → ws ≡ pending state.requests
      → (ls' : List Listener) → ls' ≡ map (renewed_of moved b' ws) (filter (λ (l : Listener). not (query_eq (form l.query) listened)) state.listeners.listeners)
      → (delta : Delta) → delta ≡ without_tag tag (difference state.cover (revoked state.cover tag))
      → (out' : List ClientMessage) → out' ≡ state.outgoing.items ++ changing state.is_connected delta
      → (said : StepNews) → said.given ≡ None → said.notes.items ≡ map (cancelled_note why) (filter (λ (l : Listener). query_eq (form l.query) listened) state.listeners.listeners) ++ all_told_of moved b' ws (filter (λ (l : Listener). not (query_eq (form l.query) listened)) state.listeners.listeners)
      → IsNext w (Step.Revoked tag why) (record w { listeners = ls'; brought = b'; kept = cover'.kept; outgoing = out'; next_tag = cover'.next_tag }, said)
  revoke_made law t tag why d listened fe cover' ce b' be moved just ws we ls' le delta de out' oe said given notes =
      let leaves = law w tag why (made_of w (Step.Revoked tag why) d) d.good.reached in
      let whole : state.cover ≡ cover_in w = cover_tied state.cover w t refl refl in
      let ended : Some listened ≡ listen_of w tag = sym fe in
      let covers : cover' ≡ revoked (cover_in w) tag = ce ∙ ap (λ (x : Cover). revoked x tag) whole in
      let k : Cover = revoked (cover_in w) tag in
      let left : List Listener = filter (λ (l : Listener). not (query_eq (form l.query) listened)) state.listeners.listeners in
      let same : left ≡ filter (λ (l : Listener). not (option_map_or (query_eq (form l.query)) (listen_of w tag) false)) state.listeners.listeners =
      (λ i. filter (λ (l : Listener). not (option_map_or (query_eq (form l.query)) (ended i) false)) state.listeners.listeners) in
      let sent : out' ≡ state.outgoing.items ++ changing state.is_connected (without_tag tag (difference (cover_in w) (revoked (cover_in w) tag))) =
      oe ∙ ap (λ x. state.outgoing.items ++ changing state.is_connected x) (de ∙ ap (λ (x : Cover). without_tag tag (difference x (revoked x tag))) whole) in
      let brings : b' ≡ recover (listening (revoked (cover_in w) tag).listeners) (map (λ k. k.form) (revoked (cover_in w) tag).kept) state.brought =
      be ∙ ap (λ (x : Cover). recover (listening x.listeners) (map (λ k. k.form) x.kept) state.brought) covers in
      record {
        world = (λ i. record w { listeners = (le ∙ moved_renewed w k left moved b' brings ws we just ∙ ap (map (renewed_moved w k)) same) i; brought = brings i; kept = (covers i).kept; outgoing = sent i; next_tag = (covers i).next_tag }) ∙ sym leaves.world;
        given = given;
        notes = notes
            ∙ (λ i. map (cancelled_note why) (filter (λ (l : Listener). option_map_or (query_eq (form l.query)) (ended i) false) state.listeners.listeners)
            ++ (moved_told w k left moved b' brings ws we just ∙ ap (filter_map (told_moved w k)) same) i)
            ∙ sym leaves.notes;
      }
