-- Steps that register or end listeners, in the words of rt_cover's changes.
use Rattle.std.proofs.Common.{◌≡◌, ◌+◌, Bool, true, cond, not, ◌==◌, List, [], ◌∷◌, ◌++◌, map, refl, sym, ap, subst, ◌∙◌, ◌||◌, false, is_some, arith, suc, append-nil, Option, Some, None}
use mathlib.Core.Bool.{true≢false}
use Rattle.std.specs.List.{filter, filter_map, find, list_any, cons_option, Contains}
use Rattle.std.specs.Option.{option_to_list}
use Rattle.std.proofs.lemmas.List.Elements.{filter_map-append}
use Rattle.rt_writes.specs.Writes.{Write}
use Rattle.rt_tree.specs.TreeEq.{both_second}
use Rattle.rt_query.specs.Queries.{Query}
use Rattle.rt_query.specs.Supply.{form, does_supply}
use Rattle.rt_cache.specs.Brought.{Brought, with_form, region_part}
use Rattle.rt_cache.specs.Canonical.{IsCanonical, Belongs}
use Rattle.rt_cache.specs.Recover.{recover, is_moved}
use Rattle.rt_cache.proofs.Among.{any_with}
use Rattle.rt_cache.proofs.Changing.{is_brought}
use Rattle.rt_cache.proofs.FilteredRuns.{calls_hold}
use Rattle.rt_cache.proofs.Moves.{unmoved_same}
use Rattle.rt_cache.proofs.Sources.{has_it, found_all}
use Rattle.rt_cover.specs.declared.change.Delta.{Delta}
use Rattle.rt_cover.specs.Cover.{Registered, Tagged}
use Rattle.rt_cover.specs.Runs.{Add, Remove, Revoke}
use Rattle.rt_cover.specs.State.{Cover, shown_with, difference, removed, revoked, without_tag, left_after, without_listeners}
use Rattle.rt_cover.specs.laws.CoverLaws.{Contains-from_filter}
use Rattle.rt_wire.specs.declared.client.ClientMessage.{ClientMessage}
use Rattle.rt_world.specs.declared.report.Body.TheVariants.{Cancelled}
use Rattle.rt_world.specs.declared.report.Note.{Note}
use Rattle.rt_world.specs.declared.step.Step.{Step}
use Rattle.rt_world.specs.World.{World, Listener, registered, listening, pending}
use Rattle.rt_world.specs.steps.Revoking.{is_cancelled}
use Rattle.rt_world.specs.steps.Closing.{numbers_of, unseated}
use Rattle.rt_world.specs.After.{listeners_after, requests_after, started_by, pushed, brought_after, renewed, renewed_after}
use Rattle.rt_world.specs.Messages.{stopped_by, listens, unlistens, request_sent, messages_online, next}
use Rattle.rt_world.specs.Answers.{batch_from, batch_note, batch_notes}
use Rattle.rt_world.specs.Met.{told}
use Rattle.rt_world.specs.Called.{IsCalled}
use Rattle.rt_world.specs.Covering.{cover_in, delta_by}
use Rattle.rt_world.specs.laws.World.{changes_listeners}
use Rattle.rt_world.specs.laws.Steps.{note_of}
use Rattle.rt_world.specs.laws.Made.{IsMade}
use Rattle.rt_world.specs.laws.Listened.{changing, new_listener, cover_with, left_brought, renewed_moved, told_moved, all_moved, ListenIsMade, UnlistenIsMade, CloseSeatIsMade, RevokedIsMade}
use Rattle.rt_world.proofs.CoveringLaws.{follows, revoked_left, unlistened, closed}
use Rattle.rt_world.proofs.DeltaLaws.{delta}
use Rattle.rt_world.proofs.HeardLaws.{map-append}
use Rattle.rt_world.proofs.NoteLaws.{batches_are_notes, still_is_quiet}
use Rattle.rt_world.proofs.ReachedLaws.{listen_brings_nothing}
use Rattle.rt_world.proofs.Reaching.{Contains-more}
use Rattle.rt_world.proofs.StayLaws.{stays_same}
use Rattle.rt_world.proofs.WrittenLaws.{pending-unseated}

-- ---- lists

map_id : {X : Type 0} (f : X → X) (xs : List X) → ((x : X) → Contains xs x → f x ≡ x) → map f xs ≡ xs
map_id f [] h = refl
map_id f (x ∷ xs) h =
    let head = h x (0, omega arith, refl) in
    let tail = map_id f xs (λ y m. h y (suc m.0, omega (arith, m.1), m.2)) in
    λ i. head i ∷ tail i

gather_none : {X Y : Type 0} (f : X → Option Y) (xs : List X) → ((x : X) → Contains xs x → f x ≡ None) → filter_map f xs ≡ []
gather_none f [] h = refl
gather_none f (x ∷ xs) h =
    let head = h x (0, omega arith, refl) in
    let tail = gather_none f xs (λ y m. h y (suc m.0, omega (arith, m.1), m.2)) in
    λ i. cons_option (head i) (tail i)

one_gathered : {X : Type 0} (o : Option X) → cons_option o [] ≡ option_to_list o
one_gathered (Some x) = refl
one_gathered None = refl

-- ---- messages

listens_shown : (rs : List Registered) (ks : List Tagged) → map (λ k. ClientMessage.Listen k.tag k.query) (map (shown_with rs) ks) ≡ listens ks
listens_shown rs [] = refl
listens_shown rs (k ∷ ks) = ap (λ z. ClientMessage.Listen k.tag k.form ∷ z) (listens_shown rs ks)

unlistens_tags : (ks : List Tagged) → map (λ tag. ClientMessage.Unlisten tag) (map (λ (k : Tagged). k.tag) ks) ≡ unlistens ks
unlistens_tags [] = refl
unlistens_tags (k ∷ ks) = ap (λ z. ClientMessage.Unlisten k.tag ∷ z) (unlistens_tags ks)

-- a step that asks for nothing sends what its change of the cover tells
sends : (w : World) (s : Step) → request_sent w s ≡ [] → (d : Delta) → d ≡ delta_by w s → cond w.is_connected (messages_online w s) [] ≡ changing w.is_connected d
sends w s none d e =
    ap (λ ms. cond w.is_connected ms [])
    ((λ i. (listens (started_by w s) ++ unlistens (stopped_by w s)) ++ none i)
    ∙ append-nil (listens (started_by w s) ++ unlistens (stopped_by w s))
    ∙ (λ i. sym (listens_shown (registered (listeners_after w s)) (started_by w s)) i ++ sym (unlistens_tags (stopped_by w s)) i))
    ∙ ap (changing w.is_connected) (sym e)

-- ---- listeners that stay

map_alike : {X Y : Type 0} (f g : X → Y) (xs : List X) → ((x : X) → Contains xs x → f x ≡ g x) → map f xs ≡ map g xs
map_alike f g [] h = refl
map_alike f g (x ∷ xs) h =
    let head = h x (0, omega arith, refl) in
    let tail = map_alike f g xs (λ y m. h y (suc m.0, omega (arith, m.1), m.2)) in
    λ i. head i ∷ tail i

gather_alike : {X Y : Type 0} (f g : X → Option Y) (xs : List X) → ((x : X) → Contains xs x → f x ≡ g x) → filter_map f xs ≡ filter_map g xs
gather_alike f g [] h = refl
gather_alike f g (x ∷ xs) h =
    let head = h x (0, omega arith, refl) in
    let tail = gather_alike f g xs (λ y m. h y (suc m.0, omega (arith, m.1), m.2)) in
    λ i. cons_option (head i) (tail i)

module _ (w : World) (s : Step) (d : IsMade w s) (c : changes_listeners s ≡ true) where
  -- a listener that stays and is not moved is told nothing
  quiet : (l : Listener) → Contains w.listeners l → Contains (listeners_after w s) l → is_moved w.brought (brought_after w s) l.query ≡ false → note_of w s l ≡ None
  quiet l old new unmoved = ap (λ x. batch_note x (batch_from l.view x)) (stays_same w s d.sound d.called c l old new unmoved) ∙ still_is_quiet w l d.sound old

  module _ (test : Listener → Bool) (left : listeners_after w s ≡ filter test w.listeners) where
    old : (l : Listener) → Contains (listeners_after w s) l → Contains w.listeners l
    old l m = Contains-from_filter test w.listeners l (subst (λ (ls : List Listener). Contains ls l) left m)

    -- what is brought, said by the cover after the step
    pub brought_left : pushed w s ≡ w.brought → (ls : List Registered) → registered (listeners_after w s) ≡ ls → (k : Cover) → cover_in (next w s) ≡ k → k.listeners ≡ ls
        → brought_after w s ≡ left_brought w k
    brought_left p ls e k f g =
        (λ i. recover (listening ((e ∙ sym g) i)) (map (λ (x : Tagged). x.form) (f i).kept) (p i))

    -- said so, and with the writes that are pending before and after, those that are moved are renewed and told
    module _ (k : Cover) (b : brought_after w s ≡ left_brought w k) (ws : pending (requests_after w s) ≡ pending w.requests) where
      one_renewed : (l : Listener) → Contains (listeners_after w s) l → renewed (brought_after w s) (pending (requests_after w s)) l ≡ renewed_moved w k l
      one_renewed l m = at (is_moved w.brought (left_brought w k) l.query) refl
        where
          at : (t : Bool) → is_moved w.brought (left_brought w k) l.query ≡ t → renewed (brought_after w s) (pending (requests_after w s)) l ≡ renewed_moved w k l
          at true t = (λ i. renewed (b i) (ws i) l) ∙ sym (ap (λ u. cond u (renewed (left_brought w k) (pending w.requests) l) l) t)
          at false t = stays_same w s d.sound d.called c l (old l m) m (ap (λ x. is_moved w.brought x l.query) b ∙ t) ∙ sym (ap (λ u. cond u (renewed (left_brought w k) (pending w.requests) l) l) t)

      one_told : (l : Listener) → Contains (listeners_after w s) l → note_of w s l ≡ told_moved w k l
      one_told l m = at (is_moved w.brought (left_brought w k) l.query) refl
        where
          at : (t : Bool) → is_moved w.brought (left_brought w k) l.query ≡ t → note_of w s l ≡ told_moved w k l
          at true t = (λ i. told (b i) (ws i) l) ∙ sym (ap (λ u. cond u (told (left_brought w k) (pending w.requests) l) None) t)
          at false t = quiet l (old l m) m (ap (λ x. is_moved w.brought x l.query) b ∙ t) ∙ sym (ap (λ u. cond u (told (left_brought w k) (pending w.requests) l) None) t)

      pub left_renewed : renewed_after w s ≡ map (renewed_moved w k) (filter test w.listeners)
      left_renewed =
          map_alike (renewed (brought_after w s) (pending (requests_after w s))) (renewed_moved w k) (listeners_after w s) one_renewed
          ∙ ap (map (renewed_moved w k)) left

      pub left_told : batch_notes w s ≡ all_moved w test k
      left_told =
          batches_are_notes w s d.sound
          ∙ gather_alike (note_of w s) (told_moved w k) (listeners_after w s) one_told
          ∙ ap (filter_map (told_moved w k)) left

-- ---- one listener ends

pub unlisten_is_made : UnlistenIsMade
unlisten_is_made w seat listener d r =
    let s : Step = Step.Unlisten seat listener in
    let c : Cover = removed (cover_in w) (listener ∷ []) in
    let test : Listener → Bool = λ l. not (l.number == listener) in
    let f : cover_in (next w s) ≡ c = follows w s d.sound in
    let b = brought_left w s d refl test refl refl (without_listeners (registered w.listeners) (listener ∷ [])) (unlistened w listener) c f refl in
    let ls = left_renewed w s d refl test refl c b refl in
    let ms = sends w s refl (difference (cover_in w) c) (delta w s d.sound (Remove (listener ∷ [])) refl) in
    record {
      world = (λ i. record w { listeners = ls i; brought = b i; kept = (f i).kept; outgoing = w.outgoing ++ ms i; next_tag = (f i).next_tag });
      notes = left_told w s d refl test refl c b refl;
    }

-- ---- those of a seat

pub close_seat_is_made : CloseSeatIsMade
close_seat_is_made w seat d r =
    let s : Step = Step.CloseSeat seat in
    let c : Cover = removed (cover_in w) (numbers_of w seat) in
    let test : Listener → Bool = λ l. not (l.seat == seat) in
    let f : cover_in (next w s) ≡ c = follows w s d.sound in
    let b = brought_left w s d refl test refl refl (without_listeners (registered w.listeners) (numbers_of w seat)) (closed w seat d.sound) c f refl in
    let writes : pending (requests_after w s) ≡ pending w.requests = pending-unseated seat w.requests in
    let ls = left_renewed w s d refl test refl c b writes in
    let ms = sends w s refl (difference (cover_in w) c) (delta w s d.sound (Remove (numbers_of w seat)) refl) in
    record {
      world = (λ i. record w { listeners = ls i; requests = map (unseated seat) w.requests; brought = b i; kept = (f i).kept; outgoing = w.outgoing ++ ms i; next_tag = (f i).next_tag });
      notes = left_told w s d refl test refl c b writes;
    }

-- ---- those of a listen

pub revoked_is_made : RevokedIsMade
revoked_is_made w tag why d r =
    let s : Step = Step.Revoked tag why in
    let c : Cover = revoked (cover_in w) tag in
    let test : Listener → Bool = λ l. not (is_cancelled w tag l) in
    let f : cover_in (next w s) ≡ c = follows w s d.sound in
    let b = brought_left w s d refl test refl refl (left_after (cover_in w) tag) (revoked_left w tag) c f refl in
    let ls = left_renewed w s d refl test refl c b refl in
    let ms = sends w s refl (without_tag tag (difference (cover_in w) c)) (delta w s d.sound (Revoke tag) refl) in
    let ended : List Note = map (λ (l : Listener). record { seat = l.seat; body = Cancelled l.number why }) (filter (is_cancelled w tag) w.listeners) in
    record {
      world = (λ i. record w { listeners = ls i; brought = b i; kept = (f i).kept; outgoing = w.outgoing ++ ms i; next_tag = (f i).next_tag });
      notes = ap (λ ns. ended ++ ns) (left_told w s d refl test refl c b refl);
    }

-- ---- a new listener

find_more : {X : Type 0} (p : X → Bool) (xs : List X) (x : X) → (p x ≡ true → list_any p xs ≡ true) → find p (xs ++ x ∷ []) ≡ find p xs
find_more p [] x h = at (p x) refl
  where
    at : (b : Bool) → p x ≡ b → cond (p x) (Some x) None ≡ None
    at true e = absurd (true≢false (sym (h e)))
    at false e = ap (λ b. cond b (Some x) None) e
find_more p (y ∷ ys) x h =
    elim (p y) as (λ b. (p x ≡ true → (b || list_any p ys) ≡ true) → cond b (Some y) (find p (ys ++ x ∷ [])) ≡ cond b (Some y) (find p ys)) [
      | true ↦ λ g. refl
      | false ↦ λ g. find_more p ys x g
    ] h

-- one form more moves no query: it has no window but where it was registered
listen_moves_none : (w : World) (f q : Query) → IsCalled w.brought → (b : Brought) → b ≡ with_form f w.brought → is_moved w.brought b q ≡ false
listen_moves_none w f q h b e =
    let x = calls_hold h.calls h.allowed in
    let c = subst IsCanonical h.left x.0 in
    let belongs = subst Belongs h.left x.1 in
    ap (λ y. is_moved w.brought y q) e
    ∙ unmoved_same w.brought (with_form f w.brought) q (is_brought w.brought c belongs)
    (ap (cond (is_some (region_part w.brought.regions q.path)) None) (find_more (has_it w.brought.windows q) w.brought.registered f (λ t.
    any_with (has_it w.brought.windows q) w.brought.registered f
    (found_all (Contains w.brought.registered) f w.brought.windows belongs.windows (both_second (does_supply f q) _ t)) t)))

pub listen_is_made : ListenIsMade
listen_is_made w seat query d r =
    let s : Step = Step.Listen seat query in
    let new : Listener = new_listener w seat query in
    let c : Cover = cover_with w query in
    let ws : List Write = pending w.requests in
    let f : cover_in (next w s) ≡ c = follows w s d.sound in
    let now : Brought = with_form (form query) w.brought in
    let b : brought_after w s ≡ now = listen_brings_nothing w seat query d.sound d.called r in
    let there : (l : Listener) → Contains w.listeners l → Contains (listeners_after w s) l = λ l m. Contains-more w.listeners (new ∷ []) l m in
    let unmoved : (q : Query) → is_moved w.brought (brought_after w s) q ≡ false = λ q. listen_moves_none w (form query) q d.called (brought_after w s) b in
    let ls : renewed_after w s ≡ w.listeners ++ renewed now ws new ∷ [] =
    map-append (renewed (brought_after w s) ws) w.listeners (new ∷ [])
    ∙ (λ i. map_id (renewed (brought_after w s) ws) w.listeners (λ l m. stays_same w s d.sound d.called refl l m (there l m) (unmoved l.query)) i ++ renewed (b i) ws new ∷ []) in
    let ms = sends w s refl (difference (cover_in w) c) (delta w s d.sound (Add w.next_listener query) refl) in
    let said : batch_notes w s ≡ option_to_list (told now ws new) =
    batches_are_notes w s d.sound
    ∙ filter_map-append (note_of w s) w.listeners (new ∷ [])
    ∙ (λ i. gather_none (note_of w s) w.listeners (λ l m. quiet w s d refl l m (there l m) (unmoved l.query)) i ++ cons_option (told (b i) ws new) [])
    ∙ one_gathered (told now ws new) in
    record {
      world = (λ i. record w { listeners = ls i; brought = b i; kept = (f i).kept; outgoing = w.outgoing ++ ms i; next_listener = w.next_listener + 1; next_tag = (f i).next_tag });
      notes = said;
    }
