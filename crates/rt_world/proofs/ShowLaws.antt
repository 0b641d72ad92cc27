-- After each step each listener's view is that of what is brought, and what it is told turns its view before into it.
use Rattle.std.proofs.Common.{◌≡◌, ℕ, zero, suc, ◌<◌, Bool, true, false, cond, not, ◌||◌, ◌==◌, ◌⊎◌, inl, inr, List, [], ◌∷◌, ◌++◌, map, length, refl, sym, ap, subst, ◌∙◌, append-nil, append_assoc, arith, slice_index_or, Option, Some, None, Ok, Err}
use mathlib.Core.Bool.{true≢false}
use Rattle.std.specs.Cmp.{nat_eq_equiv}
use Rattle.std.specs.List.{filter, filter_map, flat_map, cons_option, All, Contains}
use Rattle.std.specs.Option.{option_map, option_map_or}
use Rattle.std.proofs.lemmas.List.Elements.{All-contains, All-filter, All-map, Contains-append_cases, Contains-get_or}
use Rattle.rt_query.specs.Queries.{Query}
use Rattle.rt_writes.specs.Writes.{Write}
use Rattle.rt_cache.specs.Brought.{Brought, base}
use Rattle.rt_view.specs.declared.change.Change.{Change}
use Rattle.rt_view.specs.Changes.{changes, Turns}
use Rattle.rt_world.specs.declared.error.CoreError.{CoreError}
use Rattle.rt_world.specs.declared.report.Body.TheVariants.{Settled, Cancelled}
use Rattle.rt_world.specs.declared.report.Note.{Note}
use Rattle.rt_world.specs.declared.step.Request.{Request}
use Rattle.rt_world.specs.declared.step.Step.{Step}
use Rattle.rt_world.specs.Views.{is_known, seen_over, view_of}
use Rattle.rt_world.specs.World.{Reason, World, Listener, pending}
use Rattle.rt_world.specs.After.{kind, listeners_after, brought_after, requests_after, renewed, renewed_after, listener_given, counted}
use Rattle.rt_world.specs.steps.Revoking.{is_cancelled}
use Rattle.rt_world.specs.Messages.{next}
use Rattle.rt_world.specs.Answers.{step_by, Answer, settled_note, settled_notes, cancelled_notes, batch_notes, batch_note, batch_from, view_before, done_report, stale_report}
use Rattle.rt_world.specs.Headline.{view_by, changes_in, changes_told, IsUpToDate}
use Rattle.rt_world.specs.Sound.{Rises, IsSound}
use Rattle.rt_cover.specs.laws.CoverLaws.{Contains-from_filter}
use Rattle.rt_query.specs.laws.Select.{select-distinct}
use Rattle.rt_view.proofs.TurnLaws.{turns, turns_not, changes-same}
use Rattle.rt_world.proofs.KindLaws.{first_seen, Listening, still, adding, removing, revoking, orderly}
use Rattle.rt_world.proofs.Listeners.{same_number, or_false_left, or_false_right, has_number, has_number-there, not_above, not_bound, view_before-there, view_before-none, Rises-push, Rises-renewed, below-push, primed_view}

-- ---- listeners after a step

pub filter_true : {X : Type 0} (xs : List X) → filter (λ _. true) xs ≡ xs
filter_true [] = refl
filter_true (x ∷ xs) = ap (λ z. x ∷ z) (filter_true xs)

-- the listeners that are left of those before
pub record IsLeft (w : World) (s : Step) : Type 0 where
  pub test : Listener → Bool
  pub left : listeners_after w s ≡ filter test w.listeners
  pub given : listener_given w s ≡ None

-- one listener more
pub record IsMore (w : World) (s : Step) : Type 0 where
  pub seat : ℕ
  pub query : Query
  pub more : listeners_after w s ≡ w.listeners ++ first_seen w seat query ∷ []
  pub given : listener_given w s ≡ Some w.next_listener

-- a step registers one listener, or ends some or none
pub left_or_more : (w : World) (s : Step) → IsLeft w s ⊎ IsMore w s
left_or_more w s = at (orderly s).listeners
  where
    given : (b : Bool) → (kind s).registers ≡ b → listener_given w s ≡ cond b (Some w.next_listener) None
    given b e = ap (λ c. cond c (Some w.next_listener) None) e

    at : Listening (kind s) → IsLeft w s ⊎ IsMore w s
    at (still h) = inl (record { test = λ _. true; left = h.listeners w ∙ sym (filter_true w.listeners); given = given false h.registers })
    at (adding h) = inr (record { seat = h.seat; query = h.query; more = h.listeners w; given = given true h.registers })
    at (removing h) = inl (record { test = h.stays w; left = h.listeners w; given = given false h.registers })
    at (revoking h) = inl (record { test = λ l. not (is_cancelled w h.tag l); left = h.listeners w; given = given false h.registers })

Rises-filter : (p : Listener → Bool) (ls : List Listener) → Rises ls → Rises (filter p ls)
Rises-filter p [] h = tt
Rises-filter p (l ∷ ls) h =
    let rest = Rises-filter p ls h.1 in
    elim (p l) as (λ b. Rises (cond b (l ∷ filter p ls) (filter p ls))) [
      | true ↦ (All-filter p (λ (m : Listener). l.number < m.number) ls h.0, rest)
      | false ↦ rest
    ]

pub after_rises : (w : World) (s : Step) → IsSound w → Rises (listeners_after w s)
after_rises w s h = elim (left_or_more w s) [
  | inl e ↦ subst Rises (sym e.left) (Rises-filter e.test w.listeners h.rises)
  | inr e ↦ subst Rises (sym e.more) (Rises-push w.next_listener w.listeners (first_seen w e.seat e.query) refl h.below h.rises)
]

pub after_below : (w : World) (s : Step) → IsSound w → All (λ (l : Listener). l.number < counted w.next_listener (listener_given w s)) (listeners_after w s)
after_below w s h = elim (left_or_more w s) [
  | inl e ↦ subst (λ z. z) (λ i. All (λ (l : Listener). l.number < counted w.next_listener (sym e.given i)) (sym e.left i)) (All-filter e.test (λ (l : Listener). l.number < w.next_listener) w.listeners h.below)
  | inr e ↦ subst (λ z. z) (λ i. All (λ (l : Listener). l.number < counted w.next_listener (sym e.given i)) (sym e.more i)) (below-push w.next_listener w.listeners (first_seen w e.seat e.query) refl h.below)
]

-- a listener as it stands before it is renewed: it has the view that its number had, and none where it is not primed
pub record IsCarried (w : World) (l : Listener) : Type 0 where
  pub before : view_before w.listeners l.number ≡ l.view
  pub unprimed : l.is_primed ≡ false → l.view ≡ None

carried_old : (w : World) → IsSound w → (l : Listener) → Contains w.listeners l → IsCarried w l
carried_old w h l m = record {
  before = view_before-there w.listeners l h.rises m;
  unprimed = λ e. All-contains (λ l. l.view ≡ view_by l.is_primed w l.query) w.listeners l h.views m ∙ ap (λ b. view_by b w l.query) e;
}

carried_new : (w : World) → IsSound w → (seat : ℕ) (query : Query) (l : Listener) (k : ℕ) → k < 1 → slice_index_or (first_seen w seat query ∷ []) k l ≡ l → IsCarried w l
carried_new w h seat query l zero lt e =
    subst (IsCarried w) e (record { before = view_before-none w.listeners w.next_listener (not_bound w.next_listener w.listeners h.below); unprimed = λ _. refl })
carried_new w h seat query l (suc k) lt e = absurd (omega arith)

pub carried_after : (w : World) (s : Step) → IsSound w → (l : Listener) → Contains (listeners_after w s) l → IsCarried w l
carried_after w s h l m = elim (left_or_more w s) [
  | inl e ↦ carried_old w h l (Contains-from_filter e.test w.listeners l (subst (λ ls. Contains ls l) e.left m))
  | inr e ↦ elim (Contains-append_cases w.listeners (first_seen w e.seat e.query ∷ []) l (subst (λ ls. Contains ls l) e.more m)) [
    | inl old ↦ carried_old w h l old
    | inr new ↦ carried_new w h e.seat e.query l new.0 new.1 new.2
  ]
]

-- ---- what a listener is told

-- the changes of a listener in notes
told : ℕ → List Note → List Change
told n notes = flat_map (λ (note : Note). changes_in n note.body) notes

told-append : (n : ℕ) (xs ys : List Note) → told n (xs ++ ys) ≡ told n xs ++ told n ys
unfolding told
told-append n [] ys = refl
told-append n (x ∷ xs) ys = ap (λ z. changes_in n x.body ++ z) (told-append n xs ys) ∙ sym (append_assoc (changes_in n x.body) (told n xs) (told n ys))

told-settled_one : (n : ℕ) (d : ℕ × Option Reason) (b : Bool) (o : Option ℕ) (rest : List Note)
    → told n (cons_option (cond b (option_map (λ seat. record { seat = seat; body = Settled d.0 d.1 }) o) None) rest) ≡ told n rest
unfolding told
told-settled_one n d true None rest = refl
told-settled_one n d true (Some seat) rest = refl
told-settled_one n d false o rest = refl

told-settled : (n : ℕ) (d : ℕ × Option Reason) (rs : List Request) → told n (filter_map (settled_note d) rs) ≡ []
unfolding told
told-settled n d [] = refl
told-settled n d (r ∷ rs) = told-settled_one n d (r.id == d.0) r.seat (filter_map (settled_note d) rs) ∙ told-settled n d rs

told-settled_notes : (n : ℕ) (w : World) (s : Step) → told n (settled_notes w s) ≡ []
unfolding told
told-settled_notes n w s =
    elim (kind s).settled as (λ o. told n (option_map_or (λ d. filter_map (settled_note d) w.requests) o []) ≡ []) [
      | Some d ↦ told-settled n d w.requests
      | None ↦ refl
    ]

told-cancelled : (n : ℕ) (why : Reason) (ls : List Listener) → told n (map (λ (l : Listener). record { seat = l.seat; body = Cancelled l.number why }) ls) ≡ []
unfolding told
told-cancelled n why [] = refl
told-cancelled n why (l ∷ ls) = told-cancelled n why ls

told-cancelled_notes : (n : ℕ) (w : World) (s : Step) → told n (cancelled_notes w s) ≡ []
unfolding told
told-cancelled_notes n w s =
    elim (kind s).revoked as (λ o. told n (option_map_or (λ (r : ℕ × Reason). map (λ (l : Listener). record { seat = l.seat; body = Cancelled l.number r.1 }) (filter (is_cancelled w r.0) w.listeners)) o []) ≡ []) [
      | Some r ↦ told-cancelled n r.1 (filter (is_cancelled w r.0) w.listeners)
      | None ↦ refl
    ]

-- only batches tell of changes
told-notes : (n : ℕ) (w : World) (s : Step) → told n ((done_report w s).notes) ≡ told n (batch_notes w s)
told-notes n w s =
    told-append n (settled_notes w s ++ cancelled_notes w s) (batch_notes w s)
    ∙ ap (λ z. z ++ told n (batch_notes w s)) (told-append n (settled_notes w s) (cancelled_notes w s) ∙ (λ i. told-settled_notes n w s i ++ told-cancelled_notes n w s i))

filter_all : (b : Bool) (cs : List Change) → filter (λ _. b) cs ≡ cond b cs []
filter_all true [] = refl
filter_all true (c ∷ cs) = ap (λ z. c ∷ z) (filter_all true cs)
filter_all false [] = refl
filter_all false (c ∷ cs) = filter_all false cs

-- the batch that a listener is due
abbrev pub batch_due : List Listener → Listener → List Change
batch_due before l = batch_from (view_before before l.number) l

told-note : (n : ℕ) (l : Listener) (cs : List Change) (rest : List Note) → told n (cons_option (batch_note l cs) rest) ≡ cond (l.number == n) cs [] ++ told n rest
unfolding told
told-note n l [] rest = elim (l.number == n) as (λ b. told n rest ≡ cond b [] [] ++ told n rest) [ true ↦ refl | false ↦ refl ]
told-note n l (c ∷ cs) rest = ap (λ z. z ++ told n rest) (filter_all (l.number == n) (c ∷ cs))

batches : List Listener → List Listener → List Note
batches before ls = filter_map (λ l. batch_note l (batch_from (view_before before l.number) l)) ls

told-none : (n : ℕ) (before ls : List Listener) → has_number n ls ≡ false → told n (batches before ls) ≡ []
unfolding batches told
told-none n before [] h = refl
told-none n before (l ∷ ls) h =
    told-note n l (batch_due before l) (batches before ls)
    ∙ ap (λ b. cond b (batch_due before l) [] ++ told n (batches before ls)) (or_false_left (l.number == n) _ h)
    ∙ told-none n before ls (or_false_right (l.number == n) _ h)

told-one : (before ls : List Listener) (k : ℕ) (l : Listener) → Rises ls → k < length ls → slice_index_or ls k l ≡ l → told l.number (batches before ls) ≡ batch_due before l
unfolding batches
told-one before [] k l a lt e = absurd (omega arith)
told-one before (m ∷ ls) zero l a lt e =
    subst (λ (x : Listener). told x.number (batches before (m ∷ ls)) ≡ batch_due before x) e
    (told-note m.number m (batch_due before m) (batches before ls)
    ∙ ap (λ b. cond b (batch_due before m) [] ++ told m.number (batches before ls)) (nat_eq_equiv.refl m.number)
    ∙ ap (λ z. batch_due before m ++ z) (told-none m.number before ls (not_above m.number ls a.0)) ∙ append-nil (batch_due before m))
told-one before (m ∷ ls) (suc k) l a lt e =
    told-note l.number m (batch_due before m) (batches before ls)
    ∙ ap (λ b. cond b (batch_due before m) [] ++ told l.number (batches before ls)) (other (m.number == l.number) refl)
    ∙ told-one before ls k l a.1 (omega arith) e
  where
    other : (b : Bool) → (m.number == l.number) ≡ b → (m.number == l.number) ≡ false
    other false t = t
    other true t = absurd (true≢false (sym (has_number-there ls k l (omega arith) e) ∙ ap (λ n. has_number n ls) (sym (same_number m.number l.number t)) ∙ not_above m.number ls a.0))

-- a listener of the step is told its batch
told-done : (w : World) (s : Step) (l : Listener) → Rises (renewed_after w s) → Contains (renewed_after w s) l
    → changes_told l.number (Ok (done_report w s)) ≡ batch_due w.listeners l
unfolding told batches
told-done w s l a m = told-notes l.number w s ∙ told-one w.listeners (renewed_after w s) m.0 l a m.1 m.2

-- and nothing is told of a number that no listener has
pub told-absent : (w : World) (s : Step) (o : Option CoreError) (b : Bool) (n : ℕ) → has_number n (step_by o b w s).0.listeners ≡ false → changes_told n (step_by o b w s).1 ≡ []
unfolding told batches
told-absent w s (Some e) b n h = refl
told-absent w s None true n h = refl
told-absent w s None false n h = told-notes n w s ∙ told-none n w.listeners (renewed_after w s) h

-- ---- one listener after a step

-- a renewed listener's view is that of what is brought after the step
view_renewed : (w v : World) (b : Brought) (ws : List Write) (l : Listener) → v.brought ≡ b → pending v.requests ≡ ws → IsCarried w l
    → (renewed b ws l).view ≡ view_by (renewed b ws l).is_primed v (renewed b ws l).query
view_renewed w v b ws l eb ew c =
    elim (l.is_primed || is_known b ws l.query) as (λ k. (l.is_primed || is_known b ws l.query) ≡ k
    → (cond k (primed_view b ws l) l).view ≡ view_by (cond k (primed_view b ws l) l).is_primed v (cond k (primed_view b ws l) l).query) [
      | true ↦ λ e i. Some (view_of (sym eb i) (sym ew i) l.query)
      | false ↦ λ e.
          let low : l.is_primed ≡ false = or_false_left l.is_primed (is_known b ws l.query) e in
          c.unprimed low ∙ sym (ap (λ p. view_by p v l.query) low)
    ] refl

-- it is primed where it is known
primed_renewed : (b : Brought) (ws : List Write) (l : Listener) → is_known b ws (renewed b ws l).query ≡ true → (renewed b ws l).is_primed ≡ true
primed_renewed b ws l =
    elim (l.is_primed || is_known b ws l.query) as (λ k. (l.is_primed || is_known b ws l.query) ≡ k
    → is_known b ws (cond k (primed_view b ws l) l).query ≡ true → (cond k (primed_view b ws l) l).is_primed ≡ true) [
      | true ↦ λ e known. refl
      | false ↦ λ e known. absurd (true≢false (sym known ∙ or_false_right l.is_primed (is_known b ws l.query) e))
    ] refl

-- and its batch turns the view before into it
turned_renewed : (w : World) (b : Brought) (ws : List Write) (l : Listener) → IsCarried w l
    → Turns (view_before w.listeners (renewed b ws l).number) (batch_due w.listeners (renewed b ws l)) (renewed b ws l).view
turned_renewed w b ws l c =
    elim (l.is_primed || is_known b ws l.query) as (λ k. (l.is_primed || is_known b ws l.query) ≡ k
    → Turns (view_before w.listeners (cond k (primed_view b ws l) l).number) (batch_due w.listeners (cond k (primed_view b ws l) l)) (cond k (primed_view b ws l) l).view) [
      | true ↦ λ e. turns l.query.index (view_before w.listeners l.number) (view_of b ws l.query) (select-distinct l.query (seen_over (base b l.query) ws l.query))
      | false ↦ λ e.
          let none : l.view ≡ None = c.unprimed (or_false_left l.is_primed (is_known b ws l.query) e) in
          let quiet : batch_due w.listeners l ≡ [] = ap (λ v. option_map_or (λ new. changes l.query.index (view_before w.listeners l.number) new) v []) none in
          subst (λ cs. Turns (view_before w.listeners l.number) cs l.view) (sym quiet) (subst (λ v. Turns v [] l.view) (sym c.before) (turns_not l.view))
    ] refl

-- ---- all listeners after a step

Contains-map : {X Y : Type 0} (f : X → Y) (xs : List X) (k : ℕ) (x : X) → k < length xs → slice_index_or xs k x ≡ x → Contains (map f xs) (f x)
Contains-map f [] k x lt e = absurd (omega arith)
Contains-map f (y ∷ xs) zero x lt e = (0, omega arith, ap f e)
Contains-map f (y ∷ xs) (suc k) x lt e = let m = Contains-map f xs k x (omega arith) e in (suc m.0, omega (arith, m.1), m.2)

pub renewed_rises : (w : World) (s : Step) → IsSound w → Rises (renewed_after w s)
renewed_rises w s h = Rises-renewed (brought_after w s) (pending (requests_after w s)) (listeners_after w s) (after_rises w s h)

-- each listener is up to date after a step that is done
pub done_up_to_date : (w : World) (s : Step) → IsSound w → All (IsUpToDate w (Ok (done_report w s)) (next w s)) (renewed_after w s)
done_up_to_date w s h =
    All-map (IsUpToDate w (Ok (done_report w s)) (next w s)) f (listeners_after w s) (λ k d lt. each (slice_index_or (listeners_after w s) k d) (Contains-get_or (listeners_after w s) k d lt))
  where
    f : Listener → Listener
    f = renewed (brought_after w s) (pending (requests_after w s))

    each : (l : Listener) → Contains (listeners_after w s) l → IsUpToDate w (Ok (done_report w s)) (next w s) (f l)
    each l m =
        let c = carried_after w s h l m in
        let batch = told-done w s (f l) (renewed_rises w s h) (Contains-map f (listeners_after w s) m.0 l m.1 m.2) in
        record {
          view = view_renewed w (next w s) (brought_after w s) (pending (requests_after w s)) l refl refl c;
          batch = batch;
          turned = subst (λ cs. Turns (view_before w.listeners (f l).number) cs (f l).view) (sym batch) (turned_renewed w (brought_after w s) (pending (requests_after w s)) l c);
        }

pub done_primed : (w : World) (s : Step) → All (λ (l : Listener). is_known (brought_after w s) (pending (requests_after w s)) l.query ≡ true → l.is_primed ≡ true) (renewed_after w s)
done_primed w s =
    let b = brought_after w s in
    let ws = pending (requests_after w s) in
    All-map (λ (l : Listener). is_known b ws l.query ≡ true → l.is_primed ≡ true) (renewed b ws) (listeners_after w s) (λ k d lt. primed_renewed b ws (slice_index_or (listeners_after w s) k d))

-- no changes are due from a view to itself
pub still_due : (w : World) (l : Listener) (p : Bool) → l.view ≡ view_by p w l.query → batch_from l.view l ≡ []
still_due w l true e =
    ap (λ v. option_map_or (λ new. changes l.query.index v new) v []) e
    ∙ changes-same l.query.index (view_of w.brought (pending w.requests) l.query)
    (select-distinct l.query (seen_over (base w.brought l.query) (pending w.requests) l.query))
still_due w l false e = ap (λ v. option_map_or (λ new. changes l.query.index v new) v []) e

-- and after one that changes nothing
unchanged_up_to_date : (w : World) (answer : Answer) → ((n : ℕ) → changes_told n answer ≡ []) → IsSound w → All (IsUpToDate w answer w) w.listeners
unchanged_up_to_date w answer quiet h k d lt =
    let l = slice_index_or w.listeners k d in
    let c = carried_old w h l (Contains-get_or w.listeners k d lt) in
    record {
      view = h.views k d lt;
      batch = quiet l.number ∙ sym (ap (λ o. batch_from o l) c.before ∙ still_due w l l.is_primed (h.views k d lt));
      turned = subst (λ cs. Turns (view_before w.listeners l.number) cs l.view) (sym (quiet l.number)) (subst (λ v. Turns v [] l.view) (sym c.before) (turns_not l.view));
    }

pub step_up_to_date : (w : World) (s : Step) (o : Option CoreError) (b : Bool) → IsSound w → All (IsUpToDate w (step_by o b w s).1 (step_by o b w s).0) (step_by o b w s).0.listeners
step_up_to_date w s (Some e) b h = unchanged_up_to_date w (Err e) (λ n. refl) h
step_up_to_date w s None true h = unchanged_up_to_date w (Ok stale_report) (λ n. refl) h
step_up_to_date w s None false h = done_up_to_date w s h
