-- The headline over every list of steps.
use Rattle.std.proofs.Common.{◌≡◌, ℕ, ◌≤◌, Bool, true, false, not, ◌&&◌, ◌||◌, ◌==◌, ◌⊎◌, inl, inr, List, [], ◌∷◌, ◌++◌, map, length, refl, sym, ap, subst, ◌∙◌, arith, slice_index_or, Option, Some, None, cond}
use mathlib.Core.Bool.{true≢false}
use Rattle.std.specs.Prelude.{drop, is_none}
use Rattle.std.specs.List.{filter, flat_map, fold, All, Contains}
use Rattle.std.proofs.lemmas.List.Elements.{All-contains, Contains-get_or}
use Rattle.std.proofs.lemmas.List.Folds.{Any-from_list_any}
use Rattle.std.proofs.Math.Seq.{drop-append_seam}
use Rattle.rt_cover.specs.Cover.{Tagged}
use Rattle.rt_cover.specs.laws.ShownLaws.{shown_are_fewest, shown_are_certified}
use Rattle.rt_view.specs.Changes.{Turns}
use Rattle.rt_view.proofs.TurnLaws.{turns_not, turns-append}
use Rattle.rt_world.specs.declared.error.CoreError.{CoreError}
use Rattle.rt_world.specs.declared.limits.Limits.{Limits}
use Rattle.rt_wire.specs.declared.client.ClientMessage.{ClientMessage}
use Rattle.rt_world.specs.declared.step.Step.{Step}
use Rattle.rt_world.specs.World.{World, Listener, empty_world, pending}
use Rattle.rt_world.specs.After.{listeners_after, brought_after, requests_after, listener_given, counted}
use Rattle.rt_wire.specs.declared.limits.TheConstants.{VERSION}
use Rattle.rt_world.specs.Messages.{listens, unlistens, request_message, request_sent, messages_of, outgoing_before, kept_before, heard_by, next}
use Rattle.rt_world.specs.Refusals.{refusal, is_stale}
use Rattle.rt_world.specs.Answers.{Answer, step, step_by, answers, world_after, view_before}
use Rattle.rt_world.specs.Runs.{events_of, events, heard_after}
use Rattle.rt_world.specs.Headline.{AreKept, IsKept, IsShown, IsUpToDate, changes_told, begun, ended, Moves, Sends, server_after, Leads, Headline}
use Rattle.rt_world.specs.Sound.{cover_of, IsSound}
use Rattle.rt_world.proofs.Listeners.{same_number, has_number, has_number-there, has_number-renewed, not_bound, view_before-there, view_before-none}
use Rattle.rt_world.proofs.KindLaws.{first_seen}
use Rattle.rt_world.proofs.ShowLaws.{left_or_more, step_up_to_date, told-absent}
use Rattle.rt_world.proofs.HeardLaws.{fold-append, heard-step, heard-done, heard-events, heard_by-append, heard_by-listens, heard_by-requests, done_connected}
use Rattle.rt_world.proofs.MovesLaws.{moves}
use Rattle.rt_world.proofs.SoundLaws.{sound_empty, sound_step, sound_run}

-- ---- the listens kept

-- what the server heard is what is kept
pub heard_all : (steps : List Step) (w : World) (c : List Tagged) → IsSound w → (w.is_connected ≡ true → c ≡ w.kept)
    → (world_after w steps).is_connected ≡ true → fold heard_after c (events w steps) ≡ (world_after w steps).kept
heard_all [] w c h same online = same online
heard_all (s ∷ rest) w c h same online =
    fold-append c (events_of w s) (events (step w s).0 rest)
    ∙ heard_all rest (step w s).0 (fold heard_after c (events_of w s)) (sound_step w s (refusal w s) (is_stale w s) h) (heard-step w s c (refusal w s) (is_stale w s) h same) online

are_kept : (w : World) → IsSound w → AreKept w
are_kept w h = record { fewest = shown_are_fewest (cover_of w) h.listens; certified = shown_are_certified (cover_of w) h.listens }

after : (w : World) (s : Step) → IsSound w → IsSound (step w s).0
after w s h = sound_step w s (refusal w s) (is_stale w s) h

-- what the server keeps after a step is what is kept
server_step : (w : World) (s : Step) (had : List Tagged) → IsSound w → (w.is_connected ≡ true → had ≡ w.kept)
    → (step w s).0.is_connected ≡ true → server_after had w s (step w s).0 ≡ (step w s).0.kept
server_step w s had h same online = at (refusal w s) (is_stale w s) refl refl online
  where
    hears : World → List Tagged
    hears v = fold heard_by (kept_before s had) (drop (length (outgoing_before w s)) v.outgoing)

    at : (o : Option CoreError) (b : Bool) → refusal w s ≡ o → is_stale w s ≡ b → (step_by o b w s).0.is_connected ≡ true
        → server_after had w s (step_by o b w s).0 ≡ (step_by o b w s).0.kept
    at (Some e) b r t on = (λ i. cond (is_none (r i) && not (is_stale w s)) (hears w) had) ∙ same on
    at None true r t on = (λ i. cond (is_none (r i) && not (t i)) (hears w) had) ∙ same on
    at None false r t on =
        (λ i. cond (is_none (r i) && not (t i)) (hears (next w s)) had)
        ∙ ap (fold heard_by (kept_before s had)) (drop-append_seam (outgoing_before w s) (messages_of w s))
        ∙ sym (heard-events s had (messages_of w s))
        ∙ heard-done w s had h same on

-- what it keeps after the steps
abbrev has_after : List Tagged → World → List Step → List Tagged
has_after had w [] = had
has_after had w (s ∷ rest) = has_after (server_after had w s (step w s).0) (step w s).0 rest

server_run : (steps : List Step) (w : World) (had : List Tagged) → IsSound w → (w.is_connected ≡ true → had ≡ w.kept)
    → (world_after w steps).is_connected ≡ true → has_after had w steps ≡ (world_after w steps).kept
server_run [] w had h same online = same online
server_run (s ∷ rest) w had h same online =
    server_run rest (step w s).0 (server_after had w s (step w s).0) (after w s h) (server_step w s had h same) online

-- a connection is opened where there was none
connected_on : (w : World) → w.is_connected ≡ false → (step w Step.Connected).0.is_connected ≡ true
connected_on w off = at (refusal w Step.Connected) refl
  where
    at : (o : Option CoreError) → refusal w Step.Connected ≡ o → (step_by o false w Step.Connected).0.is_connected ≡ true
    at None r = refl
    at (Some e) r = absurd (true≢false (sym (done_connected w off) ∙ (λ i. is_none (r i) && true)))

-- once a connection is opened the server keeps what was kept
opened : (w : World) (has : List Tagged) → w.is_connected ≡ false → (answer : Answer) (v : World) → Moves w Step.Connected answer v
    → server_after has w Step.Connected v ≡ w.kept
opened w has off answer v m =
    let sends : Sends w Step.Connected v = m.sends (done_connected w off) in
    let on : v.is_connected ≡ true = ap (λ (u : World). u.is_connected) m.made ∙ connected_on w off in
    (λ i. cond (done_connected w off i) (fold heard_by [] v.outgoing) has)
    ∙ ap (fold heard_by []) sends.outgoing
    ∙ (λ i. fold heard_by [] (cond (on i) (cond (off i) (going v) (all v)) []))
    ∙ heard_by-append [] (listens w.kept) (map request_message v.requests)
    ∙ heard_by-requests (fold heard_by [] (listens w.kept)) v.requests
    ∙ heard_by-listens w.kept
  where
    going : World → List ClientMessage
    going u = listens (begun w u) ++ unlistens (ended w Step.Connected u) ++ request_sent w Step.Connected

    all : World → List ClientMessage
    all u = ClientMessage.Hello VERSION ∷ (listens w.kept ++ map request_message u.requests)

is_kept : (w : World) (steps : List Step) → IsSound w → IsKept (has_after w.kept w steps) (world_after w steps)
is_kept w steps h =
    let v : World = world_after w steps in
    let sound = sound_run steps w h in
    record {
      online = server_run steps w w.kept h (λ _. refl);
      offline = λ off.
          let m = moves v Step.Connected (are_kept (step v Step.Connected).0 (after v Step.Connected sound)) sound in
          (connected_on v off, opened v (has_after w.kept w steps) off (step v Step.Connected).1 (step v Step.Connected).0 m);
    }

-- ---- the views, over a run

-- a listener of that number is there, or none has been yet
IsOpen : ℕ → World → Type 0
IsOpen n w = (has_number n w.listeners ≡ true) ⊎ (w.next_listener ≤ n)

has_number-push : (n : ℕ) (ls : List Listener) (l : Listener) → has_number n (ls ++ l ∷ []) ≡ true → (has_number n ls ≡ true) ⊎ (l.number ≡ n)
has_number-push n [] l h = elim (l.number == n) as (λ b. (l.number == n) ≡ b → (b || false) ≡ true → (false ≡ true) ⊎ (l.number ≡ n)) [
  | true ↦ λ e _. inr (same_number l.number n e)
  | false ↦ λ e f. inl f
] refl h
has_number-push n (m ∷ ls) l h = elim (m.number == n) as (λ b. (b || has_number n (ls ++ l ∷ [])) ≡ true → ((b || has_number n ls) ≡ true) ⊎ (l.number ≡ n)) [
  | true ↦ λ e. inl refl
  | false ↦ λ e. has_number-push n ls l e
] h

has_number-filter : (n : ℕ) (p : Listener → Bool) (ls : List Listener) → has_number n (filter p ls) ≡ true → has_number n ls ≡ true
has_number-filter n p [] h = h
has_number-filter n p (l ∷ ls) h = elim (p l) as (λ b. has_number n (cond b (l ∷ filter p ls) (filter p ls)) ≡ true → ((l.number == n) || has_number n ls) ≡ true) [
  | true ↦ λ e. elim (l.number == n) as (λ b. (b || has_number n (filter p ls)) ≡ true → (b || has_number n ls) ≡ true) [ true ↦ λ _. refl | false ↦ λ f. has_number-filter n p ls f ] e
  | false ↦ λ e. elim (l.number == n) as (λ b. (b || has_number n ls) ≡ true) [ true ↦ refl | false ↦ has_number-filter n p ls e ]
] h

grown : (n : ℕ) (o : Option ℕ) → n ≤ counted n o
grown n None = omega arith
grown n (Some m) = omega arith

-- what is open after a step was open before
open_before : (w : World) (s : Step) (o : Option CoreError) (b : Bool) (n : ℕ) → IsOpen n (step_by o b w s).0 → IsOpen n w
unfolding IsOpen
open_before w s (Some e) b n h = h
open_before w s None true n h = h
open_before w s None false n (inr low) = let more = grown w.next_listener (listener_given w s) in inr (omega (arith, low, more))
open_before w s None false n (inl there) =
    let after = sym (has_number-renewed (brought_after w s) (pending (requests_after w s)) n (listeners_after w s)) ∙ there in
    elim (left_or_more w s) [
      | inl e ↦ inl (has_number-filter n e.test w.listeners (sym (ap (has_number n) e.left) ∙ after))
      | inr e ↦ elim (has_number-push n w.listeners (first_seen w e.seat e.query) (sym (ap (has_number n) e.more) ∙ after)) [
        | inl old ↦ inl old
        | inr new ↦ inr (omega (arith, new))
      ]
    ]

open_at_start : (steps : List Step) (w : World) (n : ℕ) → IsOpen n (world_after w steps) → IsOpen n w
open_at_start [] w n h = h
open_at_start (s ∷ rest) w n h = open_before w s (refusal w s) (is_stale w s) n (open_at_start rest (step w s).0 n h)

turned_there : (w : World) (a : Answer) (v : World) (n : ℕ) → IsSound v → All (IsUpToDate w a v) v.listeners → has_number n v.listeners ≡ true
    → Turns (view_before w.listeners n) (changes_told n a) (view_before v.listeners n)
turned_there w a v n h each e =
    let x = Any-from_list_any (λ (m : Listener). m.number == n) v.listeners e in
    let l : Listener = x.1 in
    let there : Contains v.listeners l = (x.0, x.2, x.3) in
    let up = All-contains (IsUpToDate w a v) v.listeners l each there in
    subst (λ k. Turns (view_before w.listeners k) (changes_told k a) (view_before v.listeners k)) (same_number l.number n x.4)
    (subst (Turns (view_before w.listeners l.number) (changes_told l.number a)) (sym (view_before-there v.listeners l h.rises there)) up.turned)

-- what a step tells of an open number turns its view before into its view after
turned_by : (w : World) (s : Step) (o : Option CoreError) (b : Bool) (n : ℕ) → IsSound w → IsOpen n (step_by o b w s).0
    → Turns (view_before w.listeners n) (changes_told n (step_by o b w s).1) (view_before (step_by o b w s).0.listeners n)
unfolding IsOpen
turned_by w s o b n h there =
    let v : World = (step_by o b w s).0 in
    elim (has_number n v.listeners) as (λ c. has_number n v.listeners ≡ c → Turns (view_before w.listeners n) (changes_told n (step_by o b w s).1) (view_before v.listeners n)) [
      | true ↦ λ e. turned_there w (step_by o b w s).1 v n (sound_step w s o b h) (step_up_to_date w s o b h) e
      | false ↦ λ e.
          let before = view_before-none w.listeners n (not_yet e there) in
          let after = view_before-none v.listeners n e in
          let quiet = told-absent w s o b n e in
          subst (λ z. z) (λ i. Turns (sym before i) (sym quiet i) (sym after i)) (turns_not None)
    ] refl
  where
    low : (v : World) → v.next_listener ≤ n → IsSound v → has_number n v.listeners ≡ false
    low v le g = not_bound n v.listeners (λ k d lt. let below = g.below k d lt in omega (arith, below, le))

    not_yet : has_number n (step_by o b w s).0.listeners ≡ false → (has_number n (step_by o b w s).0.listeners ≡ true) ⊎ ((step_by o b w s).0.next_listener ≤ n) → has_number n w.listeners ≡ false
    not_yet e (inl there) = absurd (true≢false (sym there ∙ e))
    not_yet e (inr le) = elim (open_before w s o b n (inr le)) [
      | inr below ↦ low w below h
      | inl there ↦ before (step_by o b w s).0.next_listener le (no_less o b) there
    ]
      where
        no_less : (o : Option CoreError) (b : Bool) → w.next_listener ≤ (step_by o b w s).0.next_listener
        no_less (Some e) b = omega arith
        no_less None true = omega arith
        no_less None false = grown w.next_listener (listener_given w s)

        before : (m : ℕ) → m ≤ n → w.next_listener ≤ m → has_number n w.listeners ≡ true → has_number n w.listeners ≡ false
        before m le more there = low w (omega (arith, le, more)) h

turned_run : (steps : List Step) (w : World) (n : ℕ) → IsSound w → IsOpen n (world_after w steps)
    → Turns (view_before w.listeners n) (flat_map (changes_told n) (answers w steps)) (view_before (world_after w steps).listeners n)
turned_run [] w n h there = turns_not (view_before w.listeners n)
turned_run (s ∷ rest) w n h there =
    let v = (step w s).0 in
    turns-append (view_before w.listeners n) (view_before v.listeners n) (view_before (world_after v rest).listeners n)
    (changes_told n (step w s).1) (flat_map (changes_told n) (answers v rest))
    (turned_by w s (refusal w s) (is_stale w s) n h (open_at_start rest v n there))
    (turned_run rest v n (sound_step w s (refusal w s) (is_stale w s) h) there)

shown_all : (w : World) (steps : List Step) → IsSound w → All (IsShown w (answers w steps) (world_after w steps)) (world_after w steps).listeners
unfolding IsOpen
shown_all w steps h k d lt =
    let v = world_after w steps in
    let l = slice_index_or v.listeners k d in
    let m = Contains-get_or v.listeners k d lt in
    let g = sound_run steps w h in
    record {
      view = g.views k d lt;
      turned = subst (Turns (view_before w.listeners l.number) (flat_map (changes_told l.number) (answers w steps))) (view_before-there v.listeners l g.rises m)
          (turned_run steps w l.number h (inl (has_number-there v.listeners m.0 l m.1 m.2)));
    }

-- ---- the headline

-- one step after another leads to the world after them
leads_on : (steps : List Step) (w : World) (had : List Tagged) → IsSound w → Leads w had steps (answers w steps) (world_after w steps) (has_after had w steps)
leads_on [] w had h = (refl, refl)
leads_on (s ∷ rest) w had h =
    ((step w s).0, moves w s (are_kept (step w s).0 (after w s h)) h, leads_on rest (step w s).0 (server_after had w s (step w s).0) (after w s h))

-- the headline holds of any steps, from a sound world
pub headline_sound : (w : World) (steps : List Step) → IsSound w → Headline w steps (answers w steps) (world_after w steps)
headline_sound w steps h = record {
  has = has_after w.kept w steps;
  leads = leads_on steps w w.kept h;
  heard = is_kept w steps h;
  kept = are_kept (world_after w steps) (sound_run steps w h);
  shown = shown_all w steps h;
}

-- and so from any world that steps lead to
pub headline : (limits : Limits) (before steps : List Step)
    → let w = world_after (empty_world limits) before in Headline w steps (answers w steps) (world_after w steps)
headline limits before steps =
    headline_sound (world_after (empty_world limits) before) steps (sound_run before (empty_world limits) (sound_empty limits))
