-- Each step keeps a world sound.
use Rattle.std.proofs.Common.{◌≡◌, ℕ, zero, suc, ◌+◌, ◌<◌, Bool, true, false, cond, not, ◌==◌, List, [], ◌∷◌, map, length, refl, sym, subst, arith, slice_index_or, Option, Some, None}
use Rattle.std.specs.List.{filter, All, AllPairs}
use Rattle.std.specs.Option.{option_eq, option_map}
use Rattle.std.proofs.lemmas.List.Elements.{All-filter, All-map, All-push, All-weaker, All-contains}
use Rattle.std.proofs.lemmas.List.Kept.{AllPairs-cons, AllPairs-filter}
use Rattle.std.proofs.lemmas.Bool.{le-ltb}
use Rattle.rt_query.specs.Supply.{form}
use Rattle.rt_cover.specs.Cover.{Registered}
use Rattle.rt_cover.specs.laws.KeepLaws.{form_is_form}
use Rattle.rt_cover.specs.State.{Cover}
use Rattle.rt_cover.specs.inside.Sound as cover
use Rattle.rt_cover.specs.laws.Pairs.{AllPairs-nil, AllPairs-append, AllPairs-map}
use Rattle.rt_cover.specs.laws.SoundLaws as laws
use Rattle.rt_world.specs.declared.error.CoreError.{CoreError}
use Rattle.rt_world.specs.declared.limits.Limits.{Limits}
use Rattle.rt_wire.specs.declared.request.Asked.{Asked}
use Rattle.rt_world.specs.declared.step.Request.{Request}
use Rattle.rt_world.specs.declared.step.Step.{Step}
use Rattle.rt_world.specs.World.{World, Listener, empty_world, registered, pending}
use Rattle.rt_world.specs.steps.Asking.{requests_with}
use Rattle.rt_world.specs.After.{kind, requests_after, listeners_after, brought_after, renewed_after, listener_given, request_given, counted, started_by}
use Rattle.rt_world.specs.steps.Closing.{unseated}
use Rattle.rt_world.specs.Messages.{next}
use Rattle.rt_world.specs.Refusals.{refusal, is_stale}
use Rattle.rt_world.specs.Answers.{step, step_by, world_after}
use Rattle.rt_world.specs.Sound.{Rises, cover_of, IsSound}
use Rattle.rt_world.proofs.KindLaws.{Requesting, keeping, unseating, asking, settling, orderly}
use Rattle.rt_world.proofs.Listeners.{below-renewed, registered-renewed}
use Rattle.rt_world.proofs.ShowLaws.{after_rises, after_below, renewed_rises, done_up_to_date, done_primed}

-- ---- listens

pairs_of_rises : (ls : List Listener) → Rises ls → AllPairs (λ (l m : Registered). l.0 < m.0) (registered ls)
pairs_of_rises [] h = AllPairs-nil (λ (l m : Registered). l.0 < m.0)
pairs_of_rises (l ∷ ls) h =
    AllPairs-cons (λ (l m : Registered). l.0 < m.0) (l.number, form l.query) (registered ls)
    (All-map (λ (m : Registered). l.number < m.0) (λ (x : Listener). (x.number, form x.query)) ls h.0) (pairs_of_rises ls h.1)

-- each is registered with a form
pub have_forms : (ls : List Listener) → All (λ (r : Registered). form r.1 ≡ r.1) (registered ls)
have_forms ls = All-map (λ (r : Registered). form r.1 ≡ r.1) (λ (l : Listener). (l.number, form l.query)) ls (λ k d lt. form_is_form (slice_index_or ls k d).query)

-- the last tag does not matter, as long as it is not passed
pub retagged : (c : Cover) (last : ℕ) → c.next_tag < last + 2 → cover.IsSound c → cover.IsSound (record c { last_tag = last })
retagged c last lt h = record {
  listeners = h.listeners;
  forms = h.forms;
  tags = h.tags;
  below = h.below;
  next = omega (arith, lt);
  only = h.only;
  all = h.all;
  once = h.once;
}

listens_next : (w : World) (s : Step) → IsSound w → cover.IsSound (cover_of (next w s))
listens_next w s h =
    let ls = listeners_after w s in
    let last = w.next_tag + length (started_by w s) in
    let roomy = retagged (cover_of w) last (omega arith) h.listens in
    let same : registered (renewed_after w s) ≡ registered ls = registered-renewed (brought_after w s) (pending (requests_after w s)) ls in
    subst (λ (rs : List Registered). cover.IsSound (record { listeners = rs; kept = (next w s).kept; next_tag = last; last_tag = last })) (sym same)
    (laws.sound_after (record (cover_of w) { last_tag = last }) (registered ls) roomy (pairs_of_rises ls (after_rises w s h)) (have_forms ls) (le-ltb (last + 1) last (omega arith)))

-- ---- requests

-- an order of numbers
abbrev InOrder : List Request → Type 0
InOrder rs = AllPairs (λ (r s : Request). r.id < s.id) rs

abbrev AreBelow : ℕ → List Request → Type 0
AreBelow n rs = All (λ (r : Request). r.id < n) rs

id-unseated : (seat : ℕ) (r : Request) → (unseated seat r).id ≡ r.id
id-unseated seat r = elim (option_eq (λ a b. a == b) r.seat (Some seat)) as (λ b. (cond b (record r { seat = None }) r).id ≡ r.id) [ true ↦ refl | false ↦ refl ]

requests_order : (w : World) (s : Step) → IsSound w → InOrder (requests_after w s) × AreBelow (counted w.next_request (request_given w s)) (requests_after w s)
requests_order w s h = at (orderly s).requests
  where
    less : (p : Request → Bool) → InOrder (filter p w.requests) × AreBelow w.next_request (filter p w.requests)
    less p = (AllPairs-filter (λ (r s : Request). r.id < s.id) p w.requests h.requests, All-filter p (λ (r : Request). r.id < w.next_request) w.requests h.unsettled)

    more : (seat : ℕ) (asked : Asked) → InOrder (requests_with w (seat, asked)) × AreBelow (w.next_request + 1) (requests_with w (seat, asked))
    more seat asked = (
      AllPairs-append (λ (r s : Request). r.id < s.id) w.requests (record { id = w.next_request; seat = Some seat; asked = asked } ∷ []) h.requests
          (AllPairs-cons (λ (r s : Request). r.id < s.id) (record { id = w.next_request; seat = Some seat; asked = asked }) [] (λ k d lt. absurd (omega arith)) (AllPairs-nil (λ (r s : Request). r.id < s.id)))
          (λ r s mr ms. let low = All-contains (λ (x : Request). x.id < w.next_request) w.requests r h.unsettled mr in new r s low ms.0 ms.1 ms.2),
      All-push (λ (r : Request). r.id < w.next_request + 1) w.requests (record { id = w.next_request; seat = Some seat; asked = asked })
          (All-weaker (λ (r : Request). r.id < w.next_request) (λ (r : Request). r.id < w.next_request + 1) (λ r lt. omega (arith, lt)) w.requests h.unsettled) (omega arith),
    )
      where
        new : (r s : Request) → r.id < w.next_request → (k : ℕ) → k < 1 → slice_index_or (record { id = w.next_request; seat = Some seat; asked = asked } ∷ []) k s ≡ s → r.id < s.id
        new r s low zero lt e = subst (λ (x : Request). r.id < x.id) e low
        new r s low (suc k) lt e = absurd (omega arith)

    unseated_all : (seat : ℕ) → InOrder (map (unseated seat) w.requests) × AreBelow w.next_request (map (unseated seat) w.requests)
    unseated_all seat = (
      AllPairs-map (unseated seat) (λ (r s : Request). r.id < s.id) w.requests
          (λ i j d lt within. let low = h.requests i j d lt within in omega (arith, low, id-unseated seat (slice_index_or w.requests i d), id-unseated seat (slice_index_or w.requests j d))),
      All-map (λ (r : Request). r.id < w.next_request) (unseated seat) w.requests (λ k d lt. omega (arith, id-unseated seat (slice_index_or w.requests k d), h.unsettled k d lt)),
    )

    -- the step leaves these requests, and that is what it asks for
    by : (rs : List Request) (asked : Option (ℕ × Asked)) → requests_after w s ≡ rs → (kind s).asked ≡ asked
        → InOrder rs × AreBelow (counted w.next_request (option_map (λ _. w.next_request) asked)) rs
        → InOrder (requests_after w s) × AreBelow (counted w.next_request (request_given w s)) (requests_after w s)
    by rs asked e f x = (
      subst InOrder (sym e) x.0,
      subst (λ z. z) (λ i. AreBelow (counted w.next_request (option_map (λ _. w.next_request) (sym f i))) (sym e i)) x.1,
    )

    at : Requesting (kind s) → InOrder (requests_after w s) × AreBelow (counted w.next_request (request_given w s)) (requests_after w s)
    at (keeping settled asked requests) = by w.requests None (requests w) asked (h.requests, h.unsettled)
    at (unseating seat settled asked requests) = by (map (unseated seat) w.requests) None (requests w) asked (unseated_all seat)
    at (asking a settled asked requests room) = by (requests_with w a) (Some a) (requests w) asked (more a.0 a.1)
    at (settling d settled asked requests) = by (filter (λ r. not (r.id == d.0)) w.requests) None (requests w) asked (less (λ r. not (r.id == d.0)))

-- ---- worlds

pub sound_empty : (limits : Limits) → IsSound (empty_world limits)
sound_empty limits = record {
  rises = tt;
  below = λ k d lt. absurd (omega arith);
  views = λ k d lt. absurd (omega arith);
  primed = λ k d lt. absurd (omega arith);
  requests = AllPairs-nil (λ (r s : Request). r.id < s.id);
  unsettled = λ k d lt. absurd (omega arith);
  listens = laws.sound_empty 1;
}

pub sound_next : (w : World) (s : Step) → IsSound w → IsSound (next w s)
sound_next w s h =
    let order = requests_order w s h in
    record {
      rises = renewed_rises w s h;
      below = below-renewed (brought_after w s) (pending (requests_after w s)) (counted w.next_listener (listener_given w s)) (listeners_after w s) (after_below w s h);
      views = λ k d lt. (done_up_to_date w s h k d lt).view;
      primed = done_primed w s;
      requests = order.0;
      unsettled = order.1;
      listens = listens_next w s h;
    }

pub sound_step : (w : World) (s : Step) (o : Option CoreError) (b : Bool) → IsSound w → IsSound (step_by o b w s).0
sound_step w s (Some e) b h = h
sound_step w s None true h = h
sound_step w s None false h = sound_next w s h

pub sound_run : (steps : List Step) (w : World) → IsSound w → IsSound (world_after w steps)
sound_run [] w h = h
sound_run (s ∷ rest) w h = sound_run rest (step w s).0 (sound_step w s (refusal w s) (is_stale w s) h)
