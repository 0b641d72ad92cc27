-- Each step moves from its world to the next.
use Rattle.std.proofs.Common.{◌≡◌, ℕ, zero, suc, ◌<◌, Bool, true, false, cond, not, ◌&&◌, ◌||◌, ◌==◌, inl, inr, List, [], ◌∷◌, ◌++◌, map, refl, sym, ap, subst, ◌∙◌, arith, slice_index_or, Option, Some, None, Ok, Err}
use mathlib.Core.Bool.{true≢false}
use Rattle.std.specs.Prelude.{is_none}
use Rattle.std.specs.List.{find, fold, All, Contains}
use Rattle.std.specs.Option.{option_map_or}
use Rattle.std.proofs.lemmas.List.Elements.{All-contains, All-map, Contains-append_cases, Contains-get_or}
use Rattle.rt_query.specs.Queries.{Query}
use Rattle.rt_writes.specs.Writes.{Write}
use Rattle.rt_cache.specs.Brought.{Brought}
use Rattle.rt_cache.specs.Recover.{recover}
use Rattle.rt_cover.specs.Cover.{Tagged}
use Rattle.rt_cover.specs.laws.CoverLaws.{Contains-from_filter}
use Rattle.rt_world.specs.declared.error.CoreError.{CoreError}
use Rattle.rt_wire.specs.declared.client.ClientMessage.{ClientMessage}
use Rattle.rt_world.specs.declared.step.Request.{Request}
use Rattle.rt_world.specs.declared.step.Step.{Step}
use Rattle.rt_world.specs.Views.{is_known}
use Rattle.rt_world.specs.World.{World, Listener, listening, pending}
use Rattle.rt_world.specs.After.{kind, listeners_after, requests_after, brought_after, kept_after, pushed, renewed, is_connected_after}
use Rattle.rt_wire.specs.declared.limits.TheConstants.{VERSION}
use Rattle.rt_world.specs.Messages.{greeting, listens, unlistens, request_message, request_sent, stopped_by, messages_online, messages_of, outgoing_before, kept_before, heard_by, next}
use Rattle.rt_world.specs.Refusals.{refusal, is_stale, is_done}
use Rattle.rt_world.specs.Answers.{step, step_by, stale_report}
use Rattle.rt_world.specs.Headline.{AreKept, begun, ended, sent_due, Sends, Keeps, Moves}
use Rattle.rt_world.specs.laws.Makes.{report_of, primed_in, unseen, Makes, MakesOrLeaves, Tells, StepTells}
use Rattle.rt_world.specs.Sound.{IsSound}
use Rattle.rt_world.proofs.Listeners.{find-number, find-no_number, not_bound, number-renewed, primed_view, query-renewed, registered-renewed}
use Rattle.rt_world.proofs.KindLaws.{first_seen, orderly}
use Rattle.rt_world.proofs.LimitLaws.{allowed}
use Rattle.rt_world.proofs.ShowLaws.{left_or_more, step_up_to_date}
use Rattle.rt_world.proofs.HeardLaws.{heard-done, heard-events}
use Rattle.rt_world.proofs.KeepsLaws.{begun_are, keeps}

-- ---- primed marks

-- whether a listener of that number is there, and primed
abbrev primed_before : List Listener → ℕ → Bool
primed_before listeners number = option_map_or (λ (l : Listener). l.is_primed) (find (λ (l : Listener). l.number == number) listeners) false

primed_there : (w : World) → IsSound w → (l : Listener) → Contains w.listeners l → primed_before w.listeners l.number ≡ l.is_primed
primed_there w h l m = ap (λ o. option_map_or (λ (x : Listener). x.is_primed) o false) (find-number w.listeners l h.rises m)

primed_new : (w : World) → IsSound w → (seat : ℕ) (query : Query) (l : Listener) (k : ℕ) → k < 1 → slice_index_or (first_seen w seat query ∷ []) k l ≡ l
    → primed_before w.listeners l.number ≡ l.is_primed
primed_new w h seat query l zero lt e =
    subst (λ (x : Listener). primed_before w.listeners x.number ≡ x.is_primed) e
    (ap (λ o. option_map_or (λ (x : Listener). x.is_primed) o false) (find-no_number w.listeners w.next_listener (not_bound w.next_listener w.listeners h.below)))
primed_new w h seat query l (suc k) lt e = absurd (omega arith)

-- a listener of the step has the mark that its number had
primed_carried : (w : World) (s : Step) → IsSound w → (l : Listener) → Contains (listeners_after w s) l → primed_before w.listeners l.number ≡ l.is_primed
primed_carried w s h l m = elim (left_or_more w s) [
  | inl e ↦ primed_there w h l (Contains-from_filter e.test w.listeners l (subst (λ ls. Contains ls l) e.left m))
  | inr e ↦ elim (Contains-append_cases w.listeners (first_seen w e.seat e.query ∷ []) l (subst (λ ls. Contains ls l) e.more m)) [
    | inl old ↦ primed_there w h l old
    | inr new ↦ primed_new w h e.seat e.query l new.0 new.1 new.2
  ]
]

primed_renewed : (b : Brought) (ws : List Write) (l : Listener) → (renewed b ws l).is_primed ≡ (l.is_primed || is_known b ws l.query)
primed_renewed b ws l =
    elim (l.is_primed || is_known b ws l.query) as (λ k. (l.is_primed || is_known b ws l.query) ≡ k → (cond k (primed_view b ws l) l).is_primed ≡ k) [
      | true ↦ λ e. refl
      | false ↦ λ e. unprimed l.is_primed (is_known b ws l.query) e
    ] refl
  where
    unprimed : (p k : Bool) → (p || k) ≡ false → p ≡ false
    unprimed true k e = e
    unprimed false k e = refl

primed_done : (w : World) (s : Step) → IsSound w → All (λ l. l.is_primed ≡ primed_in w (next w s) l) (next w s).listeners
primed_done w s h =
    let b = brought_after w s in
    let ws = pending (requests_after w s) in
    All-map (λ (l : Listener). l.is_primed ≡ primed_in w (next w s) l) (renewed b ws) (listeners_after w s) (λ k d lt.
    let l = slice_index_or (listeners_after w s) k d in
    let before = primed_carried w s h l (Contains-get_or (listeners_after w s) k d lt) in
    primed_renewed b ws l
    ∙ (λ i. sym before i || is_known b ws l.query)
    ∙ (λ i. primed_before w.listeners (sym (number-renewed b ws l) i) || is_known b ws (sym (query-renewed b ws l) i)))

primed_same : (w : World) → IsSound w → All (λ l. l.is_primed ≡ primed_in w w l) w.listeners
primed_same w h k d lt =
    let l = slice_index_or w.listeners k d in
    let m = Contains-get_or w.listeners k d lt in
    let known = is_known w.brought (pending w.requests) l.query in
    either l.is_primed known (All-contains (λ (x : Listener). is_known w.brought (pending w.requests) x.query ≡ true → x.is_primed ≡ true) w.listeners l h.primed m)
    ∙ (λ i. sym (primed_there w h l m) i || known)
  where
    either : (p k : Bool) → (k ≡ true → p ≡ true) → p ≡ (p || k)
    either true k f = refl
    either false false f = refl
    either false true f = f refl

-- ---- messages

sends_of : (w : World) (s : Step) → IsSound w → messages_of w s ≡ sent_due w s (next w s) → Sends w s (next w s)
sends_of w s h messages = record {
  outgoing = ap (λ m. outgoing_before w s ++ m) messages;
  heard = λ on. ap (fold heard_by (kept_before s w.kept)) (sym messages) ∙ sym (heard-events s w.kept (messages_of w s)) ∙ heard-done w s w.kept h (λ _. refl) on;
}

-- a step that leaves the connection as it is
sends_going : (w : World) (s : Step) → IsSound w → is_connected_after w s ≡ w.is_connected
    → messages_of w s ≡ cond w.is_connected (messages_online w s) [] → Sends w s (next w s)
sends_going w s h same messages =
    sends_of w s h
    (messages
    ∙ ap (λ ks. cond w.is_connected (listens ks ++ unlistens (stopped_by w s) ++ request_sent w s) []) (sym (begun_are w s h))
    ∙ twice w.is_connected online (ClientMessage.Hello VERSION ∷ (listens w.kept ++ map request_message (requests_after w s)))
    ∙ (λ i. cond (sym same i) (cond w.is_connected online (ClientMessage.Hello VERSION ∷ (listens w.kept ++ map request_message (requests_after w s)))) []))
  where
    online : List ClientMessage
    online = listens (begun w (next w s)) ++ unlistens (ended w s (next w s)) ++ request_sent w s

    twice : (b : Bool) (xs ys : List ClientMessage) → cond b xs [] ≡ cond b (cond b xs ys) []
    twice true xs ys = refl
    twice false xs ys = refl

sends : (w : World) (s : Step) → IsSound w → refusal w s ≡ None → Sends w s (next w s)
sends w s h r = at (kind s).opens (kind s).closes refl refl
  where
    rest : Bool → List ClientMessage
    rest closes = cond closes [] (cond w.is_connected (messages_online w s) [])

    online : List ClientMessage
    online = listens (begun w (next w s)) ++ unlistens (ended w s (next w s)) ++ request_sent w s

    all : List Request → List ClientMessage
    all rs = ClientMessage.Hello VERSION ∷ (listens w.kept ++ map request_message rs)

    -- one that opens a connection found none
    opening : (kind s).opens ≡ true → Sends w s (next w s)
    opening o =
        let off : w.is_connected ≡ false = sym (ap (λ b. b && w.is_connected) o) ∙ (allowed w s r).connected in
        let requests : requests_after w s ≡ w.requests = ((orderly s).opens o).1 w in
        sends_of w s h
        (ap (λ b. cond b (greeting w) (rest (kind s).closes)) o
        ∙ sym (λ i. cond (cond (o i) true (cond (kind s).closes false w.is_connected)) (cond (off i) online (all (requests i))) []))

    at : (opens closes : Bool) → (kind s).opens ≡ opens → (kind s).closes ≡ closes → Sends w s (next w s)
    at true closes o e = opening o
    at false true o e =
        sends_of w s h
        ((λ i. cond (o i) (greeting w) (rest (e i)))
        ∙ sym (λ i. cond (cond (o i) true (cond (e i) false w.is_connected)) (cond w.is_connected online (all (requests_after w s))) []))
    at false false o e =
        sends_going w s h (λ i. cond (o i) true (cond (e i) false w.is_connected)) (λ i. cond (o i) (greeting w) (rest (e i)))

-- ---- what is made

unseen_renewed : (b : Brought) (ws : List Write) (ls : List Listener) → map unseen (map (renewed b ws) ls) ≡ map unseen ls
unseen_renewed b ws [] = refl
unseen_renewed b ws (l ∷ ls) = λ i. one i ∷ unseen_renewed b ws ls i
  where
    one : unseen (renewed b ws l) ≡ unseen l
    one = elim (l.is_primed || is_known b ws l.query) as (λ k. unseen (cond k (primed_view b ws l) l) ≡ unseen l) [ true ↦ refl | false ↦ refl ]

makes : (w : World) (s : Step) → Makes w s (next w s)
makes w s =
    let b = brought_after w s in
    let ws = pending (requests_after w s) in
    record {
      limits = refl;
      listeners = unseen_renewed b ws (listeners_after w s);
      requests = refl;
      brought = ap (λ rs. recover (listening rs) (map (λ (k : Tagged). k.form) (kept_after w s)) (pushed w s)) (sym (registered-renewed b ws (listeners_after w s)));
      connected = refl;
      next_listener = refl;
      next_request = refl;
    }

-- ---- one step

-- what the step makes and answers, whichever it is
tells_by : (w : World) (s : Step) (o : Option CoreError) (b : Bool) → refusal w s ≡ o → is_stale w s ≡ b → IsSound w → Tells w s (step_by o b w s).1 (step_by o b w s).0
tells_by w s (Some e) b r t h = record {
  answered = λ i. option_map_or Err (sym r i) (Ok (cond (is_stale w s) stale_report (report_of w s w.listeners)));
  made = subst (λ d. MakesOrLeaves d w s w) (λ i. is_none (sym r i) && not (is_stale w s)) refl;
  primed = primed_same w h;
}
tells_by w s None true r t h = record {
  answered = λ i. option_map_or Err (sym r i) (Ok (cond (sym t i) stale_report (report_of w s w.listeners)));
  made = subst (λ d. MakesOrLeaves d w s w) (λ i. is_none (sym r i) && not (sym t i)) refl;
  primed = primed_same w h;
}
tells_by w s None false r t h = record {
  answered = λ i. option_map_or Err (sym r i) (Ok (cond (sym t i) stale_report (report_of w s (next w s).listeners)));
  made = subst (λ d. MakesOrLeaves d w s (next w s)) (λ i. is_none (sym r i) && not (sym t i)) (makes w s);
  primed = primed_done w s h;
}

pub step_tells : StepTells
step_tells w s h = tells_by w s (refusal w s) (is_stale w s) refl refl h

-- what it sends and keeps, where it is done
done_by : (w : World) (s : Step) (o : Option CoreError) (b : Bool) → refusal w s ≡ o → is_stale w s ≡ b → IsSound w → is_done w s ≡ true
    → Sends w s (step_by o b w s).0 × Keeps w (step_by o b w s).0
done_by w s (Some e) b r t h d = absurd (true≢false (sym d ∙ (λ i. is_none (r i) && not (is_stale w s))))
done_by w s None true r t h d = absurd (true≢false (sym d ∙ (λ i. is_none (r i) && not (t i))))
done_by w s None false r t h d = (sends w s h r, keeps w s h r)

-- a step of a sound world
pub moves : (w : World) (s : Step) → AreKept (step w s).0 → IsSound w → Moves w s (step w s).1 (step w s).0
moves w s kept h = record {
  made = refl;
  answered = refl;
  sends = λ d. (done_by w s (refusal w s) (is_stale w s) refl refl h d).0;
  keeps = λ d. (done_by w s (refusal w s) (is_stale w s) refl refl h d).1;
  kept = kept;
  shown = step_up_to_date w s (refusal w s) (is_stale w s) h;
}
