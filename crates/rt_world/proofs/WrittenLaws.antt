-- The pending writes after a step.
use Rattle.std.proofs.Common.{◌≡◌, ℕ, Bool, true, false, cond, not, ◌==◌, List, [], ◌∷◌, ◌++◌, map, refl, sym, ap, ◌∙◌, append-nil, Option, Some, None, is_some, Ok, Err}
use mathlib.Core.Bool.{true≢false}
use Rattle.std.specs.List.{filter, cons_option}
use Rattle.std.specs.Option.{option_eq, option_map, option_map_or, option_or}
use Rattle.std.proofs.lemmas.List.Elements.{filter_map-append}
use Rattle.rt_tree.specs.Assignments.{Assignment}
use Rattle.rt_writes.specs.Writes.{Write, without}
use Rattle.rt_wire.specs.declared.request.Action.{Action}
use Rattle.rt_wire.specs.declared.request.Asked.{Asked}
use Rattle.rt_wire.specs.declared.request.Asked.TheVariants.{Now, AtDisconnect}
use Rattle.rt_world.specs.declared.error.CoreError.{CoreError}
use Rattle.rt_world.specs.declared.step.Request.{Request}
use Rattle.rt_world.specs.declared.step.Step.{Step}
use Rattle.rt_world.specs.World.{Reason, World, entries_of, pending, write_asked}
use Rattle.rt_world.specs.steps.Closing.{unseated}
use Rattle.rt_world.specs.After.{kind, requests_after}
use Rattle.rt_world.specs.Answers.{Answer, step_by, stale_report, done_report}
use Rattle.rt_world.specs.Plain.{with_write, with_settled, with_asked, writes_by}
use Rattle.rt_world.proofs.KindLaws.{Requesting, keeping, unseating, asking, settling, orderly, asking_registers_none}

-- one more request
pub pending-more : (rs : List Request) (r : Request) → pending (rs ++ r ∷ []) ≡ pending rs ++ cons_option (write_asked r.id r.asked) []
pending-more rs r = filter_map-append (λ (x : Request). write_asked x.id x.asked) rs (r ∷ [])

pub pending-write : (rs : List Request) (id : ℕ) (seat : Option ℕ) (action : Action)
    → pending (rs ++ record { id = id; seat = seat; asked = Now action } ∷ []) ≡ pending rs ++ record { id = id; entries = entries_of action } ∷ []
pending-write rs id seat action = pending-more rs (record { id = id; seat = seat; asked = Now action })

-- without the request of a number its write is not pending
pub pending-without : (id : ℕ) (rs : List Request) → pending (filter (λ r. not (r.id == id)) rs) ≡ without id (pending rs)
pending-without id [] = refl
pending-without id (r ∷ rs) = if_left (not (r.id == id)) ∙ at r.asked (pending-without id rs)
  where
    left : List Request
    left = filter (λ x. not (x.id == id)) rs

    if_left : (b : Bool) → pending (cond b (r ∷ left) left) ≡ cond b (cons_option (write_asked r.id r.asked) (pending left)) (pending left)
    if_left true = refl
    if_left false = refl

    either : (b : Bool) → cond b (pending left) (pending left) ≡ pending left
    either true = refl
    either false = refl

    at : (x : Asked) → pending left ≡ without id (pending rs) → cond (not (r.id == id)) (cons_option (write_asked r.id x) (pending left)) (pending left) ≡ without id (cons_option (write_asked r.id x) (pending rs))
    at (Now action) rest = ap (λ (ws : List Write). cond (not (r.id == id)) (record { id = r.id; entries = entries_of action } ∷ ws) ws) rest
    at (AtDisconnect ending) rest = either (not (r.id == id)) ∙ rest

pub pending-unseated : (seat : ℕ) (rs : List Request) → pending (map (unseated seat) rs) ≡ pending rs
pending-unseated seat [] = refl
pending-unseated seat (r ∷ rs) =
    ap (λ o. cons_option o (pending (map (unseated seat) rs))) (same (option_eq (λ a b. a == b) r.seat (Some seat)))
    ∙ ap (cons_option (write_asked r.id r.asked)) (pending-unseated seat rs)
  where
    same : (b : Bool) → write_asked (cond b (record r { seat = None }) r).id (cond b (record r { seat = None }) r).asked ≡ write_asked r.id r.asked
    same true = refl
    same false = refl

-- an answer by which no write is made and none is settled leaves the pending writes
not_written : (answer : Answer) → ((ws : List Write) (entries : List Assignment) → ws ≡ with_write ws entries answer) → ((ws : List Write) (id : ℕ) → ws ≡ with_settled ws id answer)
    → (settled : Option (ℕ × Option Reason)) (asked : Option (ℕ × Asked)) (ws : List Write)
    → ws ≡ option_map_or (λ d. with_settled ws d.0 answer) settled (option_map_or (λ a. with_asked ws a.1 answer) asked ws)
not_written answer write settle (Some d) asked ws = settle ws d.0
not_written answer write settle None None ws = refl
not_written answer write settle None (Some (seat, Now action)) ws = write ws (entries_of action)
not_written answer write settle None (Some (seat, AtDisconnect ending)) ws = refl

-- where nothing is asked for and nothing settled they stay
pub writes_stay : (w : World) (s : Step) → (kind s).settled ≡ None → (kind s).asked ≡ None → pending (requests_after w s) ≡ pending w.requests
writes_stay w s settled asked = at (orderly s).requests
  where
    at : Requesting (kind s) → pending (requests_after w s) ≡ pending w.requests
    at (keeping _ _ requests) = ap pending (requests w)
    at (unseating seat _ _ requests) = ap pending (requests w) ∙ pending-unseated seat w.requests
    at (asking a _ some requests room) = absurd (true≢false (sym (ap is_some some) ∙ ap is_some asked))
    at (settling d some _ requests) = absurd (true≢false (sym (ap is_some some) ∙ ap is_some settled))

-- what a step that is done makes of them
written_done : (w : World) (s : Step) → pending (requests_after w s) ≡ writes_by (pending w.requests) s (Ok (done_report w s))
written_done w s = at (orderly s).requests
  where
    ws : List Write
    ws = pending w.requests

    answer : Answer
    answer = Ok (done_report w s)

    by : Option (ℕ × Option Reason) → Option (ℕ × Asked) → List Write
    by settled asked = option_map_or (λ (d : ℕ × Option Reason). with_settled ws d.0 answer) settled (option_map_or (λ (a : ℕ × Asked). with_asked ws a.1 answer) asked ws)

    -- what is asked for gets the next number of a request
    given : (a : ℕ × Asked) → (kind s).asked ≡ Some a → (done_report w s).given ≡ Some w.next_request
    given a e =
        let none : (kind s).registers ≡ false = asking_registers_none s a e in
        λ i. option_or (cond (none i) (Some w.next_listener) None) (option_map (λ _. w.next_request) (e i))

    one_more : (a : ℕ × Asked) → (kind s).asked ≡ Some a → (asked : Asked) → asked ≡ a.1
        → pending (w.requests ++ record { id = w.next_request; seat = Some a.0; asked = asked } ∷ []) ≡ with_asked ws asked answer
    one_more a e (Now action) f =
        pending-write w.requests w.next_request (Some a.0) action
        ∙ ap (λ o. option_map_or (λ id. ws ++ record { id = id; entries = entries_of action } ∷ []) o ws) (sym (given a e))
    one_more a e (AtDisconnect ending) f =
        pending-more w.requests (record { id = w.next_request; seat = Some a.0; asked = AtDisconnect ending }) ∙ append-nil ws

    at : Requesting (kind s) → pending (requests_after w s) ≡ by (kind s).settled (kind s).asked
    at (keeping settled asked requests) = ap pending (requests w) ∙ (λ i. by (sym settled i) (sym asked i))
    at (unseating seat settled asked requests) = ap pending (requests w) ∙ pending-unseated seat w.requests ∙ (λ i. by (sym settled i) (sym asked i))
    at (asking a settled asked requests room) = ap pending (requests w) ∙ one_more a asked a.1 refl ∙ (λ i. by (sym settled i) (sym asked i))
    at (settling d settled asked requests) = ap pending (requests w) ∙ pending-without d.0 w.requests ∙ (λ i. by (sym settled i) (kind s).asked)

-- what a step makes of the pending writes is said by its answer
pub written_step : (w : World) (s : Step) (o : Option CoreError) (b : Bool) → pending (step_by o b w s).0.requests ≡ writes_by (pending w.requests) s (step_by o b w s).1
written_step w s (Some e) b = not_written (Err e) (λ ws entries. refl) (λ ws id. refl) (kind s).settled (kind s).asked (pending w.requests)
written_step w s None true = not_written (Ok stale_report) (λ ws entries. refl) (λ ws id. refl) (kind s).settled (kind s).asked (pending w.requests)
written_step w s None false = written_done w s
