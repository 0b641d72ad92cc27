-- What a step tells a seat takes what was known of it to what is known after the step.
use Rattle.std.proofs.Common.{◌≡◌, ℕ, Bool, true, false, cond, ◌&&◌, ◌||◌, not, ◌==◌, List, [], ◌∷◌, ◌++◌, map, refl, sym, ap, ◌∙◌, append-nil, append_assoc, Option, Some, None}
use mathlib.Core.Bool.{true≢false}
use Rattle.std.specs.List.{filter, filter_map, list_any, All}
use Rattle.std.proofs.lemmas.List.Elements.{filter_map-append, All-filter, All-push, All-weaker}
use Rattle.std.specs.Option.{option_map_or}
use Rattle.rt_query.specs.Queries.{Query}
use Rattle.rt_query.specs.Select.{Shown}
use Rattle.rt_query.specs.laws.Select.{SelectHasKeysOnce}
use Rattle.rt_writes.specs.Writes.{Write}
use Rattle.rt_cache.specs.Brought.{Brought, base}
use Rattle.rt_view.specs.Changes.{replay, by_keys, rows_in, changes}
use Rattle.rt_view.specs.laws.Changes.{ChangesTurn}
use Rattle.rt_wire.specs.declared.request.Asked.{Asked}
use Rattle.rt_wire.specs.declared.request.Asked.TheVariants as asked
use Rattle.rt_world.specs.declared.report.Note.{Note}
use Rattle.rt_world.specs.declared.step.Request.{Request}
use Rattle.rt_world.specs.declared.step.Step.{Step}
use Rattle.rt_world.specs.World.{Reason, Listener, World, pending}
use Rattle.rt_world.specs.Views.{is_known, view_of, seen_over}
use Rattle.rt_world.specs.steps.Revoking.{is_cancelled}
use Rattle.rt_world.specs.After.{listeners_after, requests_after, brought_after, renewed}
use Rattle.rt_world.specs.Messages.{next}
use Rattle.rt_world.specs.Refusals.{refusal, is_unknown_listener}
use Rattle.rt_world.specs.Answers.{settled_note, settled_notes, cancelled_notes, batch_notes, batch_from, done_report}
use Rattle.rt_world.specs.Headline.{view_by}
use Rattle.rt_world.specs.Sound.{Rises, IsSound}
use Rattle.rt_world.specs.laws.Steps.{NotRefusedIsAllowed, RenewedIsOne, BatchesAreNotes}
use Rattle.rt_mail.specs.declared.item.Item.{Item}
use Rattle.rt_mail.specs.declared.item.Item.TheVariants as item
use Rattle.rt_mail.specs.declared.item.Receipt.{Receipt}
use Rattle.rt_mail.specs.declared.item.Receipt.TheVariants as receipt
use Rattle.rt_mail.specs.Mailbox.{Known, taken, known_of, signed, with_request, without_listener}
use Rattle.rt_client.specs.Seats.{item_of, told_to, shown_by, receipts_to, reflection, does_close}
use Rattle.rt_client.proofs.Batches.{batches_played, batches_turn}
use Rattle.rt_client.proofs.Turned.{KeepsOne, due}
use Rattle.rt_client.proofs.Filters.{filter-filter, filter_same}
use Rattle.rt_client.proofs.Noted.{rows_at, ids_at, rows_at-append, ids_at-append, with_listener-last, with_request-last, rows_below, ids_below, ids-unseated, settled_known, settled_ids, cancelled_note, cancelled_known, cancelled_rows, unlistened_own, unlistened_other}
use Rattle.rt_client.proofs.Numbers.{flip, or_false_left, one_seat, Rises-filter, Rises-push}

-- what is known after items and then more
pub known-append : (m : Known) (xs ys : List Item) → known_of m (xs ++ ys) ≡ known_of (known_of m xs) ys
known-append m [] ys = refl
known-append m (x ∷ xs) ys = known-append (taken m x) xs ys

pub told_to-append : (seat : ℕ) (xs ys : List Note) → told_to seat (xs ++ ys) ≡ told_to seat xs ++ told_to seat ys
told_to-append seat xs ys = filter_map-append (λ (n : Note). cond (n.seat == seat) (Some (item_of n.body)) None) xs ys

-- what is known of a seat once its listeners and requests are those after the step, and its views
-- still those before it
abbrev pub midway : World → Step → ℕ → Known
midway w s seat = record { listeners = rows_at seat (listeners_after w s); requests = ids_at seat (requests_after w s) }

-- what comes before the batches
abbrev pub before_batches : World → Step → ℕ → List Item
before_batches w s seat = receipts_to seat w s ++ told_to seat (settled_notes w s ++ cancelled_notes w s)

-- ---- a seat's own calls

-- a receipt of the seat's own call, and no note
receipt_known : (seat own : ℕ) (r : Receipt) (m : Known) → known_of m (cond (own == seat) (item.Receipt r ∷ []) [] ++ []) ≡ cond (own == seat) (signed m r) m
receipt_known seat own r m = elim (own == seat) as (λ b. known_of m (cond b (item.Receipt r ∷ []) [] ++ []) ≡ cond b (signed m r) m) [ true ↦ refl | false ↦ refl ]

-- a new listener, as it is registered
abbrev new_listener : World → ℕ → Query → Listener
new_listener w seat query = record { number = w.next_listener; seat = seat; query = query; is_primed = false; view = None }

listen_known : (w : World) (seat own : ℕ) (query : Query) → IsSound w
    → cond (own == seat) (signed (reflection w seat) (receipt.Listened w.next_listener query)) (reflection w seat) ≡ midway w (Step.Listen own query) seat
listen_known w seat own query h =
    let new = new_listener w own query in
    elim (own == seat) as (λ b. cond b (signed (reflection w seat) (receipt.Listened w.next_listener query)) (reflection w seat)
    ≡ record { listeners = rows_at seat w.listeners ++ map shown_by (cond b (new ∷ []) []); requests = ids_at seat w.requests }) [
      | true ↦ λ i. record {
        listeners = with_listener-last w.next_listener (rows_at seat w.listeners) (rows_below seat w.next_listener w.listeners h.below) i;
        requests = ids_at seat w.requests;
      }
      | false ↦ λ i. record { listeners = sym (append-nil (rows_at seat w.listeners)) i; requests = ids_at seat w.requests }
    ]
    ∙ (λ i. record { listeners = sym (rows_at-append seat w.listeners (new ∷ [])) i; requests = ids_at seat w.requests })

unlistened_rows : (w : World) (seat own n : ℕ) → IsSound w → list_any (λ (l : Listener). l.number == n && l.seat == own) w.listeners ≡ true
    → cond (own == seat) (without_listener n (rows_at seat w.listeners)) (rows_at seat w.listeners) ≡ rows_at seat (listeners_after w (Step.Unlisten own n))
unlistened_rows w seat own n h there =
    elim (own == seat) as (λ b. (own == seat) ≡ b → cond b (without_listener n (rows_at seat w.listeners)) (rows_at seat w.listeners) ≡ rows_at seat (filter (λ l. not (l.number == n)) w.listeners)) [
      | true ↦ λ e. unlistened_own seat n w.listeners
      | false ↦ λ e. sym (unlistened_other seat own n w.listeners e h.rises there)
    ] refl

unlisten_known : (w : World) (seat own n : ℕ) → IsSound w → list_any (λ (l : Listener). l.number == n && l.seat == own) w.listeners ≡ true
    → cond (own == seat) (signed (reflection w seat) (receipt.Unlistened n)) (reflection w seat) ≡ midway w (Step.Unlisten own n) seat
unlisten_known w seat own n h there =
    elim (own == seat) as (λ b. cond b (signed (reflection w seat) (receipt.Unlistened n)) (reflection w seat)
    ≡ record { listeners = cond b (without_listener n (rows_at seat w.listeners)) (rows_at seat w.listeners); requests = ids_at seat w.requests }) [ true ↦ refl | false ↦ refl ]
    ∙ (λ i. record { listeners = unlistened_rows w seat own n h there i; requests = ids_at seat w.requests })

-- a new request comes last
asked_known : (w : World) (seat own : ℕ) (what : Asked) (r : Receipt) → IsSound w
    → signed (reflection w seat) r ≡ record (reflection w seat) { requests = with_request w.next_request (ids_at seat w.requests) }
    → cond (own == seat) (signed (reflection w seat) r) (reflection w seat)
    ≡ record { listeners = rows_at seat w.listeners; requests = ids_at seat (w.requests ++ record { id = w.next_request; seat = Some own; asked = what } ∷ []) }
asked_known w seat own what r h is =
    let new : Request = record { id = w.next_request; seat = Some own; asked = what } in
    ap (λ z. cond (own == seat) z (reflection w seat)) is
    ∙ elim (own == seat) as (λ b. cond b (record (reflection w seat) { requests = with_request w.next_request (ids_at seat w.requests) }) (reflection w seat)
    ≡ record { listeners = rows_at seat w.listeners; requests = ids_at seat w.requests ++ map (λ (r : Request). r.id) (cond b (new ∷ []) []) }) [
      | true ↦ λ i. record {
        listeners = rows_at seat w.listeners;
        requests = with_request-last w.next_request (ids_at seat w.requests) (ids_below seat w.next_request w.requests h.unsettled) i;
      }
      | false ↦ λ i. record { listeners = rows_at seat w.listeners; requests = sym (append-nil (ids_at seat w.requests)) i }
    ]
    ∙ (λ i. record { listeners = rows_at seat w.listeners; requests = sym (ids_at-append seat w.requests (new ∷ [])) i })

-- ---- settlements, revocations, seats that go

settle_known : (w : World) (seat id : ℕ) (why : Option Reason)
    → known_of (reflection w seat) (told_to seat (filter_map (settled_note (id, why)) w.requests ++ []))
    ≡ record { listeners = rows_at seat w.listeners; requests = ids_at seat (filter (λ r. not (r.id == id)) w.requests) }
settle_known w seat id why =
    ap (λ z. known_of (reflection w seat) (told_to seat z)) (append-nil (filter_map (settled_note (id, why)) w.requests))
    ∙ settled_known seat id why w.requests (reflection w seat)
    ∙ (λ i. record { listeners = rows_at seat w.listeners; requests = settled_ids seat id w.requests i })

revoke_known : (w : World) (seat tag : ℕ) (why : Reason) → IsSound w
    → known_of (reflection w seat) (told_to seat (map (cancelled_note why) (filter (is_cancelled w tag) w.listeners))) ≡ midway w (Step.Revoked tag why) seat
revoke_known w seat tag why h =
    cancelled_known seat why (filter (is_cancelled w tag) w.listeners) (reflection w seat)
    ∙ (λ i. record { listeners = cancelled_rows seat (is_cancelled w tag) w.listeners h.rises i; requests = ids_at seat w.requests })

close_known : (w : World) (seat own : ℕ) → (own == seat) ≡ false → reflection w seat ≡ midway w (Step.CloseSeat own) seat
close_known w seat own closed i = record {
  listeners = ap (map shown_by) (sym (filter-filter (λ (l : Listener). l.seat == seat) (λ (l : Listener). not (l.seat == own)) w.listeners
      ∙ filter_same _ _ w.listeners (λ l. one_seat l.seat seat own (flip own seat closed)))) i;
  requests = sym (ids-unseated own seat closed w.requests) i;
}

-- ---- up to the batches

-- the listener that a seat ends is its own
pub own_listener : (w : World) (own n : ℕ) → is_unknown_listener w (Step.Unlisten own n) ≡ false → list_any (λ (l : Listener). l.number == n && l.seat == own) w.listeners ≡ true
own_listener w own n e = turn (list_any (λ (l : Listener). l.number == n && l.seat == own) w.listeners) e
  where
    turn : (b : Bool) → not b ≡ false → b ≡ true
    turn true e = refl
    turn false e = absurd (true≢false e)

notes_reflect : (w : World) (s : Step) (seat : ℕ) → IsSound w → is_unknown_listener w s ≡ false → does_close seat s ≡ false → known_of (reflection w seat) (before_batches w s seat) ≡ midway w s seat
notes_reflect w (Step.Listen own query) seat h known closed =
    receipt_known seat own (receipt.Listened w.next_listener query) (reflection w seat) ∙ listen_known w seat own query h
notes_reflect w (Step.Unlisten own n) seat h known closed =
    receipt_known seat own (receipt.Unlistened n) (reflection w seat) ∙ unlisten_known w seat own n h (own_listener w own n known)
notes_reflect w (Step.Write own action) seat h known closed =
    receipt_known seat own (receipt.Wrote w.next_request action) (reflection w seat)
    ∙ asked_known w seat own (asked.Now action) (receipt.Wrote w.next_request action) h refl
notes_reflect w (Step.OnDisconnect own ending) seat h known closed =
    receipt_known seat own (receipt.Asked w.next_request ending) (reflection w seat)
    ∙ asked_known w seat own (asked.AtDisconnect ending) (receipt.Asked w.next_request ending) h refl
notes_reflect w (Step.Data tag path tree) seat h known closed = refl
notes_reflect w (Step.DataMerge tag entries) seat h known closed = refl
notes_reflect w (Step.Push parts) seat h known closed = refl
notes_reflect w (Step.Accepted id) seat h known closed = settle_known w seat id None
notes_reflect w (Step.Refused id why) seat h known closed = settle_known w seat id (Some why)
notes_reflect w (Step.Revoked tag why) seat h known closed = revoke_known w seat tag why h
notes_reflect w Step.Connected seat h known closed = refl
notes_reflect w Step.Disconnected seat h known closed = refl
notes_reflect w (Step.CloseSeat own) seat h known closed = close_known w seat own closed

-- ---- the batches

-- one that is not primed has no view
abbrev pub IsBlank : Listener → Type 0
IsBlank l = l.is_primed ≡ false → l.view ≡ None

blank_listeners : (w : World) → IsSound w → All IsBlank w.listeners
blank_listeners w h = All-weaker (λ (l : Listener). l.view ≡ view_by l.is_primed w l.query) IsBlank (λ l e p. e ∙ ap (λ b. view_by b w l.query) p) w.listeners h.views

pub blank_after : (w : World) (s : Step) → IsSound w → All IsBlank (listeners_after w s)
blank_after w (Step.Listen seat query) h = All-push IsBlank w.listeners (new_listener w seat query) (blank_listeners w h) (λ p. refl)
blank_after w (Step.Unlisten seat n) h = All-filter (λ (l : Listener). not (l.number == n)) IsBlank w.listeners (blank_listeners w h)
blank_after w (Step.Write seat action) h = blank_listeners w h
blank_after w (Step.OnDisconnect seat ending) h = blank_listeners w h
blank_after w (Step.Data tag path tree) h = blank_listeners w h
blank_after w (Step.DataMerge tag entries) h = blank_listeners w h
blank_after w (Step.Push parts) h = blank_listeners w h
blank_after w (Step.Accepted id) h = blank_listeners w h
blank_after w (Step.Refused id why) h = blank_listeners w h
blank_after w (Step.Revoked tag why) h = All-filter (λ (l : Listener). not (is_cancelled w tag l)) IsBlank w.listeners (blank_listeners w h)
blank_after w Step.Connected h = blank_listeners w h
blank_after w Step.Disconnected h = blank_listeners w h
blank_after w (Step.CloseSeat seat) h = All-filter (λ (l : Listener). not (l.seat == seat)) IsBlank w.listeners (blank_listeners w h)

pub rises_after : (w : World) (s : Step) → IsSound w → Rises (listeners_after w s)
rises_after w (Step.Listen seat query) h = Rises-push w.next_listener w.listeners (new_listener w seat query) refl h.below h.rises
rises_after w (Step.Unlisten seat n) h = Rises-filter (λ (l : Listener). not (l.number == n)) w.listeners h.rises
rises_after w (Step.Write seat action) h = h.rises
rises_after w (Step.OnDisconnect seat ending) h = h.rises
rises_after w (Step.Data tag path tree) h = h.rises
rises_after w (Step.DataMerge tag entries) h = h.rises
rises_after w (Step.Push parts) h = h.rises
rises_after w (Step.Accepted id) h = h.rises
rises_after w (Step.Refused id why) h = h.rises
rises_after w (Step.Revoked tag why) h = Rises-filter (λ (l : Listener). not (is_cancelled w tag l)) w.listeners h.rises
rises_after w Step.Connected h = h.rises
rises_after w Step.Disconnected h = h.rises
rises_after w (Step.CloseSeat seat) h = Rises-filter (λ (l : Listener). not (l.seat == seat)) w.listeners h.rises

-- the changes of a listener's view turn its rows into those of the view after them
turned : SelectHasKeysOnce → ChangesTurn → (b : Brought) (ws : List Write) (l : Listener) → IsBlank l
    → replay (due (renewed b ws) l) (by_keys (rows_in l.view)) ≡ by_keys (rows_in (renewed b ws l).view)
turned once turn b ws l blank =
    let seen : Listener = record l { is_primed = true; view = Some (view_of b ws l.query) } in
    elim (l.is_primed || is_known b ws l.query) as (λ k. (l.is_primed || is_known b ws l.query) ≡ k
    → replay (batch_from l.view (cond k seen l)) (by_keys (rows_in l.view)) ≡ by_keys (rows_in (cond k seen l).view)) [
      | true ↦ λ e. (turn l.query.index l.view (view_of b ws l.query) (once l.query (seen_over (base b l.query) ws l.query))).rows
      | false ↦ λ e. quiet l.view (blank (or_false_left l.is_primed (is_known b ws l.query) e))
    ] refl
  where
    quiet : (o : Option Shown) → o ≡ None → replay (option_map_or (λ new. changes l.query.index o new) o []) (by_keys (rows_in o)) ≡ by_keys (rows_in o)
    quiet None e = refl
    quiet (Some v) e = cc

-- the batches take it on
batches_reflect : SelectHasKeysOnce → ChangesTurn → RenewedIsOne → BatchesAreNotes → (w : World) (s : Step) (seat : ℕ) → IsSound w
    → known_of (midway w s seat) (told_to seat (batch_notes w s)) ≡ reflection (next w s) seat
batches_reflect once turn same notes w s seat h =
    let b = brought_after w s in
    let ws = pending (requests_after w s) in
    let ls = listeners_after w s in
    let one : KeepsOne (renewed b ws) = λ l. ((same b ws l).0, (same b ws l).1) in
    ap (λ z. known_of (midway w s seat) (told_to seat z)) (notes w s h)
    ∙ batches_played seat (renewed b ws) ls (midway w s seat)
    ∙ (λ i. record (midway w s seat) {
      listeners = batches_turn seat (renewed b ws) ls one (rises_after w s h) (All-weaker IsBlank _ (λ l k. turned once turn b ws l k) ls (blank_after w s h)) i;
    })

-- ---- one step

pub made_reflects : SelectHasKeysOnce → ChangesTurn → RenewedIsOne → BatchesAreNotes → NotRefusedIsAllowed
    → (w : World) (s : Step) (seat : ℕ) → IsSound w → refusal w s ≡ None → does_close seat s ≡ false
    → known_of (reflection w seat) (receipts_to seat w s ++ told_to seat (done_report w s).notes) ≡ reflection (next w s) seat
made_reflects once turn same notes allowed w s seat h r closed =
    let before = settled_notes w s ++ cancelled_notes w s in
    ap (λ z. known_of (reflection w seat) (receipts_to seat w s ++ z)) (told_to-append seat before (batch_notes w s))
    ∙ ap (known_of (reflection w seat)) (sym (append_assoc (receipts_to seat w s) (told_to seat before) (told_to seat (batch_notes w s))))
    ∙ known-append (reflection w seat) (before_batches w s seat) (told_to seat (batch_notes w s))
    ∙ ap (λ m. known_of m (told_to seat (batch_notes w s))) (notes_reflect w s seat h (allowed w s r).unknown closed)
    ∙ batches_reflect once turn same notes w s seat h
