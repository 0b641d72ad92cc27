-- Snapshots that take what a step tells their seat show what the core shows after it.
use Rattle.std.proofs.Common.{◌≡◌, ℕ, Bool, true, false, cond, not, ◌&&◌, ◌==◌, List, [], ◌∷◌, ◌++◌, map, refl, sym, ap, ◌∙◌, append-nil, append_assoc, Option, Some, None}
use Rattle.std.specs.List.{filter, filter_map, list_any, All}
use Rattle.std.proofs.lemmas.List.Elements.{All-head, All-tail, All-weaker}
use Rattle.std.proofs.lemmas.List.Sums.{fold-append}
use Rattle.rt_query.specs.Queries.{Query}
use Rattle.rt_query.specs.laws.Select.{SelectHasKeysOnce}
use Rattle.rt_view.specs.laws.Changes.{ChangesTurn}
use Rattle.rt_world.specs.declared.error.CoreError.{CoreError}
use Rattle.rt_world.specs.declared.step.Step.{Step}
use Rattle.rt_world.specs.World.{Reason, Listener, World, empty_world, pending}
use Rattle.rt_world.specs.steps.Revoking.{is_cancelled}
use Rattle.rt_world.specs.After.{listeners_after, requests_after, brought_after, renewed}
use Rattle.rt_world.specs.Messages.{next}
use Rattle.rt_world.specs.Refusals.{refusal, is_stale, is_unknown_listener}
use Rattle.rt_world.specs.Answers.{settled_note, settled_notes, cancelled_notes, batch_notes, done_report, step_by, step, world_after}
use Rattle.rt_world.specs.Sound.{IsSound}
use Rattle.rt_world.specs.laws.Steps.{NotRefusedIsAllowed, RenewedIsOne, BatchesAreNotes, StaysSound, WorldsAreSound}
use Rattle.rt_mail.specs.declared.item.Item.TheVariants as item
use Rattle.rt_mail.specs.declared.item.Receipt.{Receipt}
use Rattle.rt_mail.specs.declared.item.Receipt.TheVariants as receipt
use Rattle.rt_mail.specs.Snapshots.{Known, signed, begun, ended, after_item, after_items}
use Rattle.rt_client.specs.Seats.{told_to, receipts_to, told_by, told_in, does_close}
use Rattle.rt_client.specs.laws.Showing.{seen_by, seen_in, StepShows, SnapshotsAreCore}
use Rattle.rt_client.proofs.Ended.{of_seat, without, cancelled_left, unlistened_left}
use Rattle.rt_client.proofs.Filters.{filter-filter, filter_same}
use Rattle.rt_client.proofs.Mirrored.{no_receipt, sound_by}
use Rattle.rt_client.proofs.Noted.{cancelled_note}
use Rattle.rt_client.proofs.Numbers.{flip, one_seat, Rises-filter}
use Rattle.rt_client.proofs.Reflects.{told_to-append, before_batches, own_listener, blank_after, rises_after, IsBlank}
use Rattle.rt_client.proofs.Told.{seens, seens-append, seens-below, Up-seens, begun-last, ended-own, settled_shows, cancelled_shows, shown_with, value_by, batches_shown, value_turned}
use Rattle.rt_client.proofs.Turned.{KeepsOne}
use Rattle.rt_client.proofs.Turned as turned

-- ---- a seat's own calls

-- a receipt of the seat's own call, and no note
receipt_shows : (seat own : ℕ) (r : Receipt) (known : Known) → after_items known (cond (own == seat) (item.Receipt r ∷ []) [] ++ []) ≡ cond (own == seat) (signed known r) known
receipt_shows seat own r known = elim (own == seat) as (λ b. after_items known (cond b (item.Receipt r ∷ []) [] ++ []) ≡ cond b (signed known r) known) [ true ↦ refl | false ↦ refl ]

listen_shows : (w : World) (seat own : ℕ) (query : Query) → IsSound w
    → cond (own == seat) (begun w.next_listener query (seen_in w seat)) (seen_in w seat) ≡ seens seat (listeners_after w (Step.Listen own query))
listen_shows w seat own query h =
    let new : Listener = record { number = w.next_listener; seat = own; query = query; is_primed = false; view = None } in
    elim (own == seat) as (λ b. cond b (begun w.next_listener query (seen_in w seat)) (seen_in w seat) ≡ seens seat w.listeners ++ map seen_by (cond b (new ∷ []) [])) [
      | true ↦ begun-last w.next_listener query (seens seat w.listeners) (seens-below seat w.next_listener w.listeners h.below)
      | false ↦ sym (append-nil (seens seat w.listeners))
    ]
    ∙ sym (seens-append seat w.listeners (new ∷ []))

unlisten_shows : (w : World) (seat own n : ℕ) → IsSound w → list_any (λ (l : Listener). l.number == n && l.seat == own) w.listeners ≡ true
    → cond (own == seat) (ended n (seen_in w seat)) (seen_in w seat) ≡ seens seat (without n w.listeners)
unlisten_shows w seat own n h there =
    elim (own == seat) as (λ b. (own == seat) ≡ b → cond b (ended n (seen_in w seat)) (seen_in w seat) ≡ seens seat (without n w.listeners)) [
      | true ↦ λ e. ended-own seat n w.listeners h.rises
      | false ↦ λ e. ap (map seen_by) (sym (unlistened_left seat own n w.listeners e h.rises there))
    ] refl

-- a request is none of its listeners'
asked_shows : (seat own : ℕ) (known : Known) → cond (own == seat) known known ≡ known
asked_shows seat own known = elim (own == seat) as (λ b. cond b known known ≡ known) [ true ↦ refl | false ↦ refl ]

-- ---- up to the batches

settle_shows : (w : World) (seat id : ℕ) (why : Option Reason) → after_items (seen_in w seat) (told_to seat (filter_map (settled_note (id, why)) w.requests ++ [])) ≡ seen_in w seat
settle_shows w seat id why =
    ap (λ z. after_items (seen_in w seat) (told_to seat z)) (append-nil (filter_map (settled_note (id, why)) w.requests))
    ∙ settled_shows seat id why w.requests (seen_in w seat)

revoke_shows : (w : World) (seat tag : ℕ) (why : Reason) → IsSound w
    → after_items (seen_in w seat) (told_to seat (map (cancelled_note why) (filter (is_cancelled w tag) w.listeners))) ≡ seens seat (filter (λ l. not (is_cancelled w tag l)) w.listeners)
revoke_shows w seat tag why h =
    cancelled_shows seat why (filter (is_cancelled w tag) w.listeners) (of_seat seat w.listeners) (Rises-filter (λ (l : Listener). l.seat == seat) w.listeners h.rises)
    ∙ ap (map seen_by) (cancelled_left seat (is_cancelled w tag) w.listeners h.rises)

close_shows : (w : World) (seat own : ℕ) → (own == seat) ≡ false → seen_in w seat ≡ seens seat (filter (λ l. not (l.seat == own)) w.listeners)
close_shows w seat own closed =
    ap (map seen_by) (sym (filter-filter (λ (l : Listener). l.seat == seat) (λ (l : Listener). not (l.seat == own)) w.listeners
    ∙ filter_same _ _ w.listeners (λ l. one_seat l.seat seat own (flip own seat closed))))

notes_show : (w : World) (s : Step) (seat : ℕ) → IsSound w → is_unknown_listener w s ≡ false → does_close seat s ≡ false
    → after_items (seen_in w seat) (before_batches w s seat) ≡ seens seat (listeners_after w s)
notes_show w (Step.Listen own query) seat h known closed =
    receipt_shows seat own (receipt.Listened w.next_listener query) (seen_in w seat) ∙ listen_shows w seat own query h
notes_show w (Step.Unlisten own n) seat h known closed =
    receipt_shows seat own (receipt.Unlistened n) (seen_in w seat) ∙ unlisten_shows w seat own n h (own_listener w own n known)
notes_show w (Step.Write own action) seat h known closed =
    receipt_shows seat own (receipt.Wrote w.next_request action) (seen_in w seat) ∙ asked_shows seat own (seen_in w seat)
notes_show w (Step.OnDisconnect own ending) seat h known closed =
    receipt_shows seat own (receipt.Asked w.next_request ending) (seen_in w seat) ∙ asked_shows seat own (seen_in w seat)
notes_show w (Step.Data tag path tree) seat h known closed = refl
notes_show w (Step.DataMerge tag entries) seat h known closed = refl
notes_show w (Step.Push parts) seat h known closed = refl
notes_show w (Step.Accepted id) seat h known closed = settle_shows w seat id None
notes_show w (Step.Refused id why) seat h known closed = settle_shows w seat id (Some why)
notes_show w (Step.Revoked tag why) seat h known closed = revoke_shows w seat tag why h
notes_show w Step.Connected seat h known closed = refl
notes_show w Step.Disconnected seat h known closed = refl
notes_show w (Step.CloseSeat own) seat h known closed = close_shows w seat own closed

-- ---- the batches

batches_show : SelectHasKeysOnce → ChangesTurn → RenewedIsOne → BatchesAreNotes → (w : World) (s : Step) (seat : ℕ) → IsSound w
    → after_items (seens seat (listeners_after w s)) (told_to seat (batch_notes w s)) ≡ seen_in (next w s) seat
batches_show once turn same notes w s seat h =
    let b = brought_after w s in
    let ws = pending (requests_after w s) in
    let ls = listeners_after w s in
    let one : KeepsOne (renewed b ws) = λ l. ((same b ws l).0, (same b ws l).1) in
    ap (λ z. after_items (seens seat ls) (told_to seat z)) (notes w s h)
    ∙ batches_shown seat (renewed b ws) ls (seens seat ls) (Up-seens seat ls (rises_after w s h))
    ∙ turned.batches_turn shown_with value_by seat (renewed b ws) ls one (rises_after w s h)
    (All-weaker IsBlank _ (λ l k. value_turned once turn b ws l k) ls (blank_after w s h))

-- ---- one step

made_shows : SelectHasKeysOnce → ChangesTurn → RenewedIsOne → BatchesAreNotes → NotRefusedIsAllowed
    → (w : World) (s : Step) (seat : ℕ) → IsSound w → refusal w s ≡ None → does_close seat s ≡ false
    → after_items (seen_in w seat) (receipts_to seat w s ++ told_to seat (done_report w s).notes) ≡ seen_in (next w s) seat
made_shows once turn same notes allowed w s seat h r closed =
    let before = settled_notes w s ++ cancelled_notes w s in
    ap (λ z. after_items (seen_in w seat) (receipts_to seat w s ++ z)) (told_to-append seat before (batch_notes w s))
    ∙ ap (after_items (seen_in w seat)) (sym (append_assoc (receipts_to seat w s) (told_to seat before) (told_to seat (batch_notes w s))))
    ∙ fold-append after_item (seen_in w seat) (before_batches w s seat) (told_to seat (batch_notes w s))
    ∙ ap (λ k. after_items k (told_to seat (batch_notes w s))) (notes_show w s seat h (allowed w s r).unknown closed)
    ∙ batches_show once turn same notes w s seat h

step_by_shows : ((w : World) (s : Step) (seat : ℕ) → IsSound w → refusal w s ≡ None → does_close seat s ≡ false
    → after_items (seen_in w seat) (receipts_to seat w s ++ told_to seat (done_report w s).notes) ≡ seen_in (next w s) seat)
    → (o : Option CoreError) (b : Bool) (w : World) (s : Step) (seat : ℕ) → IsSound w → refusal w s ≡ o → is_stale w s ≡ b → does_close seat s ≡ false
    → after_items (seen_in w seat) (told_by seat w s (step_by o b w s).1) ≡ seen_in (step_by o b w s).0 seat
step_by_shows made (Some e) b w s seat h r t closed = refl
step_by_shows made None true w s seat h r t closed = ap (λ z. after_items (seen_in w seat) (z ++ [])) (no_receipt w s seat t)
step_by_shows made None false w s seat h r t closed = made w s seat h r closed

pub step_shows : SelectHasKeysOnce → ChangesTurn → RenewedIsOne → BatchesAreNotes → NotRefusedIsAllowed → StepShows
step_shows once turn same notes allowed w s seat h closed =
    step_by_shows (made_shows once turn same notes allowed) (refusal w s) (is_stale w s) w s seat h refl refl closed

-- ---- any steps

steps_show : StaysSound → StepShows → (w : World) (steps : List Step) (seat : ℕ) → IsSound w → All (λ (s : Step). does_close seat s ≡ false) steps
    → after_items (seen_in w seat) (told_in seat w steps) ≡ seen_in (world_after w steps) seat
steps_show stays one w [] seat h stays_open = refl
steps_show stays one w (s ∷ rest) seat h stays_open =
    let v = (step w s).0 in
    fold-append after_item (seen_in w seat) (told_by seat w s (step w s).1) (told_in seat v rest)
    ∙ ap (λ k. after_items k (told_in seat v rest)) (one w s seat h (All-head (λ (x : Step). does_close seat x ≡ false) s rest stays_open))
    ∙ steps_show stays one v rest seat (sound_by stays (refusal w s) (is_stale w s) w s h) (All-tail (λ (x : Step). does_close seat x ≡ false) s rest stays_open)

pub snapshots_are_core : StaysSound → WorldsAreSound → StepShows → SnapshotsAreCore
snapshots_are_core stays sound one limits steps seat stays_open = steps_show stays one (empty_world limits) steps seat (sound limits []) stays_open
