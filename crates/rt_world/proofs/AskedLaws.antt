-- Requests and the connection, as a core makes them.
use Rattle.std.proofs.Common.{◌≡◌, ℕ, ◌<◌, true, false, cond, List, [], ◌∷◌, ◌++◌, refl, ◌∙◌, arith, Some}
use Rattle.std.specs.List.{All}
use Rattle.std.proofs.lemmas.List.Elements.{All-cons, All-head, All-tail}
use Rattle.rt_writes.specs.Writes.{Write}
use Rattle.rt_wire.specs.declared.client.ClientMessage.{ClientMessage}
use Rattle.rt_wire.specs.declared.request.Asked.{Asked}
use Rattle.rt_wire.specs.declared.request.Asked.TheVariants.{Now, AtDisconnect}
use Rattle.rt_world.specs.declared.step.Request.{Request}
use Rattle.rt_world.specs.declared.step.Step.{Step}
use Rattle.rt_world.specs.World.{pending, entries_of}
use Rattle.rt_world.specs.After.{requests_after, counted, request_given}
use Rattle.rt_world.specs.Messages.{messages_of, outgoing_before}
use Rattle.rt_world.specs.laws.Made.{asked_sent, writes_with, WriteIsMade, EndingIsMade, ConnectedIsMade, DisconnectedIsMade, WritesAreShallow, NextIsAbovePending}
use Rattle.rt_world.proofs.LimitLaws.{allowed}
use Rattle.rt_world.proofs.Reaching.{none_deep}
use Rattle.rt_world.proofs.StillLaws.{still_leaves_listens, next_is, told_is, map_unmet, told_unmet}
use Rattle.rt_world.proofs.WrittenLaws.{pending-write}

-- ---- requests

pub write_is_made : WriteIsMade
write_is_made w seat action d p =
    let s : Step = Step.Write seat action in
    let h = still_leaves_listens w s d p refl in
    let ws : List Write = writes_with w action in
    let ew : pending (requests_after w s) ≡ ws = pending-write w.requests w.next_request (Some seat) action in
    let em : outgoing_before w s ++ messages_of w s ≡ w.outgoing ++ asked_sent w.is_connected w.next_request (Now action) = (λ i. w.outgoing ++ cond w.is_connected (h.messages i) []) in
    record {
      world = next_is w s h w.brought ws (w.outgoing ++ asked_sent w.is_connected w.next_request (Now action)) refl ew em;
      notes = told_is w s h w.brought ws refl ew;
    }

pub ending_is_made : EndingIsMade
ending_is_made w seat ending d p =
    let s : Step = Step.OnDisconnect seat ending in
    let h = still_leaves_listens w s d p refl in
    let ws : List Write = pending (requests_after w s) in
    let ms : List ClientMessage = w.outgoing ++ asked_sent w.is_connected w.next_request (AtDisconnect ending) in
    let em : outgoing_before w s ++ messages_of w s ≡ ms = (λ i. w.outgoing ++ cond w.is_connected (h.messages i) []) in
    record {
      world = next_is w s h w.brought ws ms refl refl em ∙ (λ i. record w {
        listeners = map_unmet w.brought ws w.listeners i;
        requests = requests_after w s;
        outgoing = ms;
        next_request = counted w.next_request (request_given w s);
      });
      notes = told_is w s h w.brought ws refl refl ∙ told_unmet w.brought ws w.listeners;
    }

-- ---- the connection

pub connected_is_made : ConnectedIsMade
connected_is_made w d p =
    let s : Step = Step.Connected in
    let h = still_leaves_listens w s d p refl in
    let ws : List Write = pending w.requests in
    record {
      world = next_is w s h w.brought ws (messages_of w s) refl refl refl ∙ (λ i. record w {
        listeners = map_unmet w.brought ws w.listeners i;
        is_connected = true;
        outgoing = messages_of w s;
      });
      notes = told_is w s h w.brought ws refl refl ∙ told_unmet w.brought ws w.listeners;
    }

pub disconnected_is_made : DisconnectedIsMade
disconnected_is_made w d p =
    let s : Step = Step.Disconnected in
    let h = still_leaves_listens w s d p refl in
    let ws : List Write = pending w.requests in
    record {
      world = next_is w s h w.brought ws [] refl refl refl ∙ (λ i. record w {
        listeners = map_unmet w.brought ws w.listeners i;
        is_connected = false;
        outgoing = [];
      });
      notes = told_is w s h w.brought ws refl refl ∙ told_unmet w.brought ws w.listeners;
    }

-- ---- what a write may be asked

pub writes_are_shallow : WritesAreShallow
writes_are_shallow w seat action free =
    none_deep (entries_of action) (allowed w (Step.Write seat action) free).deep

-- the writes of requests below a number are below it
writes_below : (n : ℕ) (rs : List Request) → All (λ (r : Request). r.id < n) rs → All (λ (x : Write). x.id < n) (pending rs)
writes_below n [] h = λ k d lt. absurd (omega arith)
writes_below n (r ∷ rs) h = at r.asked (All-head (λ (x : Request). x.id < n) r rs h) (writes_below n rs (All-tail (λ (x : Request). x.id < n) r rs h))
  where
    with_asked : Asked → Request
    with_asked x = record { id = r.id; seat = r.seat; asked = x }

    at : (x : Asked) → r.id < n → All (λ (y : Write). y.id < n) (pending rs) → All (λ (y : Write). y.id < n) (pending (with_asked x ∷ rs))
    at (Now action) low rest = All-cons (λ (y : Write). y.id < n) (record { id = r.id; entries = entries_of action }) (pending rs) low rest
    at (AtDisconnect ending) low rest = rest

pub next_is_above_pending : NextIsAbovePending
next_is_above_pending w h = writes_below w.next_request w.requests h.unsettled
