-- Settlements and pushes, as a core makes them.
use Rattle.std.proofs.Common.{◌≡◌, true, false, ◌||◌, List, [], ◌∷◌, ◌++◌, map, refl, ap, ◌∙◌, Some, None, append-nil, is_some}
use Rattle.std.specs.Prelude.{if◌then◌else◌}
use Rattle.std.specs.List.{filter, filter_map, fold}
use Rattle.std.specs.Option.{option_map, option_map_or}
use Rattle.rt_tree.specs.Assignments.{Assignment}
use Rattle.rt_writes.specs.Writes.{Write, without}
use Rattle.rt_cache.specs.Brought.{Brought}
use Rattle.rt_wire.specs.declared.client.ClientMessage.{ClientMessage}
use Rattle.rt_world.specs.declared.report.Body.TheVariants.{Cancelled}
use Rattle.rt_world.specs.declared.report.Note.{Note}
use Rattle.rt_world.specs.declared.step.Step.{Step}
use Rattle.rt_world.specs.World.{World, pending}
use Rattle.rt_world.specs.steps.Kind.{Kind}
use Rattle.rt_world.specs.steps.Revoking.{is_cancelled}
use Rattle.rt_world.specs.After.{requests_after, part_pushed, pushed, counted}
use Rattle.rt_world.specs.Messages.{greeting, request_sent, messages_online, messages_of, outgoing_before}
use Rattle.rt_world.specs.Answers.{settled_note, settled_notes, batch_notes}
use Rattle.rt_world.specs.Touched.{entries_settled, entries_asked, entries_pushed}
use Rattle.rt_world.specs.Met.{renewed_met, all_told}
use Rattle.rt_world.specs.laws.Made.{AcceptedIsMade, RefusedIsMade, PushIsMade}
use Rattle.rt_world.proofs.NoteLaws.{settled_once_told}
use Rattle.rt_world.proofs.StillLaws.{still_leaves_listens, next_is, told_is, none_sent}
use Rattle.rt_world.proofs.WrittenLaws.{pending-without}

-- ---- settlements

-- the notes of a settlement, where none is told of its end
both_told : (a b c d : List Note) → a ≡ c → b ≡ d → (a ++ []) ++ b ≡ c ++ d
both_told a b c d e f = λ i. (append-nil a ∙ e) i ++ f i

pub accepted_is_made : AcceptedIsMade
accepted_is_made w id d p =
    let s : Step = Step.Accepted id in
    let h = still_leaves_listens w s d p refl in
    let ws : List Write = without id (pending w.requests) in
    let ew : pending (requests_after w s) ≡ ws = pending-without id w.requests in
    record {
      world = next_is w s h w.brought ws w.outgoing refl ew (none_sent w.is_connected w.outgoing (messages_online w s) h.messages);
      notes = both_told (settled_notes w s) (batch_notes w s) _ _ (settled_once_told (id, None) w.requests d.sound.requests) (told_is w s h w.brought ws refl ew);
    }

pub refused_is_made : RefusedIsMade
refused_is_made w id why d p =
    let s : Step = Step.Refused id why in
    let h = still_leaves_listens w s d p refl in
    let ws : List Write = without id (pending w.requests) in
    let ew : pending (requests_after w s) ≡ ws = pending-without id w.requests in
    record {
      world = next_is w s h w.brought ws w.outgoing refl ew (none_sent w.is_connected w.outgoing (messages_online w s) h.messages);
      notes = both_told (settled_notes w s) (batch_notes w s) _ _ (settled_once_told (id, Some why) w.requests d.sound.requests) (told_is w s h w.brought ws refl ew);
    }

-- ---- pushes

-- what a step of that kind leaves, which opens and ends nothing: the entries, the world, the messages to
-- be sent, and the notes of ends
entries_in : World → Kind → List Assignment
entries_in w k =
    option_map_or (λ d. entries_settled w d.0) k.settled
    (option_map_or (λ a. entries_asked a.1) k.asked (entries_pushed k.parts))

world_in : World → Brought → Kind → World
world_in w b k = record {
  limits = w.limits;
  listeners = map (renewed_met (entries_in w k) b (pending w.requests)) w.listeners;
  requests = k.requests w;
  brought = b;
  kept = w.kept;
  is_connected = if k.opens then true else if k.closes then false else w.is_connected;
  outgoing = w.outgoing;
  next_listener = counted w.next_listener (if k.registers then Some w.next_listener else None);
  next_request = counted w.next_request (option_map (λ _. w.next_request) k.asked);
  next_tag = w.next_tag;
}

sent_in : World → List ClientMessage → Kind → List ClientMessage
sent_in w online k =
    (if k.opens || k.closes then [] else w.outgoing)
    ++ (if k.opens then greeting w else if k.closes then [] else if w.is_connected then online else [])

ends_in : World → Kind → List Note
ends_in w k =
    option_map_or (λ d. filter_map (settled_note d) w.requests) k.settled []
    ++ option_map_or (λ r. map (λ l. record { seat = l.seat; body = Cancelled l.number r.1 }) (filter (is_cancelled w r.0) w.listeners)) k.revoked []

pub push_is_made : PushIsMade
unfolding entries_in world_in sent_in ends_in
push_is_made w s parts is d p =
    let online : List ClientMessage = messages_online w s in
    let b : Brought = fold (part_pushed w) w.brought parts in
    let h = still_leaves_listens w s d p (ap (λ (k : Kind). is_some k.change) is) in
    let eb : pushed w s ≡ b = ap (λ (k : Kind). fold (part_pushed w) w.brought k.parts) is in
    let ew : pending (requests_after w s) ≡ pending w.requests = ap (λ (k : Kind). pending (k.requests w)) is in
    let asks : request_sent w s ≡ [] = ap (λ (k : Kind). option_map_or (λ asked. ClientMessage.Ask w.next_request asked.1 ∷ []) k.asked []) is in
    let em : outgoing_before w s ++ messages_of w s ≡ w.outgoing = ap (sent_in w online) is ∙ none_sent w.is_connected w.outgoing online (h.messages ∙ asks) in
    record {
      world = next_is w s h b (pending w.requests) w.outgoing eb ew em ∙ ap (world_in w b) is;
      notes = ap (λ (k : Kind). ends_in w k ++ batch_notes w s) is ∙ told_is w s h b (pending w.requests) eb ew
          ∙ ap (λ (k : Kind). all_told (entries_in w k) b (pending w.requests) w.listeners) is;
    }
