use Rattle.std.proofs.Common.{◌≡◌, ◌++◌, [], map, ap, ◌∙◌, refl}
use Rattle.std.specs.Option.{option_and_then, option_map, option_map_or, option_to_list}
use Rattle.std.specs.Prelude.{◌==◌}
use Rattle.std.specs.List.{find}
use Rattle.rt_parts.specs.Settling.{entries_set}
use Rattle.rt_parts.specs.declared.requests.Settled.{Settled as Left}
use Rattle.rt_world.specs.declared.report.Body.TheVariants.{Settled}
use Rattle.rt_world.specs.declared.step.Request.{Request}
use Rattle.rt_world.specs.World.{pending}
use Rattle.rt_world.specs.Met.{all_told, renewed_met}
use Rattle.rt_world.specs.Touched.{entries_settled}
use Rattle.rt_sync.specs.declared.state.State.{State}
use Rattle.rt_sync.specs.inside.StateView.{held_of, world_of}
use Rattle.rt_sync.proofs.NextWorlds.{refreshes, seat_left, settle_made, settled_entries, settled_views, tied_after}
use Rattle.rt_sync.proofs.Viewed.{TouchLaws, follows_settled}
use Rattle.rt_sync.proofs.state.State.settle.Goals as goal

pub refresh-requires : goal.refresh-requires
refresh-requires c =
    let state : State = c.args.self.now in
    let laws : TouchLaws = record { children = c.touch_law.ensures.children; unmet = c.touch_law.ensures.unmet; touched = c.touch_law.ensures.touched; few = c.touch_law.ensures.few } in
    record {
      follow = follows_settled laws c.brought_law.ensures.pushed (held_of state) c.requires.viewed.pairs c.args.id c.args.why c.requires.due c.as_slice-entries.result.now
          (c.as_slice-entries.ensures ∙ c.left_of-settled.ensures.entries ∙ ap (λ o. option_map_or (λ (x : Left). x.entries) o []) c.in_ok-taken.ensures.settled
          ∙ settled_entries (world_of state) c.args.id c.args.why c.requires.due.not_stale)
          c.settle.new.self c.in_ok-taken.ensures.left c.pending-pending.result.now c.pending-pending.ensures;
    }

pub returns : goal.returns
returns c =
    let state : State = c.args.self.now in
    let pend : c.pending-pending.result.now ≡ pending c.settle.new.self = c.pending-pending.ensures in
    let entries = c.as_slice-entries.result.now in
    let same : c.as_slice-entries.result.now ≡ entries_settled (world_of state) c.args.id =
    c.as_slice-entries.ensures ∙ c.left_of-settled.ensures.entries ∙ ap (λ o. option_map_or (λ (x : Left). x.entries) o []) c.in_ok-taken.ensures.settled
    ∙ settled_entries (world_of state) c.args.id c.args.why c.requires.due.not_stale in
    let all = all_told entries state.brought (pending c.settle.new.self) state.listeners.listeners in
    let seat = c.left_of-settled.ensures.seat ∙ ap (option_and_then (λ (x : Left). x.seat)) c.in_ok-taken.ensures.settled
    ∙ seat_left (find (λ (r : Request). r.id == c.args.id) state.requests) (entries_set c.args.id state.requests) in
    record {
      tied = tied_after state c.stay_law.ensures.renewed c.requires.tied entries state.brought c.pending-pending.result.now _ refl c.in_ok-refresh.ensures.listeners;
      next = settle_made state c.settled_law.ensures.accepted c.settled_law.ensures.refused c.pending_law.ensures.settled c.args.id c.args.why c.requires.due entries same
          c.settle.new.self c.in_ok-taken.ensures.left c.refresh.new.self.listeners
          (c.in_ok-refresh.ensures.listeners ∙ ap (λ ws. map (renewed_met entries state.brought ws) state.listeners.listeners) pend) _ refl
          (c.in_ok-refresh.ensures.notes ∙ (λ i. c.tell_settled.new.notes.items ++ all_told entries state.brought (pend i) state.listeners.listeners)
          ∙ ap (λ z. z ++ all) (c.in_ok-tell_settled.ensures
          ∙ (λ i. c.new-notes.ensures.items i ++ option_to_list (option_map (λ x. record { seat = x; body = Settled c.args.id c.args.why }) (seat i)))));
      views = settled_views (held_of state) c.args.id c.args.why _
          (refreshes (held_of state) _ entries (entries_settled (world_of state) c.args.id) same c.pending-pending.result.now pend c.in_ok-refresh.ensures.listeners c.in_ok-refresh.ensures.views c.in_ok-refresh.ensures.counts);
    }
