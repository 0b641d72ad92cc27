use Rattle.std.proofs.Common.{List, Option, Some, None, ◌≡◌, ◌++◌, map, ap, ◌∙◌, ◌+◌, refl, rules}
use Rattle.rt_tree.specs.Assignments.{Assignment}
use Rattle.rt_writes.specs.Writes.{entries_of as entries_at}
use Rattle.rt_wire.specs.declared.request.Asked.TheVariants.{Now}
use Rattle.rt_world.specs.declared.step.Step.{Step}
use Rattle.rt_world.specs.World.{pending, entries_of}
use Rattle.rt_world.specs.Met.{all_told, renewed_met}
use Rattle.rt_world.specs.laws.Made.{asked_sent}
use Rattle.rt_sync.specs.declared.state.State.{State}
use Rattle.rt_sync.specs.inside.StateView.{held_of, world_of}
use Rattle.rt_sync.proofs.LentEntries.{lent, not_lent}
use Rattle.rt_sync.proofs.NextWorlds.{refreshes, tied_after, write_made}
use Rattle.rt_sync.proofs.Viewed.{TouchLaws, follows_at}
use Rattle.rt_sync.proofs.state.State.write.Goals as goal

pub add-requires-clause-above : goal.add-requires-clause-above
add-requires-clause-above c = c.requires.due.good.sound.unsettled

pub add-requires-clause-apart : goal.add-requires-clause-apart
add-requires-clause-apart c = (c.refusal_law.ensures (world_of c.args.self.now) (Step.Write c.args.seat c.args.action) c.requires.due.not_refused).overlap

pub add-requires-clause-some : goal.add-requires-clause-some
add-requires-clause-some c = (c.refusal_law.ensures (world_of c.args.self.now) (Step.Write c.args.seat c.args.action) c.requires.due.not_refused).empty

pub add-requires-clause-shallow : goal.add-requires-clause-shallow
add-requires-clause-shallow c = (c.refusal_law.ensures (world_of c.args.self.now) (Step.Write c.args.seat c.args.action) c.requires.due.not_refused).deep

pub unreachable-requires : goal.unreachable-requires
unreachable-requires c =
    let state : State = c.args.self.now in
    let found : ◌≡◌ {A = Option (List Assignment)} None (entries_at (state.given_requests + 1) c.pending-pending.result.now) = search rules in
    not_lent (pending state.requests) c.pending-pending.result.now (state.given_requests + 1) (entries_of c.args.action)
    (c.asked_law.ensures.above (world_of state) c.requires.due.good.sound)
    (c.pending-pending.ensures ∙ ap pending c.in_ok-add.ensures.added ∙ c.pending_law.ensures.write state.requests (state.given_requests + 1) (Some c.args.seat) c.args.action)
    found

pub refresh-requires : goal.refresh-requires
refresh-requires c =
    let state : State = c.args.self.now in
    let found : Some c.in-Some.written.now ≡ entries_at (state.given_requests + 1) c.pending-pending.result.now = search rules in
    let same : c.in-Some.written.now ≡ entries_of c.args.action =
    lent (pending state.requests) c.pending-pending.result.now (state.given_requests + 1) (entries_of c.args.action) c.in-Some.written.now
    (c.asked_law.ensures.above (world_of state) c.requires.due.good.sound)
    (c.pending-pending.ensures ∙ ap pending c.in_ok-add.ensures.added ∙ c.pending_law.ensures.write state.requests (state.given_requests + 1) (Some c.args.seat) c.args.action)
    found in
    let laws : TouchLaws = record { children = c.touch_law.ensures.children; unmet = c.touch_law.ensures.unmet; touched = c.touch_law.ensures.touched; few = c.touch_law.ensures.few } in
    record {
      follow = follows_at laws c.brought_law.ensures.pushed (held_of state) c.requires.viewed.pairs (Step.Write c.args.seat c.args.action) c.requires.due refl refl c.in-Some.written.now same state.brought refl
          c.pending-pending.result.now (c.pending-pending.ensures ∙ ap pending c.in_ok-add.ensures.added);
    }

pub returns : goal.returns
returns c =
    let state : State = c.args.self.now in
    let entries = c.in-Some.written.now in
    let pend : c.pending-pending.result.now ≡ pending c.add.new.self = c.pending-pending.ensures in
    let found : Some c.in-Some.written.now ≡ entries_at (state.given_requests + 1) c.pending-pending.result.now = search rules in
    let same : c.in-Some.written.now ≡ entries_of c.args.action =
    lent (pending state.requests) c.pending-pending.result.now (state.given_requests + 1) (entries_of c.args.action) c.in-Some.written.now
    (c.asked_law.ensures.above (world_of state) c.requires.due.good.sound)
    (c.pending-pending.ensures ∙ ap pending c.in_ok-add.ensures.added ∙ c.pending_law.ensures.write state.requests (state.given_requests + 1) (Some c.args.seat) c.args.action)
    found in
    let sent : c.send_asked.new.outgoing.items ≡ state.outgoing.items ++ asked_sent state.is_connected (state.given_requests + 1) (Now c.args.action) = search rules in
    record {
      tied = tied_after state c.stay_law.ensures.renewed c.requires.tied entries state.brought c.pending-pending.result.now _ refl c.in_ok-refresh.ensures.listeners;
      next = write_made state c.asked_law.ensures.write c.pending_law.ensures.write c.args.seat c.args.action c.requires.due entries same c.add.new.self c.in_ok-add.ensures.added c.refresh.new.self.listeners
          (c.in_ok-refresh.ensures.listeners ∙ ap (λ ws. map (renewed_met entries state.brought ws) state.listeners.listeners) pend)
          c.send_asked.new.outgoing.items sent _ refl
          (c.in_ok-refresh.ensures.notes ∙ (λ i. c.new-notes.ensures.items i ++ all_told entries state.brought (pend i) state.listeners.listeners));
      views = refreshes (held_of state) _ entries (entries_of c.args.action) same c.pending-pending.result.now pend c.in_ok-refresh.ensures.listeners c.in_ok-refresh.ensures.views c.in_ok-refresh.ensures.counts;
    }
