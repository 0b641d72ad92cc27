use Rattle.std.proofs.Common.{◌≡◌, ◌++◌, ◌+◌, refl, rules}
use Rattle.rt_wire.specs.declared.request.Asked.TheVariants.{AtDisconnect}
use Rattle.rt_world.specs.declared.step.Step.{Step}
use Rattle.rt_world.specs.laws.Made.{asked_sent}
use Rattle.rt_sync.specs.declared.state.State.{State}
use Rattle.rt_sync.specs.inside.StateView.{held_of, world_of}
use Rattle.rt_sync.proofs.Counted.{same_refreshed}
use Rattle.rt_sync.proofs.NextWorlds.{ask_made}
use Rattle.rt_sync.proofs.state.State.ask_at_disconnect.Goals as goal

pub add-requires-clause-above : goal.add-requires-clause-above
add-requires-clause-above c = c.requires.due.good.sound.unsettled

pub add-requires-clause-apart : goal.add-requires-clause-apart
add-requires-clause-apart c = (c.refusal_law.ensures (world_of c.args.self.now) (Step.OnDisconnect c.args.seat c.args.ending) c.requires.due.not_refused).overlap

pub add-requires-clause-some : goal.add-requires-clause-some
add-requires-clause-some c = (c.refusal_law.ensures (world_of c.args.self.now) (Step.OnDisconnect c.args.seat c.args.ending) c.requires.due.not_refused).empty

pub add-requires-clause-shallow : goal.add-requires-clause-shallow
add-requires-clause-shallow c = (c.refusal_law.ensures (world_of c.args.self.now) (Step.OnDisconnect c.args.seat c.args.ending) c.requires.due.not_refused).deep

pub returns : goal.returns
returns c =
    let state : State = c.args.self.now in
    let sent : c.send_asked.new.outgoing.items ≡ state.outgoing.items ++ asked_sent state.is_connected (state.given_requests + 1) (AtDisconnect c.args.ending) = search rules in
    record {
      tied = record { listened = c.requires.tied.listened; last_tag = c.requires.tied.last_tag };
      next = ask_made state c.asked_law.ensures.ending c.args.seat c.args.ending c.requires.due c.send_asked.new.outgoing.items sent c.add.new.self c.in_ok-add.ensures.added _ refl c.new-notes.ensures.items;
      views = same_refreshed (held_of state) _ c.requires.viewed (record { listeners = refl; views = refl; counts = refl });
    }
