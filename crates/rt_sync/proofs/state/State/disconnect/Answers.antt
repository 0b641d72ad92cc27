use Rattle.std.proofs.Common.{refl}
use Rattle.rt_sync.specs.declared.state.State.{State}
use Rattle.rt_sync.specs.inside.StateView.{held_of}
use Rattle.rt_sync.proofs.Counted.{same_refreshed}
use Rattle.rt_sync.proofs.NextWorlds.{disconnect_made}
use Rattle.rt_sync.proofs.state.State.disconnect.Goals as goal

pub returns : goal.returns
returns c =
    let state : State = c.args.self.now in
    record {
      tied = record { listened = c.requires.tied.listened; last_tag = c.requires.tied.last_tag };
      next = disconnect_made state c.connection_law.ensures.disconnected c.requires.due c.clear.new.self.items c.clear.ensures.items _ refl c.new-notes.ensures.items;
      views = same_refreshed (held_of state) _ c.requires.viewed (record { listeners = refl; views = refl; counts = refl });
    }
