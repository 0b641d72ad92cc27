use Rattle.std.proofs.Common.{◌≡◌, ◌∷◌, ◌++◌, map, refl, rules}
use Rattle.rt_cover.specs.State.{shown}
use Rattle.rt_wire.specs.declared.client.ClientMessage.{ClientMessage}
use Rattle.rt_wire.specs.declared.limits.TheConstants.{VERSION}
use Rattle.rt_world.specs.Messages.{request_message}
use Rattle.rt_sync.specs.declared.state.State.{State}
use Rattle.rt_sync.specs.inside.Parts.{listens_shown}
use Rattle.rt_sync.specs.inside.StateView.{held_of}
use Rattle.rt_sync.proofs.Counted.{same_refreshed}
use Rattle.rt_sync.proofs.NextWorlds.{connect_made}
use Rattle.rt_sync.proofs.state.State.connect.Goals as goal

pub returns : goal.returns
returns c =
    let state : State = c.args.self.now in
    let sent : c.send_requests.new.outgoing.items ≡ ClientMessage.Hello VERSION ∷ (listens_shown (shown state.cover) ++ map request_message state.requests) = search rules in
    record {
      tied = record { listened = c.requires.tied.listened; last_tag = c.requires.tied.last_tag };
      next = connect_made state c.connection_law.ensures.connected c.requires.due c.send_requests.new.outgoing.items sent _ refl c.new-notes.ensures.items;
      views = same_refreshed (held_of state) _ c.requires.viewed (record { listeners = refl; views = refl; counts = refl });
    }
