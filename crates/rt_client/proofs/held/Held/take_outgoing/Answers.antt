use Rattle.std.proofs.Common.{◌≡◌, Some, sym, subst, rules}
use Rattle.rt_sync.specs.Core.{world_in}
use Rattle.rt_client.specs.Settling.{TakesFirst}
use Rattle.rt_client.proofs.Called.{held_of}
use Rattle.rt_client.proofs.Settled.{taken_first}
use Rattle.rt_client.proofs.held.Held.take_outgoing.Goals as goal

pub returns : goal.returns
returns c =
    let old = world_in c.self.inside.core in
    let new = world_in c.take_outgoing.new.self in
    let seen : c.args.self.now ≡ held_of (world_in c.self.inside.core) c.self.inside.lanes = search rules in
    let is : (world_in c.self.inside.core) ≡ Some c.requires.0 = search rules in
    subst (λ h. TakesFirst h c.take_outgoing.result (held_of new c.self.inside.lanes)) (sym seen)
    (taken_first old new c.self.inside.lanes c.requires.0 c.take_outgoing.result is c.take_outgoing.ensures.sent)
