use Rattle.std.proofs.Common.{◌≡◌, Some, sym, subst, rules}
use Rattle.rt_sync.specs.Core.{world_in}
use Rattle.rt_client.specs.Settling.{HasCover}
use Rattle.rt_client.proofs.Called.{held_of}
use Rattle.rt_client.proofs.Settled.{has_cover}
use Rattle.rt_client.proofs.held.Held.cover.Goals as goal

pub returns-in-Ok : goal.returns-in-Ok
returns-in-Ok c =
    let core = world_in c.self.inside.core in
    let seen : c.args.self.now ≡ held_of (world_in c.self.inside.core) c.self.inside.lanes = search rules in
    let is : (world_in c.self.inside.core) ≡ Some c.requires.0 = search rules in
    let same : c.into_vec.result.items ≡ c.in-Ok.kept = search rules in
    subst (λ l. HasCover c.args.self.now l) (sym same)
    (subst (λ h. HasCover h c.in-Ok.kept) (sym seen) (has_cover core c.self.inside.lanes c.requires.0 c.in-Ok.kept is c.in-Ok.ensures))
