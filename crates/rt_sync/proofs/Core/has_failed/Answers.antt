use Rattle.std.proofs.Common.{subst}
use Rattle.std.specs.Option.{IfSome}
use Rattle.rt_world.specs.Limited.{IsWithin}
use Rattle.rt_world.specs.laws.Holds.{IsSteady}
use Rattle.rt_sync.specs.Core.{world_in}
use Rattle.rt_sync.proofs.GoodWorlds.{steady_in, within_in}
use Rattle.rt_sync.proofs.Core.has_failed.Goals as goal

pub returns-clause-steady : goal.returns-clause-steady
returns-clause-steady c = subst (λ o. IfSome (world_in o) IsSteady) c.self.view_is (steady_in c.self.inside.state c.self.invariant)

pub returns-clause-within : goal.returns-clause-within
returns-clause-within c = subst (λ o. IfSome (world_in o) IsWithin) c.self.view_is (within_in c.self.inside.state c.self.invariant)
