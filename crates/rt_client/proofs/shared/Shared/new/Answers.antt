use Rattle.std.proofs.Common.{rules, ◌≡◌, Some, replicate, sym, subst}
use Rattle.rt_world.specs.World.{empty_world, limits_from}
use Rattle.rt_sync.specs.Core.{world_in}
use Rattle.rt_client.specs.Lanes.{new_lane}
use Rattle.rt_client.specs.Shared.{IsWhole}
use Rattle.rt_client.proofs.Called.{held_of}
use Rattle.rt_client.proofs.Unknown.{opened_is_whole}
use Rattle.rt_client.proofs.shared.Shared.new.Goals as goal

pub invariant_of-result : goal.invariant_of-result
invariant_of-result c =
    let core : world_in c.new-core.result ≡ Some (empty_world (limits_from c.args.limits)) = search rules in
    let lanes : c.in_ok-lanes.lanes ≡ replicate c.args.seats (Some new_lane) = search rules in
    subst IsWhole (sym (λ i. held_of (core i) (lanes i)))
    (opened_is_whole c.keeping_law.ensures.whole (limits_from c.args.limits) c.args.seats)
