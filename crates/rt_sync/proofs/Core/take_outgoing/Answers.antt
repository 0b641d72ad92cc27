use Rattle.std.proofs.Common.{◌≡◌, sym, subst, Some, rules}
use Rattle.std.specs.Option.{IfSome}
use Rattle.rt_world.specs.World.{World}
use Rattle.rt_sync.specs.Core.{without_first}
use Rattle.rt_sync.specs.declared.state.State.{State}
use Rattle.rt_sync.specs.inside.Due.{IsGood}
use Rattle.rt_sync.specs.inside.StateView.{held_of, world_of}
use Rattle.rt_sync.specs.inside.States.{HoldsWell}
use Rattle.rt_sync.specs.inside.Viewed.{ArePaired}
use Rattle.rt_sync.proofs.GoodWorlds.{good_sent}
use Rattle.rt_sync.proofs.Viewed.{sent_viewed}
use Rattle.rt_sync.proofs.Core.take_outgoing.Goals as goal

pub invariant_of-self-2 : goal.invariant_of-self-2
invariant_of-self-2 c =
    let old : State = c.in-Some.state in
    let new : State = c.take_outgoing.new.self in
    let there : c.self.inside.state ≡ Some c.in-Some.state = search rules in
    let well : HoldsWell old = subst (λ o. IfSome o HoldsWell) there c.self.invariant in
    let sent : without_first (world_of old) ≡ world_of (record old { outgoing = new.outgoing }) = λ i. record (world_of old) { outgoing = sym c.take_outgoing.ensures.rest i } in
    subst HoldsWell (sym c.take_outgoing.ensures.kept) (record {
      tied = record { listened = well.tied.listened; last_tag = well.tied.last_tag };
      good = subst IsGood sent (good_sent c.sending_law.ensures.steady (world_of old) well.good);
      viewed = record {
        pairs = subst (λ (w : World). ArePaired (record (held_of old) { world = w })) sent (sent_viewed (held_of old) well.viewed.pairs);
        counted = well.viewed.counted;
      };
    })
