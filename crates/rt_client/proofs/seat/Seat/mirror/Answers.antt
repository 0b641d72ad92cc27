use Rattle.std.proofs.Common.{ap, subst}
use Rattle.rt_client.specs.Calls.{Seated}
use Rattle.rt_client.specs.Delivery.{TakesSome}
use Rattle.rt_client.proofs.seat.Seat.mirror.Goals as goal

pub returns-in_default-clause-refused : goal.returns-in_default-clause-refused
returns-in_default-clause-refused c =
    let ring = c.mirror_all.new.inbox in
    let t = c.in_default.ensures.some in (
      ring,
      subst (λ (s : Seated). TakesSome s.ring c.args.mirror.now ring c.mirror_all.new.mirror) c.self.view_is t,
      ap (λ (s : Seated). record s { ring = ring }) c.self.view_is,
    )
