use Rattle.std.proofs.Common.{◌≡◌, ◌-◌, None, Some, refl, ap, arith}
use Rattle.std.specs.Option.{unwrap_or}
use Rattle.rt_peer.specs.inside.Counts.{count_of}
use Rattle.rt_peer.proofs.CountLaws.{lowered}
use Rattle.rt_peer.proofs.connections.lower.Goals as goal

pub returns-then-count-le1 : goal.returns-then-count-le1
returns-then-count-le1 c n =
    let none : 0 ≡ count_of c.args.counts.now.entries c.args.connection - 1 = omega (arith, c.count_of-count.ensures, c.if-count-le1.true) in
    lowered c.args.connection 0 None c.args.counts.now.entries c.remove.new.self.entries c.remove.ensures.updates.0 refl none n

pub returns-in-Ok : goal.returns-in-Ok
returns-in-Ok c n =
    let less : c.count_of-count.result - 1 ≡ count_of c.args.counts.now.entries c.args.connection - 1 = ap (λ m. m - 1) c.count_of-count.ensures in
    lowered c.args.connection (c.count_of-count.result - 1) (Some (c.count_of-count.result - 1)) c.args.counts.now.entries c.insert.new.self.entries
    c.in-Ok.ensures.updates.0 refl less n

-- a key that is there takes no memory
pub returns-in-Err : goal.returns-in-Err
returns-in-Err c n =
    let none : count_of c.args.counts.now.entries c.args.connection ≡ 0 = ap (λ r. unwrap_or r 0) c.in-Err.ensures.absent in
    absurd (omega (arith, none, c.count_of-count.ensures, c.if-count-le1.false))
