use Rattle.std.proofs.Common.{◌≡◌, ◌+◌, ap, rules}
use Rattle.rt_peer.specs.inside.Counts.{count_of}
use Rattle.rt_peer.proofs.CountLaws.{raised}
use Rattle.rt_peer.proofs.connections.raise.Goals as goal

pub returns-in-Ok-clause-ok : goal.returns-in-Ok-clause-ok
returns-in-Ok-clause-ok c n =
    let more : c.in-Some.count ≡ count_of c.args.counts.now.entries c.args.connection + 1 = search rules in
    raised c.args.connection c.in-Some.count c.args.counts.now.entries c.insert.new.self.entries c.in-Ok.ensures.updates.0 more n

pub returns-in-Err-clause-err : goal.returns-in-Err-clause-err
returns-in-Err-clause-err c n = ap (λ es. count_of es n) c.in-Err.ensures.err
