use Rattle.std.proofs.Common.{drop}
use Rattle.rt_hub.proofs.Done.{ArePut, puts}
use Rattle.rt_hub.proofs.lines.Waiting.put_each.Given as goal

abbrev pub invariant-loop-one : goal.invariant-loop-one
invariant-loop-one l =
    ArePut puts l.initial.self l.sent l.self (drop l.one-index l.sent)
