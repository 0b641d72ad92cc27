use Rattle.std.proofs.Common.{drop}
use Rattle.rt_hub.proofs.Done.{ArePut, checks}
use Rattle.rt_hub.proofs.lines.Waiting.check_all.Given as goal

abbrev pub invariant-loop-one : goal.invariant-loop-one
invariant-loop-one l =
    ArePut (checks l.bounds) l.initial.self l.sent l.self (drop l.one-index l.sent)
