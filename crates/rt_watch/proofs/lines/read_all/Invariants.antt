use Rattle.std.proofs.Common.{◌≡◌, ◌+◌}
use Rattle.rt_watch.proofs.lines.read_all.Given as goal

abbrev pub invariant-loop : goal.invariant-loop
invariant-loop g l =
    (g.I.Source.given l.reader ≡ g.I.Source.given l.fn.reader + l.read.count)
    × (g.I.Source.failures l.reader ≡ g.I.Source.failures l.fn.reader)
