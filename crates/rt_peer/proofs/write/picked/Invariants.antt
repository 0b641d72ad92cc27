use Rattle.std.proofs.Common.{◌≡◌, ◌++◌, drop}
use Rattle.rt_peer.specs.inside.Met.{picked}
use Rattle.rt_peer.proofs.write.picked.Given as goal

abbrev pub invariant-loop-number : goal.invariant-loop-number
invariant-loop-number l =
    l.own.items ++ picked l.entries (drop l.number-index l.numbers) ≡ picked l.entries l.numbers
