use Rattle.std.proofs.Common.{◌≡◌, drop}
use Rattle.rt_peer.specs.Pushes.{written}
use Rattle.rt_peer.proofs.write.Measured.put_all.Given as goal

abbrev pub invariant-loop-path : goal.invariant-loop-path
invariant-loop-path l = written l.self (drop l.path-index l.entries) ≡ written l.initial.self l.entries
