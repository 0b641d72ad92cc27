use Rattle.std.proofs.Common.{◌≡◌, drop}
use Rattle.rt_emulate.specs.Origins.{from}
use Rattle.rt_emulate.proofs.origins.from.Given as goal

abbrev pub invariant-loop-at : goal.invariant-loop-at
invariant-loop-at l = from l.stop l.text ≡ from l.stop (drop l.at l.text)
