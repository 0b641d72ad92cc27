use Rattle.std.proofs.Common.{◌≡◌, drop}
use Rattle.rt_emulate.specs.Origins.{behind_scheme}
use Rattle.rt_emulate.proofs.origins.behind_scheme.Given as goal

abbrev pub invariant-loop-at : goal.invariant-loop-at
invariant-loop-at l = behind_scheme l.text ≡ behind_scheme (drop l.at l.text)
