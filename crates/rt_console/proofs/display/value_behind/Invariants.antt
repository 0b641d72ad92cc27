use Rattle.std.proofs.Common.{◌≡◌, drop}
use Rattle.rt_console.specs.Shown.{value_behind}
use Rattle.rt_console.proofs.display.value_behind.Given as goal

abbrev pub invariant-loop-at : goal.invariant-loop-at
invariant-loop-at l = value_behind l.rest ≡ value_behind (drop l.at l.rest)
