use Rattle.std.proofs.Common.{◌≤◌}
use Rattle.rt_console.proofs.display.show_lines.Given as goal

abbrev pub invariant-loop-at : goal.invariant-loop-at
invariant-loop-at l = l.begun ≤ l.at
