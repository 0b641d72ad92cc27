use Rattle.std.specs.List.{All}
use Rattle.rt_writes.specs.Writes.{IsShallow}
use Rattle.rt_calls.proofs.writes.entries.Given as goal

abbrev pub invariant-loop : goal.invariant-loop
invariant-loop l = All IsShallow l.entries.items
