use Rattle.std.specs.List.{All}
use Rattle.rt_cache.specs.Runs.{IsAllowed}
use Rattle.rt_calls.proofs.cache.calls.Given as goal

abbrev pub invariant-loop : goal.invariant-loop
invariant-loop l = All IsAllowed l.calls.items
