use Rattle.std.proofs.Common.{◌≡◌, ◌++◌, drop}
use Rattle.std.specs.Option.{option_map}
use Rattle.rt_lines.specs.Calls.{calls_of}
use Rattle.rt_lines.specs.inside.FormView.{as_calls, views}
use Rattle.rt_lines.proofs.call.calls_of.Given as goal

abbrev pub invariant-loop-value : goal.invariant-loop-value
invariant-loop-value l = calls_of (views l.values) ≡ option_map (λ rest. as_calls l.found.items ++ rest) (calls_of (views (drop l.value-index l.values)))
