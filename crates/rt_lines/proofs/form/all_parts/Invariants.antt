use Rattle.std.proofs.Common.{◌≡◌, ◌++◌, drop}
use Rattle.std.specs.Option.{option_map}
use Rattle.rt_lines.specs.Forms.{all_parts}
use Rattle.rt_lines.specs.inside.FormView.{as_parts, views}
use Rattle.rt_lines.proofs.form.all_parts.Given as goal

abbrev pub invariant-loop-value : goal.invariant-loop-value
invariant-loop-value l = all_parts (views l.values) ≡ option_map (λ rest. as_parts l.found.items ++ rest) (all_parts (views (drop l.value-index l.values)))
