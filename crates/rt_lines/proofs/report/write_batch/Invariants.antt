use Rattle.std.proofs.Common.{◌≡◌, ◌++◌, drop, string_bytes}
use Rattle.std.specs.Prelude.{flat_map}
use Rattle.rt_lines.specs.Printing.{change_line}
use Rattle.rt_lines.proofs.report.write_batch.Given as goal

abbrev pub invariant-loop-change : goal.invariant-loop-change
invariant-loop-change l = string_bytes l.initial.out ++ flat_map (change_line l.listener) l.change-items ≡ string_bytes l.out ++ flat_map (change_line l.listener) (drop l.change-index l.change-items)
