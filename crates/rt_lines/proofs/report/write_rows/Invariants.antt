use Rattle.std.proofs.Common.{◌≡◌, ◌++◌, drop, string_bytes}
use Rattle.std.specs.Prelude.{flat_map}
use Rattle.rt_lines.specs.Printing.{row_line}
use Rattle.rt_lines.proofs.report.write_rows.Given as goal

abbrev pub invariant-loop-row : goal.invariant-loop-row
invariant-loop-row l = string_bytes l.initial.out ++ flat_map row_line l.rows ≡ string_bytes l.out ++ flat_map row_line (drop l.row-index l.rows)
