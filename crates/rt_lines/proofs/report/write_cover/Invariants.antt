use Rattle.std.proofs.Common.{◌≡◌, ◌++◌, drop, string_bytes}
use Rattle.std.specs.Prelude.{flat_map}
use Rattle.rt_lines.specs.Printing.{kept_line}
use Rattle.rt_lines.proofs.report.write_cover.Given as goal

abbrev pub invariant-loop-kept : goal.invariant-loop-kept
invariant-loop-kept l = string_bytes l.initial.out ++ flat_map kept_line l.cover ≡ string_bytes l.out ++ flat_map kept_line (drop l.kept-index l.cover)
