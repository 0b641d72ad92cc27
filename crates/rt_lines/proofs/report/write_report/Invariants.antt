use Rattle.std.proofs.Common.{◌≡◌, ◌++◌, drop, string_bytes}
use Rattle.std.specs.Prelude.{flat_map}
use Rattle.rt_lines.specs.Printing.{note_text}
use Rattle.rt_lines.proofs.report.write_report.Given as goal

abbrev pub invariant-loop-note : goal.invariant-loop-note
invariant-loop-note l = string_bytes l.initial.out ++ flat_map note_text l.note-items ≡ string_bytes l.out ++ flat_map note_text (drop l.note-index l.note-items)
