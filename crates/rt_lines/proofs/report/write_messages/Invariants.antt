use Rattle.std.proofs.Common.{◌≡◌, ◌++◌, drop, string_bytes}
use Rattle.std.specs.Prelude.{flat_map}
use Rattle.rt_lines.specs.Printing.{message_line}
use Rattle.rt_lines.proofs.report.write_messages.Given as goal

abbrev pub invariant-loop-message : goal.invariant-loop-message
invariant-loop-message l = string_bytes l.initial.out ++ flat_map message_line l.messages ≡ string_bytes l.out ++ flat_map message_line (drop l.message-index l.messages)
