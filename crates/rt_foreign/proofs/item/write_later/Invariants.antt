use Rattle.std.proofs.Common.{◌≡◌, ◌++◌, drop, string_bytes}
use Rattle.rt_foreign.specs.Items.{later_changes}
use Rattle.rt_foreign.proofs.item.write_later.Given as goal

-- what is written so far, and what is left to write, is all
abbrev pub invariant-loop-change : goal.invariant-loop-change
invariant-loop-change l =
    string_bytes l.initial.out ++ later_changes l.changes
    ≡ string_bytes l.out ++ later_changes (drop l.change-index l.changes)
