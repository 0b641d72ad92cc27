use Rattle.std.proofs.Common.{◌≡◌, ◌++◌, drop, false}
use Rattle.std.specs.Option.{option_map}
use Rattle.rt_journal.specs.Entries.{unescaped}
use Rattle.rt_journal.proofs.line.unescape.Given as goal

abbrev pub invariant-loop-byte : goal.invariant-loop-byte
invariant-loop-byte l =
    unescaped false l.part
    ≡ option_map (λ t. l.text.items ++ t) (unescaped l.is_behind (drop l.byte-index l.part))
