use Rattle.std.proofs.Common.{◌≡◌, drop}
use Rattle.rt_journal.specs.Entries.{number_in, number_on}
use Rattle.rt_journal.proofs.line.number_in.Given as goal

abbrev pub invariant-loop-digit : goal.invariant-loop-digit
invariant-loop-digit l = number_in l.digits ≡ number_on l.number (drop l.digit-index l.digits)
