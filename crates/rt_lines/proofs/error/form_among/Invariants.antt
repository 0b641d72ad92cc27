use Rattle.std.proofs.Common.{◌≡◌, drop}
use Rattle.rt_lines.specs.Bad.{form_among, rows_of}
use Rattle.rt_lines.proofs.error.form_among.Given as goal

abbrev pub invariant-loop-row : goal.invariant-loop-row
invariant-loop-row l = form_among l.word (rows_of l.forms) ≡ form_among l.word (rows_of (drop l.row-index l.forms))
