use Rattle.std.specs.Prelude.{◌≡◌, take}
use Rattle.rt_query.proofs.row.copy_rows.Given as goal

abbrev pub invariant-loop-row : goal.invariant-loop-row
invariant-loop-row l = l.copies.items ≡ take l.row-index l.row-items
