use Rattle.std.proofs.Common.{◌≡◌, drop}
use Rattle.rt_connect.specs.Ahead.{is_due}
use Rattle.rt_connect.proofs.link.is_due.Given as goal

abbrev pub invariant-loop-place : goal.invariant-loop-place
invariant-loop-place l = is_due l.name l.due.items ≡ is_due l.name (drop l.place l.due.items)
