use Rattle.std.proofs.Common.{◌≡◌, length}
use Rattle.rt_connect.specs.Ahead.{up_to}
use Rattle.rt_connect.proofs.link.take_up_to.Given as goal

abbrev pub invariant-due : goal.invariant-due
invariant-due l = up_to l.name l.fn.due.items ≡ up_to l.name l.due.items

abbrev pub decreases-due : goal.decreases-due
decreases-due l = length l.due.items
