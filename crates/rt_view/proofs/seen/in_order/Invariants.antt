use Rattle.std.proofs.Common.{◌≡◌, ◌++◌, length}
use Rattle.rt_view.specs.inside.Telling.{put_all}
use Rattle.rt_view.proofs.seen.in_order.Given as goal

abbrev pub invariant-loop-child : goal.invariant-loop-child
invariant-loop-child g l = l.list.items ++ l.map.entries ≡ put_all l.fn.children.items

abbrev pub decreases-loop-child : goal.decreases-loop-child
decreases-loop-child g l = length l.map.entries
