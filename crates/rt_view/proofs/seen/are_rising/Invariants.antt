use Rattle.std.proofs.Common.{◌≡◌, ℕ, ◌+◌, ◌<◌, get_or}
use Rattle.std.specs.declared.cmp.Ordering.TheVariants.{Less}
use Rattle.rt_order.specs.Entries.{entry_cmp}
use Rattle.rt_view.proofs.seen.are_rising.Given as goal

-- so far they rise
abbrev pub invariant-loop-next : goal.invariant-loop-next
invariant-loop-next g l = (k : ℕ) (d : _) → k + 1 < l.next → entry_cmp (get_or l.children k d).0 (get_or l.children (k + 1) d).0 ≡ Less
