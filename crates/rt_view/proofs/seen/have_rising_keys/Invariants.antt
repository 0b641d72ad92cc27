use Rattle.std.proofs.Common.{◌≡◌, ℕ, ◌+◌, ◌<◌, get_or}
use Rattle.std.specs.declared.cmp.Ordering.TheVariants.{Less}
use Rattle.rt_tree.specs.PathTree.{key_cmp}
use Rattle.rt_view.specs.declared.seen.Seen.{Seen}
use Rattle.rt_view.proofs.seen.have_rising_keys.Given as goal

-- so far they rise
abbrev pub invariant-loop-next : goal.invariant-loop-next
invariant-loop-next l = (k : ℕ) (d : Seen) → k + 1 < l.next → key_cmp (get_or l.noted k d).key (get_or l.noted (k + 1) d).key ≡ Less
