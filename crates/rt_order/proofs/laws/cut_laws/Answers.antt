use Rattle.rt_order.proofs.laws.cut_laws.Goals as goal
use Rattle.rt_order.proofs.CutLaws.{before_is_next_to, after_is_next_to, above_stays_after, ranges_are_runs}

pub returns : goal.returns
returns c = record { before = before_is_next_to; after = after_is_next_to; above = above_stays_after; runs = ranges_are_runs }
