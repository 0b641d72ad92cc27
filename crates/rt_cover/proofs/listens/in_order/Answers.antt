use Rattle.std.proofs.Common.{subst}
use Rattle.rt_cover.specs.inside.Index.{SameCounts}
use Rattle.rt_cover.proofs.listens.in_order.Goals as goal

pub returns-clause-same : goal.returns-clause-same
returns-clause-same c = subst (SameCounts c.sort_by_form.new.listens.items) c.in_ok-ordered.ensures c.sort_by_form.ensures.same
