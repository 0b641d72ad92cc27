use Rattle.std.proofs.Common.{ap, ◌∙◌}
use Rattle.rt_cache.specs.Recover.{is_among}
use Rattle.rt_parts.proofs.renewal.in_order.Goals as goal

pub returns-clause-same : goal.returns-clause-same
returns-clause-same c = λ q. c.sort_queries.ensures.same q ∙ ap (λ qs. is_among qs q) c.in_ok-ordered.ensures
