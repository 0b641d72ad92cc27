use Rattle.std.proofs.Common.{◌≡◌, ap, ◌∙◌}
use Rattle.std.specs.List.{dedup}
use Rattle.std.proofs.lemmas.List.Filters.{dedup_is}
use Rattle.rt_query.specs.QueryEq.{query_eq}
use Rattle.rt_cache.specs.Recover.{is_among}
use Rattle.rt_parts.proofs.RenewalLaws.{among_once}
use Rattle.rt_parts.proofs.renewal.sort_queries_once.Goals as goal

pub returns : goal.returns
returns c = λ q.
    let is : c.dedup.new.self.items ≡ dedup query_eq c.sort_queries.new.queries.items = dedup_is query_eq c.sort_queries.new.queries.items c.dedup.new.self.items c.dedup.ensures.filtered in
    ap (λ xs. is_among xs q) is ∙ among_once c.sort_queries.new.queries.items q ∙ c.sort_queries.ensures.same q
