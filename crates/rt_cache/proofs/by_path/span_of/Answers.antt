use Rattle.rt_cache.proofs.ByQueries.{at_query, from_after}
use Rattle.rt_cache.proofs.by_path.span_of.Goals as goal

pub returns-clause-ordered : goal.returns-clause-ordered
returns-clause-ordered g c =
    from_after g.T.HasQuery.query_of c.args.query.now c.args.items.now c.first_of-start.result c.first_after.result c.first_of-start.ensures.point c.first_after.ensures.point c.first_of-start.ensures.within

pub returns-clause-exact : goal.returns-clause-exact
returns-clause-exact g c = λ k d lt.
    at_query g.T.HasQuery.query_of c.args.query.now c.args.items.now c.first_of-start.result c.first_after.result k d c.first_of-start.ensures.point c.first_after.ensures.point lt
