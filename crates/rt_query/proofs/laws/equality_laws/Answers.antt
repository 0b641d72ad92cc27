use Rattle.rt_query.proofs.laws.equality_laws.Goals as goal
use Rattle.rt_query.specs.laws.QueryEq.{query_eq_tells, shown_eq_tells}

pub returns : goal.returns
returns c = (query_eq_tells, shown_eq_tells)
