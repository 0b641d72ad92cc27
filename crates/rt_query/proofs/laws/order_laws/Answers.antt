use Rattle.rt_query.proofs.laws.order_laws.Goals as goal
use Rattle.rt_query.specs.laws.QueryOrder.{queries_are_ordered}

pub returns : goal.returns
returns c = queries_are_ordered
