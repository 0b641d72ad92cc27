use Rattle.rt_query.proofs.laws.range_laws.Goals as goal
use Rattle.rt_query.specs.laws.RangeLaws.{wider_has_all, takes_in-trans, takes_in-antisymm}

pub returns : goal.returns
returns c = record { wider = wider_has_all; onward = takes_in-trans; one_way = takes_in-antisymm }
