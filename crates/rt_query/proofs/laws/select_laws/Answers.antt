use Rattle.rt_query.proofs.laws.select_laws.Goals as goal
use Rattle.rt_query.specs.laws.Select.{select-distinct, select-whole}

pub returns : goal.returns
returns c = record { once = select-distinct; whole = select-whole }
