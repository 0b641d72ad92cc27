use Rattle.rt_order.proofs.laws.equality_laws.Goals as goal
use Rattle.rt_order.specs.laws.Equality.{index_eq_tells, mark_eq_tells, place_eq_tells, cut_eq_tells, range_eq_tells}

pub returns : goal.returns
returns c = record { index = index_eq_tells; mark = mark_eq_tells; place = place_eq_tells; cut = cut_eq_tells; range = range_eq_tells }
