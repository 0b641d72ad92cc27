use Rattle.rt_order.proofs.laws.cut_order_laws.Goals as goal
use Rattle.rt_order.specs.laws.CutOrder.{cut_cmp_total, cut_cmp-IsAntisymmetric, earlier_cuts_have_more}

pub returns : goal.returns
returns c = record { total = cut_cmp_total; exact = cut_cmp-IsAntisymmetric; earlier = earlier_cuts_have_more }
