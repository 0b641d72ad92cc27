use Rattle.rt_order.proofs.laws.key_laws.Goals as goal
use Rattle.rt_order.specs.laws.KeyOrder.{key_cmp_total, key_cmp-IsAntisymmetric}

pub returns : goal.returns
returns c = record { total = key_cmp_total; exact = key_cmp-IsAntisymmetric }
