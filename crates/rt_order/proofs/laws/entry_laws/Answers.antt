use Rattle.std.proofs.Common.{refl}
use Rattle.rt_order.proofs.laws.entry_laws.Goals as goal
use Rattle.rt_order.specs.laws.EntryOrder.{value_cmp_total, value_cmp-IsAntisymmetric, entry_cmp_total, entry_cmp-IsAntisymmetric}

pub returns : goal.returns
returns c = record {
  value_total = value_cmp_total;
  value_exact = value_cmp-IsAntisymmetric;
  entry_total = entry_cmp_total;
  entry_exact = entry_cmp-IsAntisymmetric;
  objects = λ j k. refl;
}
