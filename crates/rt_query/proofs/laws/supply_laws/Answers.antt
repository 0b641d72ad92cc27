use Rattle.rt_query.specs.laws.NeededLaws.{supplies_itself, supplies_trans, supplies_antisymm}
use Rattle.rt_query.specs.laws.NeededLaws.{needed_fewest}
use Rattle.rt_query.proofs.laws.supply_laws.Goals as goal

pub returns : goal.returns
returns c = record {
  itself = supplies_itself;
  onward = supplies_trans;
  one_way = supplies_antisymm;
  fewest = needed_fewest;
}
