use Rattle.rt_cover.specs.laws.CoverLaws.{supplies_itself, supplies_trans, supplies_antisymm}
use Rattle.rt_cover.proofs.laws.supply_law.Goals as goal

pub returns : goal.returns
returns c = record { itself = supplies_itself; onward = supplies_trans; one_way = supplies_antisymm }
