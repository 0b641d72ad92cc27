use Rattle.rt_cover.specs.laws.CoverLaws.{needed_fewest}
use Rattle.rt_cover.proofs.laws.needed_law.Goals as goal

pub returns : goal.returns
returns c = needed_fewest
