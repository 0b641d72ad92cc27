use Rattle.rt_cover.proofs.SearchLaws.{rest_is}
use Rattle.rt_cover.proofs.successors.behind.Goals as goal

pub returns : goal.returns
returns g c = rest_is c.args.items.now c.args.count
