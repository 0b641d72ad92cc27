use Rattle.rt_hub.proofs.Members.{none_is}
use Rattle.rt_hub.proofs.refusal.has_none.Goals as goal

pub returns : goal.returns
returns c = none_is c.args.members.now.entries c.is_empty.result c.is_empty.ensures
