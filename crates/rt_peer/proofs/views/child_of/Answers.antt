use Rattle.std.proofs.Common.{◌∙◌}
use Rattle.rt_peer.proofs.PartLaws.{part-none}
use Rattle.rt_peer.proofs.views.child_of.Goals as goal

pub returns-in-None : goal.returns-in-None
returns-in-None c = c.null.ensures ∙ part-none _ c.in-None.ensures
