use Rattle.std.proofs.Common.{◌∙◌}
use Rattle.rt_peer.proofs.PutBehind.{own_count}
use Rattle.rt_peer.proofs.actions.Actions.count_of.Goals as goal

pub returns : goal.returns
returns c = c.count_of.ensures ∙ own_count c.args.connection c.self.inside.placed c.args.self.now c.self.view_is
