use Rattle.std.proofs.Common.{◌∙◌}
use Rattle.rt_parts.proofs.PairLaws.{own_meet}
use Rattle.rt_parts.proofs.views.do_meet.Goals as goal

pub returns : goal.returns
returns c = c.any_meets.ensures ∙ own_meet c.args.entries.now c.args.own.now c.args.path.now c.requires
