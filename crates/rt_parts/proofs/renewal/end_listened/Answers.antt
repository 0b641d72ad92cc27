use Rattle.std.proofs.Common.{◌∙◌}
use Rattle.rt_parts.proofs.EndingLaws.{left_by_form}
use Rattle.rt_parts.proofs.renewal.end_listened.Goals as goal

pub returns-clause-left : goal.returns-clause-left
returns-clause-left c = c.end_each.ensures.left ∙ left_by_form c.args.listened.now c.args.numbers.now c.args.held.now.items c.requires.numbers
