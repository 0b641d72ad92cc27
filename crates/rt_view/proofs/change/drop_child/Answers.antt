use Rattle.std.proofs.Common.{◌∙◌}
use Rattle.rt_view.proofs.ReplayLaws.{remove_entry-without}
use Rattle.rt_view.proofs.change.drop_child.Goals as goal

pub returns-clause-gone : goal.returns-clause-gone
returns-clause-gone c = c.remove.ensures.entries ∙ remove_entry-without c.args.children.now.entries c.args.key.now c.requires
