use Rattle.std.proofs.Common.{◌∙◌}
use Rattle.rt_tree.specs.PathTree.{key_cmp}
use Rattle.rt_view.proofs.ReplayLaws.{insert_entry-put}
use Rattle.rt_view.proofs.seen.set_seen.Goals as goal

pub returns : goal.returns
returns c = c.in_ok-insert.ensures.entries ∙ insert_entry-put key_cmp c.args.seen.now.entries c.args.key c.args.one
