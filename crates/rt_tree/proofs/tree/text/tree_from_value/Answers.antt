use Rattle.std.proofs.Common.{sym, None}
use Rattle.rt_tree.proofs.Readings.{places}
use Rattle.rt_tree.proofs.tree.text.tree_from_value.Goals as goal

pub build-requires : goal.build-requires
build-requires c = (0, None, places 0 c.in_ok-walk.field-0 _ (sym c.in_ok-walk.ensures.walked))
