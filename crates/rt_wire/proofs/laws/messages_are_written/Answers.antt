use Rattle.std.proofs.Common.{refl}
use Rattle.serde_json.proofs.OnLiterals.{serde_json_on_literals}
use Rattle.std.specs.Fmt.{digits}
use Rattle.rt_tree.specs.Trees.{null, of_leaf, is_null, leaf_at, sub, put, levels, children_of}
use Rattle.rt_tree.specs.Writing.{data_of}
use Rattle.rt_wire.proofs.laws.messages_are_written.Goals as goal

pub returns : goal.returns
unfolding serde_json_on_literals digits null of_leaf is_null leaf_at sub put levels children_of data_of
returns c = (refl, refl, refl, refl, refl, refl)
