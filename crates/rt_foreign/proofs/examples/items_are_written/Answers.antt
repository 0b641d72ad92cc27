use Rattle.std.proofs.Common.{refl}
use Rattle.std.specs.Fmt.{digits}
use Rattle.serde_json.proofs.OnLiterals.{serde_json_on_literals}
use Rattle.rt_tree.specs.Trees.{null, of_leaf, leaf_at, levels}
use Rattle.rt_tree.specs.Writing.{data_of}
use Rattle.rt_foreign.proofs.examples.items_are_written.Goals as goal

pub returns : goal.returns
unfolding serde_json_on_literals null of_leaf leaf_at levels data_of digits
returns c = (refl, refl, refl, refl)
