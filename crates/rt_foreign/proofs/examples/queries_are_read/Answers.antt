use Rattle.std.proofs.Common.{refl}
use Rattle.serde_json.proofs.OnLiterals.{serde_json_on_literals}
use Rattle.rt_tree.specs.Trees.{null, of_leaf, leaf_at}
use Rattle.rt_foreign.proofs.examples.queries_are_read.Goals as goal

pub returns : goal.returns
unfolding serde_json_on_literals null of_leaf leaf_at
returns c = (refl, refl, refl, refl, refl)
