use Rattle.std.proofs.Common.{refl}
use Rattle.serde_json.proofs.OnLiterals.{serde_json_on_literals}
use Rattle.std.specs.Fmt.{digits}
use Rattle.rt_tree.specs.Trees.{null, of_leaf, is_null, leaf_at, sub, put, with_children, children_alone, levels, children_of, tree_eq}
use Rattle.rt_tree.specs.Writing.{data_of}
use Rattle.rt_script.proofs.examples.refused_lines.Goals as goal

pub returns : goal.returns
unfolding serde_json_on_literals digits null of_leaf is_null leaf_at sub put with_children children_alone levels children_of tree_eq data_of
returns c = refl
