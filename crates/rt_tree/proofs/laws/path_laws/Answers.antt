use Rattle.std.proofs.Common.{ap, ◌∙◌}
use Rattle.rt_tree.specs.Leaves.{strip}
use Rattle.rt_tree.specs.laws.Prefixes.{strip-append, strip-some}
use Rattle.rt_tree.specs.laws.PathTree.{length_lt_levels, levels_le}
use Rattle.rt_tree.proofs.laws.path_laws.Goals as goal

pub returns : goal.returns
returns c = record {
  prefix = λ p q r. (strip-some p q r, λ e. ap (strip p) e ∙ strip-append p r);
  levels = λ t. (length_lt_levels t, levels_le t);
}
