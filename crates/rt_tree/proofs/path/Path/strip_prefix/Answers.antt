use Rattle.std.proofs.Common.{◌∙◌}
use Rattle.rt_tree.specs.Leaves.{strip}
use Rattle.rt_tree.proofs.PathLemmas.{strip_of_cases}
use Rattle.rt_tree.proofs.path.Path.strip_prefix.Goals as goal

pub returns : goal.returns
returns c =
    strip_of_cases c.keys-2.result.now c.keys.result.now c.strip_prefix.result c.strip_prefix.ensures.cases
    ∙ (λ i. strip (c.keys-2.ensures.keys i) (c.keys.ensures.keys i))
