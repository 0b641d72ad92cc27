use Rattle.std.proofs.Common.{◌∙◌}
use Rattle.std.specs.Cmp.{unsigned_ties}
use Rattle.std.specs.Cmp.Lexicographic.{lists_ties}
use Rattle.std.specs.Ordering.{nat_cmp}
use Rattle.rt_tree.specs.Trees.{leaf_eq}
use Rattle.rt_tree.proofs.leaf.LeafPartialEq.eq.Goals as goal

pub returns-in-Text-Text : goal.returns-in-Text-Text
returns-in-Text-Text c =
    c.eq.ensures ∙ lists_ties nat_cmp unsigned_ties c.in-Text-Text.left.now c.in-Text-Text.right.now
    ∙ (λ i. leaf_eq (c.in-Text-Text.ensures.value i) (c.in-Text-Text.ensures'.value i))
