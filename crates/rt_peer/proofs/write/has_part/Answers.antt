use Rattle.std.proofs.Common.{ap, ◌∙◌}
use Rattle.rt_tree.specs.Trees.{tree_eq}
use Rattle.rt_peer.proofs.PartLaws.{part-none}
use Rattle.rt_peer.proofs.StandingLaws.{null_eq}
use Rattle.rt_peer.proofs.write.has_part.Goals as goal

pub returns-in-None : goal.returns-in-None
returns-in-None c =
    c.is_null.ensures ∙ null_eq c.args.part.now
    ∙ ap (λ t. tree_eq t c.args.part.now) (part-none _ c.in-None.ensures)
