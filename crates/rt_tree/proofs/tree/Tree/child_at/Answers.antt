use Rattle.std.proofs.Common.{ap, ◌∙◌}
use Rattle.rt_tree.specs.Trees.{non_null, sub}
use Rattle.rt_tree.proofs.tree.Tree.child_at.Goals as goal

pub returns : goal.returns
returns c = c.at.ensures ∙ ap (λ p. non_null (sub c.args.self.now p)) c.from_ref.ensures.value
