use Rattle.std.proofs.Common.{ap, sym, ◌∙◌}
use Rattle.rt_tree.specs.Trees.{is_null, put}
use Rattle.rt_tree.specs.laws.PathTree.{null_of_is_null}
use Rattle.rt_tree.proofs.Trees.{is_null-put}
use Rattle.rt_tree.proofs.tree.Tree.is_emptied.Goals as goal

pub returns-then-is_null : goal.returns-then-is_null
returns-then-is_null c =
    c.goes_without.ensures ∙ ap (λ u. is_null (put c.args.self.now c.args.keys.now u)) (sym (null_of_is_null c.args.tree.now (sym c.is_null.ensures ∙ c.if-is_null.true)))

pub returns-else-is_null : goal.returns-else-is_null
returns-else-is_null c = c.if-is_null.false ∙ sym (is_null-put c.args.self.now c.args.keys.now c.args.tree.now (sym c.is_null.ensures ∙ c.if-is_null.false))
