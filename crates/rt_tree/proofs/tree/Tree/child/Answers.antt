use Rattle.std.proofs.Common.{◌≡◌, [], sym, ap, ◌∙◌, rules}
use Rattle.rt_tree.specs.Trees.{child_of, children_of}
use Rattle.rt_tree.specs.laws.Children.{child_of-children_of}
use Rattle.rt_tree.proofs.tree.Tree.child.Goals as goal

pub returns-in-Some : goal.returns-in-Some
returns-in-Some c =
    let whole : c.in-Some.children.now.entries ≡ children_of c.args.self.now = search rules in
    c.named_in.ensures ∙ ap (λ es. child_of es c.args.name.now) whole ∙ child_of-children_of c.args.self.now c.args.name.now

pub returns-in-None : goal.returns-in-None
returns-in-None c =
    let none : children_of c.args.self.now ≡ [] = search rules in
    ap (λ es. child_of es c.args.name.now) (sym none) ∙ child_of-children_of c.args.self.now c.args.name.now
