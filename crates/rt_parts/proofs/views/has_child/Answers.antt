use Rattle.std.proofs.Common.{◌≡◌, [], is_some, sym, ap, ◌∙◌, rules}
use Rattle.rt_tree.specs.PathTree.{child_of}
use Rattle.rt_tree.specs.Children.{children_of}
use Rattle.rt_parts.proofs.KnownLaws.{has_child}
use Rattle.rt_parts.proofs.views.has_child.Goals as goal

pub returns-in-Some : goal.returns-in-Some
returns-in-Some c =
    let there : c.contains_key.result ≡ is_some (child_of (children_of c.args.tree.now) c.args.key.now) = search rules in
    there ∙ has_child c.args.tree.now c.args.key.now

pub returns-in-None : goal.returns-in-None
returns-in-None c =
    let none : children_of c.args.tree.now ≡ [] = search rules in
    ap (λ es. is_some (child_of es c.args.key.now)) (sym none) ∙ has_child c.args.tree.now c.args.key.now
