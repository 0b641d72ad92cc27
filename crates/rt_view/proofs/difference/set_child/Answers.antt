use Rattle.std.proofs.Common.{ap, ◌∙◌, rules, ◌≡◌, Some, None, false, refl}
use Rattle.rt_tree.specs.PathTree.{leaf_of, is_null, null}
use Rattle.rt_view.proofs.TreeLaws.{leaf_of-put, put_sets, full, empty}
use Rattle.rt_view.proofs.difference.set_child.Goals as goal

pub returns-clause-object : goal.returns-clause-object
returns-clause-object c = ap leaf_of c.in_ok-put_child.ensures.put ∙ leaf_of-put c.args.tree.now c.args.seen.now.key c.in-Some.child c.requires.object

pub returns-clause-set : goal.returns-clause-set
returns-clause-set c =
    let some : Some c.in-Some.child ≡ c.args.seen.now.new = search rules in
    let whole : is_null c.in-Some.child ≡ false = search rules in
    put_sets c.args.tree.now c.put_child.new.tree c.args.seen.now.key c.in-Some.child c.args.seen.now.new c.in_ok-put_child.ensures.put (full c.in-Some.child whole ∙ some)

pub returns-in_default-clause-object : goal.returns-in_default-clause-object
returns-in_default-clause-object c = ap leaf_of c.in_ok-drop_child.ensures ∙ leaf_of-put c.args.tree.now c.args.seen.now.key null c.requires.object

pub returns-in_default-clause-set : goal.returns-in_default-clause-set
returns-in_default-clause-set c =
    let none : None ≡ c.args.seen.now.new = search rules in
    put_sets c.args.tree.now c.drop_child.new.tree c.args.seen.now.key null c.args.seen.now.new c.in_ok-drop_child.ensures (empty null refl ∙ none)
