use Rattle.std.proofs.Common.{rules, tests, ap, sym, ◌∙◌, length, ltb-true}
use Rattle.std.specs.Cmp.Lexicographic.{texts_ties}
use Rattle.std.proofs.lemmas.List.Folds.{list_any_at}
use Rattle.rt_tree.specs.PathTree.{key_eq}
use Rattle.rt_view.proofs.view.stands_at.Goals as goal

pub returns-in-Some : goal.returns-in-Some
returns-in-Some c e =
    let there = c.in-Some.ensures.lookup in
    list_any_at (λ d. key_eq d.0 c.args.key.now) c.args.named.now c.args.at c.in-Some.child.now
    (ltb-true c.args.at (length c.args.named.now) (sym there.0))
    (ap (λ d. key_eq d.0 c.args.key.now) (sym there.1) ∙ search (rules, tests, texts_ties))
