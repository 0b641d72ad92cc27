use Rattle.std.proofs.Common.{◌≡◌, true, ap, sym, subst, ◌∙◌, rules}
use Rattle.std.specs.List.{All}
use Rattle.rt_tree.specs.Allowed.{IsAllowed}
use Rattle.rt_tree.specs.Children.{children_of, is_object}
use Rattle.rt_view.specs.Views.{with_named}
use Rattle.rt_view.specs.inside.Differences.{differing}
use Rattle.rt_view.proofs.DifferLaws.{Fits, named_fit, object_leaf, turned_into}
use Rattle.rt_view.proofs.touch.few_differing.Goals as goal

pub returns-clause-turns : goal.returns-clause-turns
returns-clause-turns c =
    let old = c.args.old.now in
    let new = c.args.new.now in
    let was : is_object old ≡ true = search rules in
    let is : is_object new ≡ true = search rules in
    let named : c.in_ok-named.named.items ≡ differing (children_of old) (children_of new) = search rules in
    ap (with_named old) named ∙ turned_into old new (object_leaf old was) (object_leaf new is)

pub returns-clause-fits : goal.returns-clause-fits
returns-clause-fits c =
    let old = c.args.old.now in
    let new = c.args.new.now in
    let allowed : IsAllowed new = search rules in
    let named : c.in_ok-named.named.items ≡ differing (children_of old) (children_of new) = search rules in
    subst (All Fits) (sym named) (named_fit old new allowed)
