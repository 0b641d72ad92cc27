use Rattle.std.proofs.Common.{◌≡◌, [], ap, sym, subst, ◌∙◌, rules}
use Rattle.rt_tree.specs.Children.{children_of}
use Rattle.rt_query.specs.Select.{sorted_by}
use Rattle.rt_view.specs.inside.Windows.{Entries, IsApart, IsOrdering}
use Rattle.rt_view.specs.inside.ViewIndex.{entries_of}
use Rattle.rt_view.proofs.Orderings.{apart_children, ordered_children}
use Rattle.rt_view.proofs.position.in_order.Goals as goal

pub ordered-requires : goal.ordered-requires
ordered-requires c =
    let index = c.args.index.now in
    let all : c.in-Some.children.now.entries ≡ children_of c.args.known.now = search rules in
    subst IsApart (sym (c.in_ok-found.ensures ∙ ap (entries_of index) all)) (apart_children index c.args.known.now)

pub returns : goal.returns
returns c =
    let index = c.args.index.now in
    let all : c.in-Some.children.now.entries ≡ children_of c.args.known.now = search rules in
    ordered_children index c.args.known.now c.ordered.result.items (subst (λ (es : Entries). IsOrdering es c.ordered.result.items) (c.in_ok-found.ensures ∙ ap (entries_of index) all) c.ordered.ensures)

pub returns-in_default : goal.returns-in_default
returns-in_default c =
    let none : children_of c.args.known.now ≡ [] = search rules in
    let made : c.new.result.items ≡ [] = search rules in
    made ∙ sym (ap (sorted_by c.args.index.now) none)
