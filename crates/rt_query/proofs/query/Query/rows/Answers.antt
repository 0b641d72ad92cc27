use Rattle.std.proofs.Common.{◌≡◌, ap, sym, ◌∙◌, subst, map}
use Rattle.std.specs.Result.{IfOk}
use Rattle.std.specs.List.Sorted.{IsPermutation}
use Rattle.std.proofs.lemmas.List.Sorted.{IsPermutation-map}
use Rattle.rt_tree.specs.Children.{children_of, children_sorted}
use Rattle.rt_query.specs.Select.{limited, row_of}
use Rattle.rt_query.specs.inside.Sorting.{in_range, seen}
use Rattle.rt_query.proofs.SortLaws.{sorted_children, limited-map}
use Rattle.rt_query.proofs.query.Query.rows.Goals as goal

pub returns-clause-rows : goal.returns-clause-rows
returns-clause-rows c =
    let q = c.args.self.now in
    let t = c.args.tree.now in
    let sorted = c.sort.new.children.items in
    let found = c.in_ok-children.ensures ∙ ap (in_range q) c.in-Some.ensures.children in
    let same = subst (λ es. IsPermutation es (map seen sorted)) found (IsPermutation-map seen _ _ c.sort.ensures.permutation) in
    let shown = ap (map seen) (c.as_slice.ensures.value ∙ c.cut.ensures ∙ ap (λ p. limited p.limit sorted) c.self.view_is)
    ∙ sym (limited-map q.limit seen sorted) ∙ ap (limited q.limit) (sorted_children q (children_of t) sorted (children_sorted t) same c.sort.ensures.sorted) in
    subst (λ es. IfOk c.rows.result (λ rows. rows.items ≡ map row_of es)) shown c.rows.ensures
