use Rattle.std.proofs.Common.{◌≡◌, true, List, sym, ap, subst, ◌∙◌}
use Rattle.std.specs.List.{filter, list_any, All}
use Rattle.std.specs.List.Sorted.{IsSorted}
use Rattle.rt_tree.specs.PathTree.{path_eq}
use Rattle.rt_query.specs.Queries.{Query, is_filtered}
use Rattle.rt_query.specs.Supply.{does_supply}
use Rattle.rt_cover.specs.Cover.{Tagged}
use Rattle.rt_cover.specs.inside.Index.{by_form, form_of, AreApart}
use Rattle.rt_cover.proofs.ListenLaws.{all_there, none_supplying, ranges_there}
use Rattle.rt_cover.proofs.SearchLaws.{sorted_filter}
use Rattle.rt_cover.proofs.SuppliedLaws.{apart_fewer, any_filter}
use Rattle.rt_cover.proofs.listens.have_range.Goals as goal

pub supply-requires-clause-order : goal.supply-requires-clause-order
supply-requires-clause-order c =
    subst (IsSorted (by_form form_of)) (sym c.at_path.ensures)
    (sorted_filter form_of (λ (k : Tagged). path_eq (k.form).path c.keys.result.now) c.args.by_path.now c.requires.order)

pub supply-requires-clause-filtered : goal.supply-requires-clause-filtered
supply-requires-clause-filtered c =
    subst (All (λ (k : Tagged). is_filtered k.form ≡ true)) (sym c.at_path.ensures)
    (ranges_there c.args.query.now c.args.by_path.now c.requires.none c.keys.result.now (c.keys.ensures.keys ∙ c.path.ensures))

pub supply-requires-clause-apart : goal.supply-requires-clause-apart
supply-requires-clause-apart c =
    let at = λ (k : Tagged). path_eq (k.form).path c.keys.result.now in
    subst (AreApart form_of) (sym c.at_path.ensures)
    (apart_fewer form_of c.args.by_path.now (filter at c.args.by_path.now) (any_filter at c.args.by_path.now) c.requires.apart)

pub returns-then-is_filtered : goal.returns-then-is_filtered
returns-then-is_filtered c =
    let q : Query = c.args.query.now in
    let ks : List Tagged = c.args.by_path.now in
    let same : c.keys.result.now ≡ q.path = c.keys.ensures.keys ∙ c.path.ensures in
    c.supply.ensures
    ∙ ap (list_any (λ (k : Tagged). does_supply k.form q)) (c.at_path.ensures ∙ (λ i. filter (λ (k : Tagged). path_eq (k.form).path (same i)) ks))
    ∙ sym (all_there q ks c.requires.none (λ (k : Tagged). does_supply k.form q) (λ k e. e))

pub returns-else-is_filtered : goal.returns-else-is_filtered
returns-else-is_filtered c =
    c.if-is_filtered.false
    ∙ sym (none_supplying c.args.query.now c.args.by_path.now c.requires.none (sym c.is_filtered.ensures ∙ c.if-is_filtered.false))
