use Rattle.std.proofs.Common.{◌≡◌, map, sym, ap, ◌∙◌}
use Rattle.std.specs.List.{filter}
use Rattle.std.proofs.lemmas.Result.{IfOk-weaker}
use Rattle.rt_tree.specs.PathTree.{path_eq}
use Rattle.rt_tree.specs.Assignments.{is_at_or_above}
use Rattle.rt_query.specs.Queries.{Query}
use Rattle.rt_query.specs.Supply.{does_supply}
use Rattle.rt_cover.specs.Cover.{Tagged}
use Rattle.rt_cover.proofs.ListenLaws.{at_filtered, under_plain}
use Rattle.rt_cover.proofs.listens.tags_by_path.Goals as goal

pub returns-then-is_filtered : goal.returns-then-is_filtered
returns-then-is_filtered c =
    let f : Query = c.args.form.now in
    let ks = c.args.by_path.now in
    let same : c.keys.result.now ≡ f.path = c.keys.ensures.keys ∙ c.path.ensures in
    IfOk-weaker c.tags_among.result _ _ (λ v is. is
    ∙ ap (map (λ (k : Tagged). k.tag))
    (ap (filter (λ (k : Tagged). does_supply f k.form)) (c.at_path.ensures ∙ (λ i. filter (λ (k : Tagged). path_eq (k.form).path (same i)) ks))
    ∙ at_filtered f ks (sym c.is_filtered.ensures ∙ c.if-is_filtered.true))) c.tags_among.ensures

pub returns-else-is_filtered : goal.returns-else-is_filtered
returns-else-is_filtered c =
    let f : Query = c.args.form.now in
    let ks = c.args.by_path.now in
    IfOk-weaker c.tags_of.result _ _ (λ v is. is
    ∙ ap (map (λ (k : Tagged). k.tag))
    (c.under.ensures ∙ (λ i. filter (λ (k : Tagged). is_at_or_above (c.path-else-is_filtered.ensures i) (k.form).path) ks)
    ∙ under_plain f ks (sym c.is_filtered.ensures ∙ c.if-is_filtered.false))) c.tags_of.ensures
