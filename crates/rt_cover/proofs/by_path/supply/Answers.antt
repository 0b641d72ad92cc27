use Rattle.std.proofs.Common.{◌≡◌, ◌||◌, sym, ap, ◌∙◌}
use Rattle.std.specs.List.{list_any}
use Rattle.rt_query.specs.QueryEq.{query_eq}
use Rattle.rt_query.specs.Ranges.{takes_in}
use Rattle.rt_cover.proofs.TakerLaws.{supplier_either}
use Rattle.rt_cover.proofs.by_path.supply.Goals as goal

pub returns-then-has_form : goal.returns-then-has_form
returns-then-has_form g c =
    let q = g.T.HasForm.form_of in
    let xs = c.args.by_path.now in
    c.if-has_form.true
    ∙ ap (λ b. b || list_any (λ x. takes_in (q x) c.args.query.now) xs) (sym c.if-has_form.true ∙ c.has_form.ensures)
    ∙ supplier_either q c.args.query.now xs c.requires.filtered

pub returns-else-has_form : goal.returns-else-has_form
returns-else-has_form g c =
    let q = g.T.HasForm.form_of in
    let xs = c.args.by_path.now in
    c.take_in.ensures
    ∙ ap (λ b. b || list_any (λ x. takes_in (q x) c.args.query.now) xs) (sym c.if-has_form.false ∙ c.has_form.ensures)
    ∙ supplier_either q c.args.query.now xs c.requires.filtered
