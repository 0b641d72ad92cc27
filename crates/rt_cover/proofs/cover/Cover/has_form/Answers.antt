use Rattle.std.proofs.Common.{sym, ◌∙◌}
use Rattle.std.specs.List.{list_any}
use Rattle.rt_query.specs.Supply.{form}
use Rattle.rt_query.specs.QueryEq.{query_eq}
use Rattle.rt_cover.specs.Cover.{forms}
use Rattle.rt_cover.specs.laws.Registered.{any_form}
use Rattle.rt_cover.proofs.cover.Cover.has_form.Goals as goal

pub returns : goal.returns
returns c =
    c.has_form.ensures
    ∙ sym (any_form (form c.args.query.now) c.self.inside.listeners)
    ∙ (λ i. list_any (λ f. query_eq f (form c.args.query.now)) (forms ((c.self.view_is i).listeners)))
