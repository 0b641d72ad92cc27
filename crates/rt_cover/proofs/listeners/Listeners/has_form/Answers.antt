use Rattle.std.proofs.Common.{◌==◌, not, length, ap, ◌∙◌}
use Rattle.std.specs.List.{list_any}
use Rattle.rt_query.specs.QueryEq.{query_eq}
use Rattle.rt_cover.specs.Cover.{Registered}
use Rattle.rt_query.specs.Supply.{form}
use Rattle.rt_cover.proofs.HeldLaws.{some_number}
use Rattle.rt_cover.proofs.listeners.Listeners.has_form.Goals as goal

pub returns : goal.returns
returns c =
    ap not (c.is_empty.ensures ∙ ap (λ ns. length ns == 0) (c.numbers.ensures ∙ c.self.invariant.numbers c.args.query.now))
    ∙ some_number (form c.args.query.now) c.self.inside.by_number.items
    ∙ (λ i. list_any (λ (l : Registered). query_eq l.1 (form c.args.query.now)) (c.self.view_is i))
