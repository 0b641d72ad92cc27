use Rattle.std.proofs.Common.{not, ap, ◌∙◌}
use Rattle.std.specs.List.{list_any}
use Rattle.rt_cover.proofs.HeldLaws.{of_numbers}
use Rattle.rt_cover.proofs.supply.is_left.Goals as goal

pub returns : goal.returns
returns g c =
    c.has_left.ensures ∙ ap (list_any (λ m. not (g.E.EndedListeners.ended c.args.ending.now m))) c.numbers.ensures
    ∙ of_numbers c.args.form.now (λ m. not (g.E.EndedListeners.ended c.args.ending.now m)) c.args.listeners.now
