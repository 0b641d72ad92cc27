use Rattle.std.proofs.Common.{not, ap, ◌∙◌}
use Rattle.std.specs.List.{list_any}
use Rattle.rt_cover.proofs.HeldLaws.{plain_left}
use Rattle.rt_cover.proofs.supply.has_plain.Goals as goal

pub returns : goal.returns
returns g c =
    c.has_left.ensures ∙ ap (list_any (λ m. not (g.E.EndedListeners.ended c.args.ending.now m))) c.plain_numbers.ensures
    ∙ plain_left c.args.path.now (g.E.EndedListeners.ended c.args.ending.now) c.args.listeners.now c.requires
