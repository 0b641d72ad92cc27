use Rattle.std.proofs.Common.{nat_lt, ◌&&◌, not, ap, ◌∙◌}
use Rattle.std.specs.List.{list_any}
use Rattle.rt_cover.specs.Cover.{Registered}
use Rattle.rt_cover.specs.State.{numbers_of}
use Rattle.rt_cover.proofs.HeldLaws.{seen_left}
use Rattle.rt_cover.proofs.supply.is_seen.Goals as goal

pub returns : goal.returns
returns g c =
    let l : Registered = c.args.listener.now in
    c.has_lesser_left.ensures
    ∙ (λ i. list_any (λ m. nat_lt m (c.number.ensures i) && not (g.E.EndedListeners.ended c.args.ending.now m)) ((c.numbers-numbers.ensures ∙ ap (numbers_of c.args.listeners.now) c.form.ensures) i))
    ∙ seen_left l.1 (g.E.EndedListeners.ended c.args.ending.now) l.0 c.args.listeners.now
