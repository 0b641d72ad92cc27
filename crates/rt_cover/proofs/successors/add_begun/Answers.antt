use Rattle.std.proofs.Common.{◌||◌, ap, ◌∙◌}
use Rattle.std.specs.List.{list_any}
use Rattle.rt_cover.specs.inside.Endings.{by_number, begins_at}
use Rattle.rt_cover.proofs.AnyLaws.{any_at}
use Rattle.rt_cover.proofs.successors.add_begun.Goals as goal

pub loop-number-preserved : goal.loop-number-preserved
loop-number-preserved g c = λ p.
    any_at (begins_at (by_number (g.E.EndedListeners.ended c.args.ending.now)) c.args.listeners.now p)
    (list_any p c.loop-number.numbers.items) _ _ c.args.beside.now c.loop-number.number-index _
    c.loop-number-test.true (c.in_ok-add_some.ensures p ∙ ap (λ b. list_any p c.loop-number.numbers.items || b) (c.begun_at.ensures p)) (c.loop-number.invariant p)
