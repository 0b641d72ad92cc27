use Rattle.std.proofs.Common.{ℕ, ◌||◌, ap, ◌∙◌}
use Rattle.std.specs.List.{list_any}
use Rattle.rt_cover.specs.inside.Endings.{by_number, is_lost_by}
use Rattle.rt_cover.proofs.AnyLaws.{any_at}
use Rattle.rt_cover.proofs.cover.Cover.tags_lost.Goals as goal

pub loop-number-preserved : goal.loop-number-preserved
loop-number-preserved g c = λ p.
    any_at (λ (n : ℕ). list_any (is_lost_by (by_number (g.E.EndedListeners.ended c.args.ending.now)) c.args.self.now.listeners p n) c.args.self.now.kept)
    (list_any p c.loop-number.tags.items) _ _ c.args.numbers.now c.loop-number.number-index _
    c.loop-number-test.true (c.in_ok-add_some.ensures p ∙ ap (λ b. list_any p c.loop-number.tags.items || b) (c.lost_tag.ensures p)) (c.loop-number.invariant p)
