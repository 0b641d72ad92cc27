use Rattle.std.proofs.Common.{ap, subst, ◌∙◌}
use Rattle.rt_map.specs.Maps.{last_below}
use Rattle.rt_map.specs.inside.Places.{IsStop}
use Rattle.rt_map.proofs.Before.{before_none, before_some}
use Rattle.rt_map.proofs.chunk.Chunk.before.Goals as goal

pub returns-then-at-eq0 : goal.returns-then-at-eq0
returns-then-at-eq0 g c =
    let stop = subst (λ es. IsStop g.K.Ord.cmp c.args.key.now es c.count_below-at.result) c.as_slice.ensures.value c.count_below-at.ensures in
    before_none g.K.Ord.cmp c.args.key.now c.self.inside.entries.items c.count_below-at.result stop c.if-at-eq0.true
    ∙ ap (last_below (g.K.Ord.cmp c.args.key.now)) c.self.view_is

pub returns : goal.returns
returns g c =
    let stop = subst (λ es. IsStop g.K.Ord.cmp c.args.key.now es c.count_below-at.result) c.as_slice.ensures.value c.count_below-at.ensures in
    before_some g.K.Ord.cmp c.args.key.now c.self.inside.entries.items c.count_below-at.result c.index.result.now stop c.if-at-eq0.false c.index.ensures
    ∙ ap (last_below (g.K.Ord.cmp c.args.key.now)) c.self.view_is
