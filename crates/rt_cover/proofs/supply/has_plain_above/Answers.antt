use Rattle.std.proofs.Common.{◌<◌, ◌||◌, length, sym, ◌∙◌, arith}
use Rattle.rt_cover.specs.Cover.{Registered}
use Rattle.rt_cover.specs.inside.Endings.{by_number, left}
use Rattle.rt_cover.proofs.ByPathLaws.{none_above, above_more, above_found}
use Rattle.rt_cover.proofs.supply.has_plain_above.Goals as goal

pub loop-count-init : goal.loop-count-init
loop-count-init g c = none_above (λ (x : Registered). x.1) c.args.path.now (left (by_number (g.E.EndedListeners.ended c.args.ending.now)) c.args.listeners.now)

pub returns-then-has_plain : goal.returns-then-has_plain
returns-then-has_plain g c =
    let p = c.args.path.now in
    let k = c.loop-count.count in
    let lt : k < length p = c.loop-count-test.true in
    sym (above_found (λ (x : Registered). x.1) p k (left (by_number (g.E.EndedListeners.ended c.args.ending.now)) c.args.listeners.now) lt (sym c.has_plain.ensures ∙ c.if-has_plain.true))

pub loop-count-preserved : goal.loop-count-preserved
loop-count-preserved g c =
    let p = c.args.path.now in
    let k = c.loop-count.count in
    let lt : k < length p = c.loop-count-test.true in
    above_more (λ (x : Registered). x.1) p k (left (by_number (g.E.EndedListeners.ended c.args.ending.now)) c.args.listeners.now) (omega (arith, lt))
    ∙ (λ i. c.loop-count.invariant i || (sym c.has_plain.ensures ∙ c.if-has_plain.false) i)
