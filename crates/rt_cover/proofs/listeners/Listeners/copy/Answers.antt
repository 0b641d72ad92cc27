use Rattle.std.proofs.Common.{◌≡◌, ◌<◌, ◌∙◌, sym, subst}
use Rattle.std.specs.List.{AllPairs}
use Rattle.rt_cover.specs.Cover.{Registered}
use Rattle.rt_cover.specs.State.{is_registered, with_listener}
use Rattle.rt_cover.proofs.HeldLaws.{IsNext, is_next}
use Rattle.rt_cover.proofs.listeners.Listeners.copy.Goals as goal

pub insert-requires-clause-rise : goal.insert-requires-clause-rise
insert-requires-clause-rise c =
    let n : IsNext c.as_slice-by_number.result.now c.loop-listener.listener-index c.listener-item.result =
    is_next c.as_slice-by_number.result.now c.loop-listener.listener-index c.listener-item.result
    (subst (AllPairs (λ (x y : Registered). x.0 < y.0)) (sym c.as_slice-by_number.ensures) c.requires.rise) c.loop-listener-test.true c.listener-item.is in
    subst (AllPairs (λ (x y : Registered). x.0 < y.0)) (sym c.loop-listener.invariant) n.rise

pub insert-requires-clause-free : goal.insert-requires-clause-free
insert-requires-clause-free c =
    let n : IsNext c.as_slice-by_number.result.now c.loop-listener.listener-index c.listener-item.result =
    is_next c.as_slice-by_number.result.now c.loop-listener.listener-index c.listener-item.result
    (subst (AllPairs (λ (x y : Registered). x.0 < y.0)) (sym c.as_slice-by_number.ensures) c.requires.rise) c.loop-listener-test.true c.listener-item.is in
    (λ i. is_registered (c.loop-listener.invariant i) (c.in_ok-copy.ensures i).0) ∙ n.free

pub loop-listener-preserved : goal.loop-listener-preserved
loop-listener-preserved c =
    let n : IsNext c.as_slice-by_number.result.now c.loop-listener.listener-index c.listener-item.result =
    is_next c.as_slice-by_number.result.now c.loop-listener.listener-index c.listener-item.result
    (subst (AllPairs (λ (x y : Registered). x.0 < y.0)) (sym c.as_slice-by_number.ensures) c.requires.rise) c.loop-listener-test.true c.listener-item.is in
    c.in_ok-insert.ensures.items ∙ (λ i. with_listener (c.loop-listener.invariant i) (c.in_ok-copy.ensures i).0 (c.in_ok-copy.ensures i).1) ∙ n.more
