use Rattle.std.proofs.Common.{rules, ◌≡◌, Some, sym, ap, subst, ◌∙◌}
use Rattle.std.specs.BinaryHeap.{heap_items}
use Rattle.std.specs.Prelude.{IfSome}
use Rattle.rt_emulate.specs.inside.Alarms.{HasRung, next_time}
use Rattle.rt_emulate.proofs.Alarms.{rings}
use Rattle.rt_emulate.proofs.guest.Alarms.ring.Goals as goal

pub returns-then-at-now-clause-rung : goal.returns-then-at-now-clause-rung
returns-then-at-now-clause-rung c =
    let xs = heap_items c.self.inside.all in
    let ys = heap_items c.pop.new.self in
    let at : Some c.in_ok-at.at ≡ next_time c.args.self.now = search rules in
    subst (λ v. IfSome c.pop.result (λ a. HasRung c.args.now a v ys)) c.self.view_is
    (rings c.args.now c.in_ok-at.at xs ys c.pop.result c.if-at-now.true (at ∙ ap next_time (sym c.self.view_is))
    c.pop.ensures.top c.pop.ensures.permutation c.pop.ensures.heap_order c.self.invariant)
