use Rattle.std.proofs.Common.{◌∷◌, [], ◌++◌, sym, ap, ◌∙◌, append_assoc}
use Rattle.std.specs.Vec.Iter.{into_iter_items}
use Rattle.rt_peer.specs.Pushes.{bundled}
use Rattle.rt_peer.proofs.BundleLaws.{joined-together, joined-apart}
use Rattle.rt_peer.proofs.pushes.bundle.Goals as goal

pub loop-push-preserved-then-go_together : goal.loop-push-preserved-then-go_together
loop-push-preserved-then-go_together c =
    let newer = c.args.newer.now in
    let done = c.loop-push.sent.items in
    let s = c.loop-push.last in
    let r = c.in-Some-push.push in
    let rest = into_iter_items c.next-in-loop-push.new.self in
    ap (λ x. done ++ bundled newer (x ∷ rest)) c.in_ok-last.ensures
    ∙ ap (λ xs. done ++ xs)
    (sym (joined-together newer s r (bundled newer rest) (sym c.go_together.ensures ∙ c.if-go_together.true)))
    ∙ ap (λ xs. done ++ bundled newer (s ∷ xs)) (sym c.in-Some-push.ensures.steps.0)
    ∙ c.loop-push.invariant

pub loop-push-preserved : goal.loop-push-preserved
loop-push-preserved c =
    let newer = c.args.newer.now in
    let done = c.loop-push.sent.items in
    let s = c.loop-push.last in
    let r = c.in-Some-push.push in
    let rest = into_iter_items c.next-in-loop-push.new.self in
    (λ i. c.in_ok-push.ensures.items i ++ bundled newer (c.replace.ensures.after i ∷ rest))
    ∙ ap (λ x. (done ++ x ∷ []) ++ bundled newer (r ∷ rest)) c.replace.ensures.value
    ∙ append_assoc done (s ∷ []) (bundled newer (r ∷ rest))
    ∙ ap (λ xs. done ++ xs)
    (sym (joined-apart newer s r (bundled newer rest) (sym c.go_together.ensures ∙ c.if-go_together.false)))
    ∙ ap (λ xs. done ++ bundled newer (s ∷ xs)) (sym c.in-Some-push.ensures.steps.0)
    ∙ c.loop-push.invariant
