use Rattle.std.proofs.Common.{◌≡◌, ◌++◌, ◌∷◌}
use Rattle.std.specs.Vec.Iter.{into_iter_items}
use Rattle.rt_peer.specs.Pushes.{bundled}
use Rattle.rt_peer.proofs.pushes.bundle.Given as goal

abbrev pub invariant-loop-push : goal.invariant-loop-push
invariant-loop-push l =
    l.sent.items ++ bundled l.newer (l.last ∷ into_iter_items l.push-iterator)
    ≡ bundled l.newer l.fn.pushes.items
