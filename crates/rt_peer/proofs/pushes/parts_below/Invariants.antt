use Rattle.std.proofs.Common.{◌≡◌, ◌++◌, drop}
use Rattle.rt_peer.specs.Pushes.{parts_below}
use Rattle.rt_peer.proofs.pushes.parts_below.Given as goal

abbrev pub invariant-loop-at : goal.invariant-loop-at
invariant-loop-at l =
    l.parts.items ++ parts_below l.tree l.path (drop l.at-index l.entries)
    ≡ parts_below l.tree l.path l.entries
