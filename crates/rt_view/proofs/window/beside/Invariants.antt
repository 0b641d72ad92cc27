use Rattle.std.proofs.Common.{◌≡◌, ◌+◌, ◌^◌, ◌<◌, drop, length}
use Rattle.rt_view.specs.inside.Ranged.{inside, outside}
use Rattle.rt_view.proofs.window.beside.Given as goal

abbrev pub invariant-loop-position : goal.invariant-loop-position
invariant-loop-position l =
    (l.low + length (outside l.from (drop l.position-index l.children)) ≡ length (outside l.from l.children))
    × (l.high + length (outside l.to (inside l.from (drop l.position-index l.children))) ≡ length (outside l.to (inside l.from l.children)))
    × (length l.children < 2 ^ 63)
