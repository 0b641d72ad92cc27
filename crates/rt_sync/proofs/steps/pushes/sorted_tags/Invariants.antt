use Rattle.std.proofs.Common.{◌≡◌, ◌++◌, drop, map}
use Rattle.rt_sync.proofs.steps.pushes.sorted_tags.Given as goal

abbrev pub invariant-loop-part : goal.invariant-loop-part
invariant-loop-part l =
    l.tags.items ++ map (λ p. p.0) (drop l.part-index l.parts) ≡ map (λ p. p.0) l.parts
