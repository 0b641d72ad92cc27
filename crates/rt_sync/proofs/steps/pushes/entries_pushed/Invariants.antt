use Rattle.std.proofs.Common.{◌≡◌, ◌++◌}
use Rattle.std.specs.List.{fold}
use Rattle.std.specs.Vec.Iter.{into_iter_items}
use Rattle.rt_world.specs.Touched.{entries_pushed}
use Rattle.rt_sync.proofs.steps.pushes.entries_pushed.Given as goal

-- with what is left it is all
abbrev pub invariant-loop-part : goal.invariant-loop-part
invariant-loop-part l =
    fold (λ entries p. entries ++ p.1) l.entries.items (into_iter_items l.part-iterator) ≡ entries_pushed l.fn.parts
