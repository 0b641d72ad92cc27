use Rattle.std.proofs.Common.{◌≡◌, ◌||◌, ℕ, Bool, length}
use Rattle.std.specs.List.{list_any}
use Rattle.rt_cover.specs.inside.Endings.{by_number, begins_at}
use Rattle.rt_cover.proofs.successors.add_all.Given as goal

abbrev pub invariant-loop-rest : goal.invariant-loop-rest
invariant-loop-rest g l = (p : ℕ → Bool)
    → (list_any p l.numbers.items || list_any (begins_at (by_number (g.E.EndedListeners.ended l.ending)) l.listeners p) l.rest)
    ≡ (list_any p l.initial.numbers.items || list_any (begins_at (by_number (g.E.EndedListeners.ended l.ending)) l.listeners p) l.supplied)

abbrev pub decreases-loop-rest : goal.decreases-loop-rest
decreases-loop-rest g l = length l.rest
