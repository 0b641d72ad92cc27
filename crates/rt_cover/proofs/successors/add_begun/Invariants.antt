use Rattle.std.proofs.Common.{◌≡◌, ◌||◌, ℕ, Bool, drop}
use Rattle.std.specs.List.{list_any}
use Rattle.rt_cover.specs.inside.Endings.{by_number, begins_at}
use Rattle.rt_cover.proofs.successors.add_begun.Given as goal

abbrev pub invariant-loop-number : goal.invariant-loop-number
invariant-loop-number g l = (p : ℕ → Bool)
    → (list_any p l.numbers.items || list_any (begins_at (by_number (g.E.EndedListeners.ended l.ending)) l.listeners p) (drop l.number-index l.beside))
    ≡ (list_any p l.initial.numbers.items || list_any (begins_at (by_number (g.E.EndedListeners.ended l.ending)) l.listeners p) l.beside)
