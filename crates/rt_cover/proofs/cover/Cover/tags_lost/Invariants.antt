use Rattle.std.proofs.Common.{◌≡◌, ◌||◌, ℕ, Bool, drop}
use Rattle.std.specs.List.{list_any}
use Rattle.rt_cover.specs.inside.Endings.{by_number, is_lost_by}
use Rattle.rt_cover.proofs.cover.Cover.tags_lost.Given as goal

abbrev pub invariant-loop-number : goal.invariant-loop-number
invariant-loop-number g l = (p : ℕ → Bool)
    → (list_any p l.tags.items || list_any (λ n. list_any (is_lost_by (by_number (g.E.EndedListeners.ended l.ending)) l.self.listeners p n) l.self.kept) (drop l.number-index l.numbers))
    ≡ list_any (λ n. list_any (is_lost_by (by_number (g.E.EndedListeners.ended l.ending)) l.self.listeners p n) l.self.kept) l.numbers
