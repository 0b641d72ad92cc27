use Rattle.std.proofs.Common.{◌≡◌, ◌||◌, ℕ, Bool, length}
use Rattle.std.specs.List.{list_any}
use Rattle.std.specs.List.Sorted.{IsSorted}
use Rattle.rt_cover.specs.inside.Endings.{has_supplied, IsOfBeginners}
use Rattle.rt_cover.specs.inside.Index.{by_form, form_of, AreApart}
use Rattle.rt_cover.proofs.successors.supplied.Given as goal

abbrev pub invariant-loop-rest : goal.invariant-loop-rest
invariant-loop-rest g l = record {
  told : (t : ℕ → Bool) → IsOfBeginners (g.E.EndedListeners.ended l.ending) l.listeners t → (list_any t l.numbers.items || list_any (has_supplied l.listeners t) l.rest) ≡ list_any (has_supplied l.listeners t) l.listens;
  order : IsSorted (by_form form_of) l.rest;
  apart : AreApart form_of l.rest;
}

abbrev pub decreases-loop-rest : goal.decreases-loop-rest
decreases-loop-rest g l = length l.rest
