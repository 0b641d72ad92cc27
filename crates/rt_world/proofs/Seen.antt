-- What tells two answers, or two views, apart.
use Rattle.std.proofs.Common.{ℕ, Bool, true, false, ◌&&◌, List, [], ◌∷◌, Option, Ok, Err}
use Rattle.std.specs.Option.{option_map_or}
use Rattle.rt_tree.specs.PathTree.{of_leaf}
use Rattle.rt_tree.specs.TreeEq.{tree_eq}
use Rattle.rt_query.specs.Select.{Shown}
use Rattle.rt_world.specs.declared.report.Note.{Note}
use Rattle.rt_world.specs.declared.report.Outcome.{Outcome}
use Rattle.rt_world.specs.declared.report.Outcome.TheVariants.{Done, Stale}
use Rattle.rt_world.specs.World.{Listener}
use Rattle.rt_world.specs.Answers.{Answer}
use Rattle.rt_world.specs.laws.Script.{num}

abbrev pub is_nil : {X : Type 0} → List X → Bool
is_nil [] = true
is_nil (x ∷ xs) = false

abbrev pub is_done_outcome : Outcome → Bool
is_done_outcome Done = true
is_done_outcome Stale = false

-- whether the step is done
abbrev pub was_done : Answer → Bool
was_done (Ok report) = is_done_outcome report.outcome
was_done (Err e) = false

abbrev pub notes_of : Answer → List Note
notes_of (Ok report) = report.notes
notes_of (Err e) = []

abbrev pub seat_of : List Note → ℕ
seat_of [] = 0
seat_of (n ∷ rest) = n.seat

-- whether all are primed
abbrev pub are_primed : List Listener → Bool
are_primed [] = true
are_primed (l ∷ ls) = l.is_primed && are_primed ls

-- whether 8 is shown
abbrev pub shows_eight : Option Shown → Bool
shows_eight o = option_map_or (λ s. option_map_or (λ l. tree_eq (of_leaf l) (num 8)) s.leaf false) o false
