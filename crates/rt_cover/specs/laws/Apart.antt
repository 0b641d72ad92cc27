-- Laws of the plain listens that are kept: none is at or above another.
use Rattle.std.specs.Prelude.{◌≡◌, ◌≢◌, ℕ, false, List, map}
use Rattle.std.specs.List.{All, AllPairs, Contains}
use Rattle.rt_query.specs.Queries.{Query}
use Rattle.rt_cover.specs.Cover.{needed, Registered, Tagged, kept_for}
use Rattle.rt_cover.specs.State.{needed_forms}
use Rattle.rt_cover.specs.Apart.{do_plains_overlap}

-- it holds of any needed forms, each once
abbrev pub PlainsStandApart : Type 0
PlainsStandApart =
    (registered kept : List Query)
    → All (Contains (needed registered)) kept → AllPairs (λ f g. f ≢ g) kept
    → do_plains_overlap kept ≡ false

-- so it does of all that are needed for some listeners
abbrev pub NeededStandApart : Type 0
NeededStandApart = (listeners : List Registered) → do_plains_overlap (needed_forms listeners) ≡ false

-- and of those kept for them after a change
abbrev pub KeptStandApart : Type 0
KeptStandApart =
    (next_tag : ℕ) (kept : List Tagged) (listeners : List Registered)
    → AllPairs (λ j k. j.form ≢ k.form) kept
    → do_plains_overlap (map (λ k. k.form) (kept_for next_tag kept (needed_forms listeners)))
    ≡ false
