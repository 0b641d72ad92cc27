-- The least tag of the listens that pass a test.
use Rattle.std.specs.Prelude.{◌≡◌, ◌⊎◌, ℕ, Bool, true, false, ◌&&◌, ◌==◌, not, nat_lt, if◌then◌else◌}
use Rattle.std.specs.Prelude.{List, [], ◌∷◌, Option, Some, None}
use Rattle.std.specs.List.{list_any}
use Rattle.rt_query.specs.Queries.{Query, is_filtered}
use Rattle.rt_query.specs.Supply.{does_supply}
use Rattle.rt_cover.specs.Cover.{Tagged}

-- the lesser of two tags, of which the first may be none
abbrev pub lesser : Option ℕ → ℕ → ℕ
lesser None tag = tag
lesser (Some other) tag = if nat_lt other tag then other else tag

-- the least of a tag, where there is one, and those of the listens that pass
abbrev pub least_from : (Tagged → Bool) → Option ℕ → List Tagged → Option ℕ
least_from p least [] = least
least_from p least (k ∷ kept) = least_from p (if p k then Some (lesser least k.tag) else least) kept

-- a plain listen of that tag supplies the query, or no listen of a lesser tag does
abbrev pub IsPlainOrLeast : List Tagged → Query → ℕ → Type 0
IsPlainOrLeast kept q tag =
    (list_any (λ k. (does_supply k.form q && not (is_filtered k.form)) && k.tag == tag) kept ≡ true)
    ⊎ (list_any (λ k. does_supply k.form q && nat_lt k.tag tag) kept ≡ false)
