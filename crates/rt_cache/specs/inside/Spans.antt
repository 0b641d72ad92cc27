-- Places of a list that follow one another.
use Rattle.std.specs.Prelude.{◌≡◌, ℕ, ◌<◌, ◌≤◌, Bool, not, ◌&&◌, nat_le, nat_lt, List, [], ◌∷◌, length}
use Rattle.std.specs.Prelude.{slice_index_or, true, false, Option, Some, None}
use Rattle.std.specs.List.{list_any, remove_range, All}
use Rattle.rt_query.specs.Queries.{Query}
use Rattle.rt_cache.specs.Recover.{reaches}
use Rattle.rt_cache.specs.declared.regions.Region.{Region}
use Rattle.rt_cache.specs.declared.by_path.Span.{Span}

-- whether the place is in the span
abbrev pub has_place : ℕ → Span → Bool
has_place k s = nat_le s.start k && nat_lt k s.end

-- whether it is in one of them
abbrev pub have_place : List Span → ℕ → Bool
have_place spans k = list_any (has_place k) spans

-- spans one behind another, from a place on, and none of them past the end
abbrev pub AreInOrder : ℕ → List Span → ℕ → Type 0
AreInOrder from [] end = from ≤ end
AreInOrder from (s ∷ spans) end = (from ≤ s.start) × (s.start ≤ s.end) × AreInOrder s.end spans end

-- a list without the places of the spans, of which the last are taken out first
abbrev pub without : {X : Type 0} → List Span → List X → List X
without [] xs = xs
without (s ∷ spans) xs = remove_range (without spans xs) s.start s.end

-- the places of the regions that no plain listen is at or above, and of no others
abbrev pub AreLost : List Query → List Region → List Span → Type 0
AreLost kept regions spans =
    AreInOrder 0 spans (length regions)
    × ((k : ℕ) (d : Region) → k < length regions
    → not (reaches kept (slice_index_or regions k d).path) ≡ have_place spans k)

-- none of the spans is empty
abbrev pub AreFilled : List Span → Type 0
AreFilled spans = All (λ s. s.start < s.end) spans

-- the last place in front of the end that is in one of the spans
abbrev pub IsLastBefore : List Span → ℕ → Option ℕ → Type 0
IsLastBefore spans end None = (k : ℕ) → k < end → have_place spans k ≡ false
IsLastBefore spans end (Some n) = (have_place spans n ≡ true)
    × ((k : ℕ) → n < k → k < end → have_place spans k ≡ false)
