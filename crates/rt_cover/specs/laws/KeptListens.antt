-- Laws of the listens that are kept, and of their tags.
use Rattle.std.specs.Prelude.{◌≡◌, ℕ, ◌+◌, ◌<◌, List, map, length}
use Rattle.std.specs.List.{All, Contains}
use Rattle.rt_query.specs.Queries.{Query}
use Rattle.rt_cover.specs.Cover.{Tagged, started, kept_for}

-- the forms of some listens
abbrev pub forms_of : List Tagged → List Query
forms_of kept = map (λ k. k.form) kept

-- the listens kept for some forms have just these forms
abbrev pub KeptHaveForms : Type 0
KeptHaveForms =
    (next_tag : ℕ) (kept : List Tagged) (fs : List Query)
    → All (Contains fs) (forms_of (kept_for next_tag kept fs))
    × All (Contains (forms_of (kept_for next_tag kept fs))) fs

-- a listen whose form stays needed stays, with its tag
abbrev pub NeededStay : Type 0
NeededStay =
    (next_tag : ℕ) (kept : List Tagged) (fs : List Query) (k : Tagged)
    → Contains kept k → Contains fs k.form → Contains (kept_for next_tag kept fs) k

-- no tag stands twice, and all are below the next one
pub record AreTagged (next_tag : ℕ) (kept : List Tagged) : Type 0 where
  pub apart : (j k : Tagged) → Contains kept j → Contains kept k → j.tag ≡ k.tag → j ≡ k
  pub below : All (λ k. k.tag < next_tag) kept

-- so it is of the listens that are kept anew
abbrev pub TagsStayApart : Type 0
TagsStayApart =
    (next_tag : ℕ) (kept : List Tagged) (fs : List Query)
    → AreTagged next_tag kept
    → AreTagged (next_tag + length (started next_tag kept fs)) (kept_for next_tag kept fs)
