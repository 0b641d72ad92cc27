-- What the count of a listener tells of a view that was thrown away.
use Rattle.std.specs.Prelude.{[], ◌∷◌, Some}
use Rattle.rt_tree.specs.PathTree.{Key, PathTree}
use Rattle.rt_view.specs.Views.{View, first_view, touched}
use Rattle.rt_sync.specs.Reads.{GoesOn}

-- a view that is touched with one child counts that one
abbrev pub OneIsCounted : Type 0
OneIsCounted =
    (v : View) (c : Key × PathTree)
    → GoesOn (Some v) (Some (touched v (c ∷ []))) (Some 3) (Some 4)

-- the view made anew, and touched with nothing
abbrev pub made_anew : View → View
made_anew v = touched (first_view v.query v.tree) []

-- it does not stand for the one that was thrown away: the three children that its first turn took are
-- counted beside what it reads last
abbrev pub NotThrownAway : Type 0
NotThrownAway = (v : View) → GoesOn (Some v) (Some (made_anew v)) (Some 3) (Some 6) → ⊥
