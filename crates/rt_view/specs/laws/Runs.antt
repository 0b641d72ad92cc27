-- Runs of a view: its calls one after another, and what was told on the way.
use Rattle.std.specs.Prelude.{◌≡◌, ◌+◌, ◌%◌, ◌^◌, List, [], ◌∷◌, ◌++◌, length, Some, None}
use Rattle.rt_tree.specs.PathTree.{Key, PathTree}
use Rattle.rt_query.specs.Queries.{Query}
use Rattle.rt_query.specs.Select.{select}
use Rattle.rt_view.specs.declared.change.Change.{Change}
use Rattle.rt_view.specs.Changes.{changes, replay, by_keys, Turns}
use Rattle.rt_view.specs.Views.{View, first_view, renewed, touched, told, shown_of}

-- another tree, or some named children
pub data Call : Type 0 where
  Renew : PathTree → Call
  Touch : List (Key × PathTree) → Call

-- the view after a call
abbrev pub after : View → Call → View
after v (Renew t) = renewed v t
after v (Touch named) = touched v named

-- the view after the calls, one after another
abbrev pub after_all : View → List Call → View
after_all v [] = v
after_all v (c ∷ cs) = after_all (after v c) cs

-- what they tell, one batch behind another
abbrev pub told_all : View → List Call → List Change
told_all v [] = []
told_all v (c ∷ cs) = told v (after v c) ++ told_all (after v c) cs

-- what a run tells: what its first view tells, and then its calls
abbrev pub told_by : Query → PathTree → List Call → List Change
told_by q t cs = changes q.index None (select q t) ++ told_all (first_view q t) cs

-- ---- laws

-- all that a run tells, replayed from nothing, gives the rows that are shown now
abbrev pub ReplayGivesShown : Type 0
ReplayGivesShown = (q : Query) (t : PathTree) (cs : List Call) → replay (told_by q t cs) []
    ≡ by_keys ((shown_of (after_all (first_view q t) cs)).rows)

-- it turns no view into the one that is shown now: its last change carries that as a tree
abbrev pub RunTurns : Type 0
RunTurns = (q : Query) (t : PathTree) (cs : List Call)
    → Turns None (told_by q t cs) (Some (shown_of (after_all (first_view q t) cs)))

-- each call is one turn, the first included
abbrev pub TurnsCountCalls : Type 0
TurnsCountCalls = (q : Query) (t : PathTree) (cs : List Call)
    → (after_all (first_view q t) cs).turns ≡ (1 + length cs) % 2 ^ 64

-- after a touch the named children were read, whatever came before
abbrev pub TouchReadsNamed : Type 0
TouchReadsNamed = (v : View) (cs : List Call) (named : List (Key × PathTree))
    → (after_all v (cs ++ Touch named ∷ [])).reads ≡ length named
