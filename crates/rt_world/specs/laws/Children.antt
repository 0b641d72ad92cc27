-- Which children steps name and change, on literals; and what is false of them, refuted.
use Rattle.std.specs.Prelude.{◌≡◌, ◌≢◌, true, false, [], ◌∷◌, Some, codes}
use Rattle.rt_tree.specs.Path.{path_keys}
use Rattle.rt_tree.specs.PathTree.{Path, PathTree, null, object, child}
use Rattle.rt_order.specs.declared.index.Index.{Index}
use Rattle.rt_query.specs.declared.query.Limit.TheVariants.{First}
use Rattle.rt_query.specs.Queries.{Query, plain}
use Rattle.rt_cache.specs.Brought.{nothing_brought}
use Rattle.rt_view.specs.Views.{with_named}
use Rattle.rt_wire.specs.declared.request.Action.TheVariants.{Put, Merge}
use Rattle.rt_world.specs.declared.step.Step.{Step}
use Rattle.rt_world.specs.Views.{view_of}
use Rattle.rt_world.specs.World.{World}
use Rattle.rt_world.specs.Answers.{step, world_after}
use Rattle.rt_world.specs.Touched.{entries_by, is_covered, children_named, is_named, seen}
use Rattle.rt_world.specs.Touched.{children_at}
use Rattle.rt_world.specs.laws.Script.{fresh, num, yes_leaf, ordered, view_in, row_of, of_rows}

-- ---- short spellings

abbrev pub at_a : Path
at_a = path_keys (codes "/a")

-- an object of two children
abbrev pub two : PathTree
two = object ((codes "x", num 1) ∷ (codes "y", num 2) ∷ [])

-- /a and /b are listened to, and /a has two children
abbrev pub two_heard : World
two_heard = world_after fresh (
    Step.Connected
    ∷ Step.Listen 1 (plain at_a)
    ∷ Step.Listen 1 (plain (path_keys (codes "/b")))
    ∷ Step.Data 1 at_a two ∷ [])

-- ---- what changes

-- a child of /a is set
abbrev pub child_set : Step
child_set = Step.Write 1 (Put (path_keys (codes "/a/x")) (num 3))

-- it alone is named; the other is seen as before, and so is /b
abbrev pub OneIsNamed : Type 0
OneIsNamed =
    let v = (step two_heard child_set).0 in
    (children_named at_a (entries_by two_heard child_set) ≡ codes "x" ∷ [])
    × (child (seen v (plain at_a)) (codes "y") ≡ num 2)
    × (view_in v 2 ≡ view_in two_heard 2)

-- that no entry sits at or above a listener's path does not keep its view
abbrev pub BelowIsSeen : Type 0
BelowIsSeen =
    let v = (step two_heard child_set).0 in
    (is_covered at_a (entries_by two_heard child_set) ≡ false)
    × (view_in v 1 ≢ view_in two_heard 1)

-- ---- an entry above

-- the parent of /a is set
abbrev pub parent_set : Step
parent_set = Step.Write 1 (Put [] (object ((codes "a", object ((codes "x", num 1) ∷ [])) ∷ [])))

-- no child of /a is named, and yet one goes
abbrev pub AboveNamesNone : Type 0
AboveNamesNone =
    let v = (step two_heard parent_set).0 in
    (is_covered at_a (entries_by two_heard parent_set) ≡ true)
    × (is_named at_a (entries_by two_heard parent_set) (codes "y") ≡ false)
    × (child (seen v (plain at_a)) (codes "y") ≢ child (seen two_heard (plain at_a)) (codes "y"))

-- ---- names

-- two trees are set under one child of /a
abbrev pub both_set : Step
both_set = Step.Write 1
    (Merge ((path_keys (codes "/a/x/p"), num 1) ∷ (path_keys (codes "/a/x/q"), num 2) ∷ []))

-- they name it once; neither names anything below its own path
abbrev pub NamedOnce : Type 0
NamedOnce =
    let entries = entries_by two_heard both_set in
    (children_named at_a entries ≡ codes "x" ∷ [])
    × (children_named [] entries ≡ codes "a" ∷ [])
    × (children_named (path_keys (codes "/a/x/p/z")) entries ≡ [])

-- a write that is settled names what it set, and no other pending write's
abbrev pub SettledNames : Type 0
SettledNames =
    let other = Step.Write 1 (Put (path_keys (codes "/a/y")) null) in
    let w = world_after two_heard (child_set ∷ other ∷ []) in
    (children_named at_a (entries_by w (Step.Accepted 1)) ≡ codes "x" ∷ [])
    × (children_named at_a (entries_by w (Step.Refused 2 (codes "denied"))) ≡ codes "y" ∷ [])
    × (entries_by w (Step.Accepted 3) ≡ [])

-- ---- a leaf that comes back

-- /a is a leaf, and a child is set under it
abbrev pub leaf_covered : World
leaf_covered = world_after fresh (
    Step.Connected
    ∷ Step.Listen 1 (plain at_a)
    ∷ Step.Data 1 at_a (num 7)
    ∷ Step.Write 1 (Put (path_keys (codes "/a/b")) yes_leaf) ∷ [])

-- that is refused: the leaf is back, and the old tree with the named child put back is not that
abbrev pub LeafIsBack : Type 0
LeafIsBack =
    let s = Step.Refused 1 (codes "denied") in
    let old = seen leaf_covered (plain at_a) in
    let new = seen (step leaf_covered s).0 (plain at_a) in
    let names = children_named at_a (entries_by leaf_covered s) in
    (new ≡ num 7) × (with_named old (children_at new names) ≢ new)

-- ---- a change of cover

-- the first child of /a is listened to below a listen of the root
abbrev pub first_of_a : Query
first_of_a = ordered at_a Index.Key (Some (First 1))

abbrev pub both_heard : World
both_heard = world_after fresh (
    Step.Connected
    ∷ Step.Listen 1 (plain [])
    ∷ Step.Listen 1 first_of_a
    ∷ Step.Data 1 [] (object ((codes "a", two) ∷ [])) ∷ [])

-- the root's goes: the view below it stays, though its region goes, and nothing brought would not
-- show it
abbrev pub LostWouldShow : Type 0
LostWouldShow =
    let v = (step both_heard (Step.Unlisten 1 1)).0 in
    let shown = of_rows (row_of (codes "x") (num 1) ∷ []) in
    (view_in both_heard 2 ≡ shown)
    × (view_in v 2 ≡ shown)
    × ((v.brought).regions ≡ [])
    × (Some (view_of nothing_brought [] first_of_a) ≢ shown)
