-- Outside examples, which the prover computes: what pending writes show, and what shows once one of
-- them is settled.
use Rattle.std.specs.Prelude.{◌≡◌, ℕ, true, false, List, [], ◌∷◌, length, Some, codes}
use Rattle.rt_tree.specs.Leaf.{truth}
use Rattle.rt_tree.specs.Path.{path_keys}
use Rattle.rt_tree.specs.PathTree.{Path, PathTree, null, of_leaf, object}
use Rattle.rt_tree.specs.laws.Examples.{num}
use Rattle.rt_writes.specs.Writes.{Write, overlay, touches, sets_whole, sets_child_whole}
use Rattle.rt_writes.specs.Writes.{entries_of, without}

-- ---- short spellings

-- the path of a text
abbrev pub at : List ℕ → Path
at p = path_keys p

-- a write that sets one tree
abbrev pub set : ℕ → List ℕ → PathTree → Write
set id p t = record { id = id; entries = (at p, t) ∷ [] }

-- ---- a child is set, and then its parent

abbrev pub child_then_parent : List Write
child_then_parent =
    set 1 (codes "/a/x") (num 1) ∷ set 2 (codes "/a") (object ((codes "y", num 2) ∷ [])) ∷ []

-- the parent hides all that stood there
abbrev pub ParentHides : Type 0
ParentHides =
    let a = at (codes "/a") in
    let below = object ((codes "x", num 0) ∷ []) in
    (overlay a below child_then_parent ≡ object ((codes "y", num 2) ∷ []))
    × (sets_whole child_then_parent a ≡ true)
    × (sets_whole child_then_parent (at (codes "/b")) ≡ false)
    × (sets_child_whole child_then_parent a (codes "z") ≡ true)

-- once that is settled the child shows over what is below
abbrev pub ChildShows : Type 0
ChildShows =
    let a = at (codes "/a") in
    let left = without 2 child_then_parent in
    let below = object ((codes "x", num 0) ∷ (codes "z", num 3) ∷ []) in
    (overlay a below left ≡ object ((codes "x", num 1) ∷ (codes "z", num 3) ∷ []))
    × (sets_child_whole left a (codes "x") ≡ true)
    × (sets_child_whole left a (codes "z") ≡ false)
    × (length left ≡ 1)
    × (entries_of 2 child_then_parent ≡ Some ((a, object ((codes "y", num 2) ∷ [])) ∷ []))

-- ---- one path is set three times

abbrev pub three_sets : List Write
three_sets =
    set 1 (codes "/a") (num 1) ∷ set 2 (codes "/a") (num 2) ∷ set 3 (codes "/a") (num 3) ∷ []

-- the last set shows until it goes, whichever goes before it
abbrev pub ThreeSetsTwoRefused : Type 0
ThreeSetsTwoRefused =
    let a = at (codes "/a") in
    (overlay a (num 0) three_sets ≡ num 3)
    × (overlay a (num 0) (without 2 three_sets) ≡ num 3)
    × (overlay a (num 0) (without 1 (without 2 three_sets)) ≡ num 3)
    × (overlay a (num 0) (without 3 (without 1 (without 2 three_sets))) ≡ num 0)

-- ---- children are set under a leaf

-- null under a leaf leaves the leaf, another child takes its place, and the leaf is back once that
-- is settled
abbrev pub UnderLeaf : Type 0
UnderLeaf =
    let a = at (codes "/a") in
    let both = set 1 (codes "/a/b") null ∷ set 2 (codes "/a/b") (of_leaf (truth true)) ∷ [] in
    (overlay a (num 7) both ≡ object ((codes "b", of_leaf (truth true)) ∷ []))
    × (overlay a (num 7) (without 2 both) ≡ num 7)

-- an entry above a path gives its part, and one beside it does nothing
abbrev pub PartOfEntry : Type 0
PartOfEntry =
    let above = set 1 (codes "/a") (object ((codes "b", num 5) ∷ [])) ∷ [] in
    (overlay (at (codes "/a/b")) (num 0) above ≡ num 5)
    × (overlay (at (codes "/a/c")) (num 0) above ≡ null)
    × (overlay (at (codes "/ab")) (num 0) above ≡ num 0)
    × (touches above (at (codes "/ab")) ≡ false)
    × (touches above (at (codes "/")) ≡ true)
