-- What `sub`, `put` and equality of trees say, leaf by leaf.
use Rattle.std.specs.Prelude.{◌≡◌, ℕ, ◌+◌, ◌<◌, ◌≤◌, ◌↔◌, length, Bool, cond, not, ◌&&◌, [], ◌++◌}
use Rattle.std.specs.Prelude.{Some, None, is_some}
use Rattle.rt_tree.specs.declared.limits.TheConstants.{MAX_LEVELS}
use Rattle.rt_tree.specs.Leaf.{LeafValue}
use Rattle.std.specs.Map.{keys_of}
use Rattle.std.specs.List.Sorted.{IsStrictlySortedBy}
use Rattle.rt_tree.specs.Leaves.{Key, Path, key_cmp, strip, after_put}
use Rattle.rt_tree.specs.Trees.{PathTree, leaf_at, null, sub, child, put, is_null, child_of}
use Rattle.rt_tree.specs.Trees.{non_null, levels, with_children, children_alone, IsAllowed}
use Rattle.rt_tree.specs.Trees.{MayStandAt, children_of, Tells, tree_eq}
use Rattle.rt_tree.specs.Path.{IsPath}

-- no path is a proper prefix of another
abbrev pub LeavesStandAlone : Type 0
LeavesStandAlone =
    (t : PathTree) (p q : Path) (l n : LeafValue) → leaf_at t p ≡ Some l
    → leaf_at t (p ++ q) ≡ Some n → q ≡ []

-- trees with the same leaf at each path are equal
abbrev pub LeavesMakeTheTree : Type 0
LeavesMakeTheTree = (t u : PathTree) → ((q : Path) → leaf_at t q ≡ leaf_at u q) → t ≡ u

-- the leaves at and under p, with p taken off
abbrev pub SubIsThePart : Type 0
SubIsThePart = (t : PathTree) (p q : Path) → leaf_at (sub t p) q ≡ leaf_at t (p ++ q)

-- at and under p stands what u has; elsewhere what stood there, but for a prefix of p where u isn't
-- null
abbrev pub PutIsThePart : Type 0
PutIsThePart =
    (t : PathTree) (p : Path) (u : PathTree) (q : Path)
    → leaf_at (put t p u) q ≡ after_put (strip p q) (leaf_at u) (not (is_null u)
    && is_some (strip q p)) (leaf_at t q)

-- ---- parts of parts, and parts of what was put

-- a part of a part, and the part at the root
abbrev pub PartsNest : Type 0
PartsNest =
    ((t : PathTree) → sub t [] ≡ t) × ((t : PathTree) (p q : Path) → sub (sub t p) q ≡ sub t (p ++ q))

-- where a tree was put at or under p, the part at p has it put
abbrev pub PutUnder : Type 0
PutUnder = (t : PathTree) (p q : Path) (u : PathTree) → sub (put t (p ++ q) u) p ≡ put (sub t p) q u

-- where it was put at p, the parts at and under p are its own
abbrev pub PutAbove : Type 0
PutAbove = (t : PathTree) (p q : Path) (u : PathTree) → sub (put t p u) (p ++ q) ≡ sub u q

-- where it was put elsewhere, the part is as it was
abbrev pub PutElsewhere : Type 0
PutElsewhere =
    (t : PathTree) (p q : Path) (u : PathTree) → strip p q ≡ None → strip q p ≡ None
    → sub (put t p u) q ≡ sub t q

-- ---- children

-- the children are the parts under one key that are not null, in order
abbrev pub ChildrenAreParts : Type 0
ChildrenAreParts =
    (t : PathTree) → IsStrictlySortedBy key_cmp (keys_of (children_of t))
    × ((k : Key) → child_of (children_of t) k ≡ non_null (child t k))

-- only the children of some keys
abbrev pub SomeChildren : Type 0
SomeChildren =
    (test : Key → Bool) (t : PathTree) (k : Key)
    → child (with_children test t) k ≡ cond (test k) (child t k) null

-- no leaf at the root, and all children
abbrev pub ChildrenAlone : Type 0
ChildrenAlone =
    (t : PathTree) → (leaf_at (children_alone t) [] ≡ None)
    × (children_of (children_alone t) ≡ children_of t)

-- the test of equality tells exactly the equal trees
abbrev pub EqualityTells : Type 0
EqualityTells = Tells tree_eq

-- ---- paths and levels

-- p is a prefix of q where q is p and something more
abbrev pub PrefixTells : Type 0
PrefixTells = (p q r : Path) → (strip p q ≡ Some r) ↔ (q ≡ p ++ r)

-- `levels` is above the length of each path to a leaf, and the least such number
abbrev pub LevelsAreLeast : Type 0
LevelsAreLeast = (t : PathTree) → ((q : Path) (l : LeafValue) → leaf_at t q ≡ Some l
    → length q < levels t)
    × ((n : ℕ) → ((q : Path) (l : LeafValue) → leaf_at t q ≡ Some l → length q < n) → levels t ≤ n)

-- ---- what the database may hold

-- no leaf stands too deep
abbrev pub AllowedAreShallow : Type 0
AllowedAreShallow = (t : PathTree) → IsAllowed t → levels t ≤ MAX_LEVELS

-- a tree may stand at each path that leaves it room
abbrev pub RoomSuffices : Type 0
RoomSuffices =
    (p : Path) (t : PathTree) → IsPath p → IsAllowed t → length p + levels t ≤ MAX_LEVELS
    → MayStandAt p t

-- a part may stand where it is
abbrev pub PartsMayStand : Type 0
PartsMayStand = (t : PathTree) (p : Path) → IsAllowed t → MayStandAt p (sub t p)

-- what may stand at p may be put there
abbrev pub PutIsAllowed : Type 0
PutIsAllowed =
    (t : PathTree) (p : Path) (u : PathTree) → IsAllowed t → MayStandAt p u → IsAllowed (put t p u)
