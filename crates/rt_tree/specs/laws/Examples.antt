-- Trees, keys and paths that the prover computes.
use Rattle.std.specs.Prelude.{◌≡◌, ℕ, pos, true, [], ◌∷◌, ◌++◌, Some, None, codes, replicate, reverse}
use Rattle.rt_tree.specs.declared.error.TreeError.TheVariants.{BadKey, KeyTooLong, TooDeep}
use Rattle.rt_tree.specs.Key.{key_fault}
use Rattle.rt_tree.specs.Path.{path_keys, path_text, path_fault}
use Rattle.rt_tree.specs.Leaf.{truth, number, text}
use Rattle.rt_tree.specs.Trees.{PathTree, null, of_leaf, sub, put, object, levels, children_of}
use Rattle.rt_tree.specs.Leaves.{strip}

-- a number and a text
abbrev pub num : ℕ → PathTree
num n = of_leaf (number (pos n))

-- a path has no empty piece, and is printed with one slash before each key
abbrev pub EmptyPiecesDrop : Type 0
EmptyPiecesDrop =
    (path_keys (codes "a//b/") ≡ codes "a" ∷ codes "b" ∷ [])
    × (path_text (path_keys (codes "a//b/")) ≡ codes "/a/b")
    × (path_keys (codes "/") ≡ []) × (path_keys [] ≡ []) × (path_text [] ≡ codes "/")

-- what is no key, and why
abbrev pub KeysHaveFaults : Type 0
KeysHaveFaults =
    (key_fault (codes "a b") ≡ None) × (key_fault [] ≡ Some BadKey)
    × (key_fault (codes "a.b") ≡ Some BadKey)
    × (key_fault (9 ∷ []) ≡ Some BadKey) × (key_fault (127 ∷ []) ≡ Some BadKey)
    × (key_fault (195 ∷ 164 ∷ []) ≡ None)
    × (key_fault (replicate 768 97) ≡ None) × (key_fault (replicate 769 46) ≡ Some KeyTooLong)

-- the first fault from left to right: a bad key before the 33rd, and the 33rd before what it is
abbrev pub FirstFaultCounts : Type 0
FirstFaultCounts =
    let deep = path_text (replicate 32 (codes "k")) in
    (path_fault deep ≡ None) × (path_fault (deep ++ codes "//") ≡ None)
    × (path_fault (deep ++ codes "/k") ≡ Some TooDeep)
    × (path_fault (deep ++ codes "/a.b") ≡ Some TooDeep)
    × (path_fault (codes "/a.b" ++ deep) ≡ Some BadKey)

-- a path is a prefix of itself and of what lies under it
abbrev pub PrefixesAreAtOrAbove : Type 0
PrefixesAreAtOrAbove =
    let a = path_keys (codes "/a") in
    let ab = path_keys (codes "/a/b") in
    (strip a a ≡ Some []) × (strip a ab ≡ Some (codes "b" ∷ [])) × (strip ab a ≡ None)
    × (strip a (path_keys (codes "/ab")) ≡ None)

-- null under a leaf leaves the leaf, another tree takes its place
abbrev pub LeafStaysUnderNull : Type 0
LeafStaysUnderNull =
    let seven = put null (path_keys (codes "/a")) (num 7) in
    (put seven (path_keys (codes "/a/b")) null ≡ seven)
    × (put seven (path_keys (codes "/a/b")) (of_leaf (truth true))
    ≡ object ((codes "a", object ((codes "b", of_leaf (truth true)) ∷ [])) ∷ []))

-- an object that loses its last child is null, and so is all above it that has no other
abbrev pub EmptyObjectsGo : Type 0
EmptyObjectsGo =
    let one = put null (path_keys (codes "/a/b/c")) (num 1) in
    let two = put one (path_keys (codes "/d")) (num 2) in
    (put one (path_keys (codes "/a/b/c")) null ≡ null)
    × (put two (path_keys (codes "/a/b/c")) null ≡ object ((codes "d", num 2) ∷ []))
    × (sub (put two (path_keys (codes "/a/b/c")) null) (path_keys (codes "/a")) ≡ null)

-- a tree that is put takes the place of all that stood there
abbrev pub PutReplaces : Type 0
PutReplaces =
    let before = put null (path_keys (codes "/a"))
    (object ((codes "x", num 1) ∷ (codes "y", num 2) ∷ [])) in
    let after = put before (path_keys (codes "/a"))
    (object ((codes "z", of_leaf (text (codes "new"))) ∷ [])) in
    (sub after (path_keys (codes "/a/x")) ≡ null)
    × (sub after (path_keys (codes "/a/z")) ≡ of_leaf (text (codes "new")))
    × (sub (put before [] null) [] ≡ null)

-- children stand in the order of their keys' bytes, each once
abbrev pub ChildrenInOrder : Type 0
ChildrenInOrder =
    (children_of
    (object ((codes "b", num 1) ∷ (codes "10", num 2) ∷ (codes "9", num 3) ∷ (
      codes "B",
      num 4,
    ) ∷ []))
    ≡ (codes "10", num 2) ∷ (codes "9", num 3) ∷ (codes "B", num 4) ∷ (codes "b", num 1) ∷ [])
    × (children_of (num 1) ≡ []) × (children_of (object ((codes "a", null) ∷ [])) ≡ [])

-- one more level than keys above the deepest leaf
abbrev pub LevelsCount : Type 0
LevelsCount =
    (levels null ≡ 0) × (levels (num 1) ≡ 1)
    × (levels (put (num 1) (path_keys (codes "/a/b")) (num 2)) ≡ 3)

-- of children in turn the last at a key counts, and null takes out what stood there
abbrev pub LastChildCounts : Type 0
LastChildCounts =
    let a = codes "a" in
    let b = codes "b" in
    (object (reverse ((a, num 1) ∷ (b, num 2) ∷ (a, num 3) ∷ []))
    ≡ object ((b, num 2) ∷ (a, num 3) ∷ []))
    × (object (reverse ((a, num 1) ∷ (b, num 2) ∷ (a, null) ∷ [])) ≡ object ((b, num 2) ∷ []))
    × (object (reverse ((a, null) ∷ (a, num 1) ∷ [])) ≡ object ((a, num 1) ∷ []))
    × (object (reverse ((a, num 1) ∷ (a, null) ∷ [])) ≡ null)
