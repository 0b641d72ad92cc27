-- Laws of the overlay.
use Rattle.std.specs.Prelude.{◌≡◌, ◌≤◌, true, false, List, [], ◌∷◌, ◌++◌, length}
use Rattle.std.specs.List.{All}
use Rattle.rt_tree.specs.declared.limits.TheConstants.{MAX_LEVELS}
use Rattle.rt_tree.specs.PathTree.{Key, Path, PathTree, sub, put, child}
use Rattle.rt_writes.specs.Writes.{Write, IsShallow, overlay, touches, sets_whole}

-- each part of an overlaid tree is the overlay of the part
abbrev pub OverlayOfPart : Type 0
OverlayOfPart =
    (p q : Path) (t : PathTree) (writes : List Write)
    → sub (overlay p t writes) q ≡ overlay (p ++ q) (sub t q) writes

-- each child of an overlaid tree is the overlay of the child
abbrev pub OverlayOfChild : Type 0
OverlayOfChild =
    (p : Path) (t : PathTree) (writes : List Write) (k : Key)
    → child (overlay p t writes) k ≡ overlay (p ++ k ∷ []) (child t k) writes

-- where no entry sits at, above or below the path the tree is as it was
abbrev pub OverlayElsewhere : Type 0
OverlayElsewhere =
    (p : Path) (t : PathTree) (writes : List Write)
    → touches writes p ≡ false → overlay p t writes ≡ t

-- where an entry sits at or above the path nothing of the tree shows
abbrev pub OverlayOfWhole : Type 0
OverlayOfWhole =
    (p : Path) (t u : PathTree) (writes : List Write)
    → sets_whole writes p ≡ true → overlay p t writes ≡ overlay p u writes

-- a part of a tree at p has no leaf under more than 32 keys where the tree has none
abbrev pub PartIsShallow : Type 0
PartIsShallow =
    (p q : Path) (t : PathTree)
    → length (p ++ q) ≤ MAX_LEVELS → IsShallow (p, t) → IsShallow (p ++ q, sub t q)

-- a tree put below one at p makes no leaf stand under more than 32 keys where neither tree has one
abbrev pub PutIsShallow : Type 0
PutIsShallow =
    (p q : Path) (t u : PathTree)
    → IsShallow (p, t) → IsShallow (p ++ q, u) → IsShallow (p, put t q u)

-- an overlay of a tree at p has no leaf under more than 32 keys where the tree and the entries have
-- none
abbrev pub OverlayIsShallow : Type 0
OverlayIsShallow =
    (p : Path) (t : PathTree) (writes : List Write)
    → length p ≤ MAX_LEVELS → IsShallow (p, t) → All (λ w. All IsShallow w.entries) writes
    → IsShallow (p, overlay p t writes)
