-- What may stand where. The definitions stand in `Trees`, and are passed on here.
use Rattle.std.proofs.Common.{◌≡◌, ◌+◌, ◌≤◌, cond, not, ◌&&◌, [], ◌∷◌, ◌++◌, length, Some, None}
use Rattle.std.proofs.Common.{Option, is_some, List, refl, sym, subst, ◌∙◌, arith, length-append}
use Rattle.std.specs.List.{AllByRecursion}
use Rattle.std.specs.Option.{option_and_then}
use Rattle.rt_tree.specs.declared.limits.TheConstants.{MAX_LEVELS}
use Rattle.rt_tree.specs.Leaf.{LeafValue, IsInRange}
use Rattle.rt_tree.specs.Key.{IsKey}
use Rattle.rt_tree.specs.Path.{IsPath}
use Rattle.rt_tree.specs.laws.PathTree.{Key, Path, PathTree, path_eq, strip, strip-some, shown}
use Rattle.rt_tree.specs.laws.PathTree.{leaf_at, null, leaf_at-null, is_null, of_leaf}
use Rattle.rt_tree.specs.laws.PathTree.{leaf_at-of_leaf, sub, leaf_at-sub, put, leaf_at-put}
use Rattle.rt_tree.specs.laws.PathTree.{after_put, object, child_of, leaf_at-object-root}
use Rattle.rt_tree.specs.laws.PathTree.{leaf_at-object, levels, levels_le, length_lt_levels}
pub use Rattle.rt_tree.specs.Trees.{MayStandAt, IsAllowed}

all_keys : (p q : Path) → AllByRecursion IsKey p → AllByRecursion IsKey q
    → AllByRecursion IsKey (p ++ q)
all_keys [] q h g = g
all_keys (k ∷ p) q h g = (h.0, all_keys p q h.1 g)

-- what may stand at the root may stand at a path, where both together are short enough
pub may_stand : (p : Path) (t : PathTree) → IsPath p → IsAllowed t
    → length p + levels t ≤ MAX_LEVELS → MayStandAt p t
may_stand p t path allowed fits q l e =
    let there = allowed q l e in (
      record {
        short = omega (arith, length-append p q, length_lt_levels t q l e);
        keys = all_keys p q path.keys there.0.keys;
      },
      there.1,
    )

-- what may stand at a path may stand above it, one key less deep
pub may_stand_below : (k : Key) (p : Path) (t : PathTree) → MayStandAt (k ∷ p) t → MayStandAt p t
may_stand_below k p t h q l e =
    let there = h q l e in
    (record { short = omega (arith, there.0.short); keys = there.0.keys.1 }, there.1)

-- the levels of a tree that may stand at the root
pub shallow_of : (t : PathTree) → IsAllowed t → levels t ≤ MAX_LEVELS
shallow_of t h = levels_le t MAX_LEVELS (λ q l e. omega (arith, (h q l e).0.short))

pub allowed-null : IsAllowed null
allowed-null q l e = cc (leaf_at-null q)

pub allowed-of_leaf : (l : LeafValue) → IsInRange l → IsAllowed (of_leaf l)
allowed-of_leaf l h q n e = at q (sym (leaf_at-of_leaf l q) ∙ e)
  where
    at : (q : Path) → cond (path_eq q []) (Some l) None ≡ Some n → IsPath q × IsInRange n
    at [] e = (
      record { short = omega arith; keys = tt },
      subst IsInRange (let same : l ≡ n = cc in
          same) h,
    )
    at (k ∷ q) e = cc

-- a tree that may stand at p is put there
pub allowed-put : (t : PathTree) (p : Path) (u : PathTree) → IsAllowed t → MayStandAt p u
    → IsAllowed (put t p u)
allowed-put t p u h g q l e = at (strip p q) (strip-some p q) (sym (leaf_at-put t p u q) ∙ e)
  where
    at : (o : Option Path) → ((r : Path) → o ≡ Some r → q ≡ p ++ r)
        → after_put o (leaf_at u) (not (is_null u) && is_some (strip q p)) (leaf_at t q) ≡ Some l
        → IsPath q × IsInRange l
    at None is e = h q l (shown _ _ l e)
    at (Some r) is e = subst (λ x. IsPath x × IsInRange l) (sym (is r refl)) (g r l e)

-- a part of a tree
pub allowed-sub : (t : PathTree) (p : Path) → IsAllowed t → MayStandAt p (sub t p)
allowed-sub t p h q l e = h (p ++ q) l (sym (leaf_at-sub t p q) ∙ e)

-- children, each of which may stand at its key
pub allowed-object : (es : List (Key × PathTree))
    → ((k : Key) (t : PathTree) → child_of es k ≡ Some t → MayStandAt (k ∷ []) t)
    → IsAllowed (object es)
allowed-object es h [] l e = cc (leaf_at-object-root es)
allowed-object es h (k ∷ q) l e = at (child_of es k) (h k) (sym (leaf_at-object es k q) ∙ e)
  where
    at : (o : Option PathTree) → ((t : PathTree) → o ≡ Some t → MayStandAt (k ∷ []) t)
        → option_and_then (λ t. leaf_at t q) o ≡ Some l → IsPath (k ∷ q) × IsInRange l
    at None g e = cc
    at (Some t) g e = g t refl q l e
