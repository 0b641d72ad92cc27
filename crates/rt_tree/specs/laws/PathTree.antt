-- Laws of trees, by the leaf at each path. The definitions stand in `Leaves` and `Trees`, and are
-- passed on here, so that who cites laws has both from one module.
use Rattle.std.specs.Prelude.{◌≡◌, ℕ, suc, ◌+◌, ◌-◌, ◌<◌, ◌≤◌, max, Bool, true, false, cond, not}
use Rattle.std.specs.Prelude.{◌&&◌, List, [], ◌∷◌, ◌++◌, length, Some, None, is_some, refl}
use Rattle.std.proofs.Common.{sym, ap, ◌∙◌, arith}
use Rattle.std.specs.Option.{option_and_then}
use Rattle.std.specs.FinMap.{find}
use Rattle.std.specs.FinMap.Entries.{same_entries}
use Rattle.rt_tree.specs.Leaf.{LeafValue}
pub use Rattle.rt_tree.specs.Leaves.{Key, Path, key_cmp, path_cmp, key_eq, path_eq, strip, Leaves}
pub use Rattle.rt_tree.specs.Leaves.{is_empty, get, are_apart, is_apart_from, stand_apart, is_fine}
pub use Rattle.rt_tree.specs.Leaves.{IsApart, sub_entry, sub_entries, in_order, sub_leaves, stays}
pub use Rattle.rt_tree.specs.Leaves.{graft, put_leaves, after_put, first_key, is_within}
pub use Rattle.rt_tree.specs.Leaves.{within_leaves, levels_of}
pub use Rattle.rt_tree.specs.Trees.{PathTree, leaf_of, child, object, child_of, non_null, AllFull}
unfoldable pub use Rattle.rt_tree.specs.Trees.{leaf_at, null, is_null, of_leaf, sub, put}
unfoldable pub use Rattle.rt_tree.specs.Trees.{with_children, children_alone, levels}
pub use Rattle.rt_tree.specs.laws.Prefixes.{paths_total, exact_keys, exact_paths, path_eq-append}
pub use Rattle.rt_tree.specs.laws.Prefixes.{path_eq-same, path_eq-symm, path_eq-is, key_eq-same}
pub use Rattle.rt_tree.specs.laws.Prefixes.{key_eq-is, key_eq-symm, strip-append, length-strip}
pub use Rattle.rt_tree.specs.laws.Prefixes.{strip-more, strip-crossed, strip-some, strip-under}
pub use Rattle.rt_tree.specs.laws.Prefixes.{strip-both, strip-apart}
pub use Rattle.rt_tree.specs.inside.Fine.{shown, both, first, second, apart_of, fine_of}
pub use Rattle.rt_tree.specs.inside.TreeCode.{same_leaves, tree_code}
pub use Rattle.rt_tree.specs.inside.Puts.{child_or_null, PutsBelow, AddsChild}
use Rattle.rt_tree.specs.inside.Fine.{sorted_fine, apart_fine, get-sub_leaves, get-put_leaves}
use Rattle.rt_tree.specs.inside.Fine.{get-within_leaves}

pub leaf_at-entries : (t : PathTree) (p : Path) → leaf_at t p ≡ find path_cmp p t.leaves
unfolding leaf_at
leaf_at-entries t p = refl

-- trees with the same leaf at each path are equal
pub same_tree : (t u : PathTree) → ((q : Path) → leaf_at t q ≡ leaf_at u q) → t ≡ u
unfolding leaf_at
same_tree t u h =
    same_leaves t u (same_entries path_cmp paths_total exact_paths t.leaves u.leaves
    (sorted_fine t.leaves t.fine) (sorted_fine u.leaves u.fine) h)

pub leaf_at-null : (q : Path) → leaf_at null q ≡ None
unfolding leaf_at null
leaf_at-null q = refl

pub is_null-null : is_null null ≡ true
unfolding is_null null
is_null-null = refl

no_leaf : (m : Leaves) → is_empty m ≡ true → m ≡ []
no_leaf [] e = refl
no_leaf (x ∷ m) e = cc

pub null_of_is_null : (t : PathTree) → is_null t ≡ true → t ≡ null
unfolding is_null null
null_of_is_null t e = same_leaves t null (no_leaf t.leaves e)

-- a tree with a leaf is not null
pub not_null_of_leaf : (t : PathTree) (q : Path) (l : LeafValue) → leaf_at t q ≡ Some l
    → is_null t ≡ false
not_null_of_leaf t q l e =
    elim (is_null t) as (λ b. is_null t ≡ b → b ≡ false) [
      | true ↦ λ h. cc (ap (λ u. leaf_at u q) (null_of_is_null t h), leaf_at-null q)
      | false ↦ λ h. refl
    ] refl

pub leaf_at-of_leaf : (l : LeafValue) (q : Path) → leaf_at (of_leaf l) q
    ≡ cond (path_eq q []) (Some l) None
unfolding leaf_at of_leaf
leaf_at-of_leaf l q = refl

-- no path is a proper prefix of another
pub leaves_alone : (t : PathTree) (p q : Path) (l n : LeafValue) → leaf_at t p ≡ Some l
    → leaf_at t (p ++ q) ≡ Some n → q ≡ []
unfolding leaf_at
leaves_alone t p q l n e f = apart_fine t.leaves t.fine p q l n e f

pub leaf_alone : (t : PathTree) (p : Path) (l : LeafValue) (k : Key) (q : Path)
    → leaf_at t p ≡ Some l → leaf_at t (p ++ k ∷ q) ≡ None
unfolding leaf_at
leaf_alone t p l k q e =
    elim (get t.leaves (p ++ k ∷ q)) as (λ o. get t.leaves (p ++ k ∷ q) ≡ o → o ≡ None) [
      | None ↦ λ f. refl
      | Some n ↦ λ f. cc (apart_fine t.leaves t.fine p (k ∷ q) l n e f)
    ] refl

-- a tree with a leaf at the root is that leaf
pub leaf_of_root : (t : PathTree) (l : LeafValue) → leaf_at t [] ≡ Some l → t ≡ of_leaf l
leaf_of_root t l e = same_tree t (of_leaf l) at
  where
    at : (q : Path) → leaf_at t q ≡ leaf_at (of_leaf l) q
    at [] = e ∙ sym (leaf_at-of_leaf l [])
    at (k ∷ q) = leaf_alone t [] l k q e ∙ sym (leaf_at-of_leaf l (k ∷ q))

-- ---- parts and puts
pub leaf_at-sub : (t : PathTree) (p q : Path) → leaf_at (sub t p) q ≡ leaf_at t (p ++ q)
unfolding leaf_at sub
leaf_at-sub t p q = get-sub_leaves t.leaves p q

pub leaf_at-put : (t : PathTree) (p : Path) (u : PathTree) (q : Path)
    → leaf_at (put t p u) q ≡ after_put (strip p q) (leaf_at u) (not (is_null u)
    && is_some (strip q p)) (leaf_at t q)
unfolding leaf_at put is_null
leaf_at-put t p u q = get-put_leaves t.leaves p u.leaves (is_empty u.leaves) q

-- ---- some children
pub leaf_at-with_children : (test : Key → Bool) (t : PathTree) (q : Path)
    → leaf_at (with_children test t) q ≡ cond (is_within test q) (leaf_at t q) None
unfolding leaf_at with_children
leaf_at-with_children test t q = get-within_leaves test t.leaves q

pub leaf_at-children_alone : (t : PathTree) (k : Key) (q : Path)
    → leaf_at (children_alone t) (k ∷ q) ≡ leaf_at t (k ∷ q)
unfolding children_alone
leaf_at-children_alone t k q =
    elim (leaf_at t []) as (λ o. leaf_at t [] ≡ o
    → leaf_at (cond (is_some o) null t) (k ∷ q) ≡ leaf_at t (k ∷ q)) [
      | None ↦ λ e. refl
      | Some l ↦ λ e. leaf_at-null (k ∷ q) ∙ sym (leaf_alone t [] l k q e)
    ] refl

pub leaf_of-children_alone : (t : PathTree) → leaf_at (children_alone t) [] ≡ None
unfolding children_alone
leaf_of-children_alone t =
    elim (leaf_at t []) as (λ o. leaf_at t [] ≡ o → leaf_at (cond (is_some o) null t) [] ≡ None) [
      | None ↦ λ e. e
      | Some l ↦ λ e. leaf_at-null []
    ] refl

-- ---- children
-- no leaf at the root
pub leaf_at-object-root : (es : List (Key × PathTree)) → leaf_at (object es) [] ≡ None
leaf_at-object-root [] = leaf_at-null []
leaf_at-object-root (e ∷ es) =
    leaf_at-put (object es) (e.0 ∷ []) e.1 []
    ∙ elim (not (is_null e.1) && true) as (λ b. cond b None (leaf_at (object es) [])
    ≡ None) [ true ↦ refl | false ↦ leaf_at-object-root es ]

pub leaf_at-object : (es : List (Key × PathTree)) (k : Key) (q : Path)
    → leaf_at (object es) (k ∷ q) ≡ option_and_then (λ t. leaf_at t q) (child_of es k)
leaf_at-object [] k q = leaf_at-null (k ∷ q)
leaf_at-object (e ∷ es) k q =
    leaf_at-put (object es) (e.0 ∷ []) e.1 (k ∷ q)
    ∙ ap (λ b. after_put (cond b (Some q) None) (leaf_at e.1) (not (is_null e.1)
    && is_some (strip (k ∷ q) (e.0 ∷ []))) (leaf_at (object es) (k ∷ q))) (key_eq-symm e.0 k)
    ∙ elim (key_eq k e.0) as (λ b. key_eq k e.0 ≡ b
    → after_put (cond b (Some q) None) (leaf_at e.1) (not (is_null e.1)
    && is_some (cond b (strip q []) None)) (leaf_at (object es) (k ∷ q))
    ≡ option_and_then (λ t. leaf_at t q) (cond b (Some e.1) (child_of es k))) [
      | true ↦ λ h. refl
      | false ↦ λ h. elim (not (is_null e.1)) as
          (λ n. cond (n && false) None (leaf_at (object es) (k ∷ q))
          ≡ option_and_then (λ t. leaf_at t q) (child_of es k))
          [ true ↦ leaf_at-object es k q | false ↦ leaf_at-object es k q ]
    ] refl

-- ---- how deep a tree is
find_le_levels : (es : List (Path × LeafValue)) (q : Path) (l : LeafValue)
    → find path_cmp q es ≡ Some l → length q < levels_of es
find_le_levels [] q l e = cc
find_le_levels (f ∷ es) q l e =
    elim (path_eq q f.0) as (λ b. path_eq q f.0 ≡ b
    → cond b (Some f.1) (find path_cmp q es) ≡ Some l
    → length q < max (suc (length f.0)) (levels_of es)) [
      | true ↦ λ h g. omega (arith, ap length (path_eq-is q f.0 h))
      | false ↦ λ h g. omega (arith, find_le_levels es q l g)
    ] refl e

levels_le_find : (es : List (Path × LeafValue)) (n : ℕ)
    → ((q : Path) (l : LeafValue) → find path_cmp q es ≡ Some l → length q < n) → levels_of es ≤ n
levels_le_find [] n h = omega arith
levels_le_find (e ∷ es) n h =
    let here : length e.0 < n = h e.0 e.1
    (ap (λ b. cond b (Some e.1) (find path_cmp e.0 es)) (path_eq-same e.0)) in
    let rest : levels_of es ≤ n = levels_le_find es n (λ q l f.
    elim (path_eq q e.0) as (λ b. path_eq q e.0 ≡ b → length q < n) [
      | true ↦ λ g. omega (arith, here, ap length (path_eq-is q e.0 g))
      | false ↦ λ g. h q l (ap (λ b. cond b (Some e.1) (find path_cmp q es)) g ∙ f)
    ] refl) in
    omega arith

-- each path is shorter
pub length_lt_levels : (t : PathTree) (q : Path) (l : LeafValue) → leaf_at t q ≡ Some l
    → length q < levels t
unfolding leaf_at levels
length_lt_levels t q l e = find_le_levels t.leaves q l e

-- and levels is the least such number
pub levels_le : (t : PathTree) (n : ℕ)
    → ((q : Path) (l : LeafValue) → leaf_at t q ≡ Some l → length q < n) → levels t ≤ n
unfolding leaf_at levels
levels_le t n h = levels_le_find t.leaves n h

pub levels-null : levels null ≡ 0
levels-null =
    let none : levels null ≤ 0 = levels_le null 0 (λ q l e. cc (leaf_at-null q)) in
    omega arith

-- a tree with no leaf is null
pub null_of_no_leaf : (t : PathTree) → ((q : Path) → leaf_at t q ≡ None) → t ≡ null
null_of_no_leaf t h = same_tree t null (λ q. h q ∙ sym (leaf_at-null q))

pub null_of_levels : (t : PathTree) → levels t ≡ 0 → t ≡ null
null_of_levels t z = null_of_no_leaf t (λ q.
    elim (leaf_at t q) as (λ o. leaf_at t q ≡ o → o ≡ None) [
      | None ↦ λ e. refl
      | Some l ↦ λ e. absurd (omega (arith, z, length_lt_levels t q l e))
    ] refl)

-- a child that isn't null has fewer levels than the object
pub child_levels : (es : List (Key × PathTree)) (k : Key) (t : PathTree) → child_of es k ≡ Some t
    → is_null t ≡ false → levels t + 1 ≤ levels (object es)
child_levels es k t is full =
    let at : (q : Path) → leaf_at (object es) (k ∷ q) ≡ leaf_at t q = λ q. leaf_at-object es k q
    ∙ ap (option_and_then (λ u. leaf_at u q)) is in
    let less : levels t ≤ levels (object es) - 1 = levels_le t (levels (object es) - 1) (λ q l e.
    let below : suc (length q) < levels (object es) = length_lt_levels (object es) (k ∷ q) l (at q
    ∙ e) in
    omega arith) in
    let some : levels (object es) ≡ 0
    → ⊥ = λ z. cc (
      ap is_null (null_of_no_leaf t (λ q. sym (at q)
          ∙ ap (λ u. leaf_at u (k ∷ q)) (null_of_levels (object es) z) ∙ leaf_at-null (k ∷ q))),
      is_null-null,
    ) in
    omega arith
