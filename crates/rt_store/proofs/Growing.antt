-- Nodes that are made of trees.
use Rattle.std.proofs.Common.{◌≡◌, ◌≢◌, ◌≤◌, ◌<◌, ℕ, ◌+◌, List, [], ◌∷◌, length, Option, Some, None, true, false, cond, refl, sym, ap, subst, ◌∙◌, arith, drop, map, get_or}
use Rattle.std.specs.Prelude.{nat_eq, ◌&&◌, T}
use Rattle.std.specs.declared.cmp.Ordering.TheVariants.{Less, Equal, Greater}
use Rattle.std.specs.Ordering.{is_lt}
use Rattle.std.specs.FinMap.Entries.{is_sorted, below_all}
use Rattle.std.proofs.lemmas.List.{at_drop_more}
use Rattle.std.proofs.lemmas.Bool.{eqb-true, eq-eqb}
use Rattle.std.specs.Option.{option_map}
use Rattle.slab.specs.Slab.{get, slab_len, Updates}
use Rattle.rt_tree.specs.Leaf.{LeafValue}
use Rattle.rt_tree.specs.PathTree.{Key, Path, PathTree, first as both_first, key_eq, key_eq-is, key_eq-same, key_eq-symm, levels, child_levels, null, is_null, is_null-null, put, of_leaf, leaf_of_root, leaf_at, object, child_of, AllFull, sub}
use Rattle.rt_tree.specs.Children.{children_of, child_of-children_of}
use Rattle.rt_tree.proofs.Trees.{put-root, put-object, is_null-put, some_non_null, full_of_non_null}
use Rattle.rt_order.specs.KeyOrder.{key_cmp}
use Rattle.rt_nodes.specs.Forest.{bare, node, AllAfter, IsRow, row_at}
use Rattle.rt_nodes.specs.Nodes.{Inserted}
use Rattle.rt_nodes.specs.Walks.{spot_in}
use Rattle.rt_nodes.specs.Changes.{Same, Changed, Grown, with_content, linked_in, planted}
use Rattle.rt_nodes.specs.declared.nodes.SeekResult.TheVariants.{Gap}
use Rattle.rt_nodes.proofs.Reached.{row_at_is, row_at-none}
use Rattle.rt_nodes.proofs.Planting.{spot_in-front, planted-front, planted_row, planted_changed}
use Rattle.rt_nodes.proofs.Growing.{grown_none, changed_then, one_grown, one_is}
use Rattle.rt_store.specs.Rows.{Row, in_key_order}
use Rattle.rt_store.specs.inside.Growing.{seen}
use Rattle.rt_store.specs.inside.Entries.{entries, tree_with, IsFull, Filled, Nodes, Trees}
use Rattle.rt_store.specs.inside.Changes.{IsGrown}
use Rattle.rt_store.specs.declared.nodes.StoreChild.{StoreChild}
use Rattle.rt_store.proofs.Orders.{find-child_of, sorted-in_key_order, find-in_key_order}
use Rattle.rt_store.proofs.Paths.{differs}
use Rattle.rt_store.proofs.Falling.{onto, sorted_so_far, after_from_sorted}
use Rattle.rt_store.proofs.Planting.{IsOne, one_node, filled_planted}

-- ---- trees put into nothing
pub put_key : (k : Key) (p : Path) (u : PathTree) → is_null u ≡ false → object ((k, put null p u) ∷ []) ≡ put null (k ∷ p) u
put_key k p u full = sym (put-object [] ((k, put null p u) ∷ []) k p u (λ j.
    ap (λ b. cond b (Some (put null p u)) None) (key_eq-symm j k)
    ∙ ap (λ o. cond (key_eq k j) o None) (sym (some_non_null (put null p u) (is_null-put null p u full)))))

pub no_path : (p : Path) → length p ≡ 0 → p ≡ []
no_path [] e = refl
no_path (k ∷ p) e = absurd (omega (arith, e))

pub put_whole : (t : PathTree) (p : Path) (u : PathTree) → length p ≡ 0 → put t p u ≡ u
put_whole t p u e = ap (λ q. put t q u) (no_path p e) ∙ put-root t u

pub put_leaf : (p : Path) (t : PathTree) (l : LeafValue) → length p ≡ 0 → leaf_at t [] ≡ Some l → of_leaf l ≡ put null p t
put_leaf p t l e is = sym (put_whole null p t e ∙ leaf_of_root t l is)

-- ---- children
pub full-children_of : (t : PathTree) → AllFull (children_of t)
full-children_of t k u is = full_of_non_null (sub t (k ∷ [])) u (sym (child_of-children_of t k) ∙ is)

-- a row of something that isn't null
pub full_row : (f : Trees) → is_null (object (entries f)) ≡ false → IsFull None f
full_row bare full = cc (full, is_null-null)
full_row (node n key leaf below behind) full = tt

-- ---- nothing was made yet
pub nothing_grown : (s : Nodes) (parent : Option ℕ) → IsGrown s s None parent
nothing_grown s parent = record { grown = grown_none s parent; filled = subst Filled (sym (row_at-none s)) tt }

-- ---- one node: s before, u with the node, t with what stands below it, v with both linked
module _ (s u : Nodes) (n : ℕ) (key : Key) (parent : Option ℕ) (put_in : Inserted s u n key parent None)
    (t v : Nodes) (leaf : Option LeafValue) (o : Option ℕ) (below : IsGrown u t o (Some n)) (full : IsFull leaf (row_at t o))
    (written : get v n ≡ option_map (with_content leaf o) (get t n)) (others : (m : ℕ) → m ≢ n → get v m ≡ get t m) (len : slab_len v ≡ slab_len t) where
  is : row_at v (Some n) ≡ node n key leaf (row_at t o) bare
  is = one_is s u n key parent None put_in.vacant put_in.updates put_in.len t v leaf o (row_at t o) below.grown.row below.grown.changed written others len

  pub node_grown : IsGrown s v (Some n) parent
  node_grown = record {
    grown = one_grown s u n key parent None put_in.vacant put_in.updates put_in.len t v leaf o (row_at t o) below.grown.row below.grown.changed written others len;
    filled = subst Filled (sym is) (full, below.filled, tt);
  }

  pub one_entry : (tree : PathTree) → tree_with leaf (entries (row_at t o)) ≡ tree → entries (row_at v (Some n)) ≡ (key, tree) ∷ []
  one_entry tree same = ap entries is ∙ ap (λ x. (key, x) ∷ []) same

-- a node that was made is taken out again: s before, u with the node, t after what didn't get on, w without it
pub taken_back : (s u t w : Nodes) (n : ℕ) (key : Key) (parent : Option ℕ) (leaf : Option LeafValue) → Inserted s u n key parent leaf → Same u t
    → Updates t w n None → (get t n ≢ None → slab_len w + 1 ≡ slab_len t) → Same s w
taken_back s u t w n key parent leaf put_in same taken less = record {
  kept = λ m. elim (nat_eq m n) as (λ b. nat_eq m n ≡ b → get w m ≡ get s m) [
    | true ↦ λ e. let is : m ≡ n = eqb-true m n e in ap (get w) is ∙ taken.changed ∙ sym (ap (get s) is ∙ put_in.vacant)
    | false ↦ λ e. let other : m ≢ n = λ is. cc (e, eq-eqb m n is) in taken.others m other ∙ same.kept m ∙ put_in.updates.others m other
  ] refl;
  len = omega (arith, less (λ none. cc (sym none ∙ same.kept n ∙ put_in.updates.changed)), same.len, put_in.len);
}

-- ---- a row that is made from behind
-- what stands in front of each is not among them
not_behind : (k : Key) (es : Row) → T (below_all key_cmp k es) → child_of es k ≡ None
not_behind k [] h = refl
not_behind k (e ∷ es) h =
    elim (key_cmp k e.0) as (λ o. key_cmp k e.0 ≡ o → T (is_lt o && below_all key_cmp k es) → cond (key_eq k e.0) (Some e.1) (child_of es k) ≡ None) [
      | Less ↦ λ order g. ap (λ b. cond b (Some e.1) (child_of es k)) (differs k e.0 Less order refl) ∙ not_behind k es g
      | Equal ↦ λ order g. absurd g
      | Greater ↦ λ order g. absurd g
    ] refl h

-- what was found is found further on, where keys rise
found_onto : (cs es : Row) (k : Key) (t : PathTree) → T (is_sorted key_cmp (onto cs es)) → child_of es k ≡ Some t → child_of (onto cs es) k ≡ Some t
found_onto [] es k t h is = is
found_onto (c ∷ cs) es k t h is =
    found_onto cs (c ∷ es) k t h
    (elim (key_eq k c.0) as (λ b. key_eq k c.0 ≡ b → cond b (Some c.1) (child_of es k) ≡ Some t) [
      | true ↦ λ same.
          let none : child_of es c.0 ≡ None = not_behind c.0 es (both_first _ _ (sorted_so_far c cs es h)) in
          cc (is, ap (child_of es) (key_eq-is k c.0 same), none)
      | false ↦ λ other. is
    ] refl)

-- x is the next child
module _ (s0 s : Nodes) (o parent : Option ℕ) (es : Row) (xs : List StoreChild) (i : ℕ) (x : StoreChild) (made : IsGrown s0 s o parent)
    (left : onto (map seen (drop i xs)) (entries (row_at s o)) ≡ in_key_order es) (inside : i < length xs) (is : x ≡ get_or xs i x) where
  h : Grown s0 s o parent
  h = made.grown

  next_left : onto (map seen (drop (i + 1) xs)) (seen x ∷ entries (row_at s o)) ≡ in_key_order es
  next_left =
      ap (λ y. onto (map seen (drop (i + 1) xs)) (seen y ∷ entries (row_at s o))) is
      ∙ sym (at_drop_more (λ ys. onto (map seen ys) (entries (row_at s o))) xs i x inside) ∙ left

  rises : T (is_sorted key_cmp (onto (map seen (drop (i + 1) xs)) (seen x ∷ entries (row_at s o))))
  rises = subst (λ fs. T (is_sorted key_cmp fs)) (sym next_left) (sorted-in_key_order es)

  next_after : AllAfter x.key.now (row_at s o)
  next_after = after_from_sorted x.key.now x.tree.now (row_at s o) (sorted_so_far (seen x) (map seen (drop (i + 1) xs)) (entries (row_at s o)) rises)

  next_is : child_of (in_key_order es) x.key.now ≡ Some x.tree.now
  next_is =
      ap (λ fs. child_of fs x.key.now) (sym next_left)
      ∙ found_onto (map seen (drop (i + 1) xs)) (seen x ∷ entries (row_at s o)) x.key.now x.tree.now rises
      (ap (λ b. cond b (Some x.tree.now) (child_of (entries (row_at s o)) x.key.now)) (key_eq-same x.key.now))

  pub next_child : AllFull es → (levels x.tree.now + 1 ≤ levels (object (in_key_order es))) × (is_null x.tree.now ≡ false)
  next_child full =
      let some : is_null x.tree.now ≡ false =
      full x.key.now x.tree.now (sym (find-child_of es x.key.now) ∙ sym (find-in_key_order es x.key.now) ∙ find-child_of (in_key_order es) x.key.now ∙ next_is) in
      (child_levels (in_key_order es) x.key.now x.tree.now next_is some, some)

  -- its node was made, and put in front
  module _ (t u : Nodes) (n : ℕ) (p : Path) (end : p ≡ []) (one_made : IsGrown s t (Some n) parent)
      (entry : entries (row_at t (Some n)) ≡ (x.key.now, put null p x.tree.now) ∷ [])
      (each : (m : ℕ) → get u m ≡ option_map (linked_in None n o m) (get t m)) (len : slab_len u ≡ slab_len t) where
    one : Grown s t (Some n) parent
    one = one_made.grown

    its : IsOne (row_at t (Some n)) n x.key.now x.tree.now
    its = one_node (row_at t (Some n)) n x.key.now x.tree.now one.row.starts (entry ∙ ap (λ y. (x.key.now, y) ∷ []) (ap (λ q. put null q x.tree.now) end ∙ put-root null x.tree.now))

    spot : spot_in x.key.now None (row_at s o) ≡ Gap None o
    spot = spot_in-front x.key.now (row_at s o) next_after ∙ ap (Gap None) h.row.starts

    row_then : IsRow u (Some n) parent None (planted n x.key.now its.leaf its.below (row_at s o))
    row_then =
        planted_row s t u o parent None o (row_at s o) n x.key.now its.leaf its.below h.row h.changed.once spot
        (subst (IsRow t (Some n) parent None) its.is one.row) (subst (Changed s t bare) its.is one.changed) each len (Some n) (λ e. refl) (λ y e. cc)

    changed_so : Changed s u (row_at s o) (planted n x.key.now its.leaf its.below (row_at s o))
    changed_so =
        planted_changed s t u o parent None o (row_at s o) n x.key.now its.leaf its.below h.row h.changed.once spot
        (subst (IsRow t (Some n) parent None) its.is one.row) (subst (Changed s t bare) its.is one.changed) each len

    filled_one : Filled (node n x.key.now its.leaf its.below bare)
    filled_one = subst Filled its.is one_made.filled

    planted_is : row_at u (Some n) ≡ planted n x.key.now its.leaf its.below (row_at s o)
    planted_is = row_at_is u (Some n) parent None (planted n x.key.now its.leaf its.below (row_at s o)) row_then

    pub next_made : IsGrown s0 u (Some n) parent × onto (map seen (drop (i + 1) xs)) (entries (row_at u (Some n))) ≡ in_key_order es
    next_made = (
      record {
        grown = record {
          row = subst (IsRow u (Some n) parent None) (sym planted_is) row_then;
          changed = subst (Changed s0 u bare) (sym planted_is) (changed_then s0 s u (row_at s o) (planted n x.key.now its.leaf its.below (row_at s o)) h.changed changed_so);
        };
        filled = subst Filled (sym planted_is) (filled_planted n x.key.now its.leaf its.below (row_at s o) made.filled filled_one.0 filled_one.1);
      },
      ap (λ f. onto (map seen (drop (i + 1) xs)) (entries f)) (planted_is ∙ planted-front n x.key.now its.leaf its.below (row_at s o) next_after)
          ∙ ap (λ y. onto (map seen (drop (i + 1) xs)) ((x.key.now, y) ∷ entries (row_at s o))) its.tree ∙ next_left,
    )
