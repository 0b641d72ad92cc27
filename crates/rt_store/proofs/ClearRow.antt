-- A row below which a path is cleared, and a store.
use Rattle.std.proofs.Common.{◌≡◌, ◌≢◌, ◌≤◌, ℕ, [], ◌∷◌, length, Option, Some, None, Bool, true, false, cond, not, is_some, refl, sym, ap, subst, ◌∙◌, arith}
use Rattle.std.specs.Prelude.{◌&&◌, nat_eq}
use Rattle.std.specs.declared.cmp.Ordering.TheVariants.{Less, Equal, Greater}
use Rattle.std.specs.Option.{option_map}
use Rattle.std.specs.FinMap.Entries.{by_order}
use Rattle.std.proofs.lemmas.Bool.{eq-eqb}
use Rattle.slab.specs.Slab.{get, slab_len}
use Rattle.rt_tree.specs.Leaf.{LeafValue}
use Rattle.rt_tree.specs.PathTree.{Key, Path, PathTree, null, leaf_at-null, put, object}
use Rattle.rt_tree.specs.Allowed.{IsAllowed, allowed-null, allowed-put}
use Rattle.rt_tree.proofs.Trees.{put-root}
use Rattle.rt_order.specs.KeyOrder.{key_cmp}
use Rattle.rt_nodes.specs.Forest.{bare, node, first, times, Links, IsRow, row_at}
use Rattle.rt_store.specs.inside.Entries.{entries, IsFull, Filled, Nodes, Trees, NodeSlot}
use Rattle.rt_nodes.specs.Walks.{IsPlace, index_in}
use Rattle.rt_nodes.specs.Changes.{InRow, IsHead, Felled, Changed, without, below_of, with_below, with_content}
use Rattle.rt_store.specs.inside.Changes.{is_bare, cleared}
use Rattle.rt_store.specs.Stored.{Stored}
use Rattle.rt_store.specs.inside.StoreView.{stored, IsStore}
use Rattle.rt_store.specs.declared.store.Store.TheInside.{Inside}
use Rattle.rt_nodes.proofs.Reached.{same_some, row_at-none}
use Rattle.rt_nodes.proofs.Joining.{slots_same}
use Rattle.rt_nodes.proofs.Paths.{found_in_row, other_number}
use Rattle.rt_nodes.proofs.Growing.{felled_changed, same_changed}
use Rattle.rt_nodes.proofs.Taking.{below_is, below_row, below_once, not_there}
use Rattle.rt_nodes.proofs.Replacing.{with_row, with_changed}
use Rattle.rt_store.proofs.Clearing.{tree_cleared, filled_cleared}
use Rattle.rt_store.proofs.Storing.{store_after, tree_after}

-- nothing is cleared where the key isn't there
pub cleared_lacks : (k : Key) (p : Path) (f : Trees) → index_in k f ≡ None → cleared k p f ≡ f
cleared_lacks k p bare none = refl
cleared_lacks k [] (node n key leaf below behind) none =
    elim (key_cmp k key) as (λ o. by_order o None (Some n) (index_in k behind) ≡ None → by_order o (node n key leaf below behind) behind (node n key leaf below (cleared k [] behind)) ≡ node n key leaf below behind) [
      | Less ↦ λ e. refl
      | Equal ↦ λ e. cc
      | Greater ↦ λ e. ap (node n key leaf below) (cleared_lacks k [] behind e)
    ] none
cleared_lacks k (j ∷ p) (node n key leaf below behind) none =
    elim (key_cmp k key) as (λ o. by_order o None (Some n) (index_in k behind) ≡ None
    → by_order o (node n key leaf below behind) (cond (not (is_some leaf) && is_bare (cleared j p below)) behind (node n key leaf (cleared j p below) behind)) (node n key leaf below (cleared k (j ∷ p) behind)) ≡ node n key leaf below behind) [
      | Less ↦ λ e. refl
      | Equal ↦ λ e. cc
      | Greater ↦ λ e. ap (node n key leaf below) (cleared_lacks k (j ∷ p) behind e)
    ] none

-- at the path's end the node goes
cleared_end : (k : Key) (n : ℕ) (f : Trees) → ((m : ℕ) → times m f ≤ 1) → index_in k f ≡ Some n → cleared k [] f ≡ without n f
cleared_end k n bare once e = cc
cleared_end k n (node m key leaf below behind) once e =
    elim (key_cmp k key) as (λ o. by_order o None (Some m) (index_in k behind) ≡ Some n → by_order o (node m key leaf below behind) behind (node m key leaf below (cleared k [] behind)) ≡ cond (nat_eq n m) behind (node m key leaf below (without n behind))) [
      | Less ↦ λ g. cc
      | Equal ↦ λ g. sym (ap (λ b. cond b behind (node m key leaf below (without n behind))) (eq-eqb n m (sym (same_some m n g))))
      | Greater ↦ λ g.
          ap (node m key leaf below) (cleared_end k n behind (λ x. omega (arith, once x)) g)
          ∙ sym (ap (λ b. cond b behind (node m key leaf below (without n behind))) (other_number n m key leaf below behind (found_in_row k n behind g) (once n)))
    ] e

either_node : (b : Bool) (n : ℕ) (key : Key) (leaf : Option LeafValue) (below x y : Trees) → node n key leaf below (cond b x y) ≡ cond b (node n key leaf below x) (node n key leaf below y)
either_node true n key leaf below x y = refl
either_node false n key leaf below x y = refl

-- before it the node goes, or what stands below it is cleared
cleared_through : (s : Nodes) (parent previous : Option ℕ) (k : Key) (n : ℕ) (slot : NodeSlot) (j : Key) (p : Path) (f : Trees) → Links s parent previous f → ((m : ℕ) → times m f ≤ 1) → get s n ≡ Some slot → index_in k f ≡ Some n
    → cleared k (j ∷ p) f ≡ cond (not (is_some slot.value) && is_bare (cleared j p (below_of n f))) (without n f) (with_below n slot.value (cleared j p (below_of n f)) f)
cleared_through s parent previous k n slot j p bare h once there e = cc
cleared_through s parent previous k n slot j p (node m key leaf below behind) h once there e =
    let becomes : Bool → Option LeafValue → Trees = λ b l.
    cond (not (is_some l) && is_bare (cleared j p (cond b below (below_of n behind)))) (cond b behind (node m key leaf below (without n behind)))
    (cond b (node m key l (cleared j p (cond b below (below_of n behind))) behind) (node m key leaf below (with_below n l (cleared j p (cond b below (below_of n behind))) behind))) in
    elim (key_cmp k key) as (λ o. by_order o None (Some m) (index_in k behind) ≡ Some n
    → by_order o (node m key leaf below behind) (cond (not (is_some leaf) && is_bare (cleared j p below)) behind (node m key leaf (cleared j p below) behind)) (node m key leaf below (cleared k (j ∷ p) behind)) ≡ becomes (nat_eq n m) slot.value) [
      | Less ↦ λ g. cc
      | Equal ↦ λ g.
          let same : n ≡ m = sym (same_some m n g) in
          let leaves : leaf ≡ slot.value = ap (λ (x : NodeSlot). x.value) (slots_same s m _ slot h.0 (ap (get s) (sym same) ∙ there)) in
          (λ i. becomes (sym (eq-eqb n m same) i) (leaves i))
      | Greater ↦ λ g.
          ap (node m key leaf below) (cleared_through s parent (Some m) k n slot j p behind h.2 (λ x. omega (arith, once x)) there g)
          ∙ either_node (not (is_some slot.value) && is_bare (cleared j p (below_of n behind))) m key leaf below (without n behind) (with_below n slot.value (cleared j p (below_of n behind)) behind)
          ∙ sym (ap (λ b. becomes b slot.value) (other_number n m key leaf below behind (found_in_row k n behind g) (once n)))
    ] e

-- a node with a leaf has nothing below it
kept_leaf : (j : Key) (p : Path) (n : ℕ) (key : Key) (leaf : Option LeafValue) (below behind : Trees) → IsFull leaf below → is_some leaf ≡ true
    → cond (not (is_some leaf) && is_bare (cleared j p below)) behind (node n key leaf (cleared j p below) behind) ≡ node n key leaf below behind
kept_leaf j p n key None below behind full e = cc
kept_leaf j p n key (Some l) bare behind full e = refl
kept_leaf j p n key (Some l) (node m x y b r) behind full e = absurd full

cleared_leaf : (s : Nodes) (parent previous : Option ℕ) (k : Key) (n : ℕ) (slot : NodeSlot) (j : Key) (p : Path) (f : Trees) → Links s parent previous f → Filled f → get s n ≡ Some slot → index_in k f ≡ Some n
    → is_some slot.value ≡ true → cleared k (j ∷ p) f ≡ f
cleared_leaf s parent previous k n slot j p bare h filled there e leaf_there = refl
cleared_leaf s parent previous k n slot j p (node m key leaf below behind) h filled there e leaf_there =
    elim (key_cmp k key) as (λ o. by_order o None (Some m) (index_in k behind) ≡ Some n
    → by_order o (node m key leaf below behind) (cond (not (is_some leaf) && is_bare (cleared j p below)) behind (node m key leaf (cleared j p below) behind)) (node m key leaf below (cleared k (j ∷ p) behind)) ≡ node m key leaf below behind) [
      | Less ↦ λ g. refl
      | Equal ↦ λ g. kept_leaf j p m key leaf below behind filled.0 (ap (λ (x : NodeSlot). is_some x.value) (slots_same s m _ slot h.0 (ap (get s) (same_some m n g) ∙ there)) ∙ leaf_there)
      | Greater ↦ λ g. ap (node m key leaf below) (cleared_leaf s parent (Some m) k n slot j p behind h.2 filled.2 there g leaf_there)
    ] e

-- ---- the steps of `clear_row`
pub clear_none : (s : Nodes) (o : Option ℕ) (k : Key) (p : Path) → index_in k (row_at s o) ≡ None → (parent : Option ℕ) → IsRow s o parent None (row_at s o) → IsRow s o parent None (cleared k p (row_at s o))
clear_none s o k p none parent h = subst (IsRow s o parent None) (sym (cleared_lacks k p (row_at s o) none)) h

pub clear_none-changed : (s : Nodes) (o : Option ℕ) (k : Key) (p : Path) → index_in k (row_at s o) ≡ None → ((n : ℕ) → times n (row_at s o) ≤ 1) → Changed s s (row_at s o) (cleared k p (row_at s o))
clear_none-changed s o k p none once = subst (Changed s s (row_at s o)) (sym (cleared_lacks k p (row_at s o) none)) (same_changed s (row_at s o) once)

none_of : {A : Type 0} (o : Option A) → is_some o ≡ false → o ≡ None
none_of None e = refl
none_of (Some x) e = cc

module _ (s : Nodes) (o : Option ℕ) (k : Key) (n : ℕ) (h : IsHead s o) (found : index_in k (row_at s o) ≡ Some n) where
  pub clear_there : InRow n (row_at s o)
  clear_there = found_in_row k n (row_at s o) found

  pub clear_lost : get s n ≡ None → ⊥
  clear_lost none = not_there s o h.0 (row_at s o) n h.1 clear_there none

  module _ (once : (m : ℕ) → times m (row_at s o) ≤ 1) where
    pub clear_end : (p : Path) → length p ≡ 0 → cleared k p (row_at s o) ≡ without n (row_at s o)
    clear_end [] short = cleared_end k n (row_at s o) once found
    clear_end (j ∷ p) short = absurd (omega (arith, short))

    module _ (slot : NodeSlot) (there : get s n ≡ Some slot) where
      pub clear_leaf : (j : Key) (p : Path) → Filled (row_at s o) → is_some slot.value ≡ true → cleared k (j ∷ p) (row_at s o) ≡ row_at s o
      clear_leaf j p filled e = cleared_leaf s h.0 None k n slot j p (row_at s o) h.1.links filled there found e

      pub clear_leaf-row : (j : Key) (p : Path) → Filled (row_at s o) → is_some slot.value ≡ true → (parent : Option ℕ) → IsRow s o parent None (row_at s o) → IsRow s o parent None (cleared k (j ∷ p) (row_at s o))
      clear_leaf-row j p filled e parent g = subst (IsRow s o parent None) (sym (clear_leaf j p filled e)) g

      pub clear_leaf-changed : (j : Key) (p : Path) → Filled (row_at s o) → is_some slot.value ≡ true → Changed s s (row_at s o) (cleared k (j ∷ p) (row_at s o))
      clear_leaf-changed j p filled e = subst (Changed s s (row_at s o)) (sym (clear_leaf j p filled e)) (same_changed s (row_at s o) once)

      pub clear_below : IsRow s slot.first_child (Some n) None (row_at s slot.first_child)
      clear_below = below_row s o h.0 n slot h.1 clear_there there

      pub clear_place : IsPlace s slot.first_child
      clear_place = (Some n, None, clear_below)

      pub clear_once : (m : ℕ) → times m (row_at s slot.first_child) ≤ 1
      clear_once = below_once s o h.0 n slot h.1 clear_there there once

      is_below : row_at s slot.first_child ≡ below_of n (row_at s o)
      is_below = below_is s o h.0 n slot h.1 clear_there there

      through : (j : Key) (p : Path) → is_some slot.value ≡ false
          → cleared k (j ∷ p) (row_at s o) ≡ cond (is_bare (cleared j p (row_at s slot.first_child))) (without n (row_at s o)) (with_below n None (cleared j p (row_at s slot.first_child)) (row_at s o))
      through j p e =
          cleared_through s h.0 None k n slot j p (row_at s o) h.1.links once there found
          ∙ (λ i. cond (not (is_some (none_of slot.value e i)) && is_bare (cleared j p (sym is_below i))) (without n (row_at s o)) (with_below n (none_of slot.value e i) (cleared j p (sym is_below i)) (row_at s o)))

      pub clear_out : (j : Key) (p : Path) → is_some slot.value ≡ false → is_bare (cleared j p (row_at s slot.first_child)) ≡ true → cleared k (j ∷ p) (row_at s o) ≡ without n (row_at s o)
      clear_out j p e gone = through j p e ∙ ap (λ b. cond b (without n (row_at s o)) (with_below n None (cleared j p (row_at s slot.first_child)) (row_at s o))) gone

      module _ (j : Key) (p : Path) (e : is_some slot.value ≡ false) (left : is_bare (cleared j p (row_at s slot.first_child)) ≡ false) (t u : Nodes) (link : Option ℕ)
          (row : (parent : Option ℕ) → IsRow s slot.first_child parent None (row_at s slot.first_child) → IsRow t link parent None (cleared j p (row_at s slot.first_child)))
          (changed : Changed s t (row_at s slot.first_child) (cleared j p (row_at s slot.first_child)))
          (written : get u n ≡ option_map (with_content None link) (get t n)) (others : (m : ℕ) → m ≢ n → get u m ≡ get t m) (len : slab_len u ≡ slab_len t) where
        becomes : cleared k (j ∷ p) (row_at s o) ≡ with_below n None (cleared j p (row_at s slot.first_child)) (row_at s o)
        becomes = through j p e ∙ ap (λ b. cond b (without n (row_at s o)) (with_below n None (cleared j p (row_at s slot.first_child)) (row_at s o))) left

        change : Changed s t (below_of n (row_at s o)) (cleared j p (row_at s slot.first_child))
        change = subst (λ f. Changed s t f (cleared j p (row_at s slot.first_child))) is_below changed

        pub clear_below-row : (parent : Option ℕ) → IsRow s o parent None (row_at s o) → IsRow u o parent None (cleared k (j ∷ p) (row_at s o))
        clear_below-row parent g =
            subst (IsRow u o parent None) (sym becomes)
            (with_row s t u o parent link None (row_at s o) (cleared j p (row_at s slot.first_child)) n g once clear_there (row (Some n) (below_row s o h.0 n slot h.1 clear_there there)) change written others len)

        pub clear_below-changed : Changed s u (row_at s o) (cleared k (j ∷ p) (row_at s o))
        clear_below-changed =
            subst (Changed s u (row_at s o)) (sym becomes)
            (with_changed s t u o h.0 link None (row_at s o) (cleared j p (row_at s slot.first_child)) n h.1 once clear_there (row (Some n) (below_row s o h.0 n slot h.1 clear_there there)) change written others len)

-- ---- the steps of `clear`
pub emptied : (a : Inside) (t : Nodes) → IsStore a → Felled a.nodes t (row_at a.nodes a.first) → IsStore (record { nodes = t; first = None; leaf = None })
emptied a t h felled =
    store_after a (record { nodes = t; first = None; leaf = None }) h bare (record { links = tt; sound = tt; starts = refl; fits = omega arith }) tt
    (felled_changed a.nodes t (row_at a.nodes a.first) felled) (λ e. refl) allowed-null

pub emptied_tree : (t : Nodes) (u : PathTree) (path : Path) → length path ≡ 0 → (stored (record { nodes = t; first = None; leaf = None })).tree ≡ put u path null
emptied_tree t u [] short = ap (λ f. object (entries f)) (row_at-none t) ∙ sym (put-root u null)
emptied_tree t u (k ∷ p) short = absurd (omega (arith, short))

module _ (a : Inside) (h : IsStore a) (k : Key) (p : Path) (t : Nodes) (o : Option ℕ)
    (row : (parent : Option ℕ) → IsRow a.nodes a.first parent None (row_at a.nodes a.first) → IsRow t o parent None (cleared k p (row_at a.nodes a.first)))
    (changed : Changed a.nodes t (row_at a.nodes a.first) (cleared k p (row_at a.nodes a.first))) where
  is_row : IsRow t o None None (cleared k p (row_at a.nodes a.first))
  is_row = row None h.row

  top : is_some a.leaf ≡ true → o ≡ None
  top e = sym is_row.starts ∙ ap (λ f. first (cleared k p f)) (ap (row_at a.nodes) (h.top e) ∙ row_at-none a.nodes)

  pub cleared_store : IsStore (record a { nodes = t; first = o })
  cleared_store =
      store_after a (record a { nodes = t; first = o }) h (cleared k p (row_at a.nodes a.first)) is_row (filled_cleared k p (row_at a.nodes a.first) h.filled) changed top
      (subst IsAllowed (tree_cleared a.leaf k p (row_at a.nodes a.first) h.row.sound h.filled) (allowed-put (stored a).tree (k ∷ p) null h.allowed (λ j l e. cc (leaf_at-null j))))

  pub cleared_tree : (s : Stored) (path : Path) → stored a ≡ s → path ≡ k ∷ p → (stored (record a { nodes = t; first = o })).tree ≡ put s.tree path null
  cleared_tree s path view goes =
      tree_after (record a { nodes = t; first = o }) (cleared k p (row_at a.nodes a.first)) is_row
      ∙ sym (tree_cleared a.leaf k p (row_at a.nodes a.first) h.row.sound h.filled) ∙ (λ i. put (view i).tree (sym goes i) null)
