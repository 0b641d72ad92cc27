-- A row with a tree put at a path below it.
use Rattle.std.proofs.Common.{◌≡◌, ◌≢◌, ◌≤◌, ℕ, ◌+◌, [], ◌∷◌, length, Option, Some, None, Bool, true, false, cond, is_some, refl, sym, ap, subst, ◌∙◌, arith}
use Rattle.std.specs.Prelude.{nat_eq}
use Rattle.std.specs.declared.cmp.Ordering.TheVariants.{Less, Equal, Greater}
use Rattle.std.specs.Option.{option_map, option_map_or}
use Rattle.std.specs.FinMap.Entries.{by_order}
use Rattle.std.proofs.lemmas.Bool.{eq-eqb}
use Rattle.slab.specs.Slab.{get, slab_len}
use Rattle.rt_tree.specs.Leaf.{LeafValue}
use Rattle.rt_tree.specs.Path.{IsPath}
use Rattle.rt_tree.specs.Allowed.{IsAllowed, allowed-put, may_stand}
use Rattle.rt_tree.specs.PathTree.{levels, Key, Path, PathTree, key_eq, key_eq-is, key_eq-symm, null, is_null, put, object, child_of, child_or_null, non_null, PutsBelow}
use Rattle.rt_tree.proofs.Trees.{put-object, put-of_leaf, is_null-put, some_non_null}
use Rattle.rt_order.specs.KeyOrder.{key_cmp}
use Rattle.rt_order.specs.laws.KeyOrder.{key_cmp-IsAntisymmetric}
use Rattle.rt_nodes.specs.Forest.{bare, node, first, times, IsRow, row_at}
use Rattle.rt_nodes.specs.Walks.{spot_in, index_in}
use Rattle.rt_nodes.specs.Changes.{InRow, with_below, with_content, linked_in, Felled, Changed, Same, Grown}
use Rattle.rt_nodes.specs.declared.nodes.SeekResult.TheVariants.{Here, Gap}
use Rattle.rt_nodes.proofs.Reached.{row_at_is, row_at-none}
use Rattle.rt_nodes.proofs.Paths.{here, index_spot, found_in_row, other_number}
use Rattle.rt_nodes.proofs.Joining.{slots_same}
use Rattle.rt_nodes.proofs.Taking.{below_is, below_row, below_once}
use Rattle.rt_nodes.proofs.Replacing.{with_row, with_changed}
use Rattle.rt_nodes.proofs.Planting.{planted_row, planted_changed}
use Rattle.rt_nodes.proofs.Growing.{swapped_row, swapped}
use Rattle.rt_store.specs.Stored.{Stored, IsAsBefore}
use Rattle.rt_store.specs.inside.Entries.{entries, tree_with, IsFull, Filled, Nodes, Trees, NodeSlot}
use Rattle.rt_store.specs.inside.Changes.{IsPut, IsGrown}
use Rattle.rt_store.specs.inside.StoreView.{stored, IsStore}
use Rattle.rt_store.specs.declared.store.Store.TheInside.{Inside}
use Rattle.rt_store.proofs.Orders.{top_of_full}
use Rattle.rt_store.proofs.Paths.{differs, Found, find_found, find_lacks}
use Rattle.rt_store.proofs.Storing.{once_in, store_after, tree_after, store_same, as_before}
use Rattle.rt_store.proofs.Growing.{full_row, put_whole}
use Rattle.rt_store.proofs.Planting.{one_node, child_of-planted, filled_planted}

pub is_put : (s u : Nodes) (o r parent : Option ℕ) (g : Trees) (k : Key) (p : Path) (t : PathTree) → IsRow u r parent None g → Filled g → Changed s u (row_at s o) g
    → PutsBelow (entries (row_at s o)) (entries g) k p t → IsPut s u o r parent k p t
is_put s u o r parent g k p t row filled changed puts =
    let same : g ≡ row_at u r = sym (row_at_is u r parent None g row) in record {
      row = subst (IsRow u r parent None) same row;
      filled = subst Filled same filled;
      changed = subst (Changed s u (row_at s o)) same changed;
      puts = subst (λ x. PutsBelow (entries (row_at s o)) (entries x) k p t) same puts;
    }

-- ---- a node that is new
pub put_new : (s t u : Nodes) (o r parent previous next : Option ℕ) (n : ℕ) (k : Key) (p : Path) (v : PathTree)
    → IsRow s o parent None (row_at s o) → ((m : ℕ) → times m (row_at s o) ≤ 1) → Filled (row_at s o) → is_null v ≡ false → spot_in k None (row_at s o) ≡ Gap previous next
    → IsGrown s t (Some n) parent → entries (row_at t (Some n)) ≡ (k, put null p v) ∷ []
    → ((m : ℕ) → get u m ≡ option_map (linked_in previous n next m) (get t m)) → slab_len u ≡ slab_len t
    → (previous ≡ None → r ≡ Some n) → ((x : ℕ) → previous ≡ Some x → r ≡ o) → IsPut s u o r parent k p v
put_new s t u o r parent previous next n k p v row once filled full spot made is each len front later =
    let f = row_at s o in
    let grown = made.grown in
    let one = one_node (row_at t (Some n)) n k (put null p v) grown.row.starts is in
    let new = subst (IsRow t (Some n) parent None) one.is grown.row in
    let more = subst (Changed s t bare) one.is grown.changed in
    let inside = subst Filled one.is made.filled in
    is_put s u o r parent _ k p v
    (planted_row s t u o parent previous next f n k one.leaf one.below row once spot new more each len r front later)
    (filled_planted n k one.leaf one.below f filled inside.0 inside.1)
    (planted_changed s t u o parent previous next f n k one.leaf one.below row once spot new more each len)
    (λ j. child_of-planted n k one.leaf one.below f None previous next row.sound spot j
    ∙ ap (λ x. cond (key_eq k j) x (child_of (entries f) j))
    (ap Some one.tree ∙ sym (some_non_null (put null p v) (is_null-put null p v full))
    ∙ ap (λ x. non_null (put (option_map_or (λ y. y) x null) p v)) (sym (find_lacks f k row.sound (index_spot k None f ∙ ap here spot)).child)))

-- ---- a node that is there
-- which is there
pub put_there : (s : Nodes) (o parent : Option ℕ) (k : Key) (n : ℕ) → IsRow s o parent None (row_at s o) → Filled (row_at s o) → spot_in k None (row_at s o) ≡ Here n → Found s k (row_at s o) n
put_there s o parent k n row filled spot = find_found s o parent None (row_at s o) k n row filled (index_spot k None (row_at s o) ∙ ap here spot)

-- what stands at each key where the node of k became another
child_of-with_below : (k : Key) (n : ℕ) (l : Option LeafValue) (b f : Trees) → index_in k f ≡ Some n → ((m : ℕ) → times m f ≤ 1)
    → (j : Key) → child_of (entries (with_below n l b f)) j ≡ cond (key_eq k j) (Some (tree_with l (entries b))) (child_of (entries f) j)
child_of-with_below k n l b bare e once j = cc
child_of-with_below k n l b (node m key leaf below behind) e once j =
    elim (key_cmp k key) as (λ r. key_cmp k key ≡ r → by_order r None (Some m) (index_in k behind) ≡ Some n
    → child_of (entries (cond (nat_eq n m) (node m key l b behind) (node m key leaf below (with_below n l b behind)))) j
    ≡ cond (key_eq k j) (Some (tree_with l (entries b))) (cond (key_eq j key) (Some (tree_with leaf (entries below))) (child_of (entries behind) j))) [
      | Less ↦ λ order g. cc
      | Equal ↦ λ order g.
          let same : k ≡ key = key_cmp-IsAntisymmetric k key order in
          let number : nat_eq n m ≡ true = eq-eqb n m (sym (ap (λ x. option_map_or (λ y. y) x m) g)) in
          let flip : key_eq j key ≡ key_eq k j = ap (key_eq j) (sym same) ∙ key_eq-symm j k in
          ap (λ c. child_of (entries (cond c (node m key l b behind) (node m key leaf below (with_below n l b behind)))) j) number
          ∙ ap (λ c. cond c (Some (tree_with l (entries b))) (child_of (entries behind) j)) flip
          ∙ twice (key_eq k j) (Some (tree_with l (entries b))) (Some (tree_with leaf (entries below))) (child_of (entries behind) j)
          ∙ ap (λ c. cond (key_eq k j) (Some (tree_with l (entries b))) (cond c (Some (tree_with leaf (entries below))) (child_of (entries behind) j))) (sym flip)
      | Greater ↦ λ order g.
          let number : nat_eq n m ≡ false = other_number n m key leaf below behind (found_in_row k n behind g) (once n) in
          let off : key_eq k key ≡ false = differs k key Greater order refl in
          ap (λ c. child_of (entries (cond c (node m key l b behind) (node m key leaf below (with_below n l b behind)))) j) number
          ∙ ap (cond (key_eq j key) (Some (tree_with leaf (entries below)))) (child_of-with_below k n l b behind g (λ x. omega (arith, once x)) j)
          ∙ past (key_eq k j) (key_eq j key) (Some (tree_with leaf (entries below))) (Some (tree_with l (entries b))) (child_of (entries behind) j)
          (λ e. ap (λ x. key_eq x key) (sym (key_eq-is k j e)) ∙ off)
    ] refl e
  where
    twice : (c : Bool) (x y z : Option PathTree) → cond c x z ≡ cond c x (cond c y z)
    twice true x y z = refl
    twice false x y z = refl

    past : (c d : Bool) (x y z : Option PathTree) → (c ≡ true → d ≡ false) → cond d x (cond c y z) ≡ cond c y (cond d x z)
    past true d x y z apart = ap (λ e. cond e x y) (apart refl)
    past false d x y z apart = refl

-- the tree of a leaf, or of some children, where something was put below it
pub put_tree : (leaf : Option LeafValue) (f g : Trees) (j : Key) (p : Path) (v : PathTree) → (is_some leaf ≡ true → f ≡ bare) → is_null v ≡ false → PutsBelow (entries f) (entries g) j p v
    → put (tree_with leaf (entries f)) (j ∷ p) v ≡ object (entries g)
put_tree None f g j p v top some puts = put-object (entries f) (entries g) j p v puts
put_tree (Some l) f g j p v top some puts =
    put-of_leaf l j p v some ∙ put-object [] (entries g) j p v (subst (λ x. PutsBelow (entries x) (entries g) j p v) (top refl) puts)

-- nothing is null then
filled_with_below : (n : ℕ) (l : Option LeafValue) (b f : Trees) → Filled f → IsFull l b → Filled b → Filled (with_below n l b f)
filled_with_below n l b bare h full below = tt
filled_with_below n l b (node m key leaf under behind) h full below =
    elim (nat_eq n m) as (λ c. Filled (cond c (node m key l b behind) (node m key leaf under (with_below n l b behind)))) [
      | true ↦ (full, below, h.2)
      | false ↦ (h.0, h.1, filled_with_below n l b behind h.2 full below)
    ]

-- what is known of the node of k
module _ (s : Nodes) (o parent : Option ℕ) (k : Key) (n : ℕ) (slot : NodeSlot)
    (row : IsRow s o parent None (row_at s o)) (once : (m : ℕ) → times m (row_at s o) ≤ 1) (filled : Filled (row_at s o)) (spot : spot_in k None (row_at s o) ≡ Here n) (there : get s n ≡ Some slot) where
  at : index_in k (row_at s o) ≡ Some n
  at = index_spot k None (row_at s o) ∙ ap here spot

  found : Found s k (row_at s o) n
  found = put_there s o parent k n row filled spot

  is : InRow n (row_at s o)
  is = found_in_row k n (row_at s o) at

  pub put_place : IsRow s slot.first_child (Some n) None (row_at s slot.first_child)
  put_place = below_row s o parent n slot row is there

  pub put_once : (m : ℕ) → times m (row_at s slot.first_child) ≤ 1
  put_once = below_once s o parent n slot row is there once

  full_leaf : IsFull slot.value (row_at s slot.first_child)
  full_leaf = subst (λ (x : NodeSlot). IsFull x.value (row_at s x.first_child)) (slots_same s n found.slot slot found.there there) found.full

  pub put_filled : Filled (row_at s slot.first_child)
  put_filled = subst (λ (x : NodeSlot). Filled (row_at s x.first_child)) (slots_same s n found.slot slot found.there there) found.filled

  -- the tree at k
  child_is : child_or_null (entries (row_at s o)) k ≡ tree_with slot.value (entries (row_at s slot.first_child))
  child_is =
      ap (λ x. option_map_or (λ y. y) x null) found.child
      ∙ ap (λ (x : NodeSlot). tree_with x.value (entries (row_at s x.first_child))) (slots_same s n found.slot slot found.there there)

  -- the node's leaf and children were replaced by those of u, in the end as link leads
  replaced : (t u : Nodes) (link : Option ℕ) (l : Option LeafValue) (b : Trees) (p : Path) (v : PathTree) → IsFull l b → Filled b → is_null v ≡ false
      → IsRow t link (Some n) None b → Changed s t (row_at s slot.first_child) b
      → tree_with l (entries b) ≡ put (tree_with slot.value (entries (row_at s slot.first_child))) p v
      → get u n ≡ option_map (with_content l link) (get t n) → ((m : ℕ) → m ≢ n → get u m ≡ get t m) → slab_len u ≡ slab_len t → IsPut s u o o parent k p v
  replaced t u link l b p v full inside some below changed tree written others len =
      let more = subst (λ d. Changed s t d b) (below_is s o parent n slot row is there) changed in
      is_put s u o o parent (with_below n l b (row_at s o)) k p v
      (with_row s t u o parent link l (row_at s o) b n row once is below more written others len)
      (filled_with_below n l b (row_at s o) filled full inside)
      (with_changed s t u o parent link l (row_at s o) b n row once is below more written others len)
      (λ j. child_of-with_below k n l b (row_at s o) at once j
      ∙ ap (λ x. cond (key_eq k j) x (child_of (entries (row_at s o)) j))
      (ap Some (tree ∙ ap (λ x. put x p v) (sym child_is))
      ∙ sym (some_non_null (put (child_or_null (entries (row_at s o)) k) p v) (is_null-put (child_or_null (entries (row_at s o)) k) p v some))))

  -- by what stood below a path
  pub put_below : (t u : Nodes) (link : Option ℕ) (j : Key) (p : Path) (v : PathTree) → is_null v ≡ false → IsPut s t slot.first_child link (Some n) j p v
      → get u n ≡ option_map (with_content None link) (get t n) → ((m : ℕ) → m ≢ n → get u m ≡ get t m) → slab_len u ≡ slab_len t → IsPut s u o o parent k (j ∷ p) v
  put_below t u link j p v some is_in written others len =
      let B = row_at s slot.first_child in
      let tree : put (tree_with slot.value (entries B)) (j ∷ p) v ≡ object (entries (row_at t link)) =
      put_tree slot.value B (row_at t link) j p v (top_of_full slot.value B full_leaf) some is_in.puts in
      replaced t u link None (row_at t link) (j ∷ p) v (full_row (row_at t link) (ap is_null (sym tree) ∙ is_null-put (tree_with slot.value (entries B)) (j ∷ p) v some)) is_in.filled some is_in.row is_in.changed
      (sym tree) written others len

  -- by a tree
  pub put_here : (t u w : Nodes) (link : Option ℕ) (l : Option LeafValue) (p : Path) (v : PathTree) → is_null v ≡ false → length p ≡ 0
      → IsGrown s t link (Some n) → Felled t u (row_at t slot.first_child) → IsFull l (row_at t link) → tree_with l (entries (row_at t link)) ≡ put null p v
      → get w n ≡ option_map (with_content l link) (get u n) → ((m : ℕ) → m ≢ n → get w m ≡ get u m) → slab_len w ≡ slab_len u → IsPut s w o o parent k p v
  put_here t u w link l p v some short made felled full tree written others len =
      let grown = made.grown in
      replaced u w link l (row_at t link) p v full made.filled some
      (swapped_row s t slot.first_child link (Some n) put_place put_once grown u felled) (swapped s t slot.first_child link (Some n) put_place put_once grown u felled)
      (tree ∙ put_whole null p v short ∙ sym (put_whole (tree_with slot.value (entries (row_at s slot.first_child))) p v short)) written others len

-- ---- the steps of `set`
module _ (a : Inside) (s : Stored) (h : IsStore a) (view : stored a ≡ s) where
  -- a refusal
  module _ (u : Nodes) (same : Same a.nodes u) where
    pub set_nothing : IsStore (record a { nodes = u })
    set_nothing = store_same a (record a { nodes = u }) h same refl refl

    pub set_as_before : IsAsBefore s (stored (record a { nodes = u }))
    set_as_before = subst (λ x. IsAsBefore x (stored (record a { nodes = u }))) view (as_before a (record a { nodes = u }) same refl refl)

module _ (a : Inside) (s : Stored) (h : IsStore a) (view : stored a ≡ s) (path : Path) (v : PathTree) (valid : IsPath path) (allowed : IsAllowed v) where
  at_root : (x : PathTree) (q : Path) → q ≡ path → length q ≡ 0 → put x path v ≡ v
  at_root x q keys short = ap (λ p. put x p v) (sym keys) ∙ put_whole x q v short

  -- the whole tree
  module _ (t u : Nodes) (r : Option ℕ) (l : Option LeafValue) (q : Path) (keys : q ≡ path) (short : length q ≡ 0)
      (made : IsGrown a.nodes t r None) (full : IsFull l (row_at t r)) (is : tree_with l (entries (row_at t r)) ≡ put null q v) (felled : Felled t u (row_at t a.first)) where
    grown : Grown a.nodes t r None
    grown = made.grown

    becomes : tree_with l (entries (row_at t r)) ≡ v
    becomes = is ∙ ap (λ p. put null p v) keys ∙ at_root null q keys short

    row_now : IsRow u r None None (row_at t r)
    row_now = swapped_row a.nodes t a.first r None h.row (once_in a h) grown u felled

    pub set_root : IsStore (record { nodes = u; first = r; leaf = l })
    set_root =
        store_after a (record { nodes = u; first = r; leaf = l }) h (row_at t r) row_now made.filled (swapped a.nodes t a.first r None h.row (once_in a h) grown u felled)
        (λ e. sym grown.row.starts ∙ ap first (top_of_full l (row_at t r) full e)) (subst IsAllowed (sym becomes) allowed)

    pub set_root_tree : (stored (record { nodes = u; first = r; leaf = l })).tree ≡ put s.tree path v
    set_root_tree = tree_after (record { nodes = u; first = r; leaf = l }) (row_at t r) row_now ∙ becomes ∙ sym (at_root s.tree q keys short)

  -- a part of it
  module _ (u : Nodes) (r : Option ℕ) (k : Key) (p : Path) (goes : path ≡ k ∷ p) (some : is_null v ≡ false) (put_in : IsPut a.nodes u a.first r None k p v) where
    tree_now : (stored (record { nodes = u; first = r; leaf = None })).tree ≡ put (stored a).tree path v
    tree_now =
        sym (put_tree a.leaf (row_at a.nodes a.first) (row_at u r) k p v (λ e. ap (row_at a.nodes) (h.top e) ∙ row_at-none a.nodes) some put_in.puts)
        ∙ ap (λ q. put (stored a).tree q v) (sym goes)

    pub set_part : length path + levels v ≤ 33 → IsStore (record { nodes = u; first = r; leaf = None })
    set_part fits =
        store_after a (record { nodes = u; first = r; leaf = None }) h (row_at u r) put_in.row put_in.filled put_in.changed (λ e. cc)
        (subst IsAllowed (sym tree_now) (allowed-put (stored a).tree path v h.allowed (may_stand path v valid allowed fits)))

    pub set_part_tree : (stored (record { nodes = u; first = r; leaf = None })).tree ≡ put s.tree path v
    set_part_tree = tree_now ∙ ap (λ (x : Stored). put x.tree path v) view
