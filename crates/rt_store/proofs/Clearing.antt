-- What is left of a row where a path below it is cleared.
use Rattle.std.proofs.Common.{◌≡◌, ℕ, [], ◌∷◌, Option, Some, None, true, false, cond, not, is_some, refl, sym, ap, subst, ◌∙◌}
use Rattle.std.specs.Prelude.{◌&&◌}
use Rattle.std.specs.declared.cmp.Ordering.TheVariants.{Less, Equal, Greater}
use Rattle.std.specs.Option.{option_map_or}
use Rattle.std.specs.FinMap.Entries.{by_order}
use Rattle.rt_tree.specs.Leaf.{LeafValue}
use Rattle.rt_tree.specs.PathTree.{Key, Path, key_eq, key_eq-is, key_eq-symm, null, put, object, of_leaf, child_of, child_or_null, non_null}
use Rattle.rt_tree.proofs.Trees.{put-root, put-object, put-null-null, put-of_leaf-null, non_null-null, some_non_null}
use Rattle.rt_order.specs.KeyOrder.{key_cmp}
use Rattle.rt_order.specs.laws.KeyOrder.{key_cmp-IsAntisymmetric}
use Rattle.rt_nodes.specs.Forest.{bare, node, AllAfter, Sound}
use Rattle.rt_store.specs.inside.Entries.{entries, tree_with, IsFull, Filled, Trees}
use Rattle.rt_store.specs.inside.Changes.{is_bare, cleared}
use Rattle.rt_store.proofs.Orders.{full_tree}
use Rattle.rt_store.proofs.Paths.{differs, equals, child_of-after}
use Rattle.rt_store.proofs.Building.{child_of-itself}

-- ---- nothing is null
full_left : (leaf : Option LeafValue) (below g : Trees) → IsFull leaf below → (is_some leaf ≡ true → g ≡ bare) → not (is_some leaf) && is_bare g ≡ false → IsFull leaf g
full_left (Some l) below g h top some = subst (IsFull (Some l)) (sym (top refl)) tt
full_left None below bare h top some = cc
full_left None below (node n key leaf b r) h top some = tt

cleared_top : (k : Key) (p : Path) (leaf : Option LeafValue) (f : Trees) → IsFull leaf f → is_some leaf ≡ true → cleared k p f ≡ bare
cleared_top k p None f h e = cc
cleared_top k p (Some l) bare h e = refl
cleared_top k p (Some l) (node n key leaf below behind) h e = absurd h

pub filled_cleared : (k : Key) (p : Path) (f : Trees) → Filled f → Filled (cleared k p f)
filled_cleared k p bare h = tt
filled_cleared k [] (node n key leaf below behind) h =
    elim (key_cmp k key) as (λ o. Filled (by_order o (node n key leaf below behind) behind (node n key leaf below (cleared k [] behind)))) [
      | Less ↦ h
      | Equal ↦ h.2
      | Greater ↦ (h.0, h.1, filled_cleared k [] behind h.2)
    ]
filled_cleared k (j ∷ p) (node n key leaf below behind) h =
    elim (key_cmp k key) as (λ o. Filled (by_order o (node n key leaf below behind) (cond (not (is_some leaf) && is_bare (cleared j p below)) behind (node n key leaf (cleared j p below) behind)) (node n key leaf below (cleared k (j ∷ p) behind)))) [
      | Less ↦ h
      | Equal ↦ elim (not (is_some leaf) && is_bare (cleared j p below)) as (λ b. not (is_some leaf) && is_bare (cleared j p below) ≡ b → Filled (cond b behind (node n key leaf (cleared j p below) behind))) [
        | true ↦ λ e. h.2
        | false ↦ λ e. (full_left leaf below (cleared j p below) h.0 (cleared_top j p leaf below h.0) e, filled_cleared j p below h.1, h.2)
      ] refl
      | Greater ↦ (h.0, h.1, filled_cleared k (j ∷ p) behind h.2)
    ]

-- ---- the law
-- a row in which the node of k becomes e, or goes
pub Becomes : Key → Path → Trees → Trees → Type 0
Becomes k p f g = (j : Key) → child_of (entries g) j ≡ cond (key_eq k j) (non_null (put (child_or_null (entries f) k) p null)) (child_of (entries f) j)

none_put : (p : Path) → non_null (put null p null) ≡ None
none_put p = ap non_null (put-null-null p) ∙ non_null-null

-- nothing changes where the key isn't there
unchanged : (k : Key) (p : Path) (f : Trees) → child_of (entries f) k ≡ None → Becomes k p f f
unfolding Becomes
unchanged k p f none j =
    elim (key_eq k j) as (λ b. key_eq k j ≡ b → child_of (entries f) j ≡ cond b (non_null (put (child_or_null (entries f) k) p null)) (child_of (entries f) j)) [
      | true ↦ λ e. ap (child_of (entries f)) (sym (key_eq-is k j e)) ∙ none ∙ sym (ap (λ o. non_null (put (option_map_or (λ t. t) o null) p null)) none ∙ none_put p)
      | false ↦ λ e. refl
    ] refl

first_child_of : (k : Key) (n : ℕ) (key : Key) (leaf : Option LeafValue) (below behind : Trees) → key_cmp k key ≡ Equal → child_of (entries (node n key leaf below behind)) k ≡ Some (tree_with leaf (entries below))
first_child_of k n key leaf below behind order = ap (λ b. cond b (Some (tree_with leaf (entries below))) (child_of (entries behind) k)) (equals k key order)

-- the first node goes
goes : (k : Key) (p : Path) (n : ℕ) (key : Key) (leaf : Option LeafValue) (below behind : Trees) → key_cmp k key ≡ Equal → AllAfter key behind
    → non_null (put (tree_with leaf (entries below)) p null) ≡ None → Becomes k p (node n key leaf below behind) behind
unfolding Becomes
goes k p n key leaf below behind order after none j =
    let same : k ≡ key = key_cmp-IsAntisymmetric k key order in
    elim (key_eq k j) as (λ b. key_eq k j ≡ b → child_of (entries behind) j ≡ cond b (non_null (put (child_or_null (entries (node n key leaf below behind)) k) p null)) (child_of (entries (node n key leaf below behind)) j)) [
      | true ↦ λ e.
          ap (child_of (entries behind)) (sym (key_eq-is k j e) ∙ same) ∙ child_of-itself key behind after
          ∙ sym (ap (λ o. non_null (put (option_map_or (λ t. t) o null) p null)) (first_child_of k n key leaf below behind order) ∙ none)
      | false ↦ λ e. sym (ap (λ b. cond b (Some (tree_with leaf (entries below))) (child_of (entries behind) j)) (ap (λ x. key_eq j x) (sym same) ∙ key_eq-symm j k ∙ e))
    ] refl

-- the first node becomes another
turns : (k : Key) (p : Path) (n : ℕ) (key : Key) (leaf : Option LeafValue) (below below2 behind : Trees) → key_cmp k key ≡ Equal
    → non_null (put (tree_with leaf (entries below)) p null) ≡ Some (tree_with leaf (entries below2)) → Becomes k p (node n key leaf below behind) (node n key leaf below2 behind)
unfolding Becomes
turns k p n key leaf below below2 behind order some j =
    let same : k ≡ key = key_cmp-IsAntisymmetric k key order in
    elim (key_eq k j) as (λ b. key_eq k j ≡ b → cond (key_eq j key) (Some (tree_with leaf (entries below2))) (child_of (entries behind) j) ≡ cond b (non_null (put (child_or_null (entries (node n key leaf below behind)) k) p null)) (cond (key_eq j key) (Some (tree_with leaf (entries below))) (child_of (entries behind) j))) [
      | true ↦ λ e.
          ap (λ b. cond b (Some (tree_with leaf (entries below2))) (child_of (entries behind) j)) (ap (λ x. key_eq j x) (sym same) ∙ key_eq-symm j k ∙ e)
          ∙ sym (ap (λ o. non_null (put (option_map_or (λ t. t) o null) p null)) (first_child_of k n key leaf below behind order) ∙ some)
      | false ↦ λ e.
          let off : key_eq j key ≡ false = ap (λ x. key_eq j x) (sym same) ∙ key_eq-symm j k ∙ e in
          ap (λ b. cond b (Some (tree_with leaf (entries below2))) (child_of (entries behind) j)) off
          ∙ sym (ap (λ b. cond b (Some (tree_with leaf (entries below))) (child_of (entries behind) j)) off)
    ] refl

-- a node behind the first one
later : (k : Key) (p : Path) (n : ℕ) (key : Key) (leaf : Option LeafValue) (below behind behind2 : Trees) → key_cmp k key ≡ Greater
    → Becomes k p behind behind2 → Becomes k p (node n key leaf below behind) (node n key leaf below behind2)
unfolding Becomes
later k p n key leaf below behind behind2 order rest j =
    let off : key_eq k key ≡ false = differs k key Greater order refl in
    elim (key_eq k j) as (λ b. key_eq k j ≡ b → cond (key_eq j key) (Some (tree_with leaf (entries below))) (child_of (entries behind2) j) ≡ cond b (non_null (put (option_map_or (λ t. t) (cond (key_eq k key) (Some (tree_with leaf (entries below))) (child_of (entries behind) k)) null) p null)) (cond (key_eq j key) (Some (tree_with leaf (entries below))) (child_of (entries behind) j))) [
      | true ↦ λ e.
          ap (λ b. cond b (Some (tree_with leaf (entries below))) (child_of (entries behind2) j)) (ap (λ x. key_eq x key) (sym (key_eq-is k j e)) ∙ off)
          ∙ rest j ∙ ap (λ b. cond b (non_null (put (child_or_null (entries behind) k) p null)) (child_of (entries behind) j)) e
          ∙ sym (ap (λ b. non_null (put (option_map_or (λ t. t) (cond b (Some (tree_with leaf (entries below))) (child_of (entries behind) k)) null) p null)) off)
      | false ↦ λ e. ap (λ o. cond (key_eq j key) (Some (tree_with leaf (entries below))) o) (rest j ∙ ap (λ b. cond b (non_null (put (child_or_null (entries behind) k) p null)) (child_of (entries behind) j)) e)
    ] refl

-- what the tree of a node becomes, where its children become g
outcome : (leaf : Option LeafValue) (j : Key) (p : Path) (below : Trees) → Filled below → IsFull leaf below → Becomes j p below (cleared j p below)
    → non_null (put (tree_with leaf (entries below)) (j ∷ p) null) ≡ cond (not (is_some leaf) && is_bare (cleared j p below)) None (Some (tree_with leaf (entries (cleared j p below))))
unfolding Becomes
outcome (Some l) j p below filled full rest =
    ap non_null (put-of_leaf-null l j p) ∙ some_non_null (of_leaf l) (full_tree (Some l) below filled full)
outcome None j p below filled full rest =
    ap non_null (put-object (entries below) (entries (cleared j p below)) j p null rest) ∙ of (cleared j p below) (filled_cleared j p below filled)
  where
    of : (g : Trees) → Filled g → non_null (object (entries g)) ≡ cond (is_bare g) None (Some (object (entries g)))
    of bare h = non_null-null
    of (node n key leaf b r) h = some_non_null (object (entries (node n key leaf b r))) (full_tree None (node n key leaf b r) h tt)

pub cleared_puts : (p : Path) (k : Key) (f : Trees) → Sound f → Filled f → Becomes k p f (cleared k p f)
cleared_puts [] k bare h filled = unchanged k [] bare refl
cleared_puts [] k (node n key leaf below behind) h filled =
    elim (key_cmp k key) as (λ o. key_cmp k key ≡ o → Becomes k [] (node n key leaf below behind) (by_order o (node n key leaf below behind) behind (node n key leaf below (cleared k [] behind)))) [
      | Less ↦ λ order. unchanged k [] (node n key leaf below behind)
          (ap (λ b. cond b (Some (tree_with leaf (entries below))) (child_of (entries behind) k)) (differs k key Less order refl) ∙ child_of-after k key behind order h.0)
      | Equal ↦ λ order. goes k [] n key leaf below behind order h.0 (ap non_null (put-root (tree_with leaf (entries below)) null) ∙ non_null-null)
      | Greater ↦ λ order. later k [] n key leaf below behind (cleared k [] behind) order (cleared_puts [] k behind h.2 filled.2)
    ] refl
cleared_puts (j ∷ p) k bare h filled = unchanged k (j ∷ p) bare refl
cleared_puts (j ∷ p) k (node n key leaf below behind) h filled =
    let becomes = outcome leaf j p below filled.1 filled.0 (cleared_puts p j below h.1 filled.1) in
    elim (key_cmp k key) as (λ o. key_cmp k key ≡ o → Becomes k (j ∷ p) (node n key leaf below behind) (by_order o (node n key leaf below behind) (cond (not (is_some leaf) && is_bare (cleared j p below)) behind (node n key leaf (cleared j p below) behind)) (node n key leaf below (cleared k (j ∷ p) behind)))) [
      | Less ↦ λ order. unchanged k (j ∷ p) (node n key leaf below behind)
          (ap (λ b. cond b (Some (tree_with leaf (entries below))) (child_of (entries behind) k)) (differs k key Less order refl) ∙ child_of-after k key behind order h.0)
      | Equal ↦ λ order. elim (not (is_some leaf) && is_bare (cleared j p below)) as (λ b. not (is_some leaf) && is_bare (cleared j p below) ≡ b → Becomes k (j ∷ p) (node n key leaf below behind) (cond b behind (node n key leaf (cleared j p below) behind))) [
        | true ↦ λ e. goes k (j ∷ p) n key leaf below behind order h.0 (becomes ∙ ap (λ b. cond b None (Some (tree_with leaf (entries (cleared j p below))))) e)
        | false ↦ λ e. turns k (j ∷ p) n key leaf below (cleared j p below) behind order (becomes ∙ ap (λ b. cond b None (Some (tree_with leaf (entries (cleared j p below))))) e)
      ] refl
      | Greater ↦ λ order. later k (j ∷ p) n key leaf below behind (cleared k (j ∷ p) behind) order (cleared_puts (j ∷ p) k behind h.2 filled.2)
    ] refl

-- the tree of what is left
pub tree_cleared : (leaf : Option LeafValue) (k : Key) (p : Path) (f : Trees) → Sound f → Filled f → put (tree_with leaf (entries f)) (k ∷ p) null ≡ tree_with leaf (entries (cleared k p f))
unfolding Becomes
tree_cleared (Some l) k p f sound filled = put-of_leaf-null l k p
tree_cleared None k p f sound filled = put-object (entries f) (entries (cleared k p f)) k p null (cleared_puts p k f sound filled)
