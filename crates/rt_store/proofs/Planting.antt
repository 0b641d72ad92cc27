-- The trees of a row into which a node is put.
use Rattle.std.proofs.Common.{◌≡◌, ℕ, [], ◌∷◌, Option, Some, None, Bool, true, false, cond, refl, sym, ap, ◌∙◌}
use Rattle.std.specs.declared.cmp.Ordering.TheVariants.{Less, Equal, Greater}
use Rattle.std.specs.FinMap.Entries.{by_order}
use Rattle.rt_tree.specs.Leaf.{LeafValue}
use Rattle.rt_tree.specs.PathTree.{Key, PathTree, key_eq, key_eq-is, key_eq-symm, child_of}
use Rattle.rt_order.specs.KeyOrder.{key_cmp}
use Rattle.rt_nodes.specs.Forest.{bare, node, first, Sound}
use Rattle.rt_nodes.specs.Walks.{spot_in}
use Rattle.rt_nodes.specs.Changes.{planted}
use Rattle.rt_nodes.specs.declared.nodes.SeekResult.TheVariants.{Here, Gap}
use Rattle.rt_store.specs.inside.Entries.{entries, tree_with, Filled, IsFull, Trees}
use Rattle.rt_store.proofs.Paths.{differs}

-- a row of one node
pub record IsOne (g : Trees) (n : ℕ) (k : Key) (t : PathTree) : Type 0 where
  pub leaf : Option LeafValue
  pub below : Trees
  pub is : g ≡ node n k leaf below bare
  pub tree : tree_with leaf (entries below) ≡ t

pub one_node : (g : Trees) (n : ℕ) (k : Key) (t : PathTree) → first g ≡ Some n → entries g ≡ (k, t) ∷ [] → IsOne g n k t
one_node bare n k t starts is = cc
one_node (node m key leaf below bare) n k t starts is =
    let same : m ≡ n = cc in
    let one : Key × PathTree = (key, tree_with leaf (entries below)) in
    let entry : one ≡ (k, t) = cc in
    record { leaf = leaf; below = below; is = λ i. node (same i) (entry i).0 leaf below bare; tree = λ i. (entry i).1 }
one_node (node m key leaf below (node j key2 leaf2 below2 behind)) n k t starts is = cc

swapped : (c d : Bool) (x y z : Option PathTree) → (d ≡ true → c ≡ false) → cond c x (cond d y z) ≡ cond d y (cond c x z)
swapped true true x y z apart = cc (apart refl)
swapped true false x y z apart = refl
swapped false d x y z apart = refl

-- what stands at each key of the row then
pub child_of-planted : (n : ℕ) (k : Key) (l : Option LeafValue) (b f : Trees) (o p q : Option ℕ) → Sound f → spot_in k o f ≡ Gap p q
    → (j : Key) → child_of (entries (planted n k l b f)) j ≡ cond (key_eq k j) (Some (tree_with l (entries b))) (child_of (entries f) j)
child_of-planted n k l b bare o p q sound spot j = ap (λ c. cond c (Some (tree_with l (entries b))) None) (key_eq-symm j k)
child_of-planted n k l b (node m key leaf below behind) o p q sound spot j =
    elim (key_cmp k key) as (λ r. key_cmp k key ≡ r → by_order r (Gap o (Some m)) (Here m) (spot_in k (Some m) behind) ≡ Gap p q
    → child_of (entries (by_order r (node n k l b (node m key leaf below behind)) (node m key leaf below behind) (node m key leaf below (planted n k l b behind)))) j
    ≡ cond (key_eq k j) (Some (tree_with l (entries b))) (cond (key_eq j key) (Some (tree_with leaf (entries below))) (child_of (entries behind) j))) [
      | Less ↦ λ order e. ap (λ c. cond c (Some (tree_with l (entries b))) (cond (key_eq j key) (Some (tree_with leaf (entries below))) (child_of (entries behind) j))) (key_eq-symm j k)
      | Equal ↦ λ order e. cc
      | Greater ↦ λ order e.
          ap (cond (key_eq j key) (Some (tree_with leaf (entries below)))) (child_of-planted n k l b behind (Some m) p q sound.2 e j)
          ∙ swapped (key_eq j key) (key_eq k j) (Some (tree_with leaf (entries below))) (Some (tree_with l (entries b))) (child_of (entries behind) j)
          (λ same. ap (λ x. key_eq x key) (sym (key_eq-is k j same)) ∙ differs k key Greater order refl)
    ] refl spot

-- nothing is null then
pub filled_planted : (n : ℕ) (k : Key) (l : Option LeafValue) (b f : Trees) → Filled f → IsFull l b → Filled b → Filled (planted n k l b f)
filled_planted n k l b bare h full below = (full, below, tt)
filled_planted n k l b (node m key leaf under behind) h full below =
    elim (key_cmp k key) as (λ r. Filled (by_order r (node n k l b (node m key leaf under behind)) (node m key leaf under behind) (node m key leaf under (planted n k l b behind)))) [
      | Less ↦ (full, below, h)
      | Equal ↦ h
      | Greater ↦ (h.0, h.1, filled_planted n k l b behind h.2 full below)
    ]
