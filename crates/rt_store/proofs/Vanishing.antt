-- When nothing is left of a row.
use Rattle.std.proofs.Common.{◌≡◌, ℕ, [], ◌∷◌, length, Option, Some, None, Bool, true, false, cond, not, is_some, refl, sym, ap, subst, ◌∙◌, arith}
use Rattle.std.specs.Prelude.{◌&&◌}
use Rattle.std.specs.declared.cmp.Ordering.TheVariants.{Less, Equal, Greater}
use Rattle.std.specs.Ordering.{is_eq}
use Rattle.std.specs.Cmp.{Equal-is}
use Rattle.std.specs.FinMap.Entries.{by_order}
use Rattle.slab.specs.Slab.{get}
use Rattle.rt_tree.specs.Leaf.{LeafValue}
use Rattle.rt_tree.specs.PathTree.{Key, Path}
use Rattle.rt_order.specs.KeyOrder.{key_cmp}
use Rattle.rt_nodes.specs.Forest.{bare, node, first, row_at}
use Rattle.rt_nodes.specs.Walks.{IsPlace}
use Rattle.rt_store.specs.inside.Changes.{is_bare, cleared}
use Rattle.rt_nodes.proofs.Reached.{IsAt, at_place, row_at-none}
use Rattle.rt_store.specs.inside.Entries.{Nodes, Trees, NodeSlot}

pub vanish_none : (s : Nodes) (o : Option ℕ) (k : Key) (p : Path) → o ≡ None → is_bare (cleared k p (row_at s o)) ≡ true
vanish_none s o k p is = ap (λ x. is_bare (cleared k p (row_at s x))) is ∙ ap (λ f. is_bare (cleared k p f)) (row_at-none s)

differ : (k : Key) (p : Path) (n : ℕ) (key : Key) (leaf : Option LeafValue) (below behind : Trees) → is_eq (key_cmp k key) ≡ false → is_bare (cleared k p (node n key leaf below behind)) ≡ false
differ k [] n key leaf below behind e =
    elim (key_cmp k key) as (λ o. is_eq o ≡ false → is_bare (by_order o (node n key leaf below behind) behind (node n key leaf below (cleared k [] behind))) ≡ false) [ Less ↦ λ d. refl | Equal ↦ λ d. cc | Greater ↦ λ d. refl ] e
differ k (j ∷ p) n key leaf below behind e =
    elim (key_cmp k key) as (λ o. is_eq o ≡ false → is_bare (by_order o (node n key leaf below behind) (cond (not (is_some leaf) && is_bare (cleared j p below)) behind (node n key leaf (cleared j p below) behind)) (node n key leaf below (cleared k (j ∷ p) behind))) ≡ false) [ Less ↦ λ d. refl | Equal ↦ λ d. cc | Greater ↦ λ d. refl ] e

some_bare : (f : Trees) → is_some (first f) ≡ not (is_bare f)
some_bare bare = refl
some_bare (node n key leaf below behind) = refl

either_bare : (b : Bool) (behind g : Trees) → is_bare behind ≡ false → is_bare g ≡ false → is_bare (cond b behind g) ≡ false
either_bare true behind g e f = e
either_bare false behind g e f = f

more : (k : Key) (p : Path) (n : ℕ) (key : Key) (leaf : Option LeafValue) (below behind : Trees) → is_bare behind ≡ false → is_bare (cleared k p (node n key leaf below behind)) ≡ false
more k [] n key leaf below behind e =
    elim (key_cmp k key) as (λ o. is_bare (by_order o (node n key leaf below behind) behind (node n key leaf below (cleared k [] behind))) ≡ false) [ Less ↦ refl | Equal ↦ e | Greater ↦ refl ]
more k (j ∷ p) n key leaf below behind e =
    elim (key_cmp k key) as (λ o. is_bare (by_order o (node n key leaf below behind) (cond (not (is_some leaf) && is_bare (cleared j p below)) behind (node n key leaf (cleared j p below) behind)) (node n key leaf below (cleared k (j ∷ p) behind))) ≡ false) [
      | Less ↦ refl
      | Equal ↦ either_bare (not (is_some leaf) && is_bare (cleared j p below)) behind (node n key leaf (cleared j p below) behind) e refl
      | Greater ↦ refl
    ]

equal_of : (k key : Key) → is_eq (key_cmp k key) ≡ true → key_cmp k key ≡ Equal
equal_of k key e = (Equal-is (key_cmp k key)).0 e

alone : (b : Bool) (behind g : Trees) → is_bare behind ≡ true → is_bare g ≡ false → is_bare (cond b behind g) ≡ b
alone true behind g e f = e
alone false behind g e f = f

module _ (s : Nodes) (o : Option ℕ) (n : ℕ) (slot : NodeSlot) (is : o ≡ Some n) (place : IsPlace s o) (there : get s n ≡ Some slot) (k : Key) where
  at : IsAt s n slot
  at = at_place s n slot (subst (IsPlace s) is place) there

  whole : row_at s o ≡ node n slot.key slot.value (row_at s slot.first_child) (row_at s slot.next)
  whole = ap (row_at s) is ∙ at.is

  behind_bare : is_some slot.next ≡ not (is_bare (row_at s slot.next))
  behind_bare = ap is_some (sym at.behind.2.starts) ∙ some_bare (row_at s slot.next)

  flip : (a b : Bool) → a ≡ not b → a ≡ true → b ≡ false
  flip a true e f = cc
  flip a false e f = refl

  flop : (a b : Bool) → a ≡ not b → a ≡ false → b ≡ true
  flop a true e f = refl
  flop a false e f = cc

  pub vanish_more : (p : Path) → is_some slot.next ≡ true → is_bare (cleared k p (row_at s o)) ≡ false
  vanish_more p e = ap (λ f. is_bare (cleared k p f)) whole ∙ more k p n slot.key slot.value (row_at s slot.first_child) (row_at s slot.next) (flip (is_some slot.next) (is_bare (row_at s slot.next)) behind_bare e)

  pub vanish_other : (p : Path) → is_eq (key_cmp k slot.key) ≡ false → is_bare (cleared k p (row_at s o)) ≡ false
  vanish_other p e = ap (λ f. is_bare (cleared k p f)) whole ∙ differ k p n slot.key slot.value (row_at s slot.first_child) (row_at s slot.next) e

  pub vanish_end : (p : Path) → length p ≡ 0 → is_eq (key_cmp k slot.key) ≡ true → is_some slot.next ≡ false → is_bare (cleared k p (row_at s o)) ≡ true
  vanish_end [] short e last =
      ap (λ f. is_bare (cleared k [] f)) whole
      ∙ ap (λ r. is_bare (by_order r (node n slot.key slot.value (row_at s slot.first_child) (row_at s slot.next)) (row_at s slot.next) (node n slot.key slot.value (row_at s slot.first_child) (cleared k [] (row_at s slot.next))))) (equal_of k slot.key e)
      ∙ flop (is_some slot.next) (is_bare (row_at s slot.next)) behind_bare last
  vanish_end (j ∷ p) short e last = absurd (omega (arith, short))

  pub vanish_below : (j : Key) (p : Path) → is_eq (key_cmp k slot.key) ≡ true → is_some slot.next ≡ false
      → is_bare (cleared k (j ∷ p) (row_at s o)) ≡ (not (is_some slot.value) && is_bare (cleared j p (row_at s slot.first_child)))
  vanish_below j p e last =
      let B = row_at s slot.first_child in let R = row_at s slot.next in
      ap (λ f. is_bare (cleared k (j ∷ p) f)) whole
      ∙ ap (λ r. is_bare (by_order r (node n slot.key slot.value B R) (cond (not (is_some slot.value) && is_bare (cleared j p B)) R (node n slot.key slot.value (cleared j p B) R)) (node n slot.key slot.value B (cleared k (j ∷ p) R)))) (equal_of k slot.key e)
      ∙ alone (not (is_some slot.value) && is_bare (cleared j p B)) R (node n slot.key slot.value (cleared j p B) R) (flop (is_some slot.next) (is_bare R) behind_bare last) refl

  pub vanish_place : IsPlace s slot.first_child
  vanish_place = at.below
