-- A store after its nodes changed.
use Rattle.std.proofs.Common.{◌≡◌, ◌≤◌, ℕ, Option, Some, None, is_some, sym, ap, subst, ◌∙◌, arith}
use Rattle.slab.specs.Slab.{get, slab_len}
use Rattle.rt_tree.specs.Allowed.{IsAllowed}
use Rattle.rt_nodes.specs.Forest.{one_if, size, times, IsRow, row_at}
use Rattle.rt_nodes.specs.Changes.{Changed, Same}
use Rattle.rt_nodes.proofs.Reached.{row_at_is}
use Rattle.rt_nodes.proofs.Felling.{row_kept}
use Rattle.rt_nodes.proofs.Growing.{at_most_one, once_after, row_at_same}
use Rattle.rt_store.specs.Rows.{root_row}
use Rattle.rt_store.specs.Stored.{IsAsBefore, onward}
use Rattle.rt_store.specs.inside.Entries.{entries, tree_with, Filled, Trees}
use Rattle.rt_store.specs.inside.StoreView.{IsStore, IsTop, stored}
use Rattle.rt_store.specs.declared.store.Store.TheInside.{Inside}
use Rattle.rt_store.proofs.Places.{onward_is}

-- each number stands in the row of a store at most once
pub once_in : (a : Inside) → IsStore a → (n : ℕ) → times n (row_at a.nodes a.first) ≤ 1
once_in a h n = omega (arith, h.once n, at_most_one (get a.nodes n))

-- the nodes of a store became another row
pub store_after : (a b : Inside) → IsStore a → (g : Trees) → IsRow b.nodes b.first None None g → Filled g → Changed a.nodes b.nodes (row_at a.nodes a.first) g
    → IsTop b.leaf b.first → IsAllowed (tree_with b.leaf (entries g)) → IsStore b
store_after a b h g row filled changed top allowed =
    let is : row_at b.nodes b.first ≡ g = row_at_is b.nodes b.first None None g row in record {
      row = subst (IsRow b.nodes b.first None None) (sym is) row;
      filled = subst Filled (sym is) filled;
      count = ap size is ∙ (let c : size g ≡ slab_len b.nodes = omega (arith, changed.len, h.count) in c);
      once = λ n. ap (times n) is ∙ once_after a.nodes b.nodes b.first None None (row_at a.nodes a.first) g row changed n (h.once n);
      top = top;
      allowed = subst (λ f. IsAllowed (tree_with b.leaf (entries f))) (sym is) allowed;
    }

-- and its tree that of this row
pub tree_after : (b : Inside) (g : Trees) → IsRow b.nodes b.first None None g → (stored b).tree ≡ tree_with b.leaf (entries g)
tree_after b g row = ap (λ f. tree_with b.leaf (entries f)) (row_at_is b.nodes b.first None None g row)

-- ---- the nodes are as they were
pub store_same : (a b : Inside) → IsStore a → Same a.nodes b.nodes → b.first ≡ a.first → b.leaf ≡ a.leaf → IsStore b
store_same a b h same first leaf =
    let f = row_at a.nodes a.first in
    let is : row_at b.nodes b.first ≡ f = ap (row_at b.nodes) first ∙ row_at_same a.nodes b.nodes same a.first in
    let starts : IsRow b.nodes a.first None None f = row_kept a.nodes b.nodes a.first None None f h.row (λ n some. same.kept n) (omega (arith, h.row.fits, same.len)) in record {
      row = rw (is, first) starts;
      filled = subst Filled (sym is) h.filled;
      count = ap size is ∙ h.count ∙ sym same.len;
      once = λ n. ap (times n) is ∙ h.once n ∙ ap (λ x. one_if (is_some x)) (sym (same.kept n));
      top = λ e. first ∙ h.top (ap is_some (sym leaf) ∙ e);
      allowed = subst IsAllowed (λ i. tree_with (sym leaf i) (entries (sym is i))) h.allowed;
    }

pub as_before : (a b : Inside) → Same a.nodes b.nodes → b.first ≡ a.first → b.leaf ≡ a.leaf → IsAsBefore (stored a) (stored b)
as_before a b same first leaf = record { tree = tree; nodes = at }
  where
    tree : (stored b).tree ≡ (stored a).tree
    tree = (λ i. tree_with (leaf i) (entries (row_at b.nodes (first i)))) ∙ ap (λ f. tree_with a.leaf (entries f)) (row_at_same a.nodes b.nodes same a.first)

    at : (n : Option ℕ) → onward (stored b) n ≡ onward (stored a) n
    at None = ap root_row tree
    at (Some n) = onward_is b n ∙ ap entries (row_at_same a.nodes b.nodes same (Some n)) ∙ sym (onward_is a n)
