-- What a contract sees of the rows that a walk meets.
use Rattle.std.proofs.Common.{◌≡◌, ◌<◌, ℕ, ◌+◌, [], ◌∷◌, Option, Some, None, Bool, not, true, false, cond, is_some, refl, sym, ap, subst, ◌∙◌, arith}
use Rattle.std.specs.Prelude.{◌&&◌, nat_eq}
use Rattle.std.specs.Option.{option_map}
use Rattle.std.proofs.lemmas.Bool.{eqb-true}
use Rattle.slab.specs.Slab.{get}
use Rattle.rt_tree.specs.Leaf.{LeafValue}
use Rattle.rt_tree.specs.PathTree.{null, is_null, is_null-null, leaf_of, leaf_at-null, leaf_at-of_leaf, leaf_at-object-root, object}
use Rattle.rt_tree.proofs.Trees.{is_null-of_leaf}
use Rattle.rt_nodes.specs.Forest.{bare, node, one_if, first, times, IsRow, row_at}
use Rattle.rt_nodes.specs.Walks.{IsPlace}
use Rattle.rt_nodes.proofs.Reached.{IsAt, at_place, place_in_store, row_at-none, row_at-nowhere, row_at_is, below_row, behind_row, either}
use Rattle.rt_nodes.proofs.Joining.{slots_same}
use Rattle.rt_store.specs.Rows.{Row, row}
use Rattle.rt_store.specs.Stored.{Stored, onward, some_row, behind, first_tree, first_key, tree_at, key_at}
use Rattle.rt_store.specs.inside.Entries.{entries, tree_with, IsFull, Filled, Nodes, Trees, NodeSlot}
use Rattle.rt_store.specs.inside.StoreView.{stored, IsStore}
use Rattle.rt_store.specs.declared.store.Store.TheInside.{Inside}
use Rattle.rt_store.proofs.Seen.{nth_is}
use Rattle.rt_store.proofs.Orders.{row-tree_with, top_of_full, first_of_root, full_tree}

pub onward_is : (a : Inside) (n : ℕ) → onward (stored a) (Some n) ≡ entries (row_at a.nodes (Some n))
onward_is a n = nth_is a.nodes n

-- what a node is, and what stands below it
full_in : (s : Nodes) (o parent previous : Option ℕ) (f : Trees) → IsRow s o parent previous f → Filled f → (n : ℕ) (slot : NodeSlot) → get s n ≡ Some slot → 0 < times n f
    → IsFull slot.value (row_at s slot.first_child) × Filled (row_at s slot.first_child)
full_in s o parent previous bare h filled n slot there some = absurd (omega (arith, some))
full_in s o parent previous (node m key leaf below behind) h filled n slot there some =
    let B = below_row s o parent previous m key leaf below behind h in
    elim (nat_eq n m) as (λ b. nat_eq n m ≡ b → 0 < one_if b + (times n below + times n behind) → IsFull slot.value (row_at s slot.first_child) × Filled (row_at s slot.first_child)) [
      | true ↦ λ e g.
          let is : row_at s (first below) ≡ below = row_at_is s (first below) (Some m) None below B in
          subst (λ (x : NodeSlot). IsFull x.value (row_at s x.first_child) × Filled (row_at s x.first_child)) (slots_same s m _ slot h.links.0 (ap (get s) (sym (eqb-true n m e)) ∙ there))
          (subst (IsFull leaf) (sym is) filled.0, subst Filled (sym is) filled.1)
      | false ↦ λ e g. either (times n below) (times n behind) (omega (arith, g))
          (λ d. full_in s (first below) (Some m) None below B filled.1 n slot there d)
          (λ d. full_in s (first behind) parent (Some m) behind (behind_row s o parent previous m key leaf below behind h) filled.2 n slot there d)
    ] refl some

pub full_at : (a : Inside) → IsStore a → (n : ℕ) (slot : NodeSlot) → get a.nodes n ≡ Some slot → IsFull slot.value (row_at a.nodes slot.first_child) × Filled (row_at a.nodes slot.first_child)
full_at a h n slot there =
    let one : times n (row_at a.nodes a.first) ≡ 1 = h.once n ∙ ap (λ g. one_if (is_some g)) there in
    full_in a.nodes a.first None None (row_at a.nodes a.first) h.row h.filled n slot there (omega (arith, one))

pub at_node : (a : Inside) → IsStore a → (n : ℕ) (slot : NodeSlot) → get a.nodes n ≡ Some slot → IsAt a.nodes n slot
at_node a h n slot there = at_place a.nodes n slot (place_in_store a.nodes a.first None None (row_at a.nodes a.first) h.row n (h.once n) slot there) there

-- the row at a link
pub link_row : (a : Inside) (o : Option ℕ) → IsPlace a.nodes o → option_map (onward (stored a)) (option_map Some o) ≡ some_row (entries (row_at a.nodes o))
link_row a None h = sym (ap (λ f. some_row (entries f)) (row_at-none a.nodes))
link_row a (Some n) h = ap Some (onward_is a n) ∙ there (row_at a.nodes (Some n)) h.2.starts
  where
    there : (f : Trees) → first f ≡ Some n → Some (entries f) ≡ some_row (entries f)
    there bare e = cc
    there (node m key leaf below behind) e = refl

-- nothing stands at a number that is not there
pub onward_nowhere : (a : Inside) (n : ℕ) → get a.nodes n ≡ None → onward (stored a) (Some n) ≡ []
onward_nowhere a n none = onward_is a n ∙ ap entries (row_at-nowhere a.nodes n none)

pub onward_at : (a : Inside) → IsStore a → (n : ℕ) (slot : NodeSlot) → get a.nodes n ≡ Some slot
    → onward (stored a) (Some n) ≡ (slot.key, tree_with slot.value (entries (row_at a.nodes slot.first_child))) ∷ entries (row_at a.nodes slot.next)
onward_at a h n slot there = onward_is a n ∙ ap entries (at_node a h n slot there).is

-- the children of a node
pub row_at_node : (a : Inside) → IsStore a → (n : ℕ) (slot : NodeSlot) → get a.nodes n ≡ Some slot
    → row (tree_at (stored a) (Some n)) ≡ entries (row_at a.nodes slot.first_child)
row_at_node a h n slot there =
    let at = at_node a h n slot there in
    let full = full_at a h n slot there in
    ap (λ es. row (first_tree es)) (onward_at a h n slot there)
    ∙ row-tree_with slot.value (row_at a.nodes slot.first_child) at.below.2.sound full.1 (top_of_full slot.value (row_at a.nodes slot.first_child) full.0)

pub row_at_root : (a : Inside) → IsStore a → row (tree_at (stored a) None) ≡ entries (row_at a.nodes a.first)
row_at_root a h =
    ap row (first_of_root (stored a).tree)
    ∙ row-tree_with a.leaf (row_at a.nodes a.first) h.row.sound h.filled (λ e. ap (row_at a.nodes) (h.top e) ∙ row_at-none a.nodes)

pub root_place : (a : Inside) → IsStore a → IsPlace a.nodes a.first
root_place a h = (None, None, h.row)

-- the leaf of a tree with a leaf
pub leaf_of-tree_with : (leaf : Option LeafValue) (es : Row) → leaf_of (tree_with leaf es) ≡ leaf
leaf_of-tree_with (Some l) es = leaf_at-of_leaf l []
leaf_of-tree_with None es = leaf_at-object-root es

-- ---- what the calls answer
pub first_child-root : (a : Inside) (s : Stored) (n : Option ℕ) (r : Option (Option ℕ)) → IsStore a → stored a ≡ s → n ≡ None → r ≡ option_map Some a.first → option_map (onward s) r ≡ some_row (row (tree_at s n))
first_child-root a s n r h view root is = rw (sym view, root, is) (link_row a a.first (root_place a h) ∙ sym (ap some_row (row_at_root a h)))

pub first_child-node : (a : Inside) (s : Stored) (n : Option ℕ) (r : Option (Option ℕ)) (m : ℕ) (slot : NodeSlot) → IsStore a → stored a ≡ s → n ≡ Some m → get a.nodes m ≡ Some slot → r ≡ option_map Some slot.first_child → option_map (onward s) r ≡ some_row (row (tree_at s n))
first_child-node a s n r m slot h view at there is = rw (sym view, at, is) (link_row a slot.first_child (at_node a h m slot there).below ∙ sym (ap some_row (row_at_node a h m slot there)))

pub row-null : row null ≡ []
row-null = row-tree_with None bare tt tt (λ e. refl)

pub first_child-nowhere : (a : Inside) (s : Stored) (n : Option ℕ) (m : ℕ) → stored a ≡ s → n ≡ Some m → get a.nodes m ≡ None → None ≡ some_row (row (tree_at s n))
first_child-nowhere a s n m view at none = rw (sym view, at) (sym (ap some_row (ap (λ es. row (first_tree es)) (onward_nowhere a m none) ∙ row-null)))

pub next-root : (s : Stored) (n : Option ℕ) → n ≡ None → None ≡ some_row (behind (onward s n))
next-root s n root = rw root (of (is_null s.tree))
  where
    of : (b : Bool) → None ≡ some_row (behind (cond b [] (([], s.tree) ∷ [])))
    of true = refl
    of false = refl

pub next-node : (a : Inside) (s : Stored) (n : Option ℕ) (r : Option (Option ℕ)) (m : ℕ) (slot : NodeSlot) → IsStore a → stored a ≡ s → n ≡ Some m → get a.nodes m ≡ Some slot → r ≡ option_map Some slot.next → option_map (onward s) r ≡ some_row (behind (onward s n))
next-node a s n r m slot h view at there is = rw (sym view, at, is) (link_row a slot.next (at_node a h m slot there).behind ∙ sym (ap (λ es. some_row (behind es)) (onward_at a h m slot there)))

pub next-nowhere : (a : Inside) (s : Stored) (n : Option ℕ) (m : ℕ) → stored a ≡ s → n ≡ Some m → get a.nodes m ≡ None → None ≡ some_row (behind (onward s n))
next-nowhere a s n m view at none = rw (sym view, at) (sym (ap (λ es. some_row (behind es)) (onward_nowhere a m none)))

pub key-node : (a : Inside) (s : Stored) (n : Option ℕ) (m : ℕ) (slot : NodeSlot) → IsStore a → stored a ≡ s → n ≡ Some m → get a.nodes m ≡ Some slot → Some slot.key ≡ key_at s n
key-node a s n m slot h view at there = rw (sym view, at) (sym (ap first_key (onward_at a h m slot there)))

pub key-nowhere : (a : Inside) (s : Stored) (n : Option ℕ) (m : ℕ) → stored a ≡ s → n ≡ Some m → get a.nodes m ≡ None → None ≡ key_at s n
key-nowhere a s n m view at none = rw (sym view, at) (sym (ap first_key (onward_nowhere a m none)))

pub leaf-root : (a : Inside) (s : Stored) (n : Option ℕ) → stored a ≡ s → n ≡ None → a.leaf ≡ leaf_of (tree_at s n)
leaf-root a s n view root = rw (sym view, root) (sym (ap leaf_of (first_of_root (stored a).tree) ∙ leaf_of-tree_with a.leaf (entries (row_at a.nodes a.first))))

pub leaf-node : (a : Inside) (s : Stored) (n : Option ℕ) (m : ℕ) (slot : NodeSlot) → IsStore a → stored a ≡ s → n ≡ Some m → get a.nodes m ≡ Some slot → slot.value ≡ leaf_of (tree_at s n)
leaf-node a s n m slot h view at there = rw (sym view, at) (sym (ap (λ es. leaf_of (first_tree es)) (onward_at a h m slot there) ∙ leaf_of-tree_with slot.value (entries (row_at a.nodes slot.first_child))))

pub leaf-nowhere : (a : Inside) (s : Stored) (n : Option ℕ) (m : ℕ) → stored a ≡ s → n ≡ Some m → get a.nodes m ≡ None → None ≡ leaf_of (tree_at s n)
leaf-nowhere a s n m view at none = rw (sym view, at) (sym (ap (λ es. leaf_of (first_tree es)) (onward_nowhere a m none) ∙ leaf_at-null []))

-- ---- the root
pub null_is : (a : Inside) → IsStore a → is_null (stored a).tree ≡ (not (is_some a.leaf) && not (is_some a.first))
null_is a h = of a.leaf a.first refl (row_at a.nodes a.first) refl h.row h.filled
  where
    of : (leaf : Option LeafValue) (o : Option ℕ) → a.first ≡ o → (f : Trees) → row_at a.nodes a.first ≡ f → IsRow a.nodes a.first None None f → Filled f → is_null (tree_with leaf (entries (row_at a.nodes a.first))) ≡ (not (is_some leaf) && not (is_some o))
    of (Some l) o e f d g filled = is_null-of_leaf l
    of None None e f d g filled = ap (λ x. is_null (object (entries (row_at a.nodes x)))) e ∙ ap (λ x. is_null (object (entries x))) (row_at-none a.nodes) ∙ is_null-null
    of None (Some n) e bare d g filled = cc (g.starts, e)
    of None (Some n) e (node m key leaf below behind) d g filled = ap (λ x. is_null (object (entries x))) d ∙ full_tree None (node m key leaf below behind) filled tt
