-- Where keys and paths lead.
use Rattle.std.proofs.Common.{◌≡◌, ℕ, [], ◌∷◌, Option, Some, None, Bool, true, false, cond, not, is_some, length, refl, sym, ap, subst, ◌∙◌, arith}
use Rattle.std.specs.declared.cmp.Ordering.{Ordering}
use Rattle.std.specs.declared.cmp.Ordering.TheVariants.{Less, Equal, Greater}
use Rattle.std.specs.Ordering.{is_eq}
use Rattle.std.specs.Option.{option_map, option_map_or}
use Rattle.std.specs.FinMap.Entries.{by_order}
use Rattle.slab.specs.Slab.{get}
use Rattle.rt_tree.specs.Leaf.{LeafValue}
use Rattle.rt_tree.specs.PathTree.{Key, Path, PathTree, key_eq, null, is_null, is_null-null, null_of_is_null, sub, child, child_of}
use Rattle.rt_tree.specs.Parts.{sub-sub}
use Rattle.rt_tree.specs.Allowed.{IsAllowed, MayStandAt, may_stand_below, allowed-sub}
use Rattle.rt_tree.proofs.Trees.{sub-root, sub-object, sub-of_leaf, sub-null}
use Rattle.rt_order.specs.KeyOrder.{key_cmp}
use Rattle.rt_order.specs.laws.KeyOrder.{key_cmp_total}
use Rattle.rt_store.specs.Rows.{Row, from_key, from_path}
use Rattle.rt_store.specs.Stored.{Stored, onward, some_row}
use Rattle.rt_store.specs.inside.StoreView.{stored, IsStore}
use Rattle.rt_store.specs.declared.store.Store.TheInside.{Inside}
use Rattle.rt_nodes.specs.Forest.{bare, node, first, AllAfter, Sound, IsRow, row_at}
use Rattle.rt_nodes.specs.Walks.{IsPlace, index_in, place_in}
use Rattle.rt_nodes.proofs.Reached.{same_some, IsAt, row_at-none, row_at_is, below_row, behind_row}
use Rattle.rt_nodes.proofs.Joining.{slots_same}
use Rattle.rt_nodes.proofs.Paths.{find_found as find_node, find_lacks as find_none}
use Rattle.rt_store.specs.inside.Entries.{entries, tree_with, IsFull, Filled, Nodes, Trees, NodeSlot}
use Rattle.rt_store.proofs.Orders.{tests_alike, row-tree_with, top_of_full, full_tree, root_row-full, root_row-null}
use Rattle.rt_store.proofs.Places.{row-null, onward_is}

-- ---- what a key finds in a row
pub differs : (j k : Key) (r : Ordering) → key_cmp j k ≡ r → is_eq r ≡ false → key_eq j k ≡ false
differs j k r order not_equal = sym (tests_alike j k) ∙ ap is_eq order ∙ not_equal

pub equals : (j k : Key) → key_cmp j k ≡ Equal → key_eq j k ≡ true
equals j k order = sym (tests_alike j k) ∙ ap is_eq order

-- nothing behind a key stands in front of it
from_key-after : (k key : Key) (f : Trees) → key_cmp k key ≡ Less → AllAfter key f → from_key k (entries f) ≡ []
from_key-after k key bare less h = refl
from_key-after k key (node n j leaf below behind) less h =
    ap (λ b. cond b ((j, tree_with leaf (entries below)) ∷ entries behind) (from_key k (entries behind))) (differs k j Less (key_cmp_total.trans k key j less h.0) refl)
    ∙ from_key-after k key behind less h.1

pub child_of-after : (k key : Key) (f : Trees) → key_cmp k key ≡ Less → AllAfter key f → child_of (entries f) k ≡ None
child_of-after k key bare less h = refl
child_of-after k key (node n j leaf below behind) less h =
    ap (λ b. cond b (Some (tree_with leaf (entries below))) (child_of (entries behind) k)) (differs k j Less (key_cmp_total.trans k key j less h.0) refl)
    ∙ child_of-after k key behind less h.1

-- what a key finds in the trees of a row
record IsPartOf (s : Nodes) (k : Key) (f : Trees) (n : ℕ) (slot : NodeSlot) : Type 0 where
  from : from_key k (entries f) ≡ entries (row_at s (Some n))
  child : child_of (entries f) k ≡ Some (tree_with slot.value (entries (row_at s slot.first_child)))
  full : Filled f → IsFull slot.value (row_at s slot.first_child)
  filled : Filled f → Filled (row_at s slot.first_child)

part_found : (s : Nodes) (o parent previous : Option ℕ) (f : Trees) (k : Key) (n : ℕ) (slot : NodeSlot) → IsRow s o parent previous f → index_in k f ≡ Some n → get s n ≡ Some slot → IsPartOf s k f n slot
part_found s o parent previous bare k n slot h e there = cc
part_found s o parent previous (node m key leaf below behind) k n slot h e there =
    elim (key_cmp k key) as (λ r. key_cmp k key ≡ r → by_order r None (Some m) (index_in k behind) ≡ Some n → IsPartOf s k (node m key leaf below behind) n slot) [
      | Less ↦ λ order g. cc
      | Equal ↦ λ order g.
          let same : m ≡ n = same_some m n g in
          let whole : IsRow s (Some m) parent previous (node m key leaf below behind) = record { links = h.links; sound = h.sound; starts = refl; fits = h.fits } in
          let b : row_at s (first below) ≡ below = row_at_is s (first below) (Some m) None below (below_row s o parent previous m key leaf below behind h) in
          let here = row_at_is s (Some m) parent previous (node m key leaf below behind) whole in
          subst (IsPartOf s k (node m key leaf below behind) n) (slots_same s m _ slot h.links.0 (ap (get s) same ∙ there)) (record {
            from = ap (λ t. cond t ((key, tree_with leaf (entries below)) ∷ entries behind) (from_key k (entries behind))) (equals k key order) ∙ sym (ap entries here) ∙ ap (λ x. entries (row_at s (Some x))) same;
            child = ap (λ t. cond t (Some (tree_with leaf (entries below))) (child_of (entries behind) k)) (equals k key order) ∙ ap (λ c. Some (tree_with leaf (entries c))) (sym b);
            full = λ filled. subst (IsFull leaf) (sym b) filled.0;
            filled = λ filled. subst Filled (sym b) filled.1;
          })
      | Greater ↦ λ order g.
          let rest = part_found s (first behind) parent (Some m) behind k n slot (behind_row s o parent previous m key leaf below behind h) g there in record {
            from = ap (λ t. cond t ((key, tree_with leaf (entries below)) ∷ entries behind) (from_key k (entries behind))) (differs k key Greater order refl) ∙ rest.from;
            child = ap (λ t. cond t (Some (tree_with leaf (entries below))) (child_of (entries behind) k)) (differs k key Greater order refl) ∙ rest.child;
            full = λ filled. rest.full filled.2;
            filled = λ filled. rest.filled filled.2;
          }
    ] refl e

pub record Found (s : Nodes) (k : Key) (f : Trees) (n : ℕ) : Type 0 where
  pub slot : NodeSlot
  pub there : get s n ≡ Some slot
  pub at : IsAt s n slot
  pub ends : place_in k [] f ≡ Some n
  pub goes : (j : Key) (p : Path) → place_in k (j ∷ p) f ≡ place_in j p (row_at s slot.first_child)
  pub from : from_key k (entries f) ≡ entries (row_at s (Some n))
  pub child : child_of (entries f) k ≡ Some (tree_with slot.value (entries (row_at s slot.first_child)))
  pub full : IsFull slot.value (row_at s slot.first_child)
  pub filled : Filled (row_at s slot.first_child)

pub find_found : (s : Nodes) (o parent previous : Option ℕ) (f : Trees) (k : Key) (n : ℕ) → IsRow s o parent previous f → Filled f → index_in k f ≡ Some n → Found s k f n
find_found s o parent previous f k n h filled e =
    let d = find_node s o parent previous f k n h e in
    let part = part_found s o parent previous f k n d.slot h e d.there in record {
      slot = d.slot;
      there = d.there;
      at = d.at;
      ends = d.ends;
      goes = d.goes;
      from = part.from;
      child = part.child;
      full = part.full filled;
      filled = part.filled filled;
    }

-- what stands below the node that is found
pub clear_filled : (s : Nodes) (o parent : Option ℕ) (k : Key) (n : ℕ) (slot : NodeSlot) → IsRow s o parent None (row_at s o) → Filled (row_at s o) → index_in k (row_at s o) ≡ Some n → get s n ≡ Some slot → Filled (row_at s slot.first_child)
clear_filled s o parent k n slot h filled e there = (part_found s o parent None (row_at s o) k n slot h e there).filled filled

pub record Lacks (k : Key) (f : Trees) : Type 0 where
  pub place : (p : Path) → place_in k p f ≡ None
  pub from : from_key k (entries f) ≡ []
  pub child : child_of (entries f) k ≡ None

from_lacks : (f : Trees) (k : Key) → Sound f → index_in k f ≡ None → (from_key k (entries f) ≡ []) × (child_of (entries f) k ≡ None)
from_lacks bare k h e = (refl, refl)
from_lacks (node m key leaf below behind) k h e =
    elim (key_cmp k key) as (λ r. key_cmp k key ≡ r → by_order r None (Some m) (index_in k behind) ≡ None
    → (from_key k (entries (node m key leaf below behind)) ≡ []) × (child_of (entries (node m key leaf below behind)) k ≡ None)) [
      | Less ↦ λ order g. (
        ap (λ t. cond t ((key, tree_with leaf (entries below)) ∷ entries behind) (from_key k (entries behind))) (differs k key Less order refl) ∙ from_key-after k key behind order h.0,
        ap (λ t. cond t (Some (tree_with leaf (entries below))) (child_of (entries behind) k)) (differs k key Less order refl) ∙ child_of-after k key behind order h.0,
      )
      | Equal ↦ λ order g. cc
      | Greater ↦ λ order g.
          let rest = from_lacks behind k h.2 g in (
            ap (λ t. cond t ((key, tree_with leaf (entries below)) ∷ entries behind) (from_key k (entries behind))) (differs k key Greater order refl) ∙ rest.0,
            ap (λ t. cond t (Some (tree_with leaf (entries below))) (child_of (entries behind) k)) (differs k key Greater order refl) ∙ rest.1,
          )
    ] refl e

pub find_lacks : (f : Trees) (k : Key) → Sound f → index_in k f ≡ None → Lacks k f
find_lacks f k h e =
    let trees = from_lacks f k h e in
    record { place = (find_none f k h e).place; from = trees.0; child = trees.1 }

-- ---- trees
pub from_path-null : (k : Key) (p : Path) → from_path null (k ∷ p) ≡ []
from_path-null k [] = ap (from_key k) row-null
from_path-null k (j ∷ p) = ap (λ t. from_path t (j ∷ p)) (sub-null (k ∷ [])) ∙ from_path-null j p

pub child-tree_with : (leaf : Option LeafValue) (f : Trees) (k : Key) → (is_some leaf ≡ true → f ≡ bare) → child (tree_with leaf (entries f)) k ≡ option_map_or (λ t. t) (child_of (entries f) k) null
child-tree_with None f k top =
    sub-object (entries f) k []
    ∙ elim (child_of (entries f) k) as (λ o. option_map_or (λ t. sub t []) o null ≡ option_map_or (λ t. t) o null) [ None ↦ refl | Some t ↦ sub-root t ]
child-tree_with (Some l) f k top = sub-of_leaf l k [] ∙ sym (ap (λ g. option_map_or (λ t. t) (child_of (entries g) k) null) (top refl))

-- the children of the node that is found
pub child_found : (s : Nodes) (leaf : Option LeafValue) (f : Trees) (k : Key) (n : ℕ) → (is_some leaf ≡ true → f ≡ bare) → (d : Found s k f n)
    → child (tree_with leaf (entries f)) k ≡ tree_with d.slot.value (entries (row_at s d.slot.first_child))
child_found s leaf f k n top d = child-tree_with leaf f k top ∙ ap (λ o. option_map_or (λ t. t) o null) d.child

pub child_lacks : (leaf : Option LeafValue) (f : Trees) (k : Key) → (is_some leaf ≡ true → f ≡ bare) → Lacks k f → child (tree_with leaf (entries f)) k ≡ null
child_lacks leaf f k top d = child-tree_with leaf f k top ∙ ap (λ o. option_map_or (λ t. t) o null) d.child

full_below : (s : Nodes) (slot : NodeSlot) → IsFull slot.value (row_at s slot.first_child) → is_some slot.value ≡ true → row_at s slot.first_child ≡ bare
full_below s slot full = top_of_full slot.value (row_at s slot.first_child) full

some_row-at : (s : Nodes) (n : ℕ) (slot : NodeSlot) → IsAt s n slot → some_row (entries (row_at s (Some n))) ≡ Some (entries (row_at s (Some n)))
some_row-at s n slot at = ap (λ f. some_row (entries f)) at.is ∙ sym (ap (λ f. Some (entries f)) at.is)

pub row_from : Nodes → ℕ → Row
row_from s n = entries (row_at s (Some n))

pub place_row : (s : Nodes) (o parent previous : Option ℕ) (leaf : Option LeafValue) (f : Trees) (k : Key) (p : Path) → IsRow s o parent previous f → Filled f → (is_some leaf ≡ true → f ≡ bare)
    → option_map (row_from s) (place_in k p f) ≡ some_row (from_path (tree_with leaf (entries f)) (k ∷ p))
unfolding row_from
place_row s o parent previous leaf f k [] h filled top =
    of (index_in k f) refl ∙ sym (ap (λ es. some_row (from_key k es)) (row-tree_with leaf f h.sound filled top))
  where
    of : (i : Option ℕ) → index_in k f ≡ i → option_map (row_from s) (place_in k [] f) ≡ some_row (from_key k (entries f))
    of None e = let d = find_lacks f k h.sound e in ap (option_map (row_from s)) (d.place []) ∙ sym (ap some_row d.from)
    of (Some n) e =
        let d = find_found s o parent previous f k n h filled e in
        ap (option_map (row_from s)) d.ends ∙ sym (ap some_row d.from ∙ some_row-at s n d.slot d.at)
place_row s o parent previous leaf f k (j ∷ p) h filled top =
    of (index_in k f) refl (λ t slot at inside g. place_row s slot.first_child at.below.0 at.below.1 slot.value (row_at s slot.first_child) j p at.below.2 inside g)
  where
    of : (i : Option ℕ) → index_in k f ≡ i
        → ((n : ℕ) (slot : NodeSlot) (at : IsAt s n slot) → Filled (row_at s slot.first_child) → (is_some slot.value ≡ true → row_at s slot.first_child ≡ bare) → option_map (row_from s) (place_in j p (row_at s slot.first_child)) ≡ some_row (from_path (tree_with slot.value (entries (row_at s slot.first_child))) (j ∷ p)))
        → option_map (row_from s) (place_in k (j ∷ p) f) ≡ some_row (from_path (child (tree_with leaf (entries f)) k) (j ∷ p))
    of None e more =
        let d = find_lacks f k h.sound e in
        ap (option_map (row_from s)) (d.place (j ∷ p)) ∙ sym (ap (λ t. some_row (from_path t (j ∷ p))) (child_lacks leaf f k top d) ∙ ap some_row (from_path-null j p))
    of (Some n) e more =
        let d = find_found s o parent previous f k n h filled e in
        ap (option_map (row_from s)) (d.goes j p) ∙ more n d.slot d.at d.filled (full_below s d.slot d.full) ∙ sym (ap (λ t. some_row (from_path t (j ∷ p))) (child_found s leaf f k n top d))

-- something stands at a path where it leads to a node
pub place_there : (s : Nodes) (o parent previous : Option ℕ) (leaf : Option LeafValue) (f : Trees) (k : Key) (p : Path) → IsRow s o parent previous f → Filled f → (is_some leaf ≡ true → f ≡ bare)
    → is_some (place_in k p f) ≡ not (is_null (sub (tree_with leaf (entries f)) (k ∷ p)))
place_there s o parent previous leaf f k [] h filled top = of (index_in k f) refl
  where
    of : (i : Option ℕ) → index_in k f ≡ i → is_some (place_in k [] f) ≡ not (is_null (sub (tree_with leaf (entries f)) (k ∷ [])))
    of None e = let d = find_lacks f k h.sound e in ap is_some (d.place []) ∙ sym (ap (λ t. not (is_null t)) (child_lacks leaf f k top d) ∙ ap not is_null-null)
    of (Some n) e =
        let d = find_found s o parent previous f k n h filled e in
        ap is_some d.ends
        ∙ sym (ap (λ t. not (is_null t)) (child_found s leaf f k n top d) ∙ ap not (full_tree d.slot.value (row_at s d.slot.first_child) d.filled d.full))
place_there s o parent previous leaf f k (j ∷ p) h filled top =
    of (index_in k f) refl (λ n slot at inside g. place_there s slot.first_child at.below.0 at.below.1 slot.value (row_at s slot.first_child) j p at.below.2 inside g)
    ∙ ap (λ t. not (is_null t)) (sub-sub (tree_with leaf (entries f)) (k ∷ []) (j ∷ p))
  where
    of : (i : Option ℕ) → index_in k f ≡ i
        → ((n : ℕ) (slot : NodeSlot) (at : IsAt s n slot) → Filled (row_at s slot.first_child) → (is_some slot.value ≡ true → row_at s slot.first_child ≡ bare) → is_some (place_in j p (row_at s slot.first_child)) ≡ not (is_null (sub (tree_with slot.value (entries (row_at s slot.first_child))) (j ∷ p))))
        → is_some (place_in k (j ∷ p) f) ≡ not (is_null (sub (child (tree_with leaf (entries f)) k) (j ∷ p)))
    of None e more =
        let d = find_lacks f k h.sound e in
        ap is_some (d.place (j ∷ p)) ∙ sym (ap (λ t. not (is_null (sub t (j ∷ p)))) (child_lacks leaf f k top d) ∙ ap (λ t. not (is_null t)) (sub-null (j ∷ p)) ∙ ap not is_null-null)
    of (Some n) e more =
        let d = find_found s o parent previous f k n h filled e in
        ap is_some (d.goes j p) ∙ more n d.slot d.at d.filled (full_below s d.slot d.full) ∙ sym (ap (λ t. not (is_null (sub t (j ∷ p)))) (child_found s leaf f k n top d))

same_slot : (s : Nodes) (n : ℕ) (x y : NodeSlot) → get s n ≡ Some x → get s n ≡ Some y → x ≡ y
same_slot s n x y e f = ap (λ o. option_map_or (λ z. z) o x) (sym e ∙ f)

-- ---- the answers of `at`
pub at_null-row : (t : PathTree) (p : Path) → length p ≡ 0 → is_null t ≡ true → None ≡ some_row (from_path t p)
at_null-row t [] short n = sym (ap some_row (root_row-null t n))
at_null-row t (k ∷ p) short n = absurd (omega (arith, short))

pub at_null-there : (t : PathTree) (p : Path) → length p ≡ 0 → is_null t ≡ true → false ≡ not (is_null (sub t p))
at_null-there t [] short n = sym (ap (λ u. not (is_null u)) (sub-root t) ∙ ap not n)
at_null-there t (k ∷ p) short n = absurd (omega (arith, short))

pub at_root-row : (s : Stored) (r : Option ℕ) (p : Path) → r ≡ None → length p ≡ 0 → is_null s.tree ≡ false → Some (onward s r) ≡ some_row (from_path s.tree p)
at_root-row s r [] is short n = ap (λ x. Some (onward s x)) is ∙ (ap Some (root_row-full s.tree n) ∙ sym (ap some_row (root_row-full s.tree n)))
at_root-row s r (k ∷ p) is short n = absurd (omega (arith, short))

pub at_root-there : (t : PathTree) (p : Path) → length p ≡ 0 → is_null t ≡ false → true ≡ not (is_null (sub t p))
at_root-there t [] short n = sym (ap (λ u. not (is_null u)) (sub-root t) ∙ ap not n)
at_root-there t (k ∷ p) short n = absurd (omega (arith, short))

rows_at : (a : Inside) (o : Option ℕ) → option_map (onward (stored a)) (option_map Some o) ≡ option_map (row_from a.nodes) o
unfolding row_from
rows_at a None = refl
rows_at a (Some n) = ap Some (onward_is a n)

top_bare : (a : Inside) → IsStore a → is_some a.leaf ≡ true → row_at a.nodes a.first ≡ bare
top_bare a h e = ap (row_at a.nodes) (h.top e) ∙ row_at-none a.nodes

pub at_path-row : (a : Inside) (s : Stored) (r : Option (Option ℕ)) (path : Path) (k : Key) (p : Path) → IsStore a → stored a ≡ s → path ≡ k ∷ p → r ≡ option_map Some (place_in k p (row_at a.nodes a.first))
    → option_map (onward s) r ≡ some_row (from_path s.tree path)
at_path-row a s r path k p h view goes is =
    rw (sym view, goes, is)
    (rows_at a (place_in k p (row_at a.nodes a.first)) ∙ place_row a.nodes a.first None None a.leaf (row_at a.nodes a.first) k p h.row h.filled (top_bare a h))

some_mapped : (o : Option ℕ) → is_some (option_map (λ n. Some n) o) ≡ is_some o
some_mapped None = refl
some_mapped (Some n) = refl

pub at_path-there : (a : Inside) (s : Stored) (r : Option (Option ℕ)) (path : Path) (k : Key) (p : Path) → IsStore a → stored a ≡ s → path ≡ k ∷ p → r ≡ option_map Some (place_in k p (row_at a.nodes a.first))
    → is_some r ≡ not (is_null (sub s.tree path))
at_path-there a s r path k p h view goes is =
    rw (sym view, goes, is)
    (some_mapped (place_in k p (row_at a.nodes a.first)) ∙ place_there a.nodes a.first None None a.leaf (row_at a.nodes a.first) k p h.row h.filled (top_bare a h))

-- ---- the part at a path
-- what is known of the node that a path leads to
pub record IsPart (s : Nodes) (t : PathTree) (n : ℕ) : Type 0 where
  pub slot : NodeSlot
  pub there : get s n ≡ Some slot
  pub below : IsPlace s slot.first_child
  pub filled : Filled (row_at s slot.first_child)
  pub is : t ≡ tree_with slot.value (entries (row_at s slot.first_child))

pub place_part : (s : Nodes) (o parent previous : Option ℕ) (leaf : Option LeafValue) (f : Trees) (k : Key) (p : Path) (n : ℕ) → IsRow s o parent previous f → Filled f → (is_some leaf ≡ true → f ≡ bare)
    → place_in k p f ≡ Some n → IsPart s (sub (tree_with leaf (entries f)) (k ∷ p)) n
place_part s o parent previous leaf f k [] n h filled top goes = of (index_in k f) refl
  where
    of : (i : Option ℕ) → index_in k f ≡ i → IsPart s (sub (tree_with leaf (entries f)) (k ∷ [])) n
    of None e = cc ((find_lacks f k h.sound e).place [], goes)
    of (Some m) e =
        let d = find_found s o parent previous f k m h filled e in
        let same : m ≡ n = same_some m n (sym d.ends ∙ goes) in
        subst (IsPart s (sub (tree_with leaf (entries f)) (k ∷ []))) same (record { slot = d.slot; there = d.there; below = d.at.below; filled = d.filled; is = child_found s leaf f k m top d })
place_part s o parent previous leaf f k (j ∷ p) n h filled top goes =
    subst (λ t. IsPart s t n) (sub-sub (tree_with leaf (entries f)) (k ∷ []) (j ∷ p))
    (of (index_in k f) refl (λ m slot at inside g e. place_part s slot.first_child at.below.0 at.below.1 slot.value (row_at s slot.first_child) j p n at.below.2 inside g e))
  where
    of : (i : Option ℕ) → index_in k f ≡ i
        → ((m : ℕ) (slot : NodeSlot) (at : IsAt s m slot) → Filled (row_at s slot.first_child) → (is_some slot.value ≡ true → row_at s slot.first_child ≡ bare) → place_in j p (row_at s slot.first_child) ≡ Some n → IsPart s (sub (tree_with slot.value (entries (row_at s slot.first_child))) (j ∷ p)) n)
        → IsPart s (sub (child (tree_with leaf (entries f)) k) (j ∷ p)) n
    of None e more = cc ((find_lacks f k h.sound e).place (j ∷ p), goes)
    of (Some m) e more =
        let d = find_found s o parent previous f k m h filled e in
        subst (λ t. IsPart s (sub t (j ∷ p)) n) (sym (child_found s leaf f k m top d)) (more m d.slot d.at d.filled (full_below s d.slot d.full) (sym (d.goes j p) ∙ goes))

stands_alone : (p : Path) (t : PathTree) → MayStandAt p t → IsAllowed t
stands_alone [] t h = h
stands_alone (k ∷ p) t h = stands_alone p t (may_stand_below k p t h)

pub root_part : (s : Stored) (p : Path) → length p ≡ 0 → s.tree ≡ sub s.tree p
root_part s [] short = sym (sub-root s.tree)
root_part s (k ∷ p) short = absurd (omega (arith, short))

pub path_part : (a : Inside) (s : Stored) (path : Path) (k : Key) (p : Path) (n : ℕ) → IsStore a → stored a ≡ s → path ≡ k ∷ p → place_in k p (row_at a.nodes a.first) ≡ Some n → IsPart a.nodes (sub s.tree path) n
path_part a s path k p n h view goes is = rw (sym view, goes) (place_part a.nodes a.first None None a.leaf (row_at a.nodes a.first) k p n h.row h.filled (top_bare a h) is)

pub path_allowed : (a : Inside) (s : Stored) (path : Path) → IsStore a → stored a ≡ s → IsAllowed (sub s.tree path)
path_allowed a s path h view = stands_alone path (sub s.tree path) (allowed-sub s.tree path (subst (λ (x : Stored). IsAllowed x.tree) view h.allowed))

pub path_null : (a : Inside) (s : Stored) (path : Path) (k : Key) (p : Path) → IsStore a → stored a ≡ s → path ≡ k ∷ p → place_in k p (row_at a.nodes a.first) ≡ None → null ≡ sub s.tree path
path_null a s path k p h view goes none =
    rw (sym view, goes)
    (sym (null_of_is_null (sub (tree_with a.leaf (entries (row_at a.nodes a.first))) (k ∷ p))
    (off (is_null (sub (tree_with a.leaf (entries (row_at a.nodes a.first))) (k ∷ p)))
    (sym (ap is_some none) ∙ place_there a.nodes a.first None None a.leaf (row_at a.nodes a.first) k p h.row h.filled (top_bare a h)))))
  where
    off : (b : Bool) → false ≡ not b → b ≡ true
    off true e = refl
    off false e = cc

same_at : (s : Nodes) (t : PathTree) (n : ℕ) (slot : NodeSlot) → get s n ≡ Some slot → (d : IsPart s t n) → d.slot ≡ slot
same_at s t n slot there d = same_slot s n d.slot slot d.there there

pub part_place : (s : Nodes) (t : PathTree) (n : ℕ) (slot : NodeSlot) → get s n ≡ Some slot → IsPart s t n → IsPlace s slot.first_child
part_place s t n slot there d = subst (λ (x : NodeSlot). IsPlace s x.first_child) (same_at s t n slot there d) d.below

pub part_filled : (s : Nodes) (t : PathTree) (n : ℕ) (slot : NodeSlot) → get s n ≡ Some slot → IsPart s t n → Filled (row_at s slot.first_child)
part_filled s t n slot there d = subst (λ (x : NodeSlot). Filled (row_at s x.first_child)) (same_at s t n slot there d) d.filled

pub part_is : (s : Nodes) (t : PathTree) (n : ℕ) (slot : NodeSlot) → get s n ≡ Some slot → IsPart s t n → t ≡ tree_with slot.value (entries (row_at s slot.first_child))
part_is s t n slot there d = d.is ∙ ap (λ (x : NodeSlot). tree_with x.value (entries (row_at s x.first_child))) (same_at s t n slot there d)

pub part_there : (s : Nodes) (t : PathTree) (n : ℕ) → IsPart s t n → get s n ≡ None → ⊥
part_there s t n d none = cc (sym d.there ∙ none)
