-- Trees made of rows.
use Rattle.std.proofs.Common.{◌≡◌, ◌≤◌, ◌<◌, ℕ, [], ◌∷◌, Option, Some, None, true, false, cond, refl, sym, ap, subst, ◌∙◌, arith}
use Rattle.std.specs.declared.cmp.Ordering.TheVariants.{Less}
use Rattle.std.specs.Option.{option_and_then, option_map_or}
use Rattle.slab.specs.Slab.{get}
use Rattle.rt_tree.specs.PathTree.{Key, Path, PathTree, key_eq, key_eq-is, key_eq-same, key_eq-symm, null, sub, same_tree, leaf_at, leaf_at-object, leaf_at-object-root, object, child_of, AllFull}
use Rattle.rt_tree.specs.Allowed.{IsAllowed, may_stand_below, allowed-sub}
use Rattle.rt_tree.proofs.Trees.{sub-root, sub-object}
use Rattle.rt_store.specs.Rows.{Row}
use Rattle.rt_nodes.specs.Forest.{bare, node, size, AllAfter, row_at}
use Rattle.rt_store.specs.inside.Entries.{entries, tree_with, Filled, Nodes, Trees, NodeSlot}
use Rattle.rt_nodes.specs.Walks.{IsPlace}
use Rattle.rt_nodes.proofs.Reached.{IsAt, at_place, row_at-none, not_nowhere}
use Rattle.rt_store.proofs.Orders.{full_of}
use Rattle.rt_store.proofs.Paths.{differs}

-- the first, or else the second
abbrev pub or_else : Option PathTree → Option PathTree → Option PathTree
or_else None o = o
or_else (Some t) o = Some t

-- the children so far, and what is left of a row
pub record Building (s : Nodes) (f : Trees) (es : Row) (o : Option ℕ) : Type 0 where
  pub place : IsPlace s o
  pub filled : Filled (row_at s o)
  pub all : (k : Key) → or_else (child_of (entries (row_at s o)) k) (child_of es k) ≡ child_of (entries f) k
  pub smaller : size (row_at s o) ≤ size f

or_none : (o : Option PathTree) → or_else o None ≡ o
or_none None = refl
or_none (Some t) = refl

pub building_all : (s : Nodes) (es : Row) (o : Option ℕ) → IsPlace s o → Filled (row_at s o) → es ≡ [] → Building s (row_at s o) es o
building_all s es o place filled none = record {
  place = place;
  filled = filled;
  all = λ k. ap (λ x. or_else (child_of (entries (row_at s o)) k) (child_of x k)) none ∙ or_none (child_of (entries (row_at s o)) k);
  smaller = omega arith;
}

-- a key stands once
pub child_of-itself : (k : Key) (f : Trees) → AllAfter k f → child_of (entries f) k ≡ None
child_of-itself k bare h = refl
child_of-itself k (node n j leaf below behind) h =
    ap (λ b. cond b (Some (tree_with leaf (entries below))) (child_of (entries behind) k)) (differs k j Less h.0 refl) ∙ child_of-itself k behind h.1

step : (j key : Key) (t : PathTree) (rest es : Option PathTree) → (key_eq j key ≡ true → rest ≡ None)
    → or_else rest (cond (key_eq key j) (Some t) es) ≡ or_else (cond (key_eq j key) (Some t) rest) es
step j key t rest es none =
    ap (λ b. or_else rest (cond b (Some t) es)) (key_eq-symm key j)
    ∙ elim (key_eq j key) as (λ b. (b ≡ true → rest ≡ None) → or_else rest (cond b (Some t) es) ≡ or_else (cond b (Some t) rest) es) [
      | true ↦ λ g. ap (λ r. or_else r (Some t)) (g refl)
      | false ↦ λ g. refl
    ] none

module _ (s : Nodes) (f : Trees) (es : Row) (o : Option ℕ) (n : ℕ) (slot : NodeSlot) (h : Building s f es o) (is : o ≡ Some n) (there : get s n ≡ Some slot) where
  at : IsAt s n slot
  at = at_place s n slot (subst (IsPlace s) is h.place) there

  whole : row_at s o ≡ node n slot.key slot.value (row_at s slot.first_child) (row_at s slot.next)
  whole = ap (row_at s) is ∙ at.is

  pub child_place : IsPlace s slot.first_child
  child_place = at.below

  filled_whole : Filled (node n slot.key slot.value (row_at s slot.first_child) (row_at s slot.next))
  filled_whole = subst Filled whole h.filled

  pub child_filled : Filled (row_at s slot.first_child)
  child_filled = filled_whole.1

  pub child_smaller : size (row_at s slot.first_child) < size f
  child_smaller = omega (arith, ap size whole, h.smaller)

  pub child_is : child_of (entries f) slot.key ≡ Some (tree_with slot.value (entries (row_at s slot.first_child)))
  child_is =
      sym (h.all slot.key) ∙ ap (λ g. or_else (child_of (entries g) slot.key) (child_of es slot.key)) whole
      ∙ ap (λ b. or_else (cond b (Some (tree_with slot.value (entries (row_at s slot.first_child)))) (child_of (entries (row_at s slot.next)) slot.key)) (child_of es slot.key)) (key_eq-same slot.key)

  pub child_allowed : IsAllowed (object (entries f)) → IsAllowed (tree_with slot.value (entries (row_at s slot.first_child)))
  child_allowed allowed =
      let part : sub (object (entries f)) (slot.key ∷ []) ≡ tree_with slot.value (entries (row_at s slot.first_child)) =
      sub-object (entries f) slot.key [] ∙ ap (λ c. option_map_or (λ t. sub t []) c null) child_is ∙ sub-root (tree_with slot.value (entries (row_at s slot.first_child))) in
      subst IsAllowed part (may_stand_below slot.key [] (sub (object (entries f)) (slot.key ∷ [])) (allowed-sub (object (entries f)) (slot.key ∷ []) allowed))

  pub building_next : (fs : Row) (key : Key) (t : PathTree) → key ≡ slot.key → t ≡ tree_with slot.value (entries (row_at s slot.first_child))
      → ((j : Key) → child_of fs j ≡ cond (key_eq key j) (Some t) (child_of es j)) → Building s f fs slot.next
  building_next fs key t same_key same sets = record {
    place = at.behind;
    filled = filled_whole.2;
    all = λ j.
        ap (or_else (child_of (entries (row_at s slot.next)) j)) (sets j ∙ (λ i. cond (key_eq (same_key i) j) (Some (same i)) (child_of es j)))
        ∙ step j slot.key (tree_with slot.value (entries (row_at s slot.first_child))) (child_of (entries (row_at s slot.next)) j) (child_of es j)
        (λ e. ap (child_of (entries (row_at s slot.next))) (key_eq-is j slot.key e) ∙ child_of-itself slot.key (row_at s slot.next) at.after)
        ∙ ap (λ g. or_else (child_of (entries g) j) (child_of es j)) (sym whole) ∙ h.all j;
    smaller = omega (arith, ap size whole, h.smaller);
  }

  pub fewer_left : size (row_at s slot.next) < size (row_at s o)
  fewer_left = omega (arith, ap size whole)

pub built_there : (s : Nodes) (f : Trees) (es : Row) (o : Option ℕ) (n : ℕ) → Building s f es o → o ≡ Some n → get s n ≡ None → ⊥
built_there s f es o n h is none = not_nowhere s n (subst (IsPlace s) is h.place) none

-- ---- all children
pub built : (s : Nodes) (f : Trees) (es : Row) (o : Option ℕ) → Building s f es o → o ≡ None → (k : Key) → child_of es k ≡ child_of (entries f) k
built s f es o h end k = sym (ap (λ g. or_else (child_of (entries g) k) (child_of es k)) (ap (row_at s) end ∙ row_at-none s)) ∙ h.all k

pub same_object : (es fs : Row) → ((k : Key) → child_of es k ≡ child_of fs k) → object es ≡ object fs
same_object es fs same = same_tree _ _ at
  where
    at : (q : Path) → leaf_at (object es) q ≡ leaf_at (object fs) q
    at [] = leaf_at-object-root es ∙ sym (leaf_at-object-root fs)
    at (k ∷ q) = leaf_at-object es k q ∙ ap (option_and_then (λ t. leaf_at t q)) (same k) ∙ sym (leaf_at-object fs k q)

pub built_full : (f : Trees) (es : Row) → Filled f → ((k : Key) → child_of es k ≡ child_of (entries f) k) → AllFull es
built_full f es h same k t is = full_of f h k t (sym (same k) ∙ is)
