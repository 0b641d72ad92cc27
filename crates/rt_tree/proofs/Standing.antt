-- Of the data that a tree is written as, each value has its place: only that there are too many can refuse it.
use Rattle.std.proofs.Common.{◌≡◌, ℕ, ℤ, zero, suc, pos, negsuc, ◌+◌, ◌≤◌, true, false, cond, nat_le, nat_lt, List, [], ◌∷◌, ◌++◌, length, Option, Some, None, Err, refl, sym, ap, ◌∙◌, arith, subst, append_assoc, length-append}
use Rattle.std.specs.Cmp.{eq_by_cmp_equiv}
use Rattle.std.specs.Cmp.Lexicographic.{nat_list_cmp_total}
use Rattle.std.specs.BTreeMap.{is_at}
use Rattle.std.specs.List.{AllByRecursion}
use Rattle.std.specs.List.Sorted.{IsStrictlySortedBy}
use Rattle.std.specs.Map.{keys_of}
use Rattle.std.specs.Option.{option_map_or, option_or}
use Rattle.std.specs.Result.{result_err}
use Rattle.std.proofs.lemmas.Bool.{le-ltb, lt-ltb, leb-true, leb-false}
use Rattle.std.proofs.lemmas.Grind.{common_steps}
use Rattle.std.proofs.lemmas.Map.{lookup-none}
use Rattle.std.proofs.lemmas.Map.Keys.{sorted_tail, IsDistinct-from_sorted}
use Rattle.std.proofs.lemmas.Map.Entries.{none_past_head}
use Rattle.serde_json.specs.Data.{Data, Members, no_members, member}
use Rattle.serde_json.specs.Data as json
use Rattle.serde_json.specs.Find.{of_integer}
use Rattle.rt_tree.specs.declared.error.TreeError.TheVariants.{TooDeep, TextTooLong, TooManyNodes}
use Rattle.rt_tree.specs.Key.{IsKey}
use Rattle.rt_tree.specs.Path.{IsPath}
use Rattle.rt_tree.specs.Leaf.{LeafValue, truth, number, text, IsWhole, IsInRange}
use Rattle.rt_tree.specs.Leaves.{Key, Path, Leaves, is_empty, get, key_cmp, key_eq}
use Rattle.rt_tree.specs.Trees.{PathTree, leaf_at, is_null, sub, object, child_of, non_null, levels, MayStandAt, IsAllowed, children_of}
use Rattle.rt_tree.specs.laws.Prefixes.{key_eq-same, path_eq-same}
use Rattle.rt_tree.specs.laws.PathTree.{leaf_at-sub, leaf_of_root, null_of_levels, child_levels}
use Rattle.rt_tree.specs.laws.Children.{children_sorted, child_of-children_of}
use Rattle.rt_tree.specs.Reading.{tree_of_data, member_trees, Visit, visit, visits, member_visits, name_fault, number_fault, value_fault, place_fault, HasPlace, walked, data_fault}
use Rattle.rt_tree.specs.Writing.{leaf_data, members_with, object_data, leaf_or, data_at, data_of, value_count, back_fault}
use Rattle.rt_tree.proofs.Trees.{full_of_non_null}
use Rattle.rt_tree.proofs.Writings.{integer_back, leaf_back, object-children_of}

-- ---- one value
-- a value in its place
here : (level : ℕ) (name : Option (List ℕ)) (d : Data) → level ≤ 32 → name_fault name ≡ None → value_fault d ≡ None → HasPlace (visit level name d)
here level name d shallow named fine =
    ap (λ b. cond b (Some TooDeep) (option_or (name_fault name) (value_fault d))) (le-ltb 32 level shallow) ∙ (λ i. option_or (named i) (fine i))

whole : (z : ℤ) → IsWhole z → number_fault (Some z) ≡ None
whole (pos n) h = grind (arith, common_steps)
whole (negsuc n) h = grind (arith, common_steps)

leaf_stands : (level : ℕ) (name : Option (List ℕ)) (l : LeafValue) → level ≤ 32 → name_fault name ≡ None → IsInRange l → AllByRecursion HasPlace (visits level name (leaf_data l))
leaf_stands level name (truth b) shallow named h = (here level name (json.boolean b) shallow named refl, tt)
leaf_stands level name (number z) shallow named h = (here level name (json.number (of_integer z)) shallow named (ap number_fault (integer_back z h) ∙ whole z h), tt)
leaf_stands level name (text s) shallow named h = (here level name (json.string s) shallow named (ap (λ b. cond b (Some TextTooLong) None) (le-ltb 65536 (length s) h)), tt)

-- ---- the members of an object
all_of_both : (vs ws : List Visit) → AllByRecursion HasPlace vs → AllByRecursion HasPlace ws → AllByRecursion HasPlace (vs ++ ws)
all_of_both [] ws h g = g
all_of_both (v ∷ vs) ws h g = (h.0, all_of_both vs ws h.1 g)

members_stand : (level : ℕ) (f : PathTree → Data) (es : List (Key × PathTree)) → AllByRecursion (λ e. AllByRecursion HasPlace (visits level (Some e.0) (f e.1))) es
    → AllByRecursion HasPlace (member_visits level (members_with f es))
members_stand level f [] h = tt
members_stand level f (e ∷ es) h = all_of_both (visits level (Some e.0) (f e.1)) (member_visits level (members_with f es)) h.0 (members_stand level f es h.1)

object_stands : (level : ℕ) (name : Option (List ℕ)) (f : PathTree → Data) (es : List (Key × PathTree)) → level ≤ 32 → name_fault name ≡ None
    → AllByRecursion HasPlace (member_visits (suc level) (members_with f es)) → AllByRecursion HasPlace (visits level name (object_data (members_with f es)))
object_stands level name f [] shallow named h = (here level name json.null shallow named refl, tt)
object_stands level name f (e ∷ es) shallow named h = (here level name (json.object (members_with f (e ∷ es))) shallow named refl, h)

-- what holds of each child that is found holds of all
all_children : (P : Key × PathTree → Type 0) (es : List (Key × PathTree)) → IsStrictlySortedBy key_cmp (keys_of es) → ((k : Key) (t : PathTree) → child_of es k ≡ Some t → P (k, t)) → AllByRecursion P es
all_children P [] sorted h = tt
all_children P (e ∷ es) sorted h = (
  h e.0 e.1 (ap (λ b. cond b (Some e.1) (child_of es e.0)) (key_eq-same e.0)),
  all_children P es (sorted_tail key_cmp e.0 (keys_of es) sorted) (λ k t is.
      elim (key_eq k e.0) as (λ b. key_eq k e.0 ≡ b → P (k, t)) [
        | true ↦ λ same. absurd (cc (is, lookup-none (is_at (key_cmp k)) es (none_past_head (eq_by_cmp_equiv nat_list_cmp_total) k e es (IsDistinct-from_sorted key_cmp (keys_of (e ∷ es)) sorted) same)))
        | false ↦ λ other. h k t (ap (λ b. cond b (Some e.1) (child_of es k)) other ∙ is)
      ] refl),
)

-- ---- a child in its place
a_leaf_of : (m : Leaves) → is_empty m ≡ false → (q : Path) × (l : LeafValue) × (get m q ≡ Some l)
a_leaf_of [] e = cc
a_leaf_of (x ∷ m) e = (x.0, x.1, ap (λ b. cond b (Some x.1) (get m x.0)) (path_eq-same x.0))

-- a tree that isn't null has a leaf
a_leaf : (t : PathTree) → is_null t ≡ false → (q : Path) × (l : LeafValue) × (leaf_at t q ≡ Some l)
unfolding is_null leaf_at
a_leaf t e = a_leaf_of t.leaves e

key_between : (p : Path) (k : Key) (q : Path) → AllByRecursion IsKey (p ++ k ∷ q) → IsKey k
key_between [] k q h = h.0
key_between (j ∷ p) k q h = key_between p k q h.1

same_part : (t u : PathTree) → non_null t ≡ Some u → t ≡ u
same_part t u e =
    elim (is_null t) as (λ b. cond b None (Some t) ≡ Some u → t ≡ u) [
      | true ↦ λ h. cc
      | false ↦ λ h. cc
    ] e

child_may : (t : PathTree) (p : Path) (k : Key) (u : PathTree) → MayStandAt p t → sub t (k ∷ []) ≡ u → MayStandAt (p ++ k ∷ []) u
child_may t p k u may same q l e =
    let at = may (k ∷ q) l (sym (leaf_at-sub t (k ∷ []) q) ∙ ap (λ v. leaf_at v q) same ∙ e) in
    (subst IsPath (sym (append_assoc p (k ∷ []) q)) at.0, at.1)

-- what a child's place is
record Child (p : Path) (level : ℕ) (k : Key) (u : PathTree) : Type 0 where
  long : length (p ++ k ∷ []) ≡ suc level
  shallow : suc level ≤ 32
  key : IsKey k
  may : MayStandAt (p ++ k ∷ []) u

child_stands : (t : PathTree) (p : Path) (level : ℕ) (k : Key) (u : PathTree) → length p ≡ level → MayStandAt p t → child_of (children_of t) k ≡ Some u → Child p level k u
child_stands t p level k u long may is =
    let part : non_null (sub t (k ∷ [])) ≡ Some u = sym (child_of-children_of t k) ∙ is in
    let stands = child_may t p k u may (same_part (sub t (k ∷ [])) u part) in
    let some = a_leaf u (full_of_non_null (sub t (k ∷ [])) u part) in
    let path : IsPath (p ++ k ∷ some.0) = subst IsPath (append_assoc p (k ∷ []) some.0) (stands some.0 some.1 some.2).0 in
    record {
      long = omega (arith, length-append p (k ∷ []), long);
      shallow = omega (arith, length-append p (k ∷ some.0), path.short, long);
      key = key_between p k some.0 path.keys;
      may = stands;
    }

-- ---- all of a tree
stands : (n : ℕ) (t : PathTree) (p : Path) (level : ℕ) (name : Option (List ℕ)) → length p ≡ level → level ≤ 32 → name_fault name ≡ None → MayStandAt p t → AllByRecursion HasPlace (visits level name (data_at n t))
stands zero t p level name long shallow named may = (here level name json.null shallow named refl, tt)
stands (suc n) t p level name long shallow named may =
    elim (leaf_at t []) as (λ o. leaf_at t [] ≡ o → AllByRecursion HasPlace (visits level name (leaf_or o (members_with (data_at n) (children_of t))))) [
      | Some l ↦ λ e. leaf_stands level name l shallow named (may [] l e).1
      | None ↦ λ e. object_stands level name (data_at n) (children_of t) shallow named
          (members_stand (suc level) (data_at n) (children_of t)
          (all_children (λ c. AllByRecursion HasPlace (visits (suc level) (Some c.0) (data_at n c.1))) (children_of t) (children_sorted t) (λ k u is.
          let child = child_stands t p level k u long may is in
          stands n u (p ++ k ∷ []) (suc level) (Some k) child.long child.shallow child.key child.may)))
    ] refl

places-data_of : (t : PathTree) → IsAllowed t → AllByRecursion HasPlace (visits 0 None (data_of t))
unfolding data_of
places-data_of t h = stands (levels t) t [] 0 None refl (omega arith) refl h

-- ---- the walk
-- where each value has its place, there are too many or the walk ends well
walked-all : (n m : ℕ) (vs : List Visit) → n ≤ 65536 → n + length vs ≡ m → AllByRecursion HasPlace vs → result_err (walked n vs) ≡ cond (nat_lt 65536 m) (Some TooManyNodes) None
walked-all n m [] few sum h = ap (λ b. cond b (Some TooManyNodes) None) (sym (le-ltb 65536 m (omega arith)))
walked-all n m (v ∷ vs) few sum h =
    elim (nat_le 65536 n) as (λ b. nat_le 65536 n ≡ b → result_err (cond b (Err TooManyNodes) (option_map_or Err (place_fault v) (walked (suc n) vs))) ≡ cond (nat_lt 65536 m) (Some TooManyNodes) None) [
      | true ↦ λ e. ap (λ b. cond b (Some TooManyNodes) None) (sym (lt-ltb 65536 m (omega (arith, leb-true 65536 n e))))
      | false ↦ λ e. ap (λ o. result_err (option_map_or Err o (walked (suc n) vs))) h.0 ∙ walked-all (suc n) m vs (omega (arith, leb-false 65536 n e)) (omega arith) h.1
    ] refl

pub data_fault-data_of : (t : PathTree) → IsAllowed t → data_fault (data_of t) ≡ back_fault t
data_fault-data_of t h = walked-all 0 (value_count t) (visits 0 None (data_of t)) (omega arith) (omega arith) (places-data_of t h)

-- ---- the data is read back as the tree
object_back : (ms : Members) → tree_of_data (object_data ms) ≡ object (member_trees ms)
object_back no_members = refl
object_back (member k d ms) = refl

members_back : (f : PathTree → Data) (es : List (Key × PathTree)) → AllByRecursion (λ e. tree_of_data (f e.1) ≡ e.1) es → member_trees (members_with f es) ≡ es
members_back f [] h = refl
members_back f (e ∷ es) h = λ i. (e.0, h.0 i) ∷ members_back f es h.1 i

back : (n : ℕ) (t : PathTree) (p : Path) → levels t ≤ n → MayStandAt p t → tree_of_data (data_at n t) ≡ t
back zero t p low may = sym (null_of_levels t (omega arith))
back (suc n) t p low may =
    elim (leaf_at t []) as (λ o. leaf_at t [] ≡ o → tree_of_data (leaf_or o (members_with (data_at n) (children_of t))) ≡ t) [
      | Some l ↦ λ e. leaf_back l (may [] l e).1 ∙ sym (leaf_of_root t l e)
      | None ↦ λ e.
          object_back (members_with (data_at n) (children_of t))
          ∙ ap object (members_back (data_at n) (children_of t) (all_children (λ c. tree_of_data (data_at n c.1) ≡ c.1) (children_of t) (children_sorted t) (λ k u is.
          let part : non_null (sub t (k ∷ [])) ≡ Some u = sym (child_of-children_of t k) ∙ is in
          let deeper : levels u + 1 ≤ levels (object (children_of t)) = child_levels (children_of t) k u is (full_of_non_null (sub t (k ∷ [])) u part) in
          back n u (p ++ k ∷ []) (omega (arith, low, deeper, ap levels (object-children_of t e))) (child_may t p k u may (same_part (sub t (k ∷ [])) u part)))))
          ∙ object-children_of t e
    ] refl

pub tree_of_data-data_of : (t : PathTree) → IsAllowed t → tree_of_data (data_of t) ≡ t
unfolding data_of
tree_of_data-data_of t h = back (levels t) t [] (omega arith) h
