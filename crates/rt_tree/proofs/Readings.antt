-- Children that are put together one by one, and how deep the tree of data is.
use Rattle.std.proofs.Common.{◌≡◌, ℕ, ℤ, suc, ◌+◌, ◌-◌, ◌<◌, ◌≤◌, ◌^◌, get_or, drop, Ok, Err, nat_le, Bool, true, false, cond, List, [], ◌∷◌, ◌++◌, length, Option, Some, None, is_some, decimal, nat_lt, refl, sym, ap, ◌∙◌, arith, subst}
use Rattle.std.specs.Option.{option_and_then, option_map_or, option_or}
use Rattle.std.specs.List.{AllByRecursion}
use Rattle.std.specs.List.Sorted.{IsStrictlySortedBy}
use Rattle.std.specs.Map.{keys_of}
use Rattle.std.proofs.lemmas.Fmt.{decimal_injective}
use Rattle.serde_json.specs.Data.{Data, Items, Members, no_items, item, no_members, member}
use Rattle.serde_json.specs.Data as json
use Rattle.serde_json.specs.Events.{items_len}
use Rattle.serde_json.specs.Find.{as_i64}
use Rattle.serde_json.specs.View.{view, items_view}
use Rattle.serde_json.proofs.Views.{items_len-items_view}
use Rattle.std.proofs.lemmas.Bool.{ltb-false}
use Rattle.std.proofs.lemmas.List.{drop_all}
use Rattle.serde_json.specs.declared.value.Value.{Value}
use Rattle.rt_tree.specs.declared.error.TreeError.TheVariants.{TooDeep, TooManyNodes}
use Rattle.rt_tree.specs.Key.{IsKey, key_fault}
use Rattle.rt_tree.specs.Path.{IsPath}
use Rattle.rt_tree.specs.Trees.{MayStandAt, IsAllowed, PathTree, leaf_at, is_null, object, child_of, non_null, AllFull, levels}
use Rattle.rt_tree.specs.laws.Allowed.{may_stand, allowed-object}
use Rattle.rt_tree.specs.Leaf.{LeafValue, truth, number, text}
use Rattle.rt_tree.specs.Leaves.{Key, Path, key_cmp, key_eq}
use Rattle.rt_tree.specs.laws.Prefixes.{key_eq-is, key_eq-symm}
use Rattle.rt_tree.specs.laws.PathTree.{same_tree, levels-null, leaf_at-object-root, leaf_at-object, levels_le, length_lt_levels}
use Rattle.rt_tree.specs.inside.Puts.{AddsChild}
use Rattle.rt_tree.specs.Reading.{tree_of_data, number_tree, item_trees, member_trees, Visit, visit, visits, item_visits, member_visits, place_fault, name_fault, value_fault, HasPlace, IsTreeData, AreTreeItems, AreTreeMembers, walked}
use Rattle.rt_tree.proofs.Depths.{levels-of_leaf}
use Rattle.rt_tree.proofs.Walks.{item_next}
use Rattle.rt_tree.proofs.Trees.{leaf_at-non_null}

-- the child at j, where it isn't null
abbrev pub found : List (Key × PathTree) → Key → Option PathTree
found es j = option_and_then non_null (child_of es j)

-- no key stands twice
abbrev pub Distinct : List (Key × PathTree) → Type 0
Distinct [] = Unit {0}
Distinct (e ∷ es) = (child_of es e.0 ≡ None) × Distinct es

-- `children` are those of `all` before `rest` that aren't null
pub record Building (all children rest : List (Key × PathTree)) : Type 0 where
  pub same : (j : Key) → option_or (child_of children j) (found rest j) ≡ found all j
  pub apart : (j : Key) → is_some (child_of rest j) ≡ true → child_of children j ≡ None
  pub full : AllFull children
  pub ordered : IsStrictlySortedBy key_cmp (keys_of children)
  pub allowed : (j : Key) (t : PathTree) → child_of children j ≡ Some t → MayStandAt (j ∷ []) t
  pub distinct : Distinct rest

nothing_sorted : IsStrictlySortedBy key_cmp []
unfolding IsStrictlySortedBy
nothing_sorted = tt

pub building_begins : (all : List (Key × PathTree)) → Distinct all → Building all [] all
building_begins all h = record { same = λ j. refl; apart = λ j e. refl; full = λ j t e. cc; ordered = nothing_sorted; allowed = λ j t e. cc; distinct = h }

or_nones : (o : Option PathTree) → option_or (option_map_or Some o None) None ≡ o
or_nones None = refl
or_nones (Some t) = refl

full_or : (t u : PathTree) (o : Option PathTree) → (o ≡ Some u → is_null u ≡ false) → option_map_or Some (non_null t) o ≡ Some u → is_null u ≡ false
full_or t u o h e =
    elim (is_null t) as (λ b. is_null t ≡ b → option_map_or Some (cond b None (Some t)) o ≡ Some u → is_null u ≡ false) [
      | true ↦ λ n f. h f
      | false ↦ λ n f. cc
    ] refl e

module _ (all children new rest : List (Key × PathTree)) (k : Key) (t : PathTree) (h : Building all children ((k, t) ∷ rest)) (adds : AddsChild children new k t) (stands : MayStandAt (k ∷ []) t) where
  gone : (j : Key) → key_eq k j ≡ true → child_of rest j ≡ None
  gone j e = ap (child_of rest) (sym (key_eq-is k j e)) ∙ h.distinct.0

  before : (j : Key) → key_eq k j ≡ true → child_of children j ≡ None
  before j e = h.apart j (ap (λ b. is_some (cond b (Some t) (child_of rest j))) (key_eq-symm j k ∙ e))

  here : (j : Key) (b : Bool) → key_eq k j ≡ b → option_or (cond b (option_map_or Some (non_null t) (child_of children j)) (child_of children j)) (found rest j) ≡ option_or (child_of children j) (option_and_then non_null (cond b (Some t) (child_of rest j)))
  here j true e = (λ i. option_or (option_map_or Some (non_null t) (before j e i)) (option_and_then non_null (gone j e i))) ∙ or_nones (non_null t) ∙ (λ i. option_or (sym (before j e) i) (non_null t))
  here j false e = refl

  later : (j : Key) (b : Bool) → key_eq k j ≡ b → is_some (child_of rest j) ≡ true → cond b (option_map_or Some (non_null t) (child_of children j)) (child_of children j) ≡ None
  later j true e s = cc (ap is_some (gone j e))
  later j false e s = h.apart j (ap (λ b. is_some (cond b (Some t) (child_of rest j))) (key_eq-symm j k ∙ e) ∙ s)

  whole : (j : Key) (u : PathTree) (b : Bool) → cond b (option_map_or Some (non_null t) (child_of children j)) (child_of children j) ≡ Some u → is_null u ≡ false
  whole j u true e = full_or t u (child_of children j) (h.full j u) e
  whole j u false e = h.full j u e

  added : (j : Key) (u : PathTree) → key_eq k j ≡ true → (n : Bool) → option_map_or Some (cond n None (Some t)) (child_of children j) ≡ Some u → MayStandAt (j ∷ []) u
  added j u e true f = h.allowed j u f
  added j u e false f = subst (λ v. MayStandAt (j ∷ []) v) (let same : t ≡ u = cc in same) (subst (λ i. MayStandAt (i ∷ []) t) (key_eq-is k j e) stands)

  standing : (j : Key) (u : PathTree) (b : Bool) → key_eq k j ≡ b → cond b (option_map_or Some (non_null t) (child_of children j)) (child_of children j) ≡ Some u → MayStandAt (j ∷ []) u
  standing j u true e f = added j u e (is_null t) f
  standing j u false e f = h.allowed j u f

  pub building_goes_on : IsStrictlySortedBy key_cmp (keys_of new) → Building all new rest
  building_goes_on sorted = record {
    same = λ j. ap (λ o. option_or o (found rest j)) (adds j) ∙ here j (key_eq k j) refl ∙ ap (λ b. option_or (child_of children j) (option_and_then non_null (cond b (Some t) (child_of rest j)))) (key_eq-symm k j) ∙ h.same j;
    apart = λ j s. adds j ∙ later j (key_eq k j) refl s;
    full = λ j u e. whole j u (key_eq k j) (sym (adds j) ∙ e);
    ordered = sorted;
    allowed = λ j u e. standing j u (key_eq k j) refl (sym (adds j) ∙ e);
    distinct = h.distinct.1;
  }

or_none : (o : Option PathTree) → option_or o None ≡ o
or_none None = refl
or_none (Some t) = refl

-- at the end the object is that of all
pub building_ends : (all children : List (Key × PathTree)) → Building all children [] → object children ≡ object all
building_ends all children h = same_tree _ _ at
  where
    at : (q : Path) → leaf_at (object children) q ≡ leaf_at (object all) q
    at [] = leaf_at-object-root children ∙ sym (leaf_at-object-root all)
    at (k ∷ q) =
        leaf_at-object children k q ∙ ap (option_and_then (λ t. leaf_at t q)) (sym (or_none (child_of children k)) ∙ h.same k)
        ∙ elim (child_of all k) as (λ o. option_and_then (λ t. leaf_at t q) (option_and_then non_null o) ≡ option_and_then (λ t. leaf_at t q) o) [
          | None ↦ refl
          | Some t ↦ leaf_at-non_null t q
        ]
        ∙ sym (leaf_at-object all k q)

-- ---- keys that differ
other_place : (i m : ℕ) → i < m → m < 2 ^ 64 → key_eq (decimal i) (decimal m) ≡ false
other_place i m less small =
    elim (key_eq (decimal i) (decimal m)) as (λ b. key_eq (decimal i) (decimal m) ≡ b → b ≡ false) [
      | true ↦ λ e. let same : i ≡ m = decimal_injective i m (omega arith) small (key_eq-is (decimal i) (decimal m) e) in absurd (omega (arith, same))
      | false ↦ λ e. refl
    ] refl

none_at_place : (i m : ℕ) (ds : Items) → i < m → m + items_len ds ≤ 2 ^ 64 → child_of (item_trees m ds) (decimal i) ≡ None
none_at_place i m no_items less small = refl
none_at_place i m (item d ds) less small =
    ap (λ b. cond b (Some (tree_of_data d)) (child_of (item_trees (suc m) ds) (decimal i))) (other_place i m less (omega arith))
    ∙ none_at_place i (suc m) ds (omega arith) (omega arith)

pub distinct_items : (m : ℕ) (ds : Items) → m + items_len ds ≤ 2 ^ 64 → Distinct (item_trees m ds)
distinct_items m no_items small = tt
distinct_items m (item d ds) small = (none_at_place m (suc m) ds (omega arith) (omega arith), distinct_items (suc m) ds (omega arith))

-- ---- how deep the tree of data is
pub visits-first : (vs ws : List Visit) → AllByRecursion HasPlace (vs ++ ws) → AllByRecursion HasPlace vs
visits-first [] ws h = tt
visits-first (v ∷ vs) ws h = (h.0, visits-first vs ws h.1)

pub visits-second : (vs ws : List Visit) → AllByRecursion HasPlace (vs ++ ws) → AllByRecursion HasPlace ws
visits-second [] ws h = h
visits-second (v ∷ vs) ws h = visits-second vs ws h.1

shallow_place : (level : ℕ) (name : Option (List ℕ)) (d : Data) → HasPlace (visit level name d) → level ≤ 32
shallow_place level name d h =
    elim (nat_lt 32 level) as (λ b. nat_lt 32 level ≡ b → cond b (Some TooDeep) (option_or (name_fault name) (value_fault d)) ≡ None → level ≤ 32) [
      | true ↦ λ e f. cc
      | false ↦ λ e f. omega (arith, ltb-false 32 level e)
    ] refl h

-- an object is one level deeper than its deepest child
pub levels-object_le : (es : List (Key × PathTree)) (n : ℕ) → ((k : Key) (t : PathTree) → child_of es k ≡ Some t → levels t ≤ n) → levels (object es) ≤ suc n
levels-object_le es n h = levels_le (object es) (suc n) at
  where
    under : (k : Key) (q : Path) (l : LeafValue) (o : Option PathTree) → child_of es k ≡ o → option_and_then (λ t. leaf_at t q) o ≡ Some l → suc (length q) < suc n
    under k q l None is e = cc
    under k q l (Some t) is e = omega (arith, length_lt_levels t q l e, h k t is)

    at : (q : Path) (l : LeafValue) → leaf_at (object es) q ≡ Some l → length q < suc n
    at [] l e = omega arith
    at (k ∷ q) l e = under k q l (child_of es k) refl (sym (leaf_at-object es k q) ∙ e)

levels-number : (z : Option ℤ) → levels (number_tree z) ≤ 1
levels-number None = omega (arith, levels-null)
levels-number (Some z) = omega (arith, levels-of_leaf (number z))

of_first : (b : Bool) (u : PathTree) (o : Option PathTree) (level : ℕ) (t : PathTree) → cond b (Some u) o ≡ Some t → level + levels u ≤ 33 → (o ≡ Some t → level + levels t ≤ 33) → level + levels t ≤ 33
of_first true u o level t is h g = let same : u ≡ t = cc in omega (arith, h, ap levels same)
of_first false u o level t is h g = g is

mutual
  pub levels-data : (d : Data) (level : ℕ) (name : Option (List ℕ)) → AllByRecursion HasPlace (visits level name d) → level + levels (tree_of_data d) ≤ 33
  levels-data json.null level name h = omega (arith, shallow_place level name json.null h.0, levels-null)
  levels-data (json.boolean b) level name h = omega (arith, shallow_place level name (json.boolean b) h.0, levels-of_leaf (truth b))
  levels-data (json.number n) level name h = omega (arith, shallow_place level name (json.number n) h.0, levels-number (as_i64 n))
  levels-data (json.string s) level name h = omega (arith, shallow_place level name (json.string s) h.0, levels-of_leaf (text s))
  levels-data (json.array ds) level name h =
      let shallow : level ≤ 32 = shallow_place level name (json.array ds) h.0 in
      omega (arith, shallow, levels-object_le (item_trees 0 ds) (32 - level) (λ k t is. omega (arith, shallow, levels-item 0 ds (suc level) h.1 k t is)))
  levels-data (json.object ms) level name h =
      let shallow : level ≤ 32 = shallow_place level name (json.object ms) h.0 in
      omega (arith, shallow, levels-object_le (member_trees ms) (32 - level) (λ k t is. omega (arith, shallow, levels-member ms (suc level) h.1 k t is)))

  pub levels-item : (i : ℕ) (ds : Items) (level : ℕ) → AllByRecursion HasPlace (item_visits level ds) → (k : Key) (t : PathTree) → child_of (item_trees i ds) k ≡ Some t → level + levels t ≤ 33
  levels-item i no_items level h k t is = cc
  levels-item i (item d ds) level h k t is =
      of_first (key_eq k (decimal i)) (tree_of_data d) (child_of (item_trees (suc i) ds) k) level t is
      (levels-data d level None (visits-first (visits level None d) (item_visits level ds) h))
      (levels-item (suc i) ds level (visits-second (visits level None d) (item_visits level ds) h) k t)

  pub levels-member : (ms : Members) (level : ℕ) → AllByRecursion HasPlace (member_visits level ms) → (k : Key) (t : PathTree) → child_of (member_trees ms) k ≡ Some t → level + levels t ≤ 33
  levels-member no_members level h k t is = cc
  levels-member (member n d ms) level h k t is =
      of_first (key_eq k n) (tree_of_data d) (child_of (member_trees ms) k) level t is
      (levels-data d level (Some n) (visits-first (visits level (Some n) d) (member_visits level ms) h))
      (levels-member ms level (visits-second (visits level (Some n) d) (member_visits level ms) h) k t)

key_place : (level : ℕ) (k : List ℕ) (d : Data) → HasPlace (visit level (Some k) d) → IsKey k
key_place level k d h =
    elim (nat_lt 32 level) as (λ b. cond b (Some TooDeep) (option_or (key_fault k) (value_fault d)) ≡ None → key_fault k ≡ None) [
      | true ↦ λ f. cc
      | false ↦ elim (key_fault k) as (λ o. option_or o (value_fault d) ≡ None → o ≡ None) [ None ↦ λ f. refl | Some e ↦ λ f. cc ]
    ] h

head_place : (level : ℕ) (k : Option (List ℕ)) (d : Data) → AllByRecursion HasPlace (visits level k d) → HasPlace (visit level k d)
head_place level k json.null h = h.0
head_place level k (json.boolean b) h = h.0
head_place level k (json.number n) h = h.0
head_place level k (json.string s) h = h.0
head_place level k (json.array ds) h = h.0
head_place level k (json.object ms) h = h.0

pub first_name : (k : List ℕ) (d : Data) (ms : Members) → AreTreeMembers (member k d ms) → IsKey k
first_name k d ms h = key_place (suc h.0) k d (head_place (suc h.0) (Some k) d (visits-first (visits (suc h.0) (Some k) d) (member_visits (suc h.0) ms) h.1))

-- the children may stand at the root
pub allowed_children : (all children rest : List (Key × PathTree)) → Building all children rest → IsAllowed (object children)
allowed_children all children rest h = allowed-object children h.allowed

pub one_key : (k : Key) → IsKey k → IsPath (k ∷ [])
one_key k h = record { short = omega arith; keys = (h, tt) }

-- the tree of an item or of a member may stand at its key
pub item_stands : (k : Key) (d : Data) (ds : Items) (t : PathTree) → AreTreeItems (item d ds) → t ≡ tree_of_data d → IsKey k → IsAllowed t → MayStandAt (k ∷ []) t
item_stands k d ds t h is key allowed =
    may_stand (k ∷ []) t (one_key k key) allowed (omega (arith, ap levels is, levels-data d (suc h.0) None (visits-first (visits (suc h.0) None d) (item_visits (suc h.0) ds) h.1)))

pub member_stands : (k : Key) (d : Data) (ms : Members) (t : PathTree) → AreTreeMembers (member k d ms) → t ≡ tree_of_data d → IsAllowed t → MayStandAt (k ∷ []) t
member_stands k d ms t h is allowed =
    may_stand (k ∷ []) t (one_key k (first_name k d ms h)) allowed (omega (arith, ap levels is, levels-data d (suc h.0) (Some k) (visits-first (visits (suc h.0) (Some k) d) (member_visits (suc h.0) ms) h.1)))

-- ---- what the loops keep
pub first_item : (d : Data) (ds : Items) → AreTreeItems (item d ds) → IsTreeData d
first_item d ds h = (suc h.0, None, visits-first (visits (suc h.0) None d) (item_visits (suc h.0) ds) h.1)

pub other_items : (d : Data) (ds : Items) → AreTreeItems (item d ds) → AreTreeItems ds
other_items d ds h = (h.0, visits-second (visits (suc h.0) None d) (item_visits (suc h.0) ds) h.1)

pub first_member : (k : List ℕ) (d : Data) (ms : Members) → AreTreeMembers (member k d ms) → IsTreeData d
first_member k d ms h = (suc h.0, Some k, visits-first (visits (suc h.0) (Some k) d) (member_visits (suc h.0) ms) h.1)

pub other_members : (k : List ℕ) (d : Data) (ms : Members) → AreTreeMembers (member k d ms) → AreTreeMembers ms
other_members k d ms h = (h.0, visits-second (visits (suc h.0) (Some k) d) (member_visits (suc h.0) ms) h.1)

pub building_items : (xs : List Value) → length xs < 2 ^ 64 → (children : List (Key × PathTree)) → children ≡ [] → Building (item_trees 0 (items_view xs)) children (item_trees 0 (items_view xs))
building_items xs short children none =
    subst (λ fs. Building (item_trees 0 (items_view xs)) fs (item_trees 0 (items_view xs))) (sym none)
    (building_begins _ (distinct_items 0 (items_view xs) (omega (arith, short, items_len-items_view xs))))

pub building_next : (all children new : List (Key × PathTree)) (xs rest : List Value) (i : ℕ) (x : Value) (k : Key) (t : PathTree) → xs ≡ x ∷ rest
    → Building all children (item_trees i (items_view xs)) → k ≡ decimal i → t ≡ tree_of_data (view x)
    → MayStandAt (decimal i ∷ []) t → AddsChild children new k t → IsStrictlySortedBy key_cmp (keys_of new) → Building all new (item_trees (i + 1) (items_view rest))
building_next all children new xs rest i x k t is h key tree stands adds sorted =
    let next : suc i ≡ i + 1 = omega arith in
    subst (λ n. Building all new (item_trees n (items_view rest))) next
    (building_goes_on all children new (item_trees (suc i) (items_view rest)) (decimal i) (tree_of_data (view x))
    (subst (λ ys. Building all children (item_trees i (items_view ys))) is h)
    (subst (λ u. AddsChild children new (decimal i) u) tree (subst (λ j. AddsChild children new j t) key adds)) (subst (MayStandAt (decimal i ∷ [])) tree stands) sorted)

pub building_item : (all children new : List (Key × PathTree)) (xs : List Value) (i : ℕ) (x : Value) (k : Key) (t : PathTree) → i < length xs → x ≡ get_or xs i x
    → Building all children (item_trees i (items_view (drop i xs))) → k ≡ decimal i → t ≡ tree_of_data (view x)
    → MayStandAt (decimal i ∷ []) t → AddsChild children new k t → IsStrictlySortedBy key_cmp (keys_of new) → Building all new (item_trees (i + 1) (items_view (drop (i + 1) xs)))
building_item all children new xs i x k t within is h key tree stands adds sorted =
    let next : suc i ≡ i + 1 = omega arith in
    subst (λ n. Building all new (item_trees n (items_view (drop (i + 1) xs)))) next
    (building_goes_on all children new (item_trees (suc i) (items_view (drop (i + 1) xs))) (decimal i) (tree_of_data (view x))
    (subst (λ ds. Building all children (item_trees i ds)) (item_next xs i x within is) h)
    (subst (λ u. AddsChild children new (decimal i) u) tree (subst (λ j. AddsChild children new j t) key adds)) (subst (MayStandAt (decimal i ∷ [])) tree stands) sorted)

pub no_items_left : (all children : List (Key × PathTree)) (xs : List Value) (i : ℕ) → length xs ≤ i → Building all children (item_trees i (items_view (drop i xs))) → object children ≡ object all
no_items_left all children xs i past h = building_ends all children (subst (λ ys. Building all children (item_trees i (items_view ys))) (drop_all i xs past) h)

pub no_item_left : (all children : List (Key × PathTree)) (xs : List Value) (i : ℕ) → length xs ≡ 0 → Building all children (item_trees i (items_view xs)) → object children ≡ object all
no_item_left all children [] i none h = building_ends all children h
no_item_left all children (x ∷ xs) i none h = absurd (omega (arith, none))

-- ---- values that are taken apart
-- the name of data without a fault is a key
pub name_is_key : (level : ℕ) (k : List ℕ) (d : Data) → AllByRecursion HasPlace (visits level (Some k) d) → IsKey k
name_is_key level k d h = key_place level k d (head_place level (Some k) d h)

-- its tree may stand at a key
pub data_stands : (level : ℕ) (name : Option (List ℕ)) (k : Key) (d : Data) (t : PathTree) → 0 < level → AllByRecursion HasPlace (visits level name d) → t ≡ tree_of_data d → IsKey k → IsAllowed t → MayStandAt (k ∷ []) t
data_stands level name k d t below h is key allowed =
    may_stand (k ∷ []) t (one_key k key) allowed (omega (arith, below, ap levels is, levels-data d level name h))

-- ---- what a walk without a fault says
place_of_step : (n : ℕ) (m : ℕ) (v : Visit) (vs : List Visit) → walked n (v ∷ vs) ≡ Ok m → HasPlace v × (walked (suc n) vs ≡ Ok m)
place_of_step n m v vs e =
    elim (nat_le 65536 n) as (λ b. cond b (Err TooManyNodes) (option_map_or Err (place_fault v) (walked (suc n) vs)) ≡ Ok m → HasPlace v × (walked (suc n) vs ≡ Ok m)) [
      | true ↦ λ f. cc
      | false ↦ λ f. elim (place_fault v) as (λ o. option_map_or Err o (walked (suc n) vs) ≡ Ok m → (o ≡ None) × (walked (suc n) vs ≡ Ok m)) [
        | None ↦ λ g. (refl, g)
        | Some x ↦ λ g. cc
      ] f
    ] e

pub places : (n m : ℕ) (vs : List Visit) → walked n vs ≡ Ok m → AllByRecursion HasPlace vs
places n m [] e = tt
places n m (v ∷ vs) e = let h = place_of_step n m v vs e in (h.0, places (suc n) m vs h.1)
