-- Children that come in the order of their keys, and without those that are null.
use Rattle.std.proofs.Common.{◌≡◌, ◌+◌, Bool, true, false, cond, List, [], ◌∷◌, ◌++◌, Option, Some, None, String, Global, string_bytes, string_cmp, Less, refl, sym, ap, ◌∙◌, subst, append_assoc, append-nil}
use Rattle.std.specs.Option.{option_and_then}
use Rattle.std.specs.Ordering.{is_eq}
use Rattle.std.specs.List.{AllByRecursion}
use Rattle.std.specs.List.Sorted.{IsStrictlySortedBy}
use Rattle.std.specs.Map.{keys_of}
use Rattle.serde_json.specs.View.{view, members_view}
use Rattle.serde_json.specs.declared.value.Value.{Value}
use Rattle.rt_tree.specs.Leaves.{Key, Path, key_cmp, key_eq}
use Rattle.rt_tree.specs.Trees.{PathTree, leaf_at, is_null, object, child_of, AllFull, MayStandAt, IsAllowed}
use Rattle.rt_tree.specs.laws.Prefixes.{key_eq-is}
use Rattle.rt_tree.specs.laws.PathTree.{same_tree, leaf_at-null, null_of_is_null, leaf_at-object-root, leaf_at-object}
use Rattle.rt_tree.specs.laws.Allowed.{allowed-object}
use Rattle.rt_tree.specs.inside.Puts.{unless_null}
use Rattle.rt_tree.specs.Reading.{tree_of_data, member_trees}

-- those that are not null
abbrev pub full_children : List (Key × PathTree) → List (Key × PathTree)
full_children [] = []
full_children (e ∷ es) = unless_null e.0 e.1 ++ full_children es

-- each may stand at its key
abbrev pub AllStand : List (Key × PathTree) → Type 0
AllStand es = AllByRecursion (λ e. MayStandAt (e.0 ∷ []) e.1) es

-- ---- their order
heads-full : (k : Key) (es : List (Key × PathTree)) → AllByRecursion (λ y. key_cmp k y ≡ Less) (keys_of es) → AllByRecursion (λ y. key_cmp k y ≡ Less) (keys_of (full_children es))
heads-full k [] h = tt
heads-full k (e ∷ es) h =
    elim (is_null e.1) as (λ b. AllByRecursion (λ y. key_cmp k y ≡ Less) (keys_of (cond b [] ((e.0, e.1) ∷ []) ++ full_children es))) [
      | true ↦ heads-full k es h.1
      | false ↦ (h.0, heads-full k es h.1)
    ]

pub sorted-full : (es : List (Key × PathTree)) → IsStrictlySortedBy key_cmp (keys_of es) → IsStrictlySortedBy key_cmp (keys_of (full_children es))
unfolding IsStrictlySortedBy
sorted-full [] h = tt
sorted-full (e ∷ es) h =
    elim (is_null e.1) as (λ b. IsStrictlySortedBy key_cmp (keys_of (cond b [] ((e.0, e.1) ∷ []) ++ full_children es))) [
      | true ↦ sorted-full es h.1
      | false ↦ (heads-full e.0 es h.0, sorted-full es h.1)
    ]

none_below : (k : Key) (es : List (Key × PathTree)) → AllByRecursion (λ y. key_cmp k y ≡ Less) (keys_of es) → child_of (full_children es) k ≡ None
none_below k [] h = refl
none_below k (e ∷ es) h =
    elim (is_null e.1) as (λ b. child_of (cond b [] ((e.0, e.1) ∷ []) ++ full_children es) k ≡ None) [
      | true ↦ none_below k es h.1
      | false ↦ ap (λ o. cond (is_eq o) (Some e.1) (child_of (full_children es) k)) h.0 ∙ none_below k es h.1
    ]

-- ---- their object
same_found : (es : List (Key × PathTree)) → IsStrictlySortedBy key_cmp (keys_of es) → (k : Key) (q : Path)
    → option_and_then (λ t. leaf_at t q) (child_of (full_children es) k) ≡ option_and_then (λ t. leaf_at t q) (child_of es k)
unfolding IsStrictlySortedBy
same_found [] h k q = refl
same_found (e ∷ es) h k q =
    elim (is_null e.1) as (λ b. is_null e.1 ≡ b → option_and_then (λ t. leaf_at t q) (child_of (cond b [] ((e.0, e.1) ∷ []) ++ full_children es) k)
    ≡ option_and_then (λ t. leaf_at t q) (cond (key_eq k e.0) (Some e.1) (child_of es k))) [
      | true ↦ λ n. elim (key_eq k e.0) as (λ b. key_eq k e.0 ≡ b → option_and_then (λ t. leaf_at t q) (child_of (full_children es) k) ≡ option_and_then (λ t. leaf_at t q) (cond b (Some e.1) (child_of es k))) [
        | true ↦ λ here.
            ap (λ j. option_and_then (λ t. leaf_at t q) (child_of (full_children es) j)) (key_eq-is k e.0 here)
            ∙ ap (option_and_then (λ t. leaf_at t q)) (none_below e.0 es h.0)
            ∙ sym (ap (λ t. leaf_at t q) (null_of_is_null e.1 n) ∙ leaf_at-null q)
        | false ↦ λ there. same_found es h.1 k q
      ] refl
      | false ↦ λ n. elim (key_eq k e.0) as (λ b. option_and_then (λ t. leaf_at t q) (cond b (Some e.1) (child_of (full_children es) k)) ≡ option_and_then (λ t. leaf_at t q) (cond b (Some e.1) (child_of es k))) [
        | true ↦ refl
        | false ↦ same_found es h.1 k q
      ]
    ] refl

pub object-full : (es : List (Key × PathTree)) → IsStrictlySortedBy key_cmp (keys_of es) → object (full_children es) ≡ object es
object-full es h = same_tree _ _ at
  where
    at : (q : Path) → leaf_at (object (full_children es)) q ≡ leaf_at (object es) q
    at [] = leaf_at-object-root (full_children es) ∙ sym (leaf_at-object-root es)
    at (k ∷ q) = leaf_at-object (full_children es) k q ∙ same_found es h k q ∙ sym (leaf_at-object es k q)

-- ---- what an object asks of them
first_full : (b : Bool) (u t : PathTree) (o : Option PathTree) → cond b (Some u) o ≡ Some t → is_null u ≡ false → (o ≡ Some t → is_null t ≡ false) → is_null t ≡ false
first_full true u t o is n g = let same : u ≡ t = cc in ap is_null (sym same) ∙ n
first_full false u t o is n g = g is

pub all-full : (es : List (Key × PathTree)) → AllFull (full_children es)
all-full [] k t is = cc
all-full (e ∷ es) k t is =
    elim (is_null e.1) as (λ b. is_null e.1 ≡ b → child_of (cond b [] ((e.0, e.1) ∷ []) ++ full_children es) k ≡ Some t → is_null t ≡ false) [
      | true ↦ λ n f. all-full es k t f
      | false ↦ λ n f. first_full (key_eq k e.0) e.1 t (child_of (full_children es) k) f n (all-full es k t)
    ] refl is

first_stands : (j k : Key) (b : Bool) (u t : PathTree) (o : Option PathTree) → key_eq j k ≡ b → cond b (Some u) o ≡ Some t → MayStandAt (k ∷ []) u → (o ≡ Some t → MayStandAt (j ∷ []) t) → MayStandAt (j ∷ []) t
first_stands j k true u t o here is h g = subst (λ v. MayStandAt (j ∷ []) v) (let same : u ≡ t = cc in same) (subst (λ i. MayStandAt (i ∷ []) u) (sym (key_eq-is j k here)) h)
first_stands j k false u t o here is h g = g is

stands_at : (es : List (Key × PathTree)) → AllStand es → (j : Key) (t : PathTree) → child_of es j ≡ Some t → MayStandAt (j ∷ []) t
stands_at [] h j t is = cc
stands_at (e ∷ es) h j t is = first_stands j e.0 (key_eq j e.0) e.1 t (child_of es j) refl is h.0 (stands_at es h.1 j t)

pub allowed_row : (es : List (Key × PathTree)) → AllStand es → IsAllowed (object es)
allowed_row es h = allowed-object es (stands_at es h)

-- ---- a row that is filled
-- `row` has those of `all` before `rest` that are not null
pub record Filling (all row rest : List (Key × PathTree)) : Type 0 where
  pub same : full_children all ≡ row ++ full_children rest
  pub stand : AllStand row

pub filling_begins : (all row : List (Key × PathTree)) → row ≡ [] → Filling all row all
filling_begins all row none = subst (λ es. Filling all es all) (sym none) (record { same = refl; stand = tt })

both_stand : (es fs : List (Key × PathTree)) → AllStand es → AllStand fs → AllStand (es ++ fs)
both_stand [] fs h g = g
both_stand (e ∷ es) fs h g = (h.0, both_stand es fs h.1 g)

one_stands : (k : Key) (t : PathTree) → MayStandAt (k ∷ []) t → AllStand (unless_null k t)
one_stands k t h = elim (is_null t) as (λ b. AllStand (cond b [] ((k, t) ∷ []))) [ true ↦ tt | false ↦ (h, tt) ]

pub filling_goes_on : (all row new rest : List (Key × PathTree)) (k : Key) (t : PathTree) → Filling all row ((k, t) ∷ rest) → new ≡ row ++ unless_null k t → MayStandAt (k ∷ []) t → Filling all new rest
filling_goes_on all row new rest k t h is stands = record {
  same = h.same ∙ sym (append_assoc row (unless_null k t) (full_children rest)) ∙ ap (λ es. es ++ full_children rest) (sym is);
  stand = subst AllStand (sym is) (both_stand row (unless_null k t) h.stand (one_stands k t stands));
}

pub filling_ends : (all row : List (Key × PathTree)) → Filling all row [] → row ≡ full_children all
filling_ends all row h = sym (h.same ∙ append-nil row)

-- ---- the row of all members
pub member_keys : (es : List (String Global × Value)) → IsStrictlySortedBy string_cmp (keys_of es) → IsStrictlySortedBy key_cmp (keys_of (member_trees (members_view es)))
unfolding IsStrictlySortedBy
member_keys [] h = tt
member_keys (e ∷ es) h = (below e.0 es h.0, member_keys es h.1)
  where
    below : (k : String Global) (es : List (String Global × Value)) → AllByRecursion (λ y. string_cmp k y ≡ Less) (keys_of es) → AllByRecursion (λ y. key_cmp (string_bytes k) y ≡ Less) (keys_of (member_trees (members_view es)))
    below k [] h = tt
    below k (e ∷ es) h = (h.0, below k es h.1)

module _ (es : List (String Global × Value)) (sorted : IsStrictlySortedBy string_cmp (keys_of es)) (row : List (Key × PathTree)) (filled : Filling (member_trees (members_view es)) row []) where
  whole : row ≡ full_children (member_trees (members_view es))
  whole = filling_ends (member_trees (members_view es)) row filled

  pub row_sorted : IsStrictlySortedBy key_cmp (keys_of row)
  row_sorted = subst (λ fs. IsStrictlySortedBy key_cmp (keys_of fs)) (sym whole) (sorted-full (member_trees (members_view es)) (member_keys es sorted))

  pub row_full : AllFull row
  row_full = subst AllFull (sym whole) (all-full (member_trees (members_view es)))

  pub row_object : object row ≡ object (member_trees (members_view es))
  row_object = ap object whole ∙ object-full (member_trees (members_view es)) (member_keys es sorted)

pub next_filled : (all row new : List (Key × PathTree)) (es rest : List (String Global × Value)) (name : String Global) (x : Value) (k : Key) (t : PathTree) → es ≡ (name, x) ∷ rest
    → Filling all row (member_trees (members_view es)) → k ≡ string_bytes name → t ≡ tree_of_data (view x)
    → MayStandAt (string_bytes name ∷ []) t → new ≡ row ++ unless_null k t → Filling all new (member_trees (members_view rest))
next_filled all row new es rest name x k t is h key tree stands adds =
    filling_goes_on all row new (member_trees (members_view rest)) (string_bytes name) (tree_of_data (view x))
    (subst (λ fs. Filling all row (member_trees (members_view fs))) is h)
    (adds ∙ (λ i. row ++ unless_null (key i) (tree i)))
    (subst (MayStandAt (string_bytes name ∷ [])) tree stands)
