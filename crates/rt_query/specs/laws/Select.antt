-- What a query shows has each key once, and an unfiltered one the whole tree.
use Rattle.std.specs.Prelude.{if◌then◌else◌, ◌&&◌, not, is_some}
use Rattle.std.proofs.Common.{◌≡◌, ℕ, zero, suc, ◌-◌, Bool, true, false, cond, ◌||◌, List, [], ◌∷◌}
use Rattle.std.proofs.Common.{map, length, take, drop, refl, sym, ap, ◌∙◌, Option, Some, None}
use Rattle.std.specs.Option.{option_map, option_map_or, option_and_then}
use Rattle.std.specs.declared.cmp.Ordering.TheVariants.{Less, Equal, Greater}
use Rattle.std.specs.Ordering.{is_eq}
use Rattle.std.specs.Map.{keys_of}
use Rattle.std.specs.List.{filter, find, list_any, AllByRecursion}
use Rattle.std.specs.List.Sorted.{IsStrictlySortedBy}
use Rattle.std.specs.FinMap as map_of
use Rattle.std.specs.FinMap.Entries.{by_order}
use Rattle.rt_tree.specs.PathTree.{Key, Path, PathTree, key_cmp, key_eq, key_eq-is, key_eq-same}
use Rattle.rt_tree.specs.PathTree.{key_eq-symm, leaf_at, leaf_at-null, leaf_at-sub, leaf_at-object}
use Rattle.rt_tree.specs.PathTree.{leaf_at-object-root, leaf_of, leaf_of_root, same_tree, is_null}
use Rattle.rt_tree.specs.PathTree.{null_of_is_null, child, child_of, non_null, object}
use Rattle.rt_tree.specs.Children.{children_of, children_sorted, child_of-children_of}
use Rattle.rt_order.specs.declared.index.Index.{Index}
use Rattle.rt_order.specs.Entries.{Entry, entry, entry_cmp}
use Rattle.rt_order.specs.declared.cut.Range.{Range}
use Rattle.rt_order.specs.Cuts.{has, is_after}
use Rattle.rt_query.specs.declared.query.Limit.{Limit}
use Rattle.rt_query.specs.declared.query.Limit.TheVariants.{First, Last}
use Rattle.rt_query.specs.declared.row.Row.{Row}
use Rattle.rt_query.specs.Queries.{Query, is_filtered}
use Rattle.rt_query.specs.Select.{sorted_by, limited, row_of, rows_of, select, as_children, tree_by}
use Rattle.rt_query.specs.Select.{tree_of}
use Rattle.rt_query.specs.Rows.{HasDistinctKeys, row_at}
use Rattle.rt_order.specs.laws.EntryOrder.{entry_cmp-IsAntisymmetric}

-- what a query shows has each key once
abbrev pub SelectHasKeysOnce : Type 0
SelectHasKeysOnce = (q : Query) (t : PathTree) → HasDistinctKeys ((select q t).rows)

-- an unfiltered query shows the whole tree
abbrev pub UnfilteredShowsAll : Type 0
UnfilteredShowsAll = (q : Query) (t : PathTree) → is_filtered q ≡ false → tree_of (select q t) ≡ t

-- whether an element has the key
has_key : {X : Type 0} → (X → Key) → Key → List X → Bool
has_key key k xs = list_any (λ x. key_eq k (key x)) xs

-- no two elements have one key
Apart : {X : Type 0} → (X → Key) → List X → Type 0
Apart key [] = Unit {0}
Apart key (x ∷ xs) = (has_key key (key x) xs ≡ false) × Apart key xs

or_false_left : (a b : Bool) → (a || b) ≡ false → a ≡ false
or_false_left true b e = e
or_false_left false b e = refl

or_false_right : (a b : Bool) → (a || b) ≡ false → b ≡ false
or_false_right true b e = cc
or_false_right false b e = e

module _ {X : Type 0} (key : X → Key) where
  has_key-filter : (p : X → Bool) (k : Key) (xs : List X) → has_key key k xs ≡ false
      → has_key key k (filter p xs) ≡ false
  unfolding has_key
  has_key-filter p k [] h = refl
  has_key-filter p k (x ∷ xs) h =
      let rest = has_key-filter p k xs (or_false_right (key_eq k (key x)) _ h) in
      elim (p x) as (λ b. list_any (λ y. key_eq k (key y)) (cond b (x ∷ filter p xs) (filter p xs))
      ≡ false) [
        | true ↦ λ i. or_false_left (key_eq k (key x)) (has_key key k xs) h i || rest i
        | false ↦ rest
      ]

  Apart-filter : (p : X → Bool) (xs : List X) → Apart key xs → Apart key (filter p xs)
  unfolding Apart
  Apart-filter p [] h = tt
  Apart-filter p (x ∷ xs) h =
      let rest = Apart-filter p xs h.1 in
      elim (p x) as (λ b. Apart key (cond b (x ∷ filter p xs) (filter p xs))) [
        | true ↦ (has_key-filter p (key x) xs h.0, rest)
        | false ↦ rest
      ]

  has_key-take : (n : ℕ) (k : Key) (xs : List X) → has_key key k xs ≡ false
      → has_key key k (take n xs) ≡ false
  unfolding has_key
  has_key-take zero k xs h = refl
  has_key-take (suc n) k [] h = refl
  has_key-take (suc n) k (x ∷ xs) h =
      λ i. or_false_left (key_eq k (key x)) (has_key key k xs) h i
      || has_key-take n k xs (or_false_right (key_eq k (key x)) _ h) i

  Apart-take : (n : ℕ) (xs : List X) → Apart key xs → Apart key (take n xs)
  unfolding Apart
  Apart-take zero xs h = tt
  Apart-take (suc n) [] h = tt
  Apart-take (suc n) (x ∷ xs) h = (has_key-take n (key x) xs h.0, Apart-take n xs h.1)

  Apart-drop : (n : ℕ) (xs : List X) → Apart key xs → Apart key (drop n xs)
  unfolding Apart
  Apart-drop zero xs h = h
  Apart-drop (suc n) [] h = tt
  Apart-drop (suc n) (x ∷ xs) h = Apart-drop n xs h.1

  Apart-limited : (limit : Option Limit) (xs : List X) → Apart key xs → Apart key (limited limit xs)
  Apart-limited None xs h = h
  Apart-limited (Some (First n)) xs h = Apart-take n xs h
  Apart-limited (Some (Last n)) xs h = Apart-drop (length xs - n) xs h

-- ---- the children

-- the key of a child
abbrev first_of : Key × PathTree → Key
first_of c = c.0

has_key-above : (k : Key) (cs : List (Key × PathTree))
    → AllByRecursion (λ y. key_cmp k y ≡ Less) (keys_of cs) → has_key first_of k cs ≡ false
unfolding has_key
has_key-above k [] h = refl
has_key-above k (c ∷ cs) h = λ i. is_eq (h.0 i) || has_key-above k cs h.1 i

Apart-sorted : (cs : List (Key × PathTree)) → IsStrictlySortedBy key_cmp (keys_of cs)
    → Apart first_of cs
unfolding Apart IsStrictlySortedBy
Apart-sorted [] h = tt
Apart-sorted (c ∷ cs) h = (has_key-above c.0 cs h.0, Apart-sorted cs h.1)

Apart-children : (t : PathTree) → Apart first_of (children_of t)
Apart-children t = Apart-sorted (children_of t) (children_sorted t)

-- ---- in order

-- the key of a sorted child
abbrev key_of : Entry × PathTree → Key
key_of e = e.0.1

or_same : (a b : Bool) → (a || b) ≡ (a || (a || b))
or_same true b = refl
or_same false b = refl

or_swap : (a b c : Bool) → (a || (b || c)) ≡ (b || (a || c))
or_swap true true c = refl
or_swap true false c = refl
or_swap false b c = refl

has_key-put : (k : Key) (e : Entry) (v : PathTree) (es : List (Entry × PathTree))
    → has_key key_of k (map_of.put entry_cmp e v es) ≡ (key_eq k e.1 || has_key key_of k es)
unfolding has_key
has_key-put k e v [] = refl
has_key-put k e v (x ∷ es) =
    elim (entry_cmp e x.0) as (λ o. entry_cmp e x.0 ≡ o
    → list_any (λ (y : Entry × PathTree). key_eq k y.0.1)
    (by_order o ((e, v) ∷ x ∷ es) ((x.0, v) ∷ es) (x ∷ map_of.put entry_cmp e v es))
    ≡ (key_eq k e.1 || (key_eq k x.0.1
    || list_any (λ (y : Entry × PathTree). key_eq k y.0.1) es))) [
      | Less ↦ λ _. refl
      | Equal ↦ λ t. or_same (key_eq k x.0.1) (list_any (λ (y : Entry × PathTree). key_eq k y.0.1) es)
          ∙ ap (λ (z : Entry). key_eq k z.1
          || (key_eq k x.0.1 || list_any (λ (y : Entry × PathTree). key_eq k y.0.1) es))
          (sym (entry_cmp-IsAntisymmetric e x.0 t))
      | Greater ↦ λ _. ap (λ b. key_eq k x.0.1 || b) (has_key-put k e v es)
          ∙ or_swap (key_eq k x.0.1) (key_eq k e.1) _
    ] refl

Apart-put : (e : Entry) (v : PathTree) (es : List (Entry × PathTree))
    → has_key key_of e.1 es ≡ false → Apart key_of es → Apart key_of (map_of.put entry_cmp e v es)
unfolding Apart has_key
Apart-put e v [] n h = (refl, tt)
Apart-put e v (x ∷ es) n h =
    elim (entry_cmp e x.0) as (λ o. Apart key_of
    (by_order o ((e, v) ∷ x ∷ es) ((x.0, v) ∷ es) (x ∷ map_of.put entry_cmp e v es))) [
      | Less ↦ (n, h)
      | Equal ↦ (h.0, h.1)
      | Greater ↦ (
        has_key-put x.0.1 e v es
            ∙ (λ i. (key_eq-symm x.0.1 e.1 ∙ or_false_left (key_eq e.1 x.0.1) _ n) i || h.0 i),
        Apart-put e v es (or_false_right (key_eq e.1 x.0.1) _ n) h.1,
      )
    ]

has_key-sorted_by : (index : Index) (k : Key) (cs : List (Key × PathTree))
    → has_key key_of k (sorted_by index cs) ≡ has_key first_of k cs
unfolding has_key
has_key-sorted_by index k [] = refl
has_key-sorted_by index k (c ∷ cs) =
    has_key-put k (entry index c) c.1 (sorted_by index cs)
    ∙ ap (λ b. key_eq k c.0 || b) (has_key-sorted_by index k cs)

Apart-sorted_by : (index : Index) (cs : List (Key × PathTree)) → Apart first_of cs
    → Apart key_of (sorted_by index cs)
unfolding Apart
Apart-sorted_by index [] h = tt
Apart-sorted_by index (c ∷ cs) h =
    Apart-put (entry index c) c.1 (sorted_by index cs) (has_key-sorted_by index c.0 cs
    ∙ h.0) (Apart-sorted_by index cs h.1)

-- ---- the rows

pub row_at-cons : (r : Row) (rs : List Row) (k : Key)
    → row_at (r ∷ rs) k ≡ cond (key_eq r.key k) (Some r.value) (row_at rs k)
row_at-cons r rs k =
    elim (key_eq r.key k) as (λ b. option_map (λ (x : Row). x.value)
    (cond b (Some r) (find (λ x. key_eq x.key k) rs))
    ≡ cond b (Some r.value) (row_at rs k)) [ true ↦ refl | false ↦ refl ]

row_at-gone : (k : Key) (es : List (Entry × PathTree)) → has_key key_of k es ≡ false
    → row_at (map row_of es) k ≡ None
unfolding has_key
row_at-gone k [] h = refl
row_at-gone k (e ∷ es) h =
    row_at-cons (row_of e) (map row_of es) k
    ∙ ap (λ b. cond b (Some e.1) (row_at (map row_of es) k)) (key_eq-symm e.0.1 k
    ∙ or_false_left (key_eq k e.0.1) _ h)
    ∙ row_at-gone k es (or_false_right (key_eq k e.0.1) _ h)

distinct_rows : (es : List (Entry × PathTree)) → Apart key_of es → HasDistinctKeys (map row_of es)
unfolding Apart
distinct_rows [] h = tt
distinct_rows (e ∷ es) h = (row_at-gone e.0.1 es h.0, distinct_rows es h.1)

-- what a query shows has each key once
pub select-distinct : (q : Query) (t : PathTree) → HasDistinctKeys ((select q t).rows)
select-distinct q t =
    distinct_rows _ (Apart-limited key_of q.limit _
    (Apart-filter key_of (λ e. has q.range e.0) _
    (Apart-sorted_by q.index (children_of t) (Apart-children t))))

-- ---- an unfiltered query

filter-all : (es : List (Entry × PathTree)) (range : Range) → range.lower ≡ None
    → range.upper ≡ None → filter (λ e. has range e.0) es ≡ es
filter-all [] range l u = refl
filter-all (e ∷ es) range l u =
    (λ i. cond (option_map_or (λ cut. is_after cut e.0) (l i) true
    && option_map_or (λ cut. not (is_after cut e.0)) (u i) true)
    (e ∷ filter (λ x. has range x.0) es) (filter (λ x. has range x.0) es))
    ∙ ap (λ xs. e ∷ xs) (filter-all es range l u)

none_there : {X : Type 0} (o : Option X) → is_some o ≡ false → o ≡ None
none_there None e = refl
none_there (Some x) e = cc

-- all children, in order
pub rows_of-unfiltered : (q : Query) (cs : List (Key × PathTree)) → is_filtered q ≡ false
    → rows_of q cs ≡ map row_of (sorted_by q.index cs)
rows_of-unfiltered q cs h =
    let lower = none_there q.range.lower
    (or_false_left (is_some q.range.lower) _
    (or_false_left (is_some q.range.lower || is_some q.range.upper) _ h)) in
    let upper = none_there q.range.upper
    (or_false_right (is_some q.range.lower) _
    (or_false_left (is_some q.range.lower || is_some q.range.upper) _ h)) in
    let limit = none_there q.limit (or_false_right (is_some q.range.lower
    || is_some q.range.upper) _ h) in
    (λ i. map row_of (limited (limit i) (filter-all (sorted_by q.index cs) q.range lower upper i)))

-- entries with a value each, as children
abbrev pub children_in : List (Entry × PathTree) → List (Key × PathTree)
children_in es = as_children (map row_of es)

swapped : (k j i : Key) (v w : PathTree) (o : Option PathTree) → key_eq i j ≡ false
    → cond (key_eq k j) (Some w) (cond (key_eq k i) (Some v) o)
    ≡ cond (key_eq k i) (Some v) (cond (key_eq k j) (Some w) o)
swapped k j i v w o apart =
    elim (key_eq k i) as (λ b. key_eq k i ≡ b
    → cond (key_eq k j) (Some w) (cond b (Some v) o)
    ≡ cond b (Some v) (cond (key_eq k j) (Some w) o)) [
      | true ↦ λ e. ap (λ b. cond b (Some w) (Some v)) (ap (λ x. key_eq x j) (key_eq-is k i e) ∙ apart)
      | false ↦ λ e. refl
    ] refl

child_of-put : (k : Key) (e : Entry) (v : PathTree) (es : List (Entry × PathTree))
    → has_key key_of e.1 es ≡ false
    → child_of (children_in (map_of.put entry_cmp e v es)) k
    ≡ cond (key_eq k e.1) (Some v) (child_of (children_in es) k)
unfolding has_key
child_of-put k e v [] h = refl
child_of-put k e v (x ∷ es) h =
    elim (entry_cmp e x.0) as (λ o. entry_cmp e x.0 ≡ o
    → child_of (children_in (by_order o ((e, v) ∷ x ∷ es) ((x.0, v) ∷ es)
    (x ∷ map_of.put entry_cmp e v es))) k
    ≡ cond (key_eq k e.1) (Some v) (child_of (children_in (x ∷ es)) k)) [
      | Less ↦ λ _. refl
      | Equal ↦ λ t. cc (
        or_false_left (key_eq e.1 x.0.1) _ h,
        ap (λ (z : Entry). key_eq e.1 z.1) (sym (entry_cmp-IsAntisymmetric e x.0 t))
            ∙ key_eq-same e.1,
      )
      | Greater ↦ λ _. ap (cond (key_eq k x.0.1) (Some x.1))
          (child_of-put k e v es (or_false_right (key_eq e.1 x.0.1) _ h))
          ∙ swapped k x.0.1 e.1 v x.1 (child_of (children_in es) k)
          (or_false_left (key_eq e.1 x.0.1) _ h)
    ] refl

-- the sorted children are the children
child_of-sorted_by : (index : Index) (cs : List (Key × PathTree)) (k : Key) → Apart first_of cs
    → child_of (children_in (sorted_by index cs)) k ≡ child_of cs k
unfolding Apart
child_of-sorted_by index [] k h = refl
child_of-sorted_by index (c ∷ cs) k h =
    child_of-put k (entry index c) c.1 (sorted_by index cs) (has_key-sorted_by index c.0 cs ∙ h.0)
    ∙ ap (cond (key_eq k c.0) (Some c.1)) (child_of-sorted_by index cs k h.1)

non_null-leaves : (u : PathTree) (q : Path)
    → option_and_then (λ (t : PathTree). leaf_at t q) (non_null u) ≡ leaf_at u q
non_null-leaves u q =
    elim (is_null u) as (λ b. is_null u ≡ b
    → option_and_then (λ (t : PathTree). leaf_at t q) (cond b None (Some u)) ≡ leaf_at u q) [
      | true ↦ λ e. sym (ap (λ (t : PathTree). leaf_at t q) (null_of_is_null u e) ∙ leaf_at-null q)
      | false ↦ λ e. refl
    ] refl

-- children that are the parts under each key make the tree, where it has no leaf of its own
pub object-parts : (t : PathTree) (es : List (Key × PathTree)) → leaf_of t ≡ None
    → ((k : Key) → child_of es k ≡ non_null (child t k)) → object es ≡ t
object-parts t es root h = same_tree (object es) t at
  where
    at : (q : Path) → leaf_at (object es) q ≡ leaf_at t q
    at [] = leaf_at-object-root es ∙ sym root
    at (k ∷ q) =
        leaf_at-object es k q ∙ ap (option_and_then (λ (u : PathTree). leaf_at u q)) (h k)
        ∙ non_null-leaves (child t k) q ∙ leaf_at-sub t (k ∷ []) q

-- the children in any order make the tree, where it has no leaf of its own
pub object-sorted_by : (index : Index) (t : PathTree) → leaf_of t ≡ None
    → object (children_in (sorted_by index (children_of t))) ≡ t
object-sorted_by index t root =
    object-parts t _ root (λ k. child_of-sorted_by index (children_of t) k (Apart-children t)
    ∙ child_of-children_of t k)

-- what an unfiltered query shows is the whole tree
pub select-whole : (q : Query) (t : PathTree) → is_filtered q ≡ false → tree_of (select q t) ≡ t
select-whole q t h =
    (λ i. tree_by (if h i then None else leaf_of t) (rows_of-unfiltered q (children_of t) h i))
    ∙ elim (leaf_of t) as (λ o. leaf_of t ≡ o
    → tree_by o (map row_of (sorted_by q.index (children_of t))) ≡ t) [
      | None ↦ λ e. object-sorted_by q.index t e
      | Some l ↦ λ e. sym (leaf_of_root t l e)
    ] refl
