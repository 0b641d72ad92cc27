-- The rows that a query shows rise as entries, lie in its range, and are no more than its limit.
use Rattle.std.specs.Prelude.{◌≤◌, IfSome, T, ◌&&◌}
use Rattle.std.proofs.Common.{◌≡◌, ℕ, zero, suc, ◌-◌, Bool, true, false, cond, List, [], ◌∷◌, map}
use Rattle.std.proofs.Common.{length, take, drop, refl, sym, ap, subst, ◌∙◌, arith, Option, Some}
use Rattle.std.proofs.Common.{None}
use Rattle.std.specs.declared.cmp.Ordering.{Ordering}
use Rattle.std.specs.declared.cmp.Ordering.TheVariants.{Less, Equal, Greater}
use Rattle.std.specs.Ordering.{is_lt}
use Rattle.std.specs.List.{AllByRecursion, filter}
use Rattle.std.specs.List.Sorted.{IsStrictlySortedBy}
use Rattle.std.specs.FinMap as map_of
use Rattle.std.specs.FinMap.Entries.{by_order, is_sorted, below_all, is_sorted-put, is_sorted-where_key}
use Rattle.std.proofs.lemmas.List.{length-take, length-drop, length-map}
use Rattle.std.proofs.lemmas.List.Elements.{filter_passes, recursion_from_All}
use Rattle.rt_tree.specs.PathTree.{Key, PathTree}
use Rattle.rt_tree.specs.Children.{children_of}
use Rattle.rt_order.specs.declared.index.Index.{Index}
use Rattle.rt_order.specs.Entries.{Entry, entry, entry_cmp}
use Rattle.rt_order.specs.Cuts.{has}
use Rattle.rt_order.specs.laws.EntryOrder.{entry_cmp_total, entry_cmp-IsAntisymmetric}
use Rattle.rt_query.specs.declared.query.Limit.{Limit}
use Rattle.rt_query.specs.declared.query.Limit.TheVariants.{First, Last}
use Rattle.rt_query.specs.declared.row.Row.{Row}
use Rattle.rt_query.specs.Queries.{Query, most_rows}
use Rattle.rt_query.specs.Select.{select, sorted_by, limited, row_of}

-- the entry of a row
abbrev pub row_entry : Index → Row → Entry
row_entry index r = entry index (r.key, r.value)

-- the rows rise: each one's entry is below those after it
abbrev pub RowsRise : Type 0
RowsRise =
    (q : Query) (t : PathTree)
    → IsStrictlySortedBy entry_cmp (map (row_entry q.index) ((select q t).rows))

-- each row lies in the range
abbrev pub RowsLieInRange : Type 0
RowsLieInRange =
    (q : Query) (t : PathTree)
    → AllByRecursion (λ r. has q.range (row_entry q.index r) ≡ true) ((select q t).rows)

-- there are no more rows than the limit says
abbrev pub RowsAreWithinLimit : Type 0
RowsAreWithinLimit =
    (q : Query) (t : PathTree) → IfSome q.limit (λ l. length ((select q t).rows) ≤ most_rows l)

-- ---- what holds of each element
module _ {X : Type 0} (P : X → Type 0) where
  pub all-filter : (p : X → Bool) (xs : List X) → AllByRecursion P xs → AllByRecursion P (filter p xs)
  all-filter p [] h = tt
  all-filter p (x ∷ xs) h =
      elim (p x) as (λ b. AllByRecursion P (cond b (x ∷ filter p xs) (filter p xs)))
      [ true ↦ (h.0, all-filter p xs h.1) | false ↦ all-filter p xs h.1 ]

  pub all-take : (n : ℕ) (xs : List X) → AllByRecursion P xs → AllByRecursion P (take n xs)
  all-take zero xs h = tt
  all-take (suc n) [] h = tt
  all-take (suc n) (x ∷ xs) h = (h.0, all-take n xs h.1)

  pub all-drop : (n : ℕ) (xs : List X) → AllByRecursion P xs → AllByRecursion P (drop n xs)
  all-drop zero xs h = h
  all-drop (suc n) [] h = tt
  all-drop (suc n) (x ∷ xs) h = all-drop n xs h.1

  pub all-limited : (limit : Option Limit) (xs : List X) → AllByRecursion P xs
      → AllByRecursion P (limited limit xs)
  all-limited None xs h = h
  all-limited (Some (First n)) xs h = all-take n xs h
  all-limited (Some (Last n)) xs h = all-drop (length xs - n) xs h

  pub all-map : {Y : Type 0} (f : Y → X) (ys : List Y) → AllByRecursion (λ y. P (f y)) ys
      → AllByRecursion P (map f ys)
  all-map f [] h = tt
  all-map f (y ∷ ys) h = (h.0, all-map f ys h.1)

-- ---- what holds of each child in order, by its entry
module _ (P : Entry × PathTree → Type 0) where
  all-put : (e : Entry) (v : PathTree) (es : List (Entry × PathTree)) → P (e, v)
      → AllByRecursion P es → AllByRecursion P (map_of.put entry_cmp e v es)
  all-put e v [] p h = (p, tt)
  all-put e v (x ∷ es) p h =
      elim (entry_cmp e x.0) as (λ o. entry_cmp e x.0 ≡ o
      → AllByRecursion P (by_order o ((e, v) ∷ x ∷ es) ((x.0, v) ∷ es)
      (x ∷ map_of.put entry_cmp e v es))) [
        | Less ↦ λ _. (p, h)
        | Equal ↦ λ t. (subst (λ (z : Entry). P (z, v)) (entry_cmp-IsAntisymmetric e x.0 t) p, h.1)
        | Greater ↦ λ _. (h.0, all-put e v es p h.1)
      ] refl

  pub all-sorted_by : (index : Index) (cs : List (Key × PathTree))
      → AllByRecursion (λ c. P (entry index c, c.1)) cs → AllByRecursion P (sorted_by index cs)
  all-sorted_by index [] h = tt
  all-sorted_by index (c ∷ cs) h =
      all-put (entry index c) c.1 (sorted_by index cs) h.0 (all-sorted_by index cs h.1)

-- ---- in the range

-- a child in order has the entry that its row has
abbrev IsOwn : Index → Entry × PathTree → Type 0
IsOwn index e = row_entry index (row_of e) ≡ e.0

own_children : (index : Index) (cs : List (Key × PathTree))
    → AllByRecursion (λ c. IsOwn index (entry index c, c.1)) cs
own_children index [] = tt
own_children index (c ∷ cs) = (refl, own_children index cs)

own_entries : (index : Index) (cs : List (Key × PathTree))
    → AllByRecursion (IsOwn index) (sorted_by index cs)
own_entries index cs = all-sorted_by (IsOwn index) index cs (own_children index cs)

-- the children of a query in order, before the limit
abbrev kept : Query → List (Key × PathTree) → List (Entry × PathTree)
kept q cs = filter (λ e. has q.range e.0) (sorted_by q.index cs)

own_kept : (q : Query) (cs : List (Key × PathTree))
    → AllByRecursion (IsOwn q.index) (limited q.limit (kept q cs))
own_kept q cs =
    all-limited (IsOwn q.index) q.limit (kept q cs)
    (all-filter (IsOwn q.index) (λ e. has q.range e.0) (sorted_by q.index cs) (own_entries q.index cs))

same_entries : (index : Index) (es : List (Entry × PathTree)) → AllByRecursion (IsOwn index) es
    → map (row_entry index) (map row_of es) ≡ map (λ e. e.0) es
same_entries index [] h = refl
same_entries index (e ∷ es) h = λ i. h.0 i ∷ same_entries index es h.1 i

in_range : (q : Query) (es : List (Entry × PathTree)) → AllByRecursion (IsOwn q.index) es
    → AllByRecursion (λ e. has q.range e.0 ≡ true) es
    → AllByRecursion (λ r. has q.range (row_entry q.index r) ≡ true) (map row_of es)
in_range q [] own h = tt
in_range q (e ∷ es) own h = (ap (has q.range) own.0 ∙ h.0, in_range q es own.1 h.1)

pub rows_lie_in_range : RowsLieInRange
rows_lie_in_range q t =
    let cs = children_of t in
    let passes = recursion_from_All _ (kept q cs)
    (filter_passes (λ e. has q.range e.0) (sorted_by q.index cs)) in
    in_range q _ (own_kept q cs) (all-limited (λ e. has q.range e.0 ≡ true) q.limit (kept q cs) passes)

-- ---- rising

-- each one's entry is below those after it
Rising : List (Entry × PathTree) → Type 0
Rising [] = Unit {0}
Rising (e ∷ es) = AllByRecursion (λ d. entry_cmp e.0 d.0 ≡ Less) es × Rising es

less_of : (o : Ordering) → T (is_lt o) → o ≡ Less
less_of Less h = refl
less_of Equal h = absurd h
less_of Greater h = absurd h

first_of : (a b : Bool) → T (a && b) → T a
first_of true b h = tt
first_of false b h = h

second_of : (a b : Bool) → T (a && b) → T b
second_of true b h = h
second_of false b h = absurd h

below : (x : Entry) (es : List (Entry × PathTree)) → T (below_all entry_cmp x es)
    → AllByRecursion (λ d. entry_cmp x d.0 ≡ Less) es
below x [] h = tt
below x (e ∷ es) h = (less_of _ (first_of _ _ h), below x es (second_of (is_lt (entry_cmp x e.0)) _ h))

rising : (es : List (Entry × PathTree)) → T (is_sorted entry_cmp es) → Rising es
unfolding Rising
rising [] h = tt
rising (e ∷ es) h = (
  below e.0 es (first_of _ _ h),
  rising es (second_of (below_all entry_cmp e.0 es) _ h),
)

rising-take : (n : ℕ) (es : List (Entry × PathTree)) → Rising es → Rising (take n es)
unfolding Rising
rising-take zero es h = tt
rising-take (suc n) [] h = tt
rising-take (suc n) (e ∷ es) h = (
  all-take (λ d. entry_cmp e.0 d.0 ≡ Less) n es h.0,
  rising-take n es h.1,
)

rising-drop : (n : ℕ) (es : List (Entry × PathTree)) → Rising es → Rising (drop n es)
unfolding Rising
rising-drop zero es h = h
rising-drop (suc n) [] h = tt
rising-drop (suc n) (e ∷ es) h = rising-drop n es h.1

rising-limited : (limit : Option Limit) (es : List (Entry × PathTree)) → Rising es
    → Rising (limited limit es)
rising-limited None es h = h
rising-limited (Some (First n)) es h = rising-take n es h
rising-limited (Some (Last n)) es h = rising-drop (length es - n) es h

sorted : (es : List (Entry × PathTree)) → Rising es → IsStrictlySortedBy entry_cmp (map (λ e. e.0) es)
unfolding Rising IsStrictlySortedBy
sorted [] h = tt
sorted (e ∷ es) h =
    (all-map (λ y. entry_cmp e.0 y ≡ Less) (λ (d : Entry × PathTree). d.0) es h.0, sorted es h.1)

pub is_sorted-sorted_by : (index : Index) (cs : List (Key × PathTree))
    → T (is_sorted entry_cmp (sorted_by index cs))
is_sorted-sorted_by index [] = tt
is_sorted-sorted_by index (c ∷ cs) =
    is_sorted-put entry_cmp entry_cmp_total (entry index c) c.1 (sorted_by index cs)
    (is_sorted-sorted_by index cs)

pub rows_rise : RowsRise
rows_rise q t =
    let cs = children_of t in
    let in_order = rising (kept q cs)
    (is_sorted-where_key entry_cmp (has q.range) (sorted_by q.index cs)
    (is_sorted-sorted_by q.index cs)) in
    subst (IsStrictlySortedBy entry_cmp) (sym (same_entries q.index _ (own_kept q cs)))
    (sorted _ (rising-limited q.limit (kept q cs) in_order))

-- ---- the limit

few : {X : Type 0} (limit : Option Limit) (xs : List X)
    → IfSome limit (λ l. length (limited limit xs) ≤ most_rows l)
few None xs = tt
few (Some (First n)) xs = let size = length-take n xs in omega (arith, size)
few (Some (Last n)) xs = let size = length-drop (length xs - n) xs in omega (arith, size)

few_rows : (limit : Option Limit) (es : List (Entry × PathTree))
    → IfSome limit (λ l. length (limited limit es) ≤ most_rows l)
    → IfSome limit (λ l. length (map row_of (limited limit es)) ≤ most_rows l)
few_rows None es h = tt
few_rows (Some l) es h = let size = length-map (limited (Some l) es) row_of in omega (arith, size, h)

pub rows_are_within_limit : RowsAreWithinLimit
rows_are_within_limit q t = few_rows q.limit _ (few q.limit (kept q (children_of t)))
