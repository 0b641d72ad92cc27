-- What a query shows of the tree that it shows is the same: its rows are in order, in the range and within the limit.
use Rattle.std.specs.Prelude.{T, ◌&&◌}
use Rattle.std.proofs.Common.{◌≡◌, ℕ, zero, suc, ◌-◌, Bool, true, false, cond, List, [], ◌∷◌, map, length, take, drop, refl, sym, ap, ◌∙◌, arith, Option, Some, None}
use Rattle.std.specs.declared.cmp.Ordering.{Ordering}
use Rattle.std.specs.declared.cmp.Ordering.TheVariants.{Less, Equal, Greater}
use Rattle.std.specs.Ordering.{is_lt, is_eq, eq_by_cmp}
use Rattle.std.specs.Option.{option_map, option_and_then}
use Rattle.std.specs.Map.{keys_of}
use Rattle.std.specs.List.{AllByRecursion, filter}
use Rattle.std.specs.List.Sorted.{IsStrictlySortedBy}
use Rattle.std.specs.FinMap.Entries.{is_sorted, below_all, find, is_sorted-where_key, find-put, same_entries}
use Rattle.std.proofs.lemmas.List.{length-drop}
use Rattle.std.proofs.lemmas.List.Elements.{filter_passes, recursion_from_All}
use Rattle.rt_tree.specs.PathTree.{Key, PathTree, both, key_cmp, key_eq, key_eq-is, key_eq-same, leaf_of, child_of, object}
use Rattle.rt_tree.specs.Children.{children_of, children_sorted}
use Rattle.rt_order.specs.declared.index.Index.{Index}
use Rattle.rt_order.specs.Entries.{Entry, entry, entry_cmp}
use Rattle.rt_order.specs.Cuts.{has}
use Rattle.rt_order.specs.laws.EntryOrder.{entry_cmp_total, entry_cmp-IsAntisymmetric}
use Rattle.rt_query.specs.declared.query.Limit.{Limit}
use Rattle.rt_query.specs.declared.query.Limit.TheVariants.{First, Last}
use Rattle.rt_query.specs.declared.row.Row.{Row}
use Rattle.rt_query.specs.Queries.{Query, is_filtered}
use Rattle.rt_query.specs.Rows.{HasDistinctKeys}
use Rattle.rt_query.specs.Select.{sorted_by, limited, row_of, rows_of, select, as_children, tree_by, tree_of}
use Rattle.rt_query.specs.laws.Rows.{row_entry, all-filter, all-limited, all-sorted_by, is_sorted-sorted_by}
use Rattle.rt_query.specs.laws.Select.{select-distinct, select-whole}
use Rattle.rt_query.proofs.RowLaws.{shown_filtered}
use Rattle.rt_query.proofs.ShownLaws.{child_of-as_children, row_at-tree}
use Rattle.rt_mail.specs.laws.Shows.{SelectsAgain, ShowsTheView}

-- ---- children by their entries

abbrev by_entry : Index → Key × PathTree → Entry × PathTree
by_entry index c = (entry index c, c.1)

-- each key stands once
Apart : List (Key × PathTree) → Type 0
Apart [] = Unit {0}
Apart (c ∷ cs) = (child_of cs c.0 ≡ None) × Apart cs

-- the child under an entry's key, where the entry is its own
abbrev own_child : Index → Entry → Option PathTree → Option PathTree
own_child index e o = option_and_then (λ v. cond (eq_by_cmp entry_cmp e (entry index (e.1, v))) (Some v) None) o

equal_of : (o : Ordering) → is_eq o ≡ true → o ≡ Equal
equal_of Less e = cc
equal_of Equal e = refl
equal_of Greater e = cc

find-own : (index : Index) (e : Entry) (cs : List (Key × PathTree)) → Apart cs → find entry_cmp e (map (by_entry index) cs) ≡ own_child index e (child_of cs e.1)
unfolding Apart
find-own index e [] h = refl
find-own index e (c ∷ cs) h =
    elim (key_eq e.1 c.0) as (λ b. key_eq e.1 c.0 ≡ b
    → cond (eq_by_cmp entry_cmp e (entry index c)) (Some c.1) (find entry_cmp e (map (by_entry index) cs)) ≡ own_child index e (cond b (Some c.1) (child_of cs e.1))) [
      | true ↦ λ t.
          let same : e.1 ≡ c.0 = key_eq-is e.1 c.0 t in
          let none : child_of cs e.1 ≡ None = ap (child_of cs) same ∙ h.0 in
          ap (λ o. cond (eq_by_cmp entry_cmp e (entry index c)) (Some c.1) o) (find-own index e cs h.1 ∙ ap (own_child index e) none)
          ∙ ap (λ k. cond (eq_by_cmp entry_cmp e (entry index (k, c.1))) (Some c.1) None) (sym same)
      | false ↦ λ t.
          ap (λ b. cond b (Some c.1) (find entry_cmp e (map (by_entry index) cs))) (not_here t (eq_by_cmp entry_cmp e (entry index c)) refl)
          ∙ find-own index e cs h.1
    ] refl
  where
    not_here : key_eq e.1 c.0 ≡ false → (b : Bool) → eq_by_cmp entry_cmp e (entry index c) ≡ b → b ≡ false
    not_here t true s = cc (t, ap (λ (x : Entry). key_eq e.1 x.1) (sym (entry_cmp-IsAntisymmetric e (entry index c) (equal_of _ s))) ∙ key_eq-same e.1)
    not_here t false s = refl

find-sorted_by : (index : Index) (q : Entry) (cs : List (Key × PathTree)) → find entry_cmp q (sorted_by index cs) ≡ find entry_cmp q (map (by_entry index) cs)
find-sorted_by index q [] = refl
find-sorted_by index q (c ∷ cs) =
    find-put entry_cmp entry_cmp_total q (entry index c) c.1 (sorted_by index cs)
    ∙ ap (cond (eq_by_cmp entry_cmp q (entry index c)) (Some c.1)) (find-sorted_by index q cs)

-- the children of a tree
none_above : (k : Key) (cs : List (Key × PathTree)) → AllByRecursion (λ y. key_cmp k y ≡ Less) (keys_of cs) → child_of cs k ≡ None
none_above k [] h = refl
none_above k (c ∷ cs) h = (λ i. cond (is_eq (h.0 i)) (Some c.1) (child_of cs k)) ∙ none_above k cs h.1

apart_sorted : (cs : List (Key × PathTree)) → IsStrictlySortedBy key_cmp (keys_of cs) → Apart cs
unfolding Apart IsStrictlySortedBy
apart_sorted [] h = tt
apart_sorted (c ∷ cs) h = (none_above c.0 cs h.0, apart_sorted cs h.1)

-- the rows of a view
apart_rows : (rows : List Row) → HasDistinctKeys rows → Apart (as_children rows)
unfolding Apart
apart_rows [] h = tt
apart_rows (r ∷ rows) h = (child_of-as_children rows r.key ∙ h.0, apart_rows rows h.1)

-- ---- rows that are a view's already

abbrev IsOwn : Index → Entry × PathTree → Type 0
IsOwn index e = row_entry index (row_of e) ≡ e.0

own_children : (index : Index) (cs : List (Key × PathTree)) → AllByRecursion (λ c. IsOwn index (entry index c, c.1)) cs
own_children index [] = tt
own_children index (c ∷ cs) = (refl, own_children index cs)

own_entries : (index : Index) (es : List (Entry × PathTree)) → AllByRecursion (IsOwn index) es → map (by_entry index) (as_children (map row_of es)) ≡ es
own_entries index [] h = refl
own_entries index (e ∷ es) h = λ i. (h.0 i, e.1) ∷ own_entries index es h.1 i

first_of : (a b : Bool) → T (a && b) → T a
first_of true b h = tt
first_of false b h = h

second_of : (a b : Bool) → T (a && b) → T b
second_of true b h = h
second_of false b h = absurd h

below-take : (x : Entry) (n : ℕ) (es : List (Entry × PathTree)) → T (below_all entry_cmp x es) → T (below_all entry_cmp x (take n es))
below-take x zero es h = tt
below-take x (suc n) [] h = tt
below-take x (suc n) (e ∷ es) h = both _ _ (first_of _ _ h) (below-take x n es (second_of (is_lt (entry_cmp x e.0)) _ h))

sorted-take : (n : ℕ) (es : List (Entry × PathTree)) → T (is_sorted entry_cmp es) → T (is_sorted entry_cmp (take n es))
sorted-take zero es h = tt
sorted-take (suc n) [] h = tt
sorted-take (suc n) (e ∷ es) h = both _ _ (below-take e.0 n es (first_of _ _ h)) (sorted-take n es (second_of (below_all entry_cmp e.0 es) _ h))

sorted-drop : (n : ℕ) (es : List (Entry × PathTree)) → T (is_sorted entry_cmp es) → T (is_sorted entry_cmp (drop n es))
sorted-drop zero es h = h
sorted-drop (suc n) [] h = tt
sorted-drop (suc n) (e ∷ es) h = sorted-drop n es (second_of (below_all entry_cmp e.0 es) _ h)

sorted-limited : (limit : Option Limit) (es : List (Entry × PathTree)) → T (is_sorted entry_cmp es) → T (is_sorted entry_cmp (limited limit es))
sorted-limited None es h = h
sorted-limited (Some (First n)) es h = sorted-take n es h
sorted-limited (Some (Last n)) es h = sorted-drop (length es - n) es h

module _ {X : Type 0} where
  filter_all : (p : X → Bool) (xs : List X) → AllByRecursion (λ x. p x ≡ true) xs → filter p xs ≡ xs
  filter_all p [] h = refl
  filter_all p (x ∷ xs) h = λ i. cond (h.0 i) (x ∷ filter_all p xs h.1 i) (filter p xs)

  take_again : (n : ℕ) (xs : List X) → take n (take n xs) ≡ take n xs
  take_again zero xs = refl
  take_again (suc n) [] = refl
  take_again (suc n) (x ∷ xs) = ap (λ ys. x ∷ ys) (take_again n xs)

  drop_none : (m : ℕ) (xs : List X) → m ≡ 0 → drop m xs ≡ xs
  drop_none m xs e = ap (λ k. drop k xs) e

  limited_again : (limit : Option Limit) (xs : List X) → limited limit (limited limit xs) ≡ limited limit xs
  limited_again None xs = refl
  limited_again (Some (First n)) xs = take_again n xs
  limited_again (Some (Last n)) xs =
      let size = length-drop (length xs - n) xs in
      drop_none (length (drop (length xs - n) xs) - n) (drop (length xs - n) xs) (omega (arith, size))

-- ---- the tree of the rows

-- the children of a query in order, before the limit
abbrev kept : Query → List (Key × PathTree) → List (Entry × PathTree)
kept q cs = filter (λ e. has q.range e.0) (sorted_by q.index cs)

-- the entries that are shown
abbrev shown_entries : Query → PathTree → List (Entry × PathTree)
shown_entries q t = limited q.limit (kept q (children_of t))

-- the tree of what is shown, where that has no leaf
abbrev shown_tree : Query → PathTree → PathTree
shown_tree q t = object (as_children (rows_of q (children_of t)))

own_shown : (q : Query) (t : PathTree) → AllByRecursion (IsOwn q.index) (shown_entries q t)
own_shown q t =
    all-limited (IsOwn q.index) q.limit (kept q (children_of t))
    (all-filter (IsOwn q.index) (λ e. has q.range e.0) (sorted_by q.index (children_of t))
    (all-sorted_by (IsOwn q.index) q.index (children_of t) (own_children q.index (children_of t))))

find-shown : (q : Query) (t : PathTree) (e : Entry) → find entry_cmp e (sorted_by q.index (children_of (shown_tree q t))) ≡ find entry_cmp e (shown_entries q t)
find-shown q t e =
    let rows = rows_of q (children_of t) in
    let cs = children_of (shown_tree q t) in
    find-sorted_by q.index e cs
    ∙ find-own q.index e cs (apart_sorted cs (children_sorted (shown_tree q t)))
    ∙ ap (own_child q.index e) (row_at-tree None rows (shown_tree q t) e.1 (shown_filtered q t) ∙ sym (child_of-as_children rows e.1))
    ∙ sym (find-own q.index e (as_children rows) (apart_rows rows (select-distinct q t)))
    ∙ ap (find entry_cmp e) (own_entries q.index (shown_entries q t) (own_shown q t))

-- its children in order are the entries that are shown
same_sorted : (q : Query) (t : PathTree) → sorted_by q.index (children_of (shown_tree q t)) ≡ shown_entries q t
same_sorted q t =
    same_entries entry_cmp entry_cmp_total entry_cmp-IsAntisymmetric (sorted_by q.index (children_of (shown_tree q t))) (shown_entries q t)
    (is_sorted-sorted_by q.index (children_of (shown_tree q t)))
    (sorted-limited q.limit (kept q (children_of t))
    (is_sorted-where_key entry_cmp (has q.range) (sorted_by q.index (children_of t)) (is_sorted-sorted_by q.index (children_of t))))
    (find-shown q t)

same_rows : (q : Query) (t : PathTree) → rows_of q (children_of (shown_tree q t)) ≡ rows_of q (children_of t)
same_rows q t =
    let es = shown_entries q t in
    let passes = recursion_from_All _ (kept q (children_of t)) (filter_passes (λ e. has q.range e.0) (sorted_by q.index (children_of t))) in
    ap (λ xs. map row_of (limited q.limit (filter (λ e. has q.range e.0) xs))) (same_sorted q t)
    ∙ ap (λ xs. map row_of (limited q.limit xs)) (filter_all (λ e. has q.range e.0) es (all-limited (λ e. has q.range e.0 ≡ true) q.limit (kept q (children_of t)) passes))
    ∙ ap (map row_of) (limited_again q.limit (kept q (children_of t)))

-- ---- what is shown

by_filter : (q : Query) (t : PathTree) (b : Bool) → is_filtered q ≡ b → select q (tree_of (select q t)) ≡ select q t
by_filter q t false e = ap (select q) (select-whole q t e)
by_filter q t true e =
    let rows = rows_of q (children_of t) in
    let tree : tree_of (select q t) ≡ shown_tree q t = ap (λ b. tree_by (cond b None (leaf_of t)) rows) e in
    let leaf = ap (λ b. cond b None (leaf_of (shown_tree q t))) e ∙ sym (ap (λ b. cond b None (leaf_of t)) e) in
    ap (select q) tree ∙ (λ i. record { leaf = leaf i; rows = same_rows q t i })

pub select_again : SelectsAgain
select_again q t = by_filter q t (is_filtered q) refl

-- so a snapshot that was told the tree of a view shows the view
pub shows_the_view : ShowsTheView
shows_the_view s t told = ap (option_map (select s.query)) told ∙ ap Some (select_again s.query t)
