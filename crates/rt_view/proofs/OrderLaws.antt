-- Children that stand in the order of their query, since none has an integer key.
use Rattle.std.proofs.Common.{◌≡◌, Bool, true, false, cond, not, List, [], ◌∷◌, ◌++◌, map, refl, sym, ap, subst, ◌∙◌, Option, Some, None}
use Rattle.std.specs.declared.cmp.Ordering.{Ordering}
use Rattle.std.specs.declared.cmp.Ordering.TheVariants.{Less, Equal, Greater}
use Rattle.std.specs.FinMap as map_of
use Rattle.std.specs.FinMap.Entries.{by_order}
use Rattle.std.specs.List.{AllByRecursion, filter}
use Rattle.std.specs.List.Sorted.{IsStrictlySortedBy}
use Rattle.std.specs.Map.{keys_of}
use Rattle.std.specs.Ordering.{is_gt, is_le}
use Rattle.rt_map.specs.Maps.{last_below, last_in}
use Rattle.rt_tree.specs.PathTree.{Key, PathTree, key_cmp, key_eq, key_eq-is, key_eq-same, child_of, is_null, non_null, put}
use Rattle.rt_tree.specs.Children.{children_of, children_sorted}
use Rattle.rt_order.specs.declared.index.Index.TheVariants as index
use Rattle.rt_order.specs.Cuts.{has}
use Rattle.rt_order.specs.Entries.{Entry, entry, entry_cmp, sort_value}
use Rattle.rt_order.specs.KeyOrder.{integer_of, key_cmp_by}
use Rattle.rt_order.specs.Values.{Null}
use Rattle.rt_query.specs.Queries.{Query}
use Rattle.rt_query.specs.Select.{row_of, rows_of, select, sorted_by}
use Rattle.rt_query.specs.laws.Select.{select-whole}
use Rattle.rt_view.specs.declared.change.Change.TheVariants.{Added, Value}
use Rattle.rt_view.specs.Changes.{changes, is_added, placed_changes}
use Rattle.rt_view.specs.declared.seen.Seen.{Seen}
use Rattle.rt_view.specs.inside.Ranged.{OrderedChildren}
use Rattle.rt_view.specs.Views.{with_named}
use Rattle.rt_view.specs.inside.Windows.{Entries, before, last_key, value_at}
use Rattle.rt_view.specs.inside.ViewIndex.{AreWords, CanAsk, ComesToWord, IsInOrder, IsOrdered, NameWords, entries_of, entries_shown, ordered_in, rows_in_tree}
use Rattle.rt_view.specs.inside.Telling.{AllSeen, AreSeen}
use Rattle.rt_view.proofs.AloneLaws.{plain_value}
use Rattle.rt_view.proofs.CrossLaws.{shown_known}
use Rattle.rt_view.proofs.Listed.{value_at-children}
use Rattle.rt_view.proofs.SeenLaws.{are_seen}
use Rattle.rt_view.proofs.TouchLaws.{child_of-put}
use Rattle.rt_view.proofs.TreeLaws.{plain_rows}
use Rattle.rt_view.proofs.TurnLaws.{first_rows}

-- ---- words

word_at : (cs : List (Key × PathTree)) (k : Key) (v : PathTree) → AreWords cs → child_of cs k ≡ Some v → integer_of k ≡ None
word_at [] k v w e = cc
word_at (c ∷ cs) k v w e =
    elim (key_eq k c.0) as (λ b. key_eq k c.0 ≡ b → cond b (Some c.1) (child_of cs k) ≡ Some v → integer_of k ≡ None) [
      | true ↦ λ t f. ap integer_of (key_eq-is k c.0 t) ∙ w.0
      | false ↦ λ t f. word_at cs k v w.1 f
    ] refl e

words_at : (cs : List (Key × PathTree)) → ((k : Key) (v : PathTree) → child_of cs k ≡ Some v → integer_of k ≡ None) → AreWords cs
words_at [] h = tt
words_at (c ∷ cs) h = (
  h c.0 c.1 (ap (λ b. cond b (Some c.1) (child_of cs c.0)) (key_eq-same c.0)),
  words_at cs (λ k v e. elim (key_eq k c.0) as (λ b. key_eq k c.0 ≡ b → integer_of k ≡ None) [
    | true ↦ λ t. h k c.1 (ap (λ b. cond b (Some c.1) (child_of cs k)) t)
    | false ↦ λ t. h k v (ap (λ b. cond b (Some c.1) (child_of cs k)) t ∙ e)
  ] refl),
)

not_null : (v x : PathTree) → non_null v ≡ Some x → is_null v ≡ false
not_null v x e = elim (is_null v) as (λ b. cond b None (Some v) ≡ Some x → b ≡ false) [
  | true ↦ λ f. cc
  | false ↦ λ f. refl
] e

-- a child is put
put_words : (t : PathTree) (k : Key) (v : PathTree) → AreWords (children_of t) → ComesToWord (k, v) → AreWords (children_of (put t (k ∷ []) v))
put_words t k v words comes = words_at (children_of (put t (k ∷ []) v)) (λ j x e.
    elim (key_eq k j) as (λ b. key_eq k j ≡ b → cond b (non_null v) (child_of (children_of t) j) ≡ Some x → integer_of j ≡ None) [
      | true ↦ λ s f. ap integer_of (sym (key_eq-is k j s)) ∙ comes (not_null v x f)
      | false ↦ λ s f. word_at (children_of t) j x words f
    ] refl (sym (child_of-put t k j v) ∙ e))

pub put_ordered : (q : Query) (t u : PathTree) (k : Key) (v : PathTree) → IsOrdered q t → ComesToWord (k, v) → u ≡ put t (k ∷ []) v → IsOrdered q u
put_ordered q t u k v h comes is =
    record { plain = h.plain; index = h.index; words = subst (λ (x : PathTree). AreWords (children_of x)) (sym is) (put_words t k v h.words comes) }

pub named_ordered : (q : Query) (t : PathTree) (named : List (Key × PathTree)) → IsOrdered q t → NameWords named → IsOrdered q (with_named t named)
named_ordered q t [] h w = h
named_ordered q t (c ∷ cs) h w = named_ordered q (put t (c.0 ∷ []) c.1) cs (put_ordered q t _ c.0 c.1 h w.0 refl) w.1

-- ---- the order

words_cmp : (j k : Key) → integer_of j ≡ None → integer_of k ≡ None → entry_cmp (Null, j) (Null, k) ≡ key_cmp j k
words_cmp j k f g = λ i. key_cmp_by (f i) (g i) j k

in_front : (c : Key × PathTree) (cs : List (Key × PathTree)) → AllByRecursion (λ y. key_cmp c.0 y ≡ Less) (keys_of cs) → AreWords (c ∷ cs)
    → map_of.put entry_cmp (Null, c.0) c.1 (entries_of index.Key cs) ≡ entries_of index.Key (c ∷ cs)
in_front c [] up w = refl
in_front c (d ∷ cs) up w =
    ap (λ o. by_order o (entries_of index.Key (c ∷ d ∷ cs)) (((Null, d.0), c.1) ∷ entries_of index.Key cs) (((Null, d.0), d.1) ∷ map_of.put entry_cmp (Null, c.0) c.1 (entries_of index.Key cs)))
    (words_cmp c.0 d.0 w.0 w.1.0 ∙ up.0)

in_tree : (cs : List (Key × PathTree)) → IsStrictlySortedBy key_cmp (keys_of cs) → AreWords cs → sorted_by index.Key cs ≡ entries_of index.Key cs
unfolding IsStrictlySortedBy
in_tree [] up w = refl
in_tree (c ∷ cs) up w = ap (map_of.put entry_cmp (Null, c.0) c.1) (in_tree cs up.1 w.1) ∙ in_front c cs up.0 w

ordered_shown : (q : Query) (t : PathTree) → IsOrdered q t → entries_of index.Key (children_of t) ≡ entries_shown q t
ordered_shown q t h =
    sym (in_tree (children_of t) (children_sorted t) h.words) ∙ ap (λ x. sorted_by x (children_of t)) (sym h.index) ∙ plain_rows q t h.plain

-- the children in the query's order are those that are shown
pub shown_ordered : (q : Query) (t : PathTree) (w : Option OrderedChildren) → IsInOrder q t w → ordered_in t w ≡ entries_shown q t
shown_ordered q t None h = ordered_shown q t h
shown_ordered q t (Some w) h = sym h.cut.cut

-- the changes from no view, where the rows are read off the tree
pub first_told : (q : Query) (t : PathTree) → IsOrdered q t → placed_changes is_added Added [] (map row_of (ordered_in t None)) ++ Value t ∷ [] ≡ changes q.index None (select q t)
first_told q t h =
    ap (λ (es : Entries). placed_changes is_added Added [] (map row_of es) ++ Value t ∷ []) (shown_ordered q t None h)
    ∙ (λ i. sym (first_rows q.index (rows_of q (children_of t))) i ++ Value (sym (select-whole q t h.plain) i) ∷ [])

-- ---- the child before

last_key-keys : (es : Entries) → last_in (map (λ e. e.0.1) es) ≡ last_key es
last_key-keys [] = refl
last_key-keys (e ∷ []) = refl
last_key-keys (e ∷ d ∷ es) = last_key-keys (d ∷ es)

gt_le : (o : Ordering) → is_gt o ≡ not (is_le o)
gt_le Less = refl
gt_le Equal = refl
gt_le Greater = refl

keys_if : (b : Bool) (x : Entry × PathTree) (es : Entries) → cond b (x.0.1 ∷ map (λ e. e.0.1) es) (map (λ e. e.0.1) es) ≡ map (λ e. e.0.1) (cond b (x ∷ es) es)
keys_if true x es = refl
keys_if false x es = refl

below_words : (k : Key) (cs : List (Key × PathTree)) → integer_of k ≡ None → AreWords cs
    → filter (λ j. is_gt (key_cmp k j)) (keys_of cs) ≡ map (λ e. e.0.1) (filter (λ x. not (is_le (entry_cmp (Null, k) x.0))) (entries_of index.Key cs))
below_words k [] w ws = refl
below_words k (c ∷ cs) w ws =
    let rest = below_words k cs w ws.1 in
    let same : is_gt (key_cmp k c.0) ≡ not (is_le (entry_cmp (Null, k) (Null, c.0))) = ap is_gt (sym (words_cmp k c.0 w ws.0)) ∙ gt_le _ in
    (λ i. cond (same i) (c.0 ∷ rest i) (rest i)) ∙ keys_if (not (is_le (entry_cmp (Null, k) (Null, c.0)))) ((Null, c.0), c.1) _

pub before_words : (k : Key) (cs : List (Key × PathTree)) → integer_of k ≡ None → AreWords cs → last_below (key_cmp k) cs ≡ before (Null, k) (entries_of index.Key cs)
before_words k cs w ws =
    ap last_in (below_words k cs w ws) ∙ last_key-keys (filter (λ x. not (is_le (entry_cmp (Null, k) x.0))) (entries_of index.Key cs))

-- of what is shown the child before can be asked
pub can_ask : (q : Query) (t : PathTree) (w : Option OrderedChildren) → IsInOrder q t w → (k : Key) (v : PathTree) → value_at (entries_shown q t) k ≡ Some v → CanAsk t w (entry q.index (k, v))
can_ask q t None h k v is = (
  ap (λ x. sort_value x v) h.index,
  word_at (children_of t) k v h.words (sym (plain_value q t k h.plain) ∙ is),
  h.words,
)
can_ask q t (Some w) h k v is =
    ap (λ r. has r (entry q.index (k, v))) h.range ∙ (shown_known q t w k v h (ap (λ (es : Entries). value_at es k) (sym h.cut.cut) ∙ is)).1

-- what stood and what stands under each key of a tree in the query's order was shown, and is
pub each_seen : (q : Query) (t u : PathTree) (seen : List Seen) → IsOrdered q t → AllSeen (rows_in_tree index.Key t) (rows_in_tree index.Key u) seen → AreSeen q.index t (entries_shown q u) seen
each_seen q t u seen h all =
    let now : rows_in_tree index.Key u ≡ entries_shown q u = ap (λ x. rows_in_tree x u) (sym h.index) ∙ plain_rows q u h.plain in
    subst (λ (es : Entries). AreSeen q.index t es seen) now (are_seen q.index t (rows_in_tree index.Key t) (rows_in_tree index.Key u) seen all (value_at-children index.Key t))
