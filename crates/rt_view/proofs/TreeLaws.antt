-- What is shown, as a tree and as rows.
use Rattle.std.specs.Prelude.{◌==◌}
use Rattle.std.proofs.Common.{◌≡◌, Bool, true, false, cond, not, ◌&&◌, length, List, [], ◌∷◌, ◌++◌, map, refl, sym, ap, subst, ◌∙◌, arith, eqb-true, append-nil, Option, Some, None}
use Rattle.std.specs.Option.{option_eq}
use Rattle.std.specs.Cmp.Lexicographic.{pointwise}
use Rattle.rt_tree.specs.Leaf.{LeafValue}
use Rattle.rt_tree.specs.PathTree.{Key, PathTree, path_eq-same, leaf_of, leaf_at-of_leaf, leaf_at-object-root, leaf_of_root, null, is_null, is_null-null, non_null, child_of, object, put, leaf_at-put, key_eq, key_eq-is}
use Rattle.rt_tree.specs.Children.{children_of, child_of-children_of}
use Rattle.rt_tree.specs.TreeEq.{leaf_eq}
use Rattle.rt_order.specs.declared.index.Index.{Index}
use Rattle.rt_query.specs.declared.row.Row.{Row}
use Rattle.rt_query.specs.Queries.{Query, is_filtered}
use Rattle.rt_query.specs.Select.{Shown, row_of, rows_of, select, as_children, tree_by, tree_of}
use Rattle.rt_query.specs.inside.ShownView.{IsShown}
use Rattle.rt_query.specs.QueryEq.{shown_eq, row_eq}
use Rattle.rt_query.specs.laws.QueryEq.{shown_eq_tells}
use Rattle.rt_query.specs.laws.Select.{object-parts, object-sorted_by, select-whole}
use Rattle.rt_query.proofs.ShownLaws.{child_of-as_children, row_at-tree}
use Rattle.rt_query.proofs.RowLaws.{shown_filtered, shown_whole}
use Rattle.rt_view.specs.declared.change.Change.{Change}
use Rattle.rt_view.specs.declared.view.ViewIndex.{ViewIndex}
use Rattle.rt_view.specs.declared.view.ViewIndex.TheVariants.{Ordered, Plain, Filtered}
use Rattle.rt_view.specs.declared.change.Change.TheVariants.{Value}
use Rattle.rt_view.specs.Changes.{row_changes, changes, replay, by_keys}
use Rattle.rt_view.specs.inside.Windows.{Entries, value_at}
use Rattle.rt_view.specs.inside.ViewIndex.{IsInOrder, IsKept, Notes, SetsChild, SetsNoted, changes_to, entries_shown, is_noted, leaf_in, rows_in_tree, shown_by, tree_in, window_in}
use Rattle.rt_view.proofs.ReplayLaws.{row_at-by_keys, replay-row_changes}
use Rattle.rt_view.proofs.TurnLaws.{row_changes-same}
use Rattle.rt_view.proofs.Listed.{IsListed, same_listed, listed-children, value_at-children, listed-entries}
use Rattle.rt_view.proofs.TellLaws.{note_other, note_own}
use Rattle.rt_view.proofs.TouchLaws.{child_of-put}

-- what a query shows is a view
pub select-shown : (q : Query) (t : PathTree) → IsShown (leaf_in q t) (rows_of q (children_of t)) (tree_of (select q t))
select-shown q t =
    let rows = rows_of q (children_of t) in
    elim (is_filtered q) as (λ b. is_filtered q ≡ b → IsShown (cond b None (leaf_of t)) rows (tree_by (cond b None (leaf_of t)) rows)) [
      | true ↦ λ e. shown_filtered q t
      | false ↦ λ e. let whole = shown_whole q t e in subst (λ u. IsShown (leaf_of t) rows u) whole.whole whole
    ] refl

-- ---- read off the tree

-- the children of the tree that is shown are those that are shown
pub rows_in_tree-shown : (q : Query) (t : PathTree) → rows_in_tree q.index (tree_of (select q t)) ≡ entries_shown q t
rows_in_tree-shown q t =
    let tree = tree_of (select q t) in
    same_listed q.index (rows_in_tree q.index tree) (entries_shown q t) (listed-children q.index tree) (listed-entries q t)
    (λ k. value_at-children q.index tree k ∙ row_at-tree (leaf_in q t) (rows_of q (children_of t)) tree k (select-shown q t))

leaf_of-tree_by : (leaf : Option LeafValue) (rows : List Row) → leaf_of (tree_by leaf rows) ≡ leaf
leaf_of-tree_by None rows = leaf_at-object-root (as_children rows)
leaf_of-tree_by (Some l) rows = leaf_at-of_leaf l [] ∙ ap (λ b. cond b (Some l) None) (path_eq-same [])

pub shown_by-shown : (q : Query) (t : PathTree) → shown_by q.index (tree_of (select q t)) ≡ select q t
shown_by-shown q t =
    let leaf = leaf_of-tree_by (leaf_in q t) (rows_of q (children_of t)) in
    let rows = rows_in_tree-shown q t in
    λ i. record { leaf = leaf i; rows = map row_of (rows i) }

-- what is kept, as a view
pub kept_shown : (q : Query) (t tree u : PathTree) (leaf : Option LeafValue) (rows : List Row) → tree ≡ tree_of (select q t)
    → u ≡ tree → leaf ≡ leaf_of tree → rows ≡ map row_of (entries_shown q t) → IsShown leaf rows u × (record { leaf = leaf; rows = rows } ≡ select q t)
kept_shown q t tree u leaf rows kept is of_tree same_rows =
    let same_leaf : leaf ≡ leaf_in q t = of_tree ∙ ap leaf_of kept ∙ leaf_of-tree_by (leaf_in q t) (rows_of q (children_of t)) in (
      subst (λ l. IsShown l rows u) (sym same_leaf) (subst (λ rs. IsShown (leaf_in q t) rs u) (sym same_rows) (subst (λ x. IsShown (leaf_in q t) (rows_of q (children_of t)) x) (sym (is ∙ kept)) (select-shown q t))),
      λ i. record { leaf = same_leaf i; rows = same_rows i },
    )

-- a tree is what is read off it
pub tree_of-shown_by : (index : Index) (t : PathTree) → tree_of (shown_by index t) ≡ t
tree_of-shown_by index t =
    elim (leaf_of t) as (λ o. leaf_of t ≡ o → tree_by o (map row_of (rows_in_tree index t)) ≡ t) [
      | None ↦ λ e. object-sorted_by index t e
      | Some l ↦ λ e. sym (leaf_of_root t l e)
    ] refl

-- ---- whether anything differs

-- no changes of the rows mean no difference
pub same_rows : (index : Index) (old new : Entries) → IsListed index old → IsListed index new → row_changes index (map row_of old) (map row_of new) ≡ [] → old ≡ new
same_rows index old new h g none =
    same_listed index old new h g
    (row_at-by_keys (map row_of old) (map row_of new) (sym (replay_none (row_changes index (map row_of old) (map row_of new)) none) ∙ replay-row_changes index (map row_of old) (map row_of new) g.once))
  where
    replay_none : (cs : List Change) → cs ≡ [] → replay cs (by_keys (map row_of old)) ≡ by_keys (map row_of old)
    replay_none cs e = ap (λ ds. replay ds (by_keys (map row_of old))) e

-- nothing differs where no row changed and the leaf is the same
pub same_view : (q : Query) (known tree : PathTree) → changes_to q.index tree (entries_shown q known) ≡ []
    → shown_eq (shown_by q.index tree) (select q known) ≡ option_eq leaf_eq (leaf_of tree) (leaf_in q known)
same_view q known tree none =
    let rows : map row_of (rows_in_tree q.index tree) ≡ rows_of q (children_of known) =
    ap (map row_of) (same_rows q.index (rows_in_tree q.index tree) (entries_shown q known) (listed-children q.index tree) (listed-entries q known) none) in
    ap (λ rs. option_eq leaf_eq (leaf_of tree) (leaf_in q known) && pointwise row_eq rs (rows_of q (children_of known))) rows
    ∙ ap (λ b. option_eq leaf_eq (leaf_of tree) (leaf_in q known) && b) (same_lists (rows_of q (children_of known)))
    ∙ and_true (option_eq leaf_eq (leaf_of tree) (leaf_in q known))
  where
    same_lists : (rs : List Row) → pointwise row_eq rs rs ≡ true
    same_lists rs = (shown_eq_tells (record { leaf = None; rows = rs }) (record { leaf = None; rows = rs })).1 refl

    and_true : (b : Bool) → (b && true) ≡ b
    and_true true = refl
    and_true false = refl

-- and something does where a row changed
pub other_view : (q : Query) (known tree : PathTree) → (changes_to q.index tree (entries_shown q known) ≡ [] → ⊥)
    → shown_eq (shown_by q.index tree) (select q known) ≡ false
other_view q known tree some =
    elim (shown_eq (shown_by q.index tree) (select q known)) as (λ b. shown_eq (shown_by q.index tree) (select q known) ≡ b → b ≡ false) [
      | true ↦ λ e.
          let same : shown_by q.index tree ≡ select q known = (shown_eq_tells (shown_by q.index tree) (select q known)).0 e in
          let rows : map row_of (rows_in_tree q.index tree) ≡ rows_of q (children_of known) = ap (λ (v : Shown). v.rows) same in
          absurd (some (ap (λ rs. row_changes q.index rs (rows_of q (children_of known))) rows ∙ row_changes-same q.index (rows_of q (children_of known)) (listed-entries q known).once))
      | false ↦ λ e. refl
    ] refl

not_empty : (d : Change) (ds : List Change) → (length (d ∷ ds) == 0) ≡ false
not_empty d ds = elim (length (d ∷ ds) == 0) as (λ b. (length (d ∷ ds) == 0) ≡ b → b ≡ false) [
  | true ↦ λ e. absurd (omega (arith, eqb-true (length (d ∷ ds)) 0 e))
  | false ↦ λ e. refl
] refl

some_list : (d : Change) (ds : List Change) → d ∷ ds ≡ [] → ⊥
some_list d ds f = absurd (omega (arith, ap (λ (xs : List Change). length xs) f))

-- the changes, where nothing differs, and where something does
pub told_same : (q : Query) (known tree : PathTree) → shown_eq (shown_by q.index tree) (select q known) ≡ true
    → changes_to q.index tree (entries_shown q known) ≡ changes q.index (Some (shown_by q.index tree)) (select q known)
told_same q known tree e =
    sym (append-nil (row_changes q.index (map row_of (rows_in_tree q.index tree)) (rows_of q (children_of known))))
    ∙ ap (λ b. row_changes q.index (map row_of (rows_in_tree q.index tree)) (rows_of q (children_of known)) ++ cond b [] (Value (tree_of (select q known)) ∷ [])) (sym e)

pub told_other : (q : Query) (known tree : PathTree) → shown_eq (shown_by q.index tree) (select q known) ≡ false
    → changes_to q.index tree (entries_shown q known) ++ Value (tree_of (select q known)) ∷ [] ≡ changes q.index (Some (shown_by q.index tree)) (select q known)
told_other q known tree e =
    ap (λ b. row_changes q.index (map row_of (rows_in_tree q.index tree)) (rows_of q (children_of known)) ++ cond b [] (Value (tree_of (select q known)) ∷ [])) (sym e)

-- where nothing differs the tree is the one that is shown
pub tree_same : (q : Query) (known tree : PathTree) → shown_eq (shown_by q.index tree) (select q known) ≡ true → tree ≡ tree_of (select q known)
tree_same q known tree e = sym (tree_of-shown_by q.index tree) ∙ ap tree_of ((shown_eq_tells (shown_by q.index tree) (select q known)).0 e)

-- a filtered query shows no leaf
pub filtered_leaf : (q : Query) (t : PathTree) → is_filtered q ≡ true → leaf_in q t ≡ None
filtered_leaf q t filtered = ap (λ b. cond b None (leaf_of t)) filtered

pub filtered_object : (q : Query) (t u : PathTree) → is_filtered q ≡ true → u ≡ tree_of (select q t) → leaf_of u ≡ None
filtered_object q t u filtered is = ap leaf_of is ∙ leaf_of-tree_by (leaf_in q t) (rows_of q (children_of t)) ∙ filtered_leaf q t filtered

-- so nothing differs where no row changed
pub filtered_same : (q : Query) (known tree : PathTree) (cs : List Change) → is_filtered q ≡ true → leaf_of tree ≡ None
    → cs ≡ changes_to q.index tree (entries_shown q known) → (length cs == 0) ≡ shown_eq (shown_by q.index tree) (select q known)
filtered_same q known tree [] filtered object is =
    (λ i. option_eq leaf_eq (sym object i) (sym (filtered_leaf q known filtered) i)) ∙ sym (same_view q known tree (sym is))
filtered_same q known tree (d ∷ ds) filtered object is = not_empty d ds ∙ sym (other_view q known tree (λ f. some_list d ds (is ∙ f)))

-- where the query isn't filtered: no row changed, and the leaf is the same
pub plain_same : (q : Query) (known tree : PathTree) (cs : List Change) (leaf : Option LeafValue) → is_filtered q ≡ false
    → cs ≡ changes_to q.index tree (entries_shown q known) → leaf_of tree ≡ leaf
    → ((length cs == 0) && option_eq leaf_eq leaf (leaf_of known)) ≡ shown_eq (shown_by q.index tree) (select q known)
plain_same q known tree cs leaf plain is old = at cs is
  where
    plain_leaf : leaf_in q known ≡ leaf_of known
    plain_leaf = ap (λ b. cond b None (leaf_of known)) plain

    at : (ds : List Change) → ds ≡ changes_to q.index tree (entries_shown q known)
        → ((length ds == 0) && option_eq leaf_eq leaf (leaf_of known)) ≡ shown_eq (shown_by q.index tree) (select q known)
    at [] e = (λ i. option_eq leaf_eq (sym old i) (sym plain_leaf i)) ∙ sym (same_view q known tree (sym e))
    at (d ∷ ds) e =
        ap (λ b. b && option_eq leaf_eq leaf (leaf_of known)) (not_empty d ds) ∙ sym (other_view q known tree (λ f. some_list d ds (e ∙ f)))

-- what is kept as a tree of its own, or the known one, is what is shown
pub kept_tree : (q : Query) (t : PathTree) (kept : ViewIndex) → IsKept q t kept → tree_in t kept ≡ tree_of (select q t)
kept_tree q t Ordered h = sym (select-whole q t h.plain)
kept_tree q t (Plain w) h = sym (select-whole q t h.1)
kept_tree q t (Filtered w u) h = h.2

-- and in the query's order
pub kept_order : (q : Query) (t : PathTree) (kept : ViewIndex) → IsKept q t kept → IsInOrder q t (window_in kept)
kept_order q t Ordered h = h
kept_order q t (Plain w) h = h.0
kept_order q t (Filtered w u) h = h.0

-- what a query that isn't filtered shows
pub plain_rows : (q : Query) (t : PathTree) → is_filtered q ≡ false → rows_in_tree q.index t ≡ entries_shown q t
plain_rows q t plain = ap (rows_in_tree q.index) (sym (select-whole q t plain)) ∙ rows_in_tree-shown q t

pub plain_shown : (q : Query) (t : PathTree) → is_filtered q ≡ false → shown_by q.index t ≡ select q t
plain_shown q t plain = ap (shown_by q.index) (sym (select-whole q t plain)) ∙ shown_by-shown q t

-- ---- the tree of what is shown now

-- children that are what is shown, and no leaf
pub tree_of_children : (q : Query) (known tree : PathTree) → leaf_in q known ≡ None → leaf_of tree ≡ None
    → ((k : Key) → child_of (children_of tree) k ≡ value_at (entries_shown q known) k) → tree ≡ tree_of (select q known)
tree_of_children q known tree no_leaf root same =
    let rows = rows_of q (children_of known) in
    sym (ap (λ l. tree_by l rows) no_leaf
    ∙ object-parts tree (as_children rows) root (λ k. child_of-as_children rows k ∙ sym (same k) ∙ child_of-children_of tree k))

-- the noted children were set, and the others are as they were
pub set_all : (q : Query) (ks : List Key) (new : Entries) (t a b : PathTree) → Notes [] ks (rows_in_tree q.index t) new → ((k : Key) → child_of (children_of a) k ≡ child_of (children_of t) k)
    → SetsNoted ks new (children_of a) (children_of b) → (k : Key) → child_of (children_of b) k ≡ value_at new k
set_all q ks new t a b notes start set k =
    set k ∙ elim (is_noted ks k) as (λ n. is_noted ks k ≡ n → cond n (value_at new k) (child_of (children_of a) k) ≡ value_at new k) [
      | true ↦ λ e. refl
      | false ↦ λ e. start k ∙ sym (value_at-children q.index t k) ∙ sym ((notes k e).1)
    ] refl

-- a child is put into a tree of children
pub leaf_of-put : (t : PathTree) (k : Key) (u : PathTree) → leaf_of t ≡ None → leaf_of (put t (k ∷ []) u) ≡ None
leaf_of-put t k u none =
    leaf_at-put t (k ∷ []) u [] ∙ ap (λ o. cond (not (is_null u) && true) None o) none
    ∙ either_way (not (is_null u) && true) None
  where
    either_way : (b : Bool) (o : Option LeafValue) → cond b o o ≡ o
    either_way true o = refl
    either_way false o = refl

pub put_sets : (t u : PathTree) (k : Key) (v : PathTree) (o : Option PathTree) → u ≡ put t (k ∷ []) v → non_null v ≡ o → SetsChild k o (children_of t) (children_of u)
put_sets t u k v o is there j = ap (λ (x : PathTree). child_of (children_of x) j) is ∙ child_of-put t k j v ∙ ap (λ c. cond (key_eq k j) c (child_of (children_of t) j)) there

pub full : (v : PathTree) → is_null v ≡ false → non_null v ≡ Some v
full v e = ap (λ b. cond b None (Some v)) e

pub empty : (v : PathTree) → v ≡ null → non_null v ≡ None
empty v e = ap non_null e ∙ ap (λ b. cond b None (Some null)) is_null-null

pub set_more : (ks : List Key) (k : Key) (new : Entries) (a b c : PathTree) → SetsNoted ks new (children_of a) (children_of b) → SetsChild k (value_at new k) (children_of b) (children_of c)
    → SetsNoted (ks ++ k ∷ []) new (children_of a) (children_of c)
set_more ks k new a b c set more j =
    more j ∙ ap (cond (key_eq k j) (value_at new k)) (set j)
    ∙ elim (key_eq k j) as (λ e. key_eq k j ≡ e → cond e (value_at new k) (cond (is_noted ks j) (value_at new j) (child_of (children_of a) j)) ≡ cond (is_noted (ks ++ k ∷ []) j) (value_at new j) (child_of (children_of a) j)) [
      | true ↦ λ e.
          let same = key_eq-is k j e in
          ap (value_at new) same ∙ sym (ap (λ n. cond n (value_at new j) (child_of (children_of a) j)) (ap (is_noted (ks ++ k ∷ [])) (sym same) ∙ note_own ks k))
      | false ↦ λ e. ap (λ n. cond n (value_at new j) (child_of (children_of a) j)) (sym (note_other ks k j e))
    ] refl
