-- What is told of one child that changes alone is what is told of all.
use Rattle.std.proofs.Common.{◌≡◌, Bool, true, false, cond, ◌||◌, [], ◌∷◌, ◌++◌, map, refl, sym, ap, ◌∙◌, Option, Some, None}
use Rattle.rt_tree.specs.PathTree.{Key, PathTree, key_eq, key_eq-same, child_of, non_null, put}
use Rattle.rt_tree.specs.Children.{children_of}
use Rattle.rt_order.specs.declared.index.Index.{Index}
use Rattle.rt_order.specs.Entries.{Entry, entry}
use Rattle.rt_query.specs.Queries.{Query, is_filtered}
use Rattle.rt_query.specs.Select.{row_of}
use Rattle.rt_view.specs.declared.change.Kind.{Kind}
use Rattle.rt_view.specs.declared.change.Kind.TheVariants.{Added, Moved, Changed}
use Rattle.rt_view.specs.declared.seen.Told.{Told}
use Rattle.rt_view.specs.Changes.{placed_changes, removals}
use Rattle.rt_view.specs.inside.Given.{change_of, is_given, row_change, told_alone}
use Rattle.rt_view.specs.inside.Windows.{Entries, before, value_at}
use Rattle.rt_view.specs.inside.ViewIndex.{NotesAll, changes_to, entries_shown, gone_at, noted_in, removed_of, rows_in_tree}
use Rattle.rt_view.specs.inside.Telling.{given_of, gone_too, told_in, told_too}
use Rattle.rt_view.proofs.Listed.{IsListed, listed-children, value_at-children}
use Rattle.rt_view.proofs.TellLaws.{given-all, given_of-told, gone_also, gone_nothing, noted_nothing, removed-all, told_also}
use Rattle.rt_view.proofs.TouchLaws.{child_of-put}
use Rattle.rt_view.proofs.TreeLaws.{plain_rows}

-- ---- one child that changes

either : (b : Bool) → (b || false) ≡ false → b ≡ false
either true e = cc
either false e = refl

-- what a query that isn't filtered shows under a key
pub plain_value : (q : Query) (u : PathTree) (k : Key) → is_filtered q ≡ false → value_at (entries_shown q u) k ≡ child_of (children_of u) k
plain_value q u k plain = ap (λ (es : Entries). value_at es k) (sym (plain_rows q u plain)) ∙ value_at-children q.index u k

-- under the key of the child that is put there is that child
pub alone_now : (q : Query) (t u : PathTree) (k : Key) (v : PathTree) → is_filtered q ≡ false → u ≡ put t (k ∷ []) v → value_at (entries_shown q u) k ≡ non_null v
alone_now q t u k v plain is =
    plain_value q u k plain ∙ ap (λ (x : PathTree). child_of (children_of x) k) is ∙ child_of-put t k k v
    ∙ ap (λ b. cond b (non_null v) (child_of (children_of t) k)) (key_eq-same k)

-- and under the others what there was
pub alone_notes : (q : Query) (t u : PathTree) (k : Key) (v : PathTree) → is_filtered q ≡ false → u ≡ put t (k ∷ []) v → NotesAll q.index (k ∷ []) t (entries_shown q u)
alone_notes q t u k v plain is j e = (
  refl,
  plain_value q u j plain ∙ ap (λ (x : PathTree). child_of (children_of x) j) is ∙ child_of-put t k j v
      ∙ ap (λ b. cond b (non_null v) (child_of (children_of t) j)) (either (key_eq k j) e) ∙ sym (value_at-children q.index t j),
)

-- the changes of a kind of one child
given_one : (kind : Kind) (index : Index) (e : Entry) (told : Told) → given_of kind index ((e, told) ∷ []) ≡ row_change kind index told.old (record { key = e.1; value = told.new }) told.after
given_one kind index e told =
    elim (is_given kind index told.old told.new) as (λ b. map (λ (x : Entry × Told). change_of kind x.0.1 x.1.new x.1.after) (cond b ((e, told) ∷ []) []) ≡ cond b (change_of kind e.1 told.new told.after ∷ []) []) [
      | true ↦ refl
      | false ↦ refl
    ]

-- what is told of the one key, as of noted ones
told_noted : (index : Index) (k : Key) (shown : Entries) (n o : Option PathTree) → told_alone index k o n shown
    ≡ map removed_of (gone_too index k (gone_at n o) []) ++ given_of Added index (told_too index k o shown n [])
    ++ given_of Moved index (told_too index k o shown n []) ++ given_of Changed index (told_too index k o shown n [])
told_noted index k shown None None = refl
told_noted index k shown None (Some t) = refl
told_noted index k shown (Some v) o =
    let one : (kind : Kind) → row_change kind index o (record { key = k; value = v }) (before (entry index (k, v)) shown) ≡ given_of kind index (told_too index k o shown (Some v) []) =
    λ kind. sym (given_one kind index (entry index (k, v)) (record { old = o; new = v; after = before (entry index (k, v)) shown })) in
    λ i. one Added i ++ one Moved i ++ one Changed i

-- is what is told of all rows, where nothing differs under the other keys
pub alone_all : (index : Index) (t : PathTree) (shown : Entries) (k : Key) (o n : Option PathTree) → IsListed index shown → NotesAll index (k ∷ []) t shown
    → child_of (children_of t) k ≡ o → value_at shown k ≡ n → told_alone index k o n shown ≡ changes_to index t shown
alone_all index t shown k o n listed notes was now =
    let rows = rows_in_tree index t in
    let removed : map removed_of (gone_too index k (gone_at n o) []) ≡ removals (map row_of rows) (map row_of shown) =
    (λ i. map removed_of (gone_too index k (gone_at (sym now i) (sym (value_at-children index t k ∙ was) i)) (sym (gone_nothing shown rows) i)))
    ∙ ap (map removed_of) (gone_also index [] k shown rows (listed-children index t)) ∙ removed-all index t (k ∷ []) shown (listed-children index t) notes in
    let told : told_too index k o shown n [] ≡ told_in t shown (noted_in (k ∷ []) shown) =
    (λ i. told_too index k (sym was i) shown (sym now i) (told_in t shown (sym (noted_nothing shown) i))) ∙ told_also index [] k t shown listed in
    let all : (kind : Kind) → given_of kind index (told_too index k o shown n []) ≡ placed_changes (is_given kind index) (change_of kind) (map row_of rows) (map row_of shown) =
    λ kind. ap (given_of kind index) told ∙ given_of-told kind index t shown (noted_in (k ∷ []) shown) ∙ given-all kind index t (k ∷ []) shown listed notes in
    let each : map removed_of (gone_too index k (gone_at n o) []) ++ given_of Added index (told_too index k o shown n [])
    ++ given_of Moved index (told_too index k o shown n []) ++ given_of Changed index (told_too index k o shown n [])
    ≡ changes_to index t shown =
    λ i. removed i ++ all Added i ++ all Moved i ++ all Changed i in
    told_noted index k shown n o ∙ each
