use Rattle.std.proofs.Common.{◌≡◌, ◌++◌, map, ◌∙◌}
use Rattle.std.proofs.lemmas.Result.{IfOk-weaker}
use Rattle.rt_query.specs.Select.{row_of}
use Rattle.rt_view.specs.declared.change.Kind.{Kind}
use Rattle.rt_view.specs.declared.change.Kind.TheVariants.{Added, Moved, Changed}
use Rattle.rt_view.specs.Changes.{removals, placed_changes}
use Rattle.rt_view.specs.inside.Given.{change_of, is_given}
use Rattle.rt_view.specs.inside.ViewIndex.{entries_shown, noted_in, removed_of, rows_in_tree}
use Rattle.rt_view.specs.inside.Telling.{given_of, keys_in}
use Rattle.rt_view.proofs.Listed.{listed-children, listed-entries}
use Rattle.rt_view.proofs.TellLaws.{given-all, given_of-told, removed-all}
use Rattle.rt_view.proofs.difference.noted_changes.Goals as goal

pub returns : goal.returns
returns c =
    let q = c.args.query.now in
    let shown = entries_shown q c.args.known.now in
    let listed = listed-entries q c.args.known.now in
    let ks = keys_in c.args.seen.now in
    let new = map row_of shown in
    let none = c.none-told.ensures in
    IfOk-weaker c.joined.result _ _
    (λ changes is t seen.
    let old = map row_of (rows_in_tree q.index t) in
    let all : (k : Kind) → given_of k c.index.result.now c.as_slice-2.result.now ≡ placed_changes (is_given k q.index) (change_of k) old new =
    λ k. (λ i. given_of k (c.index.ensures i) ((c.as_slice-2.ensures.value ∙ c.in_ok-found.ensures.now t seen.each) i)) ∙ given_of-told k q.index t shown (noted_in ks shown) ∙ given-all k q.index t ks shown listed seen.notes in
    let removed : c.push_removed.new.changes.items ≡ removals old new =
    c.in_ok-push_removed.ensures ∙ (λ i. none.first i ++ map removed_of ((c.as_slice.ensures.value ∙ c.in_ok-found.ensures.gone t seen.each) i)) ∙ removed-all q.index t ks shown (listed-children q.index t) seen.notes in
    let added = c.in_ok-push_told.ensures.added ∙ (λ i. removed i ++ all Added i) in
    let moved = c.in_ok-push_told.ensures.moved ∙ (λ i. none.moved i ++ all Moved i) in
    let changed = c.in_ok-push_told.ensures.changed ∙ (λ i. none.changed i ++ all Changed i) in
    is ∙ (λ i. added i ++ moved i ++ changed i)) c.joined.ensures
