use Rattle.std.proofs.Common.{◌≡◌, Some, IfOk, ap, sym, subst, ◌∙◌}
use Rattle.rt_tree.specs.PathTree.{Key, child_of}
use Rattle.rt_tree.specs.Children.{children_of}
use Rattle.rt_query.specs.Select.{select}
use Rattle.rt_view.specs.Changes.{changes}
use Rattle.rt_view.specs.inside.Windows.{Entries, value_at, shown_in}
use Rattle.rt_view.specs.inside.ViewIndex.{rows_in_tree, shown_by}
use Rattle.rt_view.specs.inside.Telling.{AreSeen}
use Rattle.rt_view.proofs.Listed.{value_at-children}
use Rattle.rt_view.proofs.SeenLaws.{are_seen}
use Rattle.rt_view.proofs.TreeLaws.{filtered_object, rows_in_tree-shown, shown_by-shown}
use Rattle.rt_view.proofs.touch.touch_filtered.Goals as goal

pub tell_filtered-requires-clause-object : goal.tell_filtered-requires-clause-object
tell_filtered-requires-clause-object c = filtered_object c.args.query.now c.args.known.now c.args.tree.now c.requires.filtered c.requires.tree

pub tell_filtered-requires-clause-seen : goal.tell_filtered-requires-clause-seen
tell_filtered-requires-clause-seen c =
    let q = c.args.query.now in
    let t = c.args.tree.now in
    let w = c.touch_all.new.window in
    let same : rows_in_tree q.index t ≡ shown_in c.args.window.now =
    ap (rows_in_tree q.index) c.requires.tree ∙ rows_in_tree-shown q c.args.known.now ∙ c.requires.kept.cut.cut in
    let of_tree : (k : Key) → value_at (shown_in c.args.window.now) k ≡ child_of (children_of t) k =
    λ k. ap (λ (es : Entries). value_at es k) (sym same) ∙ value_at-children q.index t k in
    let seen = subst (AreSeen q.index t (shown_in w)) (sym c.as_slice.ensures.value) (are_seen q.index t (shown_in c.args.window.now) (shown_in w) _ c.in_ok-seen.ensures.seen of_tree) in
    subst (λ (es : Entries). AreSeen q.index t es c.as_slice.result.now) (sym c.in_ok-seen.ensures.kept.cut.cut) seen

pub returns-clause-changes : goal.returns-clause-changes
returns-clause-changes c =
    let q = c.args.query.now in
    let shown : shown_by q.index c.args.tree.now ≡ select q c.args.known.now =
    ap (shown_by q.index) c.requires.tree ∙ shown_by-shown q c.args.known.now in
    subst (λ v. IfOk c.tell_filtered.result (λ list. list ≡ changes q.index (Some v) (select q c.touch_all.new.known))) shown c.tell_filtered.ensures.changes
