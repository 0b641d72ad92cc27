use Rattle.std.proofs.Common.{◌≡◌, true, sym, subst, ◌∙◌, rules}
use Rattle.std.specs.Option.{option_copied}
use Rattle.std.proofs.lemmas.Result.{IfOk-weaker}
use Rattle.rt_tree.specs.PathTree.{PathTree, child_of}
use Rattle.rt_tree.specs.Children.{children_of}
use Rattle.rt_view.specs.inside.Differences.{stays}
use Rattle.rt_view.specs.inside.Telling.{KeepsSeen, kept_by}
use Rattle.rt_view.specs.inside.ViewIndex.{IsWindowOf}
use Rattle.rt_view.specs.inside.Windows.{value_at, shown_in}
use Rattle.rt_view.proofs.CrossLaws.{listed_left, shown_known}
use Rattle.rt_view.proofs.DifferLaws.{put_there, stood}
use Rattle.rt_view.proofs.SeenLaws.{keeps_turned}
use Rattle.rt_view.proofs.BesideLaws.{touched_window}
use Rattle.rt_view.proofs.touch.touch_child.Goals as goal

pub returns-then-stays-clause-kept : goal.returns-then-stays-clause-kept
returns-then-stays-clause-kept c =
    let t : PathTree = c.args.known.now in
    let k = c.args.key.now in
    let v : PathTree = c.args.child.now in
    let old : option_copied c.as_ref-was.result ≡ child_of (children_of t) k = search rules in
    let same : stays (option_copied c.as_ref-was.result) v ≡ true = search rules in
    subst (λ (u : PathTree). IsWindowOf c.args.query.now u c.args.window.now)
    (sym (c.in_ok-old.ensures.put ∙ put_there t k v (sym old ∙ stood (option_copied c.as_ref-was.result) v same)))
    c.requires.kept

pub returns-clause-kept : goal.returns-clause-kept
returns-clause-kept c =
    let old : option_copied c.as_ref-was.result ≡ child_of (children_of c.args.known.now) c.args.key.now = search rules in
    IfOk-weaker c.note_turned.result _ _
    (λ x told. touched_window c.args.query.now c.args.known.now c.put_child.new.tree c.args.key.now c.args.child.now (option_copied c.as_ref-was.result)
    c.args.window.now c.take_out.new.window c.bring_in.new.window c.requires.kept old
    (record { limit = c.in_ok-left.ensures.limit; range = c.in_ok-left.ensures.range; known = c.in_ok-left.ensures.known; cut = c.in_ok-left.ensures.taken })
    (record { limit = c.in_ok-came.ensures.limit; range = c.in_ok-came.ensures.range; known = c.in_ok-came.ensures.known; cut = c.in_ok-came.ensures.put })
    c.in_ok-old.ensures.put)
    c.note_turned.ensures

pub returns-clause-seen : goal.returns-clause-seen
returns-clause-seen c =
    let q = c.args.query.now in
    let t : PathTree = c.args.known.now in
    let k = c.args.key.now in
    let before = c.args.window.now in
    let mid = c.take_out.new.window in
    let after = c.bring_in.new.window in
    let old : option_copied c.as_ref-was.result ≡ child_of (children_of t) k = search rules in
    let leaves = c.in_ok-left.ensures.leaves t c.requires.kept (sym old) in
    let listed = listed_left q t k (option_copied c.as_ref-was.result) c.args.child.now before mid c.requires.kept c.in_ok-left.ensures.taken in
    let comes = c.in_ok-came.ensures.comes listed leaves.stands in
    IfOk-weaker c.note_turned.result _ _
    (λ x told f h. subst (KeepsSeen f (value_at (shown_in after))) (sym told)
    (keeps_turned f q k (option_copied c.as_ref-was.result) c.args.child.now c.in_ok-left.left c.in_ok-came.came (shown_in before) (shown_in mid) (shown_in after)
    leaves comes (λ v g. old ∙ (shown_known q t before k v c.requires.kept g).0) (kept_by c.args.noted.now.items) h))
    c.note_turned.ensures
