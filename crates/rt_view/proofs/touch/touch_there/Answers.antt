use Rattle.std.proofs.Common.{◌≡◌, true, ap, sym, subst, ◌∙◌, Option, rules}
use Rattle.std.specs.Option.{option_copied}
use Rattle.std.proofs.lemmas.Result.{IfOk-weaker}
use Rattle.rt_tree.specs.PathTree.{PathTree, child_of, non_null}
use Rattle.rt_tree.specs.Children.{children_of}
use Rattle.rt_view.specs.inside.Differences.{stays}
use Rattle.rt_view.specs.inside.ViewIndex.{stands_in}
use Rattle.rt_view.specs.inside.Telling.{KeepsSeen, kept_by, seen_too}
use Rattle.rt_view.proofs.DifferLaws.{put_there, stood}
use Rattle.rt_view.proofs.SeenLaws.{keeps_stands}
use Rattle.rt_view.proofs.touch.touch_there.Goals as goal

pub returns-then-stays-clause-seen : goal.returns-then-stays-clause-seen
returns-then-stays-clause-seen c f h =
    let t : PathTree = c.args.known.now in
    let k = c.args.key.now in
    let v : PathTree = c.args.child.now in
    let old : option_copied c.as_ref-was.result ≡ child_of (children_of t) k = search rules in
    let same : stays (option_copied c.as_ref-was.result) v ≡ true = search rules in
    subst (λ (u : PathTree). KeepsSeen f (stands_in u) (kept_by c.args.noted.now.items))
    (sym (c.in_ok-old.ensures.put ∙ put_there t k v (sym old ∙ stood (option_copied c.as_ref-was.result) v same)))
    h

pub returns-clause-seen : goal.returns-clause-seen
returns-clause-seen c =
    let t : PathTree = c.args.known.now in
    let u : PathTree = c.put_child.new.tree in
    let k = c.args.key.now in
    let v = c.args.child.now in
    let es = kept_by c.args.noted.now.items in
    let old : option_copied c.as_ref-was.result ≡ child_of (children_of t) k = search rules in
    IfOk-weaker c.note_stands.result _ _
    (λ x told f h. subst (KeepsSeen f (stands_in u)) (sym (told ∙ ap (λ (o : Option PathTree). seen_too k o (non_null v) es) old))
    (keeps_stands f t u k v es c.in_ok-old.ensures.put h))
    c.note_stands.ensures
