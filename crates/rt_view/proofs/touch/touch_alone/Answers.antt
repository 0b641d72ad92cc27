use Rattle.std.proofs.Common.{◌≡◌, rules}
use Rattle.std.specs.Option.{option_copied}
use Rattle.std.proofs.lemmas.Result.{IfOk-weaker}
use Rattle.rt_tree.specs.PathTree.{PathTree, child_of, leaf_of}
use Rattle.rt_tree.specs.Children.{children_of}
use Rattle.rt_view.proofs.OrderLaws.{put_ordered}
use Rattle.rt_view.proofs.touch.touch_alone.Goals as goal

pub tell_alone-requires-clause-kept : goal.tell_alone-requires-clause-kept
tell_alone-requires-clause-kept c =
    put_ordered c.args.query.now c.args.known.now c.put_child.new.tree c.args.key.now c.args.child.now c.requires.kept c.requires.word c.in_ok-old.ensures.put

pub returns-clause-kept : goal.returns-clause-kept
returns-clause-kept c =
    IfOk-weaker c.tell_alone.result _ _
    (λ list told. put_ordered c.args.query.now c.args.known.now c.put_child.new.tree c.args.key.now c.args.child.now c.requires.kept c.requires.word c.in_ok-old.ensures.put)
    c.tell_alone.ensures

pub returns-clause-changes : goal.returns-clause-changes
returns-clause-changes c =
    let t : PathTree = c.args.known.now in
    let old : option_copied c.as_ref.result ≡ child_of (children_of t) c.args.key.now = search rules in
    let leaf : leaf_of t ≡ option_copied c.as_ref-2.result = search rules in
    IfOk-weaker c.tell_alone.result _ _ (λ list told. told t c.in_ok-old.ensures.put old leaf) c.tell_alone.ensures
