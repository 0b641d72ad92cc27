use Rattle.std.proofs.Common.{◌≡◌, Some, ap, sym, subst, ◌∙◌, rules}
use Rattle.std.specs.Option.{option_copied}
use Rattle.std.proofs.lemmas.Result.{IfOk-weaker}
use Rattle.rt_tree.specs.PathTree.{PathTree, leaf_of}
use Rattle.rt_query.specs.Select.{select}
use Rattle.rt_view.specs.Changes.{changes}
use Rattle.rt_view.specs.inside.ViewIndex.{IsOrdered, entries_shown}
use Rattle.rt_view.specs.inside.Telling.{AreSeen}
use Rattle.rt_view.proofs.OrderLaws.{each_seen, named_ordered}
use Rattle.rt_view.proofs.SeenLaws.{all_new}
use Rattle.rt_view.proofs.TreeLaws.{plain_shown}
use Rattle.rt_view.proofs.touch.touch_ordered.Goals as goal

pub tell_plain-requires-clause-order : goal.tell_plain-requires-clause-order
tell_plain-requires-clause-order c =
    subst (IsOrdered c.args.query.now) (sym c.in_ok-seen.ensures.put) (named_ordered c.args.query.now c.args.known.now c.args.named.now c.requires.kept c.requires.words)

pub tell_plain-requires-clause-seen : goal.tell_plain-requires-clause-seen
tell_plain-requires-clause-seen c =
    let q = c.args.query.now in
    let u : PathTree = c.touch_each.new.known in
    let seen = subst (AreSeen q.index c.args.known.now (entries_shown q u)) (sym c.as_slice.ensures.value) (each_seen q c.args.known.now u _ c.requires.kept c.in_ok-seen.ensures.seen) in
    all_new c.args.known.now (entries_shown q u) c.as_slice.result.now seen.each

pub returns-clause-kept : goal.returns-clause-kept
returns-clause-kept c =
    IfOk-weaker c.tell_plain.result _ _
    (λ list told. subst (IsOrdered c.args.query.now) (sym c.in_ok-seen.ensures.put) (named_ordered c.args.query.now c.args.known.now c.args.named.now c.requires.kept c.requires.words))
    c.tell_plain.ensures

pub returns-clause-changes : goal.returns-clause-changes
returns-clause-changes c =
    let q = c.args.query.now in
    let t : PathTree = c.args.known.now in
    let u : PathTree = c.touch_each.new.known in
    let seen = subst (AreSeen q.index t (entries_shown q u)) (sym c.as_slice.ensures.value) (each_seen q t u _ c.requires.kept c.in_ok-seen.ensures.seen) in
    let leaf : leaf_of t ≡ option_copied c.as_ref.result = search rules in
    IfOk-weaker c.tell_plain.result _ _
    (λ list told. told t seen leaf ∙ ap (λ v. changes q.index (Some v) (select q u)) (plain_shown q t c.requires.kept.plain))
    c.tell_plain.ensures
