use Rattle.std.proofs.Common.{◌+◌, ◌∷◌, [], List, drop, ap, sym, subst, ◌∙◌}
use Rattle.std.proofs.lemmas.List.{drop_more}
use Rattle.std.proofs.lemmas.Result.{IfOk-weaker}
use Rattle.rt_order.specs.declared.index.Index.TheVariants as index
use Rattle.rt_tree.specs.PathTree.{Key, PathTree, put}
use Rattle.rt_view.specs.Views.{with_named}
use Rattle.rt_view.specs.inside.ViewIndex.{rows_in_tree, stands_in}
use Rattle.rt_view.specs.inside.Telling.{AllSeen, kept_by}
use Rattle.rt_view.specs.inside.Windows.{value_at}
use Rattle.rt_view.proofs.Listed.{value_at-children}
use Rattle.rt_view.proofs.SeenLaws.{keeps_alike, keeps_all}
use Rattle.rt_view.proofs.touch.touch_each.Goals as goal

pub loop-key-preserved : goal.loop-key-preserved
loop-key-preserved c =
    let t : PathTree = c.loop-key.known in
    let item : Key × PathTree = c.loop-key-item.result in
    let rest : List (Key × PathTree) = drop (c.loop-key.key-index + 1) c.args.named.now in (
      ap (λ (u : PathTree). with_named u rest) c.in_ok-touch_there.ensures.put
          ∙ ap (λ (d : Key × PathTree). with_named (put t (d.0 ∷ []) d.1) rest) c.loop-key-item.is
          ∙ sym (ap (with_named t) (drop_more c.args.named.now c.loop-key.key-index item c.loop-key-test.true))
          ∙ c.loop-key.invariant.0,
      c.in_ok-touch_there.ensures.seen (stands_in c.args.known.now) c.loop-key.invariant.1,
    )

pub returns-clause-seen : goal.returns-clause-seen
returns-clause-seen c =
    let before = rows_in_tree index.Key c.args.known.now in
    let after = rows_in_tree index.Key c.loop-key.known in
    let kept = keeps_alike (stands_in c.args.known.now) (stands_in c.loop-key.known) (value_at before) (value_at after) (kept_by c.loop-key.noted.items)
    (value_at-children index.Key c.args.known.now) (value_at-children index.Key c.loop-key.known) c.loop-key.invariant.1 in
    IfOk-weaker c.in_key_order.result _ _
    (λ list told. subst (AllSeen before after) (sym told) (keeps_all before after (kept_by c.loop-key.noted.items) kept))
    c.in_key_order.ensures
