use Rattle.std.proofs.Common.{◌∙◌, ap, sym, Some}
use Rattle.serde_json.specs.View.{view}
use Rattle.rt_tree.specs.Reading.{walked, visits, item_visits, member_visits}
use Rattle.rt_tree.proofs.Walks.{walked-goes_on, walked-stops, passed_on, item_next, member_next}
use Rattle.rt_tree.proofs.tree.text.+walk.Goals as goal

pub walk_members-returns-in_err-counted-clause-walked : goal.walk_members-returns-in_err-counted-clause-walked
walk_members-returns-in_err-counted-clause-walked t c =
    let name = ap (λ k. walked c.loop-name.counted (visits c.args.level (Some k) (view c.in-Some.member.now))) c.as_str.ensures.value in
    passed_on c.from_residual.result c.in_err-counted.field-0.0 c.from_residual.ensures.1
    ∙ sym (c.loop-name.invariant.0
    ∙ ap (λ ms. walked c.loop-name.counted (member_visits c.args.level ms)) (member_next c.loop-name.name-iterator c.next.new.self c.in-Some.name.now c.in-Some.member.now c.in-Some.ensures.steps)
    ∙ walked-stops c.loop-name.counted c.in_err-counted.field-0.0 _ _ (c.in_err-counted.ensures.walked ∙ name))

pub walk_members-loop-name-preserved : goal.walk_members-loop-name-preserved
walk_members-loop-name-preserved t c = (
  let name = ap (λ k. walked c.loop-name.counted (visits c.args.level (Some k) (view c.in-Some.member.now))) c.as_str.ensures.value in
      c.loop-name.invariant.0
      ∙ ap (λ ms. walked c.loop-name.counted (member_visits c.args.level ms)) (member_next c.loop-name.name-iterator c.next.new.self c.in-Some.name.now c.in-Some.member.now c.in-Some.ensures.steps)
      ∙ walked-goes_on c.loop-name.counted c.in_ok-counted.counted _ _ (c.in_ok-counted.ensures.walked ∙ name),
  c.in_ok-counted.ensures.bound,
)

pub walk_items-returns-in_err-counted-clause-walked : goal.walk_items-returns-in_err-counted-clause-walked
walk_items-returns-in_err-counted-clause-walked t c =
    passed_on c.from_residual.result c.in_err-counted.field-0.0 c.from_residual.ensures.1
    ∙ sym (c.loop-item.invariant.0
    ∙ ap (λ ds. walked c.loop-item.counted (item_visits c.args.level ds)) (item_next c.args.items.now c.loop-item.item-index c.item-item.result c.loop-item-test.true c.item-item.is)
    ∙ walked-stops c.loop-item.counted c.in_err-counted.field-0.0 _ _ c.in_err-counted.ensures.walked)

pub walk_items-loop-item-preserved : goal.walk_items-loop-item-preserved
walk_items-loop-item-preserved t c = (
  c.loop-item.invariant.0
      ∙ ap (λ ds. walked c.loop-item.counted (item_visits c.args.level ds)) (item_next c.args.items.now c.loop-item.item-index c.item-item.result c.loop-item-test.true c.item-item.is)
      ∙ walked-goes_on c.loop-item.counted c.in_ok-counted.counted _ _ c.in_ok-counted.ensures.walked,
  c.in_ok-counted.ensures.bound,
)
