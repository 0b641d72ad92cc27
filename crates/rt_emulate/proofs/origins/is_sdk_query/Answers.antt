use Rattle.std.proofs.Common.{◌==◌, ◌||◌, lit<, refl, ap, sym, subst, ◌∙◌}
use Rattle.std.specs.List.{list_any, slice_split}
use Rattle.std.proofs.lemmas.Iterator.Splits.{YieldsList-from_str_split}
use Rattle.rt_emulate.specs.Protocols.{is_sdk_parameter}
use Rattle.rt_emulate.proofs.Parameters.{Coming, comes_next, comes_none, first_says}
use Rattle.rt_emulate.proofs.origins.is_sdk_query.Goals as goal

pub loop-parameter-init : goal.loop-parameter-init
loop-parameter-init c = (
  _,
  subst (λ it. Coming it (slice_split (λ b. b == 38) c.args.query.now))
      (sym c.into_iter-parameter-iterator.ensures.into_iter_gives)
      (YieldsList-from_str_split 38 c.args.query.now (lit< tt) c.split-parameter-items.ensures.text
      c.split-parameter-items.ensures.has_more c.split-parameter-items.ensures.pattern).runs,
  refl,
)

pub returns-then-is_sdk_parameter : goal.returns-then-is_sdk_parameter
returns-then-is_sdk_parameter c =
    let kept = c.loop-parameter.invariant in
    let next =
    comes_next c.loop-parameter.parameter-iterator c.next.new.self c.in-Some.parameter kept.0 kept.1
    c.in-Some.ensures.steps in
    sym (kept.2
    ∙ first_says c.in-Some.parameter.now kept.0 next.0 c.is_sdk_parameter.result next.1 c.is_sdk_parameter.ensures
    ∙ ap (λ b. b || list_any is_sdk_parameter next.0) c.if-is_sdk_parameter.true)

pub loop-parameter-preserved : goal.loop-parameter-preserved
loop-parameter-preserved c =
    let kept = c.loop-parameter.invariant in
    let next =
    comes_next c.loop-parameter.parameter-iterator c.next.new.self c.in-Some.parameter kept.0 kept.1
    c.in-Some.ensures.steps in (
      next.0,
      next.2,
      kept.2
          ∙ first_says c.in-Some.parameter.now kept.0 next.0 c.is_sdk_parameter.result next.1
          c.is_sdk_parameter.ensures
          ∙ ap (λ b. b || list_any is_sdk_parameter next.0) c.if-is_sdk_parameter.false,
    )

pub returns : goal.returns
returns c =
    let kept = c.loop-parameter.invariant in
    sym (kept.2
    ∙ ap (list_any is_sdk_parameter)
    (comes_none c.loop-parameter.parameter-iterator c.next.new.self kept.0 kept.1 c.in-None.ensures.steps))
