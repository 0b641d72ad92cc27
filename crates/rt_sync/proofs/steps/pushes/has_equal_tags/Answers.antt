use Rattle.std.proofs.Common.{◌||◌, ◌==◌, ap, sym, ◌∙◌, rules, tests}
use Rattle.std.proofs.lemmas.Iterator.{YieldsList-from_slice}
use Rattle.std.proofs.lemmas.Iterator.Search.{any_from_yields_List}
use Rattle.rt_world.specs.steps.Pushing.{has_tag_twice}
use Rattle.rt_sync.proofs.steps.pushes.has_equal_tags.Goals as goal

pub returns-then-any : goal.returns-then-any
returns-then-any c =
    let said = any_from_yields_List (λ b. b.0 == c.in-Some.first.now.0) _ _ c.any.result c.any.ensures.ran (YieldsList-from_slice c.in-Some.others.now (cc)) (λ x b q k. search (rules, tests)) in
    sym (c.loop-first.invariant ∙ ap has_tag_twice c.in-Some.ensures.cases.0 ∙ ap (λ b. b || has_tag_twice c.in-Some.others.now) (sym said ∙ c.if-any.true))

pub loop-first-preserved : goal.loop-first-preserved
loop-first-preserved c =
    let said = any_from_yields_List (λ b. b.0 == c.in-Some.first.now.0) _ _ c.any.result c.any.ensures.ran (YieldsList-from_slice c.in-Some.others.now (cc)) (λ x b q k. search (rules, tests)) in
    c.loop-first.invariant ∙ ap has_tag_twice c.in-Some.ensures.cases.0 ∙ ap (λ b. b || has_tag_twice c.in-Some.others.now) (sym said ∙ c.if-any.false)
