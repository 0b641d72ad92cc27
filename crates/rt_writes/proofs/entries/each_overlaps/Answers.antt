use Rattle.std.proofs.Common.{◌||◌, ap, sym, ◌∙◌, rules, tests}
use Rattle.std.proofs.lemmas.Iterator.{YieldsList-from_slice}
use Rattle.std.proofs.lemmas.Iterator.Search.{any_from_yields_List}
use Rattle.rt_tree.specs.Assignments.{do_overlap, have_overlap}
use Rattle.rt_writes.proofs.entries.each_overlaps.Goals as goal

pub returns-then-any : goal.returns-then-any
returns-then-any c =
    let said = any_from_yields_List (λ b. do_overlap c.in-Some.first.now.0 b.0) _ _ c.any.result c.any.ensures.ran (YieldsList-from_slice c.in-Some.others.now (cc)) (λ x b q k. search (rules, tests)) in
    sym (c.loop-first.invariant ∙ ap have_overlap c.in-Some.ensures.cases.0 ∙ ap (λ b. b || have_overlap c.in-Some.others.now) (sym said ∙ c.if-any.true))

pub loop-first-preserved : goal.loop-first-preserved
loop-first-preserved c =
    let said = any_from_yields_List (λ b. do_overlap c.in-Some.first.now.0 b.0) _ _ c.any.result c.any.ensures.ran (YieldsList-from_slice c.in-Some.others.now (cc)) (λ x b q k. search (rules, tests)) in
    c.loop-first.invariant ∙ ap have_overlap c.in-Some.ensures.cases.0 ∙ ap (λ b. b || have_overlap c.in-Some.others.now) (sym said ∙ c.if-any.false)
