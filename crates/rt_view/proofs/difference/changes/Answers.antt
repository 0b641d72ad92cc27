use Rattle.std.proofs.Common.{◌++◌, [], ◌∷◌, cond, sym, subst, ◌∙◌, Some}
use Rattle.std.proofs.lemmas.Result.{IfOk-weaker}
use Rattle.std.specs.Option.{option_copied}
use Rattle.rt_view.specs.declared.change.Change.TheVariants.{Value}
use Rattle.rt_view.specs.Changes.{Turns, changes}
use Rattle.rt_view.proofs.TurnLaws.{turns, changes-whole, same_where_none}
use Rattle.rt_view.proofs.difference.changes.Goals as goal

pub returns-clause-exact : goal.returns-clause-exact
returns-clause-exact c =
    let index = c.args.index.now in
    let old = option_copied c.args.old in
    let new = c.args.new.now in
    let rows = c.in_ok-rows.ensures.changes in
    let same = c.is_same-same.ensures ∙ same_where_none index old new c.as_slice.result.now c.in_ok-rows.ensures.distinct (c.as_slice.ensures.value ∙ rows) in
    IfOk-weaker c.with_whole.result _ _
    (λ list is. is ∙ (λ i. rows i ++ cond (same i) [] (Value (c.tree.ensures i) ∷ [])) ∙ changes-whole index old new) c.with_whole.ensures

pub returns-clause-turns : goal.returns-clause-turns
returns-clause-turns c =
    let index = c.args.index.now in
    let old = option_copied c.args.old in
    let new = c.args.new.now in
    let rows = c.in_ok-rows.ensures.changes in
    let same = c.is_same-same.ensures ∙ same_where_none index old new c.as_slice.result.now c.in_ok-rows.ensures.distinct (c.as_slice.ensures.value ∙ rows) in
    IfOk-weaker c.with_whole.result _ _
    (λ list is. subst (λ cs. Turns old cs (Some new)) (sym (is ∙ (λ i. rows i ++ cond (same i) [] (Value (c.tree.ensures i) ∷ [])) ∙ changes-whole index old new))
    (turns index old new c.in_ok-rows.ensures.distinct)) c.with_whole.ensures
