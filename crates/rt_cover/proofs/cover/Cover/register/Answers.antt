use Rattle.std.proofs.Common.{◌≡◌, sym, subst, ◌∙◌, IfOk}
use Rattle.rt_cover.specs.State.{Cover, with_listener, with_listeners, difference}
use Rattle.rt_cover.proofs.SupplyLaws.{none_found}
use Rattle.rt_cover.proofs.cover.Cover.register.Goals as goal

pub begin-requires-clause-unsupplied : goal.begin-requires-clause-unsupplied
begin-requires-clause-unsupplied c = none_found _ (sym c.is_supplied.ensures ∙ c.if-is_supplied.false)

pub returns-then-is_supplied-clause-delta : goal.returns-then-is_supplied-clause-delta
returns-then-is_supplied-clause-delta c =
    let old : Cover = c.args.self.now in
    subst (λ f. IfOk c.admit.result (λ d. d ≡ difference old (with_listeners old (with_listener old.listeners c.args.listener f)))) c.in_ok-form.ensures c.admit.ensures.delta

pub returns-else-is_supplied-clause-delta : goal.returns-else-is_supplied-clause-delta
returns-else-is_supplied-clause-delta c =
    let old : Cover = c.args.self.now in
    subst (λ f. IfOk c.begin.result (λ d. d ≡ difference old (with_listeners old (with_listener old.listeners c.args.listener f)))) c.in_ok-form.ensures c.begin.ensures.delta
