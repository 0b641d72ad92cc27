use Rattle.std.proofs.Common.{◌≡◌, ◌⊎◌, ◌∙◌, Err, IfErr, rules, subst, sym}
use Rattle.rt_lines.specs.declared.error.LineError.TheVariants.{NoMemory}
use Rattle.rt_foreign.specs.Reading.{ordered_read}
use Rattle.rt_foreign.proofs.Texts.{ordered_found, ordered_lost}
use Rattle.rt_foreign.proofs.calls.ordered.Goals as goal

pub returns-in_err-query-clause-fault : goal.returns-in_err-query-clause-fault
returns-in_err-query-clause-fault c =
    let why = c.in_err-query.field-0.0 in
    let is : c.from_residual-in_err-query.result ≡ Err why = search rules in
    subst (λ r. IfErr r (λ e. (ordered_read c.args.path.now c.args.order.now ≡ Err e) ⊎ (e ≡ NoMemory))) (sym is)
    (ordered_lost c.args.path.now c.args.order.now c.as_str.result.now why
    (c.as_str.ensures.value ∙ c.in_ok-q.ensures) c.in_err-query.ensures.fault)

pub returns-clause-ok : goal.returns-clause-ok
returns-clause-ok c =
    ordered_found c.args.path.now c.args.order.now c.as_str.result.now c.in_ok-query.query c.in_order.result
    (c.as_str.ensures.value ∙ c.in_ok-q.ensures) c.in_ok-query.ensures.ok c.in_order.ensures.ok
