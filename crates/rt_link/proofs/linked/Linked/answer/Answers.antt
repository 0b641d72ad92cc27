use Rattle.std.proofs.Common.{◌≡◌, Err, None, Some, IfErr, inr, sym, subst, rules}
use Rattle.rt_link.specs.Answering.{RefusesAnswering}
use Rattle.rt_link.proofs.Looked.{looked_as, refused_on}
use Rattle.rt_link.proofs.linked.Linked.answer.Goals as goal

pub loop-preserved : goal.loop-preserved
loop-preserved g c =
    let none : c.in_ok-answer.field-0 ≡ None = search rules in
    inr (looked_as c.args.seat.now c.loop.seat c.look_for.new.seat c.args.request c.in_ok-answer.field-0 None c.loop.invariant
    c.in_ok-answer.ensures.said none)

pub returns-then-not-pauses-clause-said : goal.returns-then-not-pauses-clause-said
returns-then-not-pauses-clause-said g c =
    let none : c.in_ok-answer.field-0 ≡ None = search rules in
    looked_as c.args.seat.now c.loop.seat c.look_for.new.seat c.args.request c.in_ok-answer.field-0 None c.loop.invariant
    c.in_ok-answer.ensures.said none

pub returns-in-Some-2-clause-said : goal.returns-in-Some-2-clause-said
returns-in-Some-2-clause-said g c =
    let some : c.in_ok-answer.field-0 ≡ Some c.in-Some-2.answer = search rules in
    looked_as c.args.seat.now c.loop.seat c.look_for.new.seat c.args.request c.in_ok-answer.field-0 (Some c.in-Some-2.answer)
    c.loop.invariant c.in_ok-answer.ensures.said some

pub returns-in_err-answer-clause-refused : goal.returns-in_err-answer-clause-refused
returns-in_err-answer-clause-refused g c =
    let why = c.in_err-answer.field-0.0 in
    let is : c.from_residual.result ≡ Err why = search rules in
    subst (λ r. IfErr r (λ e. RefusesAnswering c.args.seat.now c.args.request e c.look_for.new.seat)) (sym is)
    (refused_on c.args.seat.now c.loop.seat c.look_for.new.seat c.args.request why c.loop.invariant c.in_err-answer.ensures.refused)
