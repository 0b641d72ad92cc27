use Rattle.std.proofs.Common.{◌≡◌, Err, IfErr, inr, sym, subst, rules}
use Rattle.rt_link.specs.Answering.{RefusesHearing}
use Rattle.rt_link.proofs.Told.{all_after, refuses_on}
use Rattle.rt_link.proofs.linked.Linked.wait_answers.Goals as goal

pub loop-preserved : goal.loop-preserved
loop-preserved g c =
    inr (all_after c.args.seat.now c.loop.seat c.hear.new.seat c.args.heard.now c.loop.heard c.hear.new.heard
    c.args.answers.now c.loop.answers c.hear.new.answers c.loop.invariant c.in_ok-hear.ensures.heard)

pub returns-in_err-hear-clause-refused : goal.returns-in_err-hear-clause-refused
returns-in_err-hear-clause-refused g c =
    let why = c.in_err-hear.field-0.0 in
    let is : c.from_residual.result ≡ Err why = search rules in
    subst (λ r. IfErr r (λ e. RefusesHearing c.args.seat.now c.args.heard.now c.args.answers.now e
    c.hear.new.seat c.hear.new.heard c.hear.new.answers)) (sym is)
    (refuses_on c.args.seat.now c.loop.seat c.hear.new.seat c.args.heard.now c.loop.heard c.hear.new.heard
    c.args.answers.now c.loop.answers c.hear.new.answers why c.loop.invariant c.in_err-hear.ensures.refused)

pub returns-then-unanswered-eq0-clause-heard : goal.returns-then-unanswered-eq0-clause-heard
returns-then-unanswered-eq0-clause-heard g c =
    all_after c.args.seat.now c.loop.seat c.hear.new.seat c.args.heard.now c.loop.heard c.hear.new.heard
    c.args.answers.now c.loop.answers c.hear.new.answers c.loop.invariant c.in_ok-hear.ensures.heard
