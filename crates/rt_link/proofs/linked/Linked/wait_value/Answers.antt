use Rattle.std.proofs.Common.{◌≡◌, Err, IfErr, inr, sym, subst, rules}
use Rattle.rt_link.specs.Seeing.{RefusesSeeing}
use Rattle.rt_link.proofs.Seen.{all_after, refuses_on}
use Rattle.rt_link.proofs.linked.Linked.wait_value.Goals as goal

pub loop-preserved : goal.loop-preserved
loop-preserved g c =
    inr (all_after c.args.seat.now c.loop.seat c.see.new.seat c.args.seen.now c.loop.seen c.see.new.seen c.loop.invariant
    c.in_ok-see.ensures.seen)

pub returns-in_err-see-clause-refused : goal.returns-in_err-see-clause-refused
returns-in_err-see-clause-refused g c =
    let why = c.in_err-see.field-0.0 in
    let is : c.from_residual.result ≡ Err why = search rules in
    subst (λ r. IfErr r (λ e. RefusesSeeing c.args.seat.now c.args.seen.now e c.see.new.seat c.see.new.seen)) (sym is)
    (refuses_on c.args.seat.now c.loop.seat c.see.new.seat c.args.seen.now c.loop.seen c.see.new.seen why c.loop.invariant
    c.in_err-see.ensures.refused)

pub returns-then-is_shown-clause-seen : goal.returns-then-is_shown-clause-seen
returns-then-is_shown-clause-seen g c =
    all_after c.args.seat.now c.loop.seat c.see.new.seat c.args.seen.now c.loop.seen c.see.new.seen c.loop.invariant
    c.in_ok-see.ensures.seen
