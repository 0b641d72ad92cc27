use Rattle.std.proofs.Common.{subst, sym}
use Rattle.rt_link.specs.declared.answers.Tried.{Tried}
use Rattle.rt_link.specs.inside.Trials.{Tries}
use Rattle.rt_link.proofs.Told.{tried_again}
use Rattle.rt_link.proofs.linked.Linked.try_once.Goals as goal

pub returns-in-Err : goal.returns-in-Err
returns-in-Err g c =
    subst (λ (t : Tried). Tries c.args.seat.now c.args.call t c.try_call.new.seat) (sym c.tried_of.ensures)
    (tried_again c.args.seat.now c.try_call.new.seat c.args.call c.in-Err.refused.why c.in-Err.refused.call
    c.in-Err.ensures.refused c.in-Err.ensures.back)
