use Rattle.rt_hub.proofs.Done.{began, next_none, next_positive, next_within}
use Rattle.rt_hub.proofs.calls.begin.Goals as goal

pub add_line-requires-clause-from : goal.add_line-requires-clause-from
add_line-requires-clause-from c =
    next_positive c.args.peer.now c.args.lines.now c.in-Ok.connection c.requires
    c.in-Ok.ensures.number

pub add_line-requires-clause-next : goal.add_line-requires-clause-next
add_line-requires-clause-next c =
    next_within c.args.peer.now c.args.lines.now c.in-Ok.connection c.requires c.in-Ok.ensures.least

pub add_line-requires-clause-none : goal.add_line-requires-clause-none
add_line-requires-clause-none c =
    next_none c.args.peer.now c.args.lines.now c.in-Ok.connection c.requires c.in-Ok.ensures.fresh

pub returns-clause-done : goal.returns-clause-done
returns-clause-done c =
    began c.args.bounds c.args.peer.now c.connect.new.self c.args.lines.now c.add_line.new.self
    c.in-Ok.connection c.requires c.in-Ok.ensures.number c.in-Ok.ensures.connected c.in_ok-add_line.ensures
