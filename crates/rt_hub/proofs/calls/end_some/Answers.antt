use Rattle.rt_hub.proofs.Done.{turned_told, turns}
use Rattle.rt_hub.proofs.calls.end_some.Goals as goal

pub returns-clause-done : goal.returns-clause-done
returns-clause-done c =
    turns c.args.bounds c.args.peer.now c.end_some.new.self c.args.lines.now c.leave_line.new.self
    c.send.new.lines c.args.connection c.args.most c.in-Ok.turn.1 c.in-Ok.turn.0.items
    c.as_slice.result.now c.as_slice.ensures.value c.requires.lined c.requires.known c.in-Ok.ensures.sent
    c.in-Ok.ensures.last c.in-Ok.ensures.kept c.leave_line.ensures c.in_ok-told.ensures.put

pub returns-clause-told : goal.returns-clause-told
returns-clause-told c =
    turned_told c.args.peer.now c.args.connection c.args.most c.in-Ok.turn.0.items c.as_slice.result.now
    c.in_ok-told.told.items c.as_slice.ensures.value c.requires.known c.in-Ok.ensures.sent
    c.in_ok-told.ensures.told
