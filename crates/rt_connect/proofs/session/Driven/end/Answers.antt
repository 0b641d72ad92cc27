use Rattle.std.proofs.Common.{string_bytes}
use Rattle.rt_input.specs.declared.stream.TheConstants.{MAX_MESSAGE_BYTES}
use Rattle.rt_connect.specs.Ending.{Ends}
use Rattle.rt_connect.proofs.Driving.{ended_so}
use Rattle.rt_connect.proofs.session.Driven.end.Goals as goal

pub returns-clause-printed : goal.returns-clause-printed
returns-clause-printed g c =
    ended_so c.write_end-printed.result c.args.self.now.link c.in_ok-why.why
    (λ why. (had left : _) × Ends g.W.Awaited.leaves g.W.Awaited.ends MAX_MESSAGE_BYTES had why left)
    (string_bytes c.args.self.now.printed) (string_bytes c.tell_disconnected.new.self.printed)
    (string_bytes c.write_end-printed.new.out) c.in_ok-tell_disconnected.ensures.printed.0 c.in_ok-why.ensures
    c.in_ok-tell_disconnected.ensures.printed.1 c.in_ok-tell_disconnected.ensures.printed.2 c.write_end-printed.ensures
