use Rattle.rt_input.specs.declared.stream.TheConstants.{MAX_MESSAGE_BYTES}
use Rattle.rt_connect.proofs.Ends.{ends_so, unsaid}
use Rattle.rt_connect.proofs.link.leave.Goals as goal

pub returns-in-None : goal.returns-in-None
returns-in-None g c =
    ends_so g.W.Awaited.leaves g.W.Awaited.ends MAX_MESSAGE_BYTES c.args.wire.now c.leave.new.self
    c.pass_over.new.wire c.pass_over.result c.in_ok-why.field-0 c.in_ok-why.ensures c.in-None.is
    c.pass_over.ensures

pub returns-in-Some : goal.returns-in-Some
returns-in-Some g c =
    unsaid g.W.Awaited.leaves g.W.Awaited.ends MAX_MESSAGE_BYTES c.args.wire.now c.leave.new.self
    c.in_ok-why.field-0 c.in-Some.why c.in_ok-why.ensures c.in-Some.is
