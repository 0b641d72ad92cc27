use Rattle.std.proofs.Common.{sym, ◌∙◌}
use Rattle.rt_connect.specs.Sending.{linked}
use Rattle.rt_connect.proofs.Sending.{came_more, made_way}
use Rattle.rt_connect.proofs.link.ServerLink.read_ahead.Goals as goal

pub returns-then-has_way : goal.returns-then-has_way
returns-then-has_way g c = λ _.
    made_way c.args.len (linked c.args.self.now.wire c.args.self.now.ahead)
    (linked c.keep_next.new.self.wire c.keep_next.new.self.ahead)
    (came_more c.args.len c.args.self.now.ahead c.loop.self.ahead c.keep_next.new.self.ahead
    (c.in_ok-why.ensures c.in_default.is).0 c.loop.invariant (c.in_ok-why.ensures c.in_default.is).1)
    (sym c.has_way.ensures ∙ c.if-has_way.true)

pub loop-preserved : goal.loop-preserved
loop-preserved g c =
    let h =
    came_more c.args.len c.args.self.now.ahead c.loop.self.ahead c.keep_next.new.self.ahead
    (c.in_ok-why.ensures c.in_default.is).0 c.loop.invariant (c.in_ok-why.ensures c.in_default.is).1 in
    (h.0, h.1, sym c.has_way.ensures ∙ c.if-has_way.false)
