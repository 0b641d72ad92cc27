use Rattle.std.proofs.Common.{◌≡◌, ◌-◌, ◌+◌, ◌<◌, arith, ◌∙◌}
use Rattle.rt_commands.proofs.Clients.{one_served, shaken, stopped_at}
use Rattle.rt_commands.proofs.server.serve_all.Goals as goal

pub returns-in_err-serve_next-clause-stopped : goal.returns-in_err-serve_next-clause-stopped
returns-in_err-serve_next-clause-stopped g c =
    let more : 0 < c.streams.left = omega (arith, c.if-left-eq0.false) in
    stopped_at c.args.count c.streams.left c.args.peer.now c.streams.peer c.serve_next.new.peer _ more
    c.streams.invariant.1 c.in_err-serve_next.ensures.stopped

pub streams-preserved-then-branch : goal.streams-preserved-then-branch
streams-preserved-then-branch g c =
    let one : c.streams.left ≡ (c.streams.left - 1) + 1 = omega (arith, c.if-left-eq0.false) in (
      c.in_ok-serve_next.ensures.none_failed ∙ c.streams.invariant.0,
      one_served c.args.count c.streams.left (c.streams.left - 1) c.args.peer.now c.streams.peer
          c.serve_next.new.peer one c.streams.invariant.1
          (shaken c.in_ok-serve_next.field-0 c.streams.peer c.serve_next.new.peer c.if-branch.true
          c.in_ok-serve_next.ensures.served),
    )
