use Rattle.std.proofs.Common.{inr, refl}
use Rattle.rt_emulate.specs.inside.Sockets.{passes}
use Rattle.rt_emulate.proofs.Sockets.{is_failed}
use Rattle.rt_emulate.proofs.socket.Socket.read_on.Goals as goal

pub returns-then-passes_over : goal.returns-then-passes_over
returns-then-passes_over c =
    inr (
      c.in-Err.why,
      c.read.new.self,
      c.passes_over.new.self,
      c.in-Err.ensures,
      c.passes_over.ensures.passes c.if-passes_over.true,
      c.passes_over.ensures.kept,
      inr c.read-then-passes_over.ensures,
    )

pub returns-else-passes_over : goal.returns-else-passes_over
returns-else-passes_over c =
    is_failed c.args.self.now c.read.new.self c.passes_over.new.self c.in-Err.why (passes c.in-Err.why) refl
    c.in-Err.ensures c.passes_over.ensures.kept (c.passes_over.ensures.stays c.if-passes_over.false)
