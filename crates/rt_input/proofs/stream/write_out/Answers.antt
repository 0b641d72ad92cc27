use Rattle.std.proofs.Common.{arith, length}
use Rattle.std.proofs.lemmas.List.{length-drop}
use Rattle.rt_input.proofs.Known.{Appends-on, Keeps-same, on_err_always, part_of}
use Rattle.rt_input.proofs.stream.write_out.Goals as goal

pub returns-in_err-written-clause-part : goal.returns-in_err-written-clause-part
returns-in_err-written-clause-part g c =
    on_err_always _ c.from_residual.result
    (part_of (g.W.Write.contents c.args.writer.now) (g.W.Write.contents c.tries.writer)
    (g.W.Write.contents c.write_some.new.writer) c.tries.written c.args.bytes.now c.tries.invariant.1
    c.in_err-written.ensures.bytes)

pub tries-preserved : goal.tries-preserved
tries-preserved g c = (
  omega (arith, c.tries.invariant.0, c.in_ok-written.ensures.bound, length-drop c.tries.written c.args.bytes.now),
  Appends-on (g.W.Write.contents c.args.writer.now) (g.W.Write.contents c.tries.writer)
      (g.W.Write.contents c.write_some.new.writer) c.tries.written c.in_ok-written.field-0 c.args.bytes.now
      c.tries.invariant.1 c.in_ok-written.ensures.bytes,
)

pub returns-clause-part : goal.returns-clause-part
returns-clause-part g c =
    part_of (g.W.Write.contents c.args.writer.now) (g.W.Write.contents c.tries.writer)
    (g.W.Write.contents c.tries.writer) c.tries.written c.args.bytes.now c.tries.invariant.1
    (Keeps-same (g.W.Write.contents c.tries.writer))
