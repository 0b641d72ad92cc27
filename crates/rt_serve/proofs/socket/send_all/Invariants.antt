use Rattle.std.proofs.Common.{drop}
use Rattle.tungstenite.specs.Socket.{Socket}
use Rattle.rt_input.specs.Counted.{CountedStream, known_output}
use Rattle.rt_serve.specs.Answers.{Tells, texts_of}
use Rattle.rt_serve.proofs.socket.send_all.Given as goal

abbrev pub invariant-loop-one : goal.invariant-loop-one
invariant-loop-one g l =
    (last : Socket (CountedStream _))
    → Tells (known_output g.S.Write.contents) l.socket (texts_of (drop l.one-index l.sent)) last
    → Tells (known_output g.S.Write.contents) l.initial.socket (texts_of l.sent) last
