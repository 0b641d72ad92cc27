use Rattle.std.proofs.Common.{◌≡◌, arith, sym, ◌∙◌}
use Rattle.rt_input.specs.Counted.{known_output}
use Rattle.rt_socket.specs.Awaiting.{known_input}
use Rattle.rt_socket.specs.declared.patience.TheConstants.{SILENT_TICKS}
use Rattle.rt_socket.proofs.Awaiting.{cant_be_asked, given_up, silent_more, something_came}
use Rattle.rt_socket.proofs.socket.SocketCountedAwaited.hear_next.Goals as goal

pub returns-then-is_something : goal.returns-then-is_something
returns-then-is_something g c =
    something_came (known_input g.S.Read.remaining) (known_output g.S.Write.contents) c.loop-tick.tick
    c.args.self.now.socket c.loop-tick.self.socket c.hear.new.self.socket c.in_ok-heard.heard c.loop-tick.invariant
    (omega (arith, c.loop-tick-test.true)) (sym c.is_something.ensures ∙ c.if-is_something.true) c.in_ok-heard.ensures.heard

pub returns-in-Some : goal.returns-in-Some
returns-in-Some g c =
    cant_be_asked (known_input g.S.Read.remaining) (known_output g.S.Write.contents) c.loop-tick.tick
    c.args.self.now.socket c.loop-tick.self.socket c.hear.new.self.socket c.ask_at.new.self.socket
    c.in_ok-heard.heard c.in_ok-why.field-0 c.in-Some.why c.loop-tick.invariant
    (omega (arith, c.loop-tick-test.true)) (sym c.is_something.ensures ∙ c.if-is_something.false) c.in_ok-heard.ensures.heard c.in_ok-why.ensures
    c.in-Some.is

pub loop-tick-preserved : goal.loop-tick-preserved
loop-tick-preserved g c =
    silent_more (known_input g.S.Read.remaining) (known_output g.S.Write.contents) c.loop-tick.tick
    c.args.self.now.socket c.loop-tick.self.socket c.hear.new.self.socket c.ask_at.new.self.socket
    c.in_ok-heard.heard c.in_ok-why.field-0 c.loop-tick.invariant
    (sym c.is_something.ensures ∙ c.if-is_something.false) c.in_ok-heard.ensures.heard c.in_ok-why.ensures
    c.in_default.is

pub returns : goal.returns
returns g c =
    let all : c.loop-tick.tick ≡ SILENT_TICKS = omega (arith, c.loop-tick.auto.tick-end, c.loop-tick-test.false) in
    given_up (known_input g.S.Read.remaining) (known_output g.S.Write.contents) c.loop-tick.tick
    c.args.self.now.socket c.loop-tick.self.socket c.loop-tick.invariant all
