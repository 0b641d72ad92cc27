use Rattle.std.proofs.Common.{◌≡◌, subst}
use Rattle.std.specs.Prelude.{IfOk, IfSome}
use Rattle.rt_peer.specs.Runs.{Message}
use Rattle.rt_hub.specs.Bounded.{bounded}
use Rattle.rt_hub.specs.Hubs.{receivers}
use Rattle.rt_hub.specs.Verdicts.{verdict_when}
use Rattle.rt_hub.proofs.Done.{on_ok, took, took_seen}
use Rattle.rt_hub.proofs.calls.ask.Goals as goal

pub returns-clause-done : goal.returns-clause-done
returns-clause-done c =
    on_ok c.send_judged.result
    (λ put.
    took c.args.bounds c.args.peer.now c.message.new.self c.args.lines.now c.send_judged.new.lines
    c.args.connection c.args.message c.in-Ok.sent.items c.as_slice.result.now c.as_slice.ensures.value
    c.requires.lined c.requires.known c.requires.room c.in-Ok.ensures.answered c.in-Ok.ensures.kept put)
    c.send_judged.ensures.put

pub returns-clause-judged : goal.returns-clause-judged
returns-clause-judged c =
    subst (λ w. IfOk c.send_judged.result (λ answer. IfSome c.args.peer.now (λ p.
    answer.0 ≡ verdict_when w (bounded p (Message c.args.connection c.args.message)).1)))
    c.when_in-when.ensures
    (took_seen (λ answer. answer.0) (verdict_when c.when_in-when.result) c.send_judged.result c.args.peer.now
    c.args.connection c.args.message c.in-Ok.sent.items c.as_slice.result.now c.as_slice.ensures.value
    c.requires.known c.requires.room c.in-Ok.ensures.answered c.send_judged.ensures.judged)

pub returns-clause-told : goal.returns-clause-told
returns-clause-told c =
    took_seen (λ answer. answer.1.items) receivers c.send_judged.result c.args.peer.now c.args.connection
    c.args.message c.in-Ok.sent.items c.as_slice.result.now c.as_slice.ensures.value c.requires.known c.requires.room
    c.in-Ok.ensures.answered c.send_judged.ensures.told
