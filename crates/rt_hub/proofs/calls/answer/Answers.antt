use Rattle.std.proofs.Common.{◌≡◌, None, Some, subst}
use Rattle.std.specs.Prelude.{IfOk, IfSome}
use Rattle.rt_peer.specs.Runs.{Message}
use Rattle.rt_hub.specs.Bounded.{bounded}
use Rattle.rt_hub.specs.Hubs.{receivers}
use Rattle.rt_hub.specs.Verdicts.{verdict_when}
use Rattle.rt_hub.proofs.Done.{on_ok, refuses, refuses_seen, bar_is}
use Rattle.rt_hub.proofs.calls.answer.Goals as goal

pub returns-in-Some-clause-done : goal.returns-in-Some-clause-done
returns-in-Some-clause-done c =
    on_ok c.refuse.result
    (λ put.
    refuses c.args.bounds c.args.peer.now c.args.lines.now c.refuse.new.lines c.args.connection
    c.in-Some.bar c.args.message c.requires.lined
    (bar_is c.args.peer.now c.args.connection c.args.message c.in_ok-bar.bar (Some c.in-Some.bar)
    c.in_ok-bar.ensures c.in-Some.is) put)
    c.refuse.ensures.put

pub returns-in-Some-clause-judged : goal.returns-in-Some-clause-judged
returns-in-Some-clause-judged c =
    subst (λ w. IfOk c.refuse.result (λ answer. IfSome c.args.peer.now (λ p.
    answer.0 ≡ verdict_when w (bounded p (Message c.args.connection c.args.message)).1)))
    c.when_in.ensures
    (refuses_seen (λ answer. answer.0) (verdict_when c.when_in.result) c.refuse.result c.args.peer.now
    c.args.connection c.in-Some.bar c.args.message
    (bar_is c.args.peer.now c.args.connection c.args.message c.in_ok-bar.bar (Some c.in-Some.bar)
    c.in_ok-bar.ensures c.in-Some.is) c.refuse.ensures.judged)

pub returns-in-Some-clause-told : goal.returns-in-Some-clause-told
returns-in-Some-clause-told c =
    refuses_seen (λ answer. answer.1.items) receivers c.refuse.result c.args.peer.now c.args.connection
    c.in-Some.bar c.args.message
    (bar_is c.args.peer.now c.args.connection c.args.message c.in_ok-bar.bar (Some c.in-Some.bar)
    c.in_ok-bar.ensures c.in-Some.is) c.refuse.ensures.told

pub ask-requires-clause-room : goal.ask-requires-clause-room
ask-requires-clause-room c =
    bar_is c.args.peer.now c.args.connection c.args.message c.in_ok-bar.bar None c.in_ok-bar.ensures
    c.in-None.is
