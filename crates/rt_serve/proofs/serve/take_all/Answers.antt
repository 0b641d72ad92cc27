use Rattle.std.proofs.Common.{◌+◌, arith}
use Rattle.rt_serve.proofs.Sessions.{at_most, err_turn, none_taken, still_known, turn}
use Rattle.rt_serve.proofs.serve.take_all.Goals as goal

pub loop-init : goal.loop-init
loop-init g c = none_taken c.args.peer.now c.args.connection

pub take_next-requires : goal.take_next-requires
take_next-requires g c =
    still_known c.args.peer.now c.loop.peer c.loop.counter c.args.connection c.requires c.loop.invariant

pub returns-in_err-end-clause-failed : goal.returns-in_err-end-clause-failed
returns-in_err-end-clause-failed g c =
    err_turn c.args.peer.now c.loop.peer _ _ c.loop.counter 1000000 c.args.connection
    (omega (arith, c.loop-test.true)) c.requires c.loop.invariant c.in_err-end.ensures.failed

pub returns-in-Some-clause-taken : goal.returns-in-Some-clause-taken
returns-in-Some-clause-taken g c =
    at_most c.args.peer.now _ (c.loop.counter + 1) 1000000 c.args.connection
    (omega (arith, c.loop-test.true))
    (turn c.args.peer.now c.loop.peer _ c.loop.counter c.args.connection c.requires c.loop.invariant
    c.in_ok-end.ensures.taken)

pub loop-preserved : goal.loop-preserved
loop-preserved g c =
    turn c.args.peer.now c.loop.peer _ c.loop.counter c.args.connection c.requires c.loop.invariant
    c.in_ok-end.ensures.taken

pub returns-clause-taken : goal.returns-clause-taken
returns-clause-taken g c =
    at_most c.args.peer.now c.loop.peer c.loop.counter 1000000 c.args.connection
    c.loop.auto.counter-end c.loop.invariant
