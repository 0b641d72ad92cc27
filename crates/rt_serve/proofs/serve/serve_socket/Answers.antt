use Rattle.rt_serve.proofs.Sessions.{all_lost, began_known, err_served, lost_end, not_lost, ok_served}
use Rattle.rt_serve.proofs.Sessions.{some_of, took}
use Rattle.rt_serve.proofs.serve.serve_socket.Goals as goal

pub take_to_end-taken-requires : goal.take_to_end-taken-requires
take_to_end-taken-requires g c =
    began_known c.args.peer.now c.connect.new.peer c.in_ok-connection.connection
    (some_of c.args.peer.now c.in_ok-connection.connection c.connect.result c.in_ok-connection.was
    c.connect.ensures.failed) c.in_ok-connection.ensures.connected

pub returns-clause-served : goal.returns-clause-served
returns-clause-served g c =
    ok_served c.args.peer.now c.connect.new.peer c.take_to_end-taken.new.peer c.disconnect.new.self
    c.in_ok-connection.connection c.take_to_end-taken.result c.in_ok-connection.ensures.connected
    c.take_to_end-taken.ensures.taken c.in-Ok.ensures.kept

pub returns-clause-failed : goal.returns-clause-failed
returns-clause-failed g c =
    err_served c.args.peer.now c.connect.new.peer c.take_to_end-taken.new.peer c.disconnect.new.self
    c.in_ok-connection.connection c.take_to_end-taken.result
    (not_lost c.take_to_end-taken.new.peer c.disconnect.new.self c.in_ok-connection.connection _
    c.disconnect.result c.in-Ok.is c.disconnect.ensures.refused)
    c.in_ok-connection.ensures.connected c.take_to_end-taken.ensures.failed c.in-Ok.ensures.kept

pub returns-in-Err-clause-failed : goal.returns-in-Err-clause-failed
returns-in-Err-clause-failed g c =
    all_lost c.args.peer.now c.disconnect.new.self
    (lost_end c.take_to_end-taken.new.peer c.disconnect.new.self c.in_ok-connection.connection
    c.in-Err.field-0 c.disconnect.result c.in-Err.is
    (took c.connect.new.peer c.take_to_end-taken.new.peer c.in_ok-connection.connection
    c.take_to_end-taken.result
    (began_known c.args.peer.now c.connect.new.peer c.in_ok-connection.connection
    (some_of c.args.peer.now c.in_ok-connection.connection c.connect.result c.in_ok-connection.was
    c.connect.ensures.failed) c.in_ok-connection.ensures.connected)
    c.take_to_end-taken.ensures.taken c.take_to_end-taken.ensures.failed)
    c.disconnect.ensures.refused c.in-Err.ensures.fault c.disconnect.ensures.gives_up)
