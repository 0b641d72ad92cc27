use Rattle.std.proofs.Common.{◌≡◌, ◌++◌, map}
use Rattle.rt_world.specs.Messages.{request_message}
use Rattle.rt_sync.proofs.state.send_requests.Given as goal

-- with the messages of what is left it is all
abbrev pub invariant-loop-request : goal.invariant-loop-request
invariant-loop-request l =
    l.outgoing.items ++ map request_message l.request-iterator ≡ l.initial.outgoing.items ++ map request_message l.requests
