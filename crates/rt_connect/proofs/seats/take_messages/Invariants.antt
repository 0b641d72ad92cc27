use Rattle.std.proofs.Common.{◌≡◌, ◌++◌, length}
use Rattle.rt_connect.specs.inside.Waiting.{waiting_of, without_waiting}
use Rattle.rt_connect.proofs.seats.take_messages.Given as goal

abbrev pub invariant-messages : goal.invariant-messages
invariant-messages l =
    (waiting_of l.fn.shared ≡ l.messages.items ++ waiting_of l.shared)
    × (without_waiting l.shared ≡ without_waiting l.fn.shared)

abbrev pub decreases-messages : goal.decreases-messages
decreases-messages l = length (waiting_of l.shared)
