use Rattle.std.proofs.Common.{◌≡◌, ◌++◌, length}
use Rattle.rt_client.specs.Calls.{HasFailed}
use Rattle.rt_link.specs.Taking.{waiting_of, without_waiting}
use Rattle.rt_link.proofs.turn.take_batch.Given as goal

abbrev pub invariant-loop : goal.invariant-loop
invariant-loop l =
    (length l.messages.items ≡ l.counter)
    × (waiting_of l.initial.shared ≡ l.messages.items ++ waiting_of l.shared)
    × (without_waiting l.shared ≡ without_waiting l.initial.shared)
    × (HasFailed l.shared → HasFailed l.initial.shared)
