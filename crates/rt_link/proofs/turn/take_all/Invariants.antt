use Rattle.std.proofs.Common.{◌≡◌, ◌++◌, List}
use Rattle.rt_client.specs.Calls.{HasFailed}
use Rattle.rt_link.specs.declared.turn.Passed.{Passed}
use Rattle.rt_link.proofs.Taken.{Goes}
use Rattle.rt_link.proofs.turn.take_all.Given as goal

abbrev pub invariant-loop-read : goal.invariant-loop-read
invariant-loop-read l =
    (so : List Passed) × (l.passed.items ≡ l.fn.passed.items ++ so)
    × Goes l.fn.messages.items l.fn.shared so l.read-iterator.rest.items l.shared
    × (HasFailed l.shared → HasFailed l.fn.shared)
