use Rattle.std.proofs.Common.{◌≡◌, ◌⊎◌}
use Rattle.rt_client.specs.Delivery.{AfterTurns}
use Rattle.rt_client.proofs.delivery.deliver.Given as goal

-- turns were made, and none where the gate never says yes
abbrev pub invariant-loop : goal.invariant-loop
invariant-loop g l =
    AfterTurns g.S.Sink.after_item l.counter l.fn.seat l.fn.sink l.seat l.sink
    × ((l.counter ≡ 0) ⊎ g.G.Gate.may_go l.gate)
