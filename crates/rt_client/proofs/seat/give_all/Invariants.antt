use Rattle.std.proofs.Common.{◌≡◌, length}
use Rattle.std.specs.List.{fold}
use Rattle.rt_client.proofs.seat.give_all.Given as goal

-- what is left makes of the sink what all makes of it
abbrev pub invariant-loop-item : goal.invariant-loop-item
invariant-loop-item g l =
    (fold g.S.Sink.after_item l.sink l.inbox.items ≡ fold g.S.Sink.after_item l.initial.sink l.initial.inbox.items)
    × (l.inbox.capacity ≡ l.initial.inbox.capacity)

abbrev pub decreases-loop-item : goal.decreases-loop-item
decreases-loop-item g l = length l.inbox.items
