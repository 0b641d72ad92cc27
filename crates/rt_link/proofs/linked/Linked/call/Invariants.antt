use Rattle.std.proofs.Common.{◌≡◌}
use Rattle.rt_link.specs.Answering.{Hears}
use Rattle.rt_link.proofs.linked.Linked.call.Given as goal

-- the call is the one that is to be made, behind what was heard
abbrev pub invariant-loop : goal.invariant-loop
invariant-loop g l =
    (l.call ≡ l.initial.call)
    × Hears l.initial.seat l.initial.heard l.initial.answers l.seat l.heard l.answers
