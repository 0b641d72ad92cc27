use Rattle.std.proofs.Common.{◌≡◌, ◌++◌, drop}
use Rattle.std.specs.List.{filter_map}
use Rattle.rt_parts.specs.inside.HeldView.{ended_among, listeners_of}
use Rattle.rt_parts.proofs.renewal.tell_ends.Given as goal

-- with those of the numbers that are left, all are told
abbrev pub invariant-loop-number : goal.invariant-loop-number
invariant-loop-number l = l.notes.items ++ filter_map (ended_among (drop l.number-index l.numbers) l.why) (listeners_of l.listeners) ≡ l.initial.notes.items ++ filter_map (ended_among l.numbers l.why) (listeners_of l.listeners)
