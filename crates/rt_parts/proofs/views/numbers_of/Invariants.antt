use Rattle.std.proofs.Common.{◌≡◌, take}
use Rattle.std.specs.List.{filter_map}
use Rattle.rt_parts.specs.inside.HeldView.{own_number}
use Rattle.rt_parts.proofs.views.numbers_of.Given as goal

-- the numbers of those so far
abbrev pub invariant-loop-listener : goal.invariant-loop-listener
invariant-loop-listener l = l.numbers.items ≡ filter_map (own_number l.seat) (take l.listener-index l.held)
