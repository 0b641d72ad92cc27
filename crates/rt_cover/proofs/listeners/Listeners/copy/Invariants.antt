use Rattle.std.proofs.Common.{◌≡◌, take}
use Rattle.rt_cover.proofs.listeners.Listeners.copy.Given as goal

abbrev pub invariant-loop-listener : goal.invariant-loop-listener
invariant-loop-listener l = l.copy ≡ take l.listener-index l.by_number
