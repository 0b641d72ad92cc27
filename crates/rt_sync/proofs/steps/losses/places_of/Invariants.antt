use Rattle.std.proofs.Common.{◌≡◌, ◌++◌, drop}
use Rattle.rt_sync.specs.inside.Losing.{places_at}
use Rattle.rt_sync.proofs.steps.losses.places_of.Given as goal

-- with those of the numbers that are left they are all
abbrev pub invariant-loop-number : goal.invariant-loop-number
invariant-loop-number l = l.places.items ++ places_at l.listeners.listeners (drop l.number-index l.numbers) ≡ places_at l.listeners.listeners l.numbers
