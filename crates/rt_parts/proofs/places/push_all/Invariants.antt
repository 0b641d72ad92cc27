use Rattle.std.proofs.Common.{◌≡◌, ◌++◌, drop, map}
use Rattle.rt_parts.specs.declared.places.ListenerPlace.{ListenerPlace}
use Rattle.rt_parts.proofs.places.push_all.Given as goal

-- the pairs so far, and those of the places that are left
abbrev pub invariant-loop-place : goal.invariant-loop-place
invariant-loop-place l =
    l.pairs.items ++ map (λ (x : ListenerPlace). (x.number, l.entry)) (drop l.place-index l.places) ≡ l.initial.pairs.items ++ map (λ (x : ListenerPlace). (x.number, l.entry)) l.places
