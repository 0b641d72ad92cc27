use Rattle.std.proofs.Common.{◌≡◌, ◌++◌, drop, map}
use Rattle.rt_parts.specs.declared.places.ListenerPlace.{ListenerPlace}
use Rattle.rt_parts.proofs.places.push_numbers.Given as goal

-- the numbers so far, and those of the places that are left
abbrev pub invariant-loop-place : goal.invariant-loop-place
invariant-loop-place l =
    l.numbers.items ++ map (λ (x : ListenerPlace). x.number) (drop l.place-index l.places) ≡ l.initial.numbers.items ++ map (λ (x : ListenerPlace). x.number) l.places
