use Rattle.std.proofs.Common.{◌≡◌, ◌==◌, not, take}
use Rattle.std.specs.List.{filter, list_any}
use Rattle.rt_parts.specs.inside.HeldView.{AreHeld}
use Rattle.rt_parts.specs.inside.Placed.{IsIndex}
use Rattle.rt_parts.proofs.renewal.end_each.Given as goal

-- those of the numbers so far are out
abbrev pub invariant-loop-number : goal.invariant-loop-number
invariant-loop-number l = record {
  left : l.held.items ≡ filter (λ h. not (list_any (λ n. h.number == n) (take l.number-index l.numbers))) l.initial.held.items;
  held : AreHeld l.held.items;
  index : IsIndex l.held.items l.places.items;
}
