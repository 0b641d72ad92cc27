use Rattle.std.proofs.Common.{◌≡◌, ◌++◌, ℕ, List, map, take, drop}
use Rattle.std.specs.Option.{option_map}
use Rattle.rt_lines.specs.inside.Appending.{Appends}
use Rattle.rt_client.specs.Delivery.{emptied}
use Rattle.rt_connect.proofs.Rounds.{AreTelling}
use Rattle.rt_connect.proofs.seats.settle_each.Given as goal

-- those so far were told, and their rings are empty
abbrev pub invariant-loop-place : goal.invariant-loop-place
invariant-loop-place l =
    (l.seats ≡ map (option_map emptied) (take l.place-index l.initial.seats)
    ++ drop l.place-index l.initial.seats)
    × ((text : List ℕ) × Appends l.initial.out l.out text
    × AreTelling l.initial.shared l.initial.seats text l.place-index l.shared)
