use Rattle.std.proofs.Common.{◌≡◌, true, take}
use Rattle.std.specs.List.{All}
use Rattle.rt_cover.specs.Cover.{Tagged}
use Rattle.rt_cover.specs.inside.Endings.{is_range_at}
use Rattle.rt_cover.proofs.successors.count_ranges.Given as goal

abbrev pub invariant-loop-count : goal.invariant-loop-count
invariant-loop-count l = All (λ (k : Tagged). is_range_at l.path k ≡ true) (take l.count l.listens)
