use Rattle.std.proofs.Common.{◌≡◌, take}
use Rattle.std.specs.List.{filter_map}
use Rattle.rt_parts.specs.inside.Pairs.{named_at}
use Rattle.rt_parts.proofs.views.keys_by.Given as goal

-- those of the pairs so far
abbrev pub invariant-loop-pair : goal.invariant-loop-pair
invariant-loop-pair l = l.keys.items ≡ filter_map (named_at l.path l.entries) (take l.pair-index l.own)
