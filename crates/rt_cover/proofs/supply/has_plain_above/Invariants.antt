use Rattle.std.proofs.Common.{◌≡◌, false}
use Rattle.std.specs.List.{list_any}
use Rattle.rt_cover.specs.Cover.{Registered}
use Rattle.rt_cover.specs.inside.Endings.{by_number, left}
use Rattle.rt_cover.proofs.ByPathLaws.{is_plain_above}
use Rattle.rt_cover.proofs.supply.has_plain_above.Given as goal

abbrev pub invariant-loop-count : goal.invariant-loop-count
invariant-loop-count g l = list_any (is_plain_above (λ (x : Registered). x.1) l.path l.count) (left (by_number (g.E.EndedListeners.ended l.ending)) l.listeners) ≡ false
