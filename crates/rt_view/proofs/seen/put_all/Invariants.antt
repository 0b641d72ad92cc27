use Rattle.std.proofs.Common.{◌≡◌}
use Rattle.std.specs.FinMap as map_of
use Rattle.std.specs.List.{fold}
use Rattle.rt_order.specs.Entries.{entry_cmp}
use Rattle.rt_view.specs.inside.Telling.{put_all}
use Rattle.rt_view.proofs.seen.put_all.Given as goal

abbrev pub invariant-loop-position : goal.invariant-loop-position
invariant-loop-position g l = fold (λ es c. map_of.put entry_cmp c.0 c.1 es) l.map.entries l.position-iterator.rest.items ≡ put_all l.fn.children.items
