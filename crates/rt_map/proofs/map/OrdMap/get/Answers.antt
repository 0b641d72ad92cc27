use Rattle.std.proofs.Common.{subst}
use Rattle.std.specs.Prelude.{IfSome}
use Rattle.std.specs.List.{IsAmong}
use Rattle.std.specs.BTreeMap.{is_at}
use Rattle.rt_map.specs.Maps.{values}
use Rattle.rt_map.specs.inside.Roots.{root_entries}
use Rattle.rt_map.proofs.Lookups.{found_is_among}
use Rattle.rt_map.proofs.map.OrdMap.get.Goals as goal

pub returns-clause-member : goal.returns-clause-member
returns-clause-member g c =
    subst (λ m. IfSome c.get.result (λ x. IsAmong (values m) x.now)) c.self.view_is
    (found_is_among (is_at (g.K.Ord.cmp c.args.key.now)) (root_entries c.self.inside.root) c.get.result c.get.ensures)
