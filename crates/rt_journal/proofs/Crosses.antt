-- A tree may be handed to another thread: type by type, since `search` ends at its limits where it has to
-- go through all of them at once.
use denote.Param.Send.{IsSend, IsSync, sendable}
use Rattle.std.proofs.Crossing.{crosses}
use Rattle.std.proofs.MapsCrossing.{crosses as maps_cross}
use Rattle.std.specs.Prelude.{◌==◌}
use Rattle.std.specs.Ordering.{as_partial_cmp, nat_cmp}
use Rattle.std.specs.Cmp.Lexicographic.{slice_cmp, pointwise}
use Rattle.std.specs.declared.cmp.Ord as ord
use Rattle.std.specs.declared.cmp.PartialEq as eq
use Rattle.std.specs.declared.cmp.PartialOrd as partial
use Rattle.rt_tree.proofs.tree.Tree.TheLaws.TheKnot.{both_send-Tree, both_sync-Tree}
use Rattle.rt_tree.specs.contracts.key.Key as key
use Rattle.rt_tree.specs.contracts.leaf.Leaf as leaf
use Rattle.rt_tree.specs.contracts.tree.Tree as tree
use Rattle.rt_journal.proofs.MapCrosses.{map_send, map_sync}

pub ruleset all_cross = (sendable, crosses, maps_cross)

pub key_send : IsSend key.the_row
key_send = search all_cross depth 40 fits 20000

pub key_sync : IsSync key.the_row
key_sync = search all_cross depth 40 fits 20000

pub leaf_send : IsSend leaf.the_row
leaf_send = search all_cross depth 40 fits 20000

pub leaf_sync : IsSync leaf.the_row
leaf_sync = search all_cross depth 40 fits 20000

-- how keys compare
abbrev key_ord : ord.Ghosts key.the_row.Denot
key_ord = record { cmp = slice_cmp nat_cmp }

abbrev key_eq : eq.Ghosts key.the_row.Denot
key_eq = record { eq = pointwise ◌==◌ }

abbrev key_partial : partial.Ghosts key.the_row.Denot
key_partial = record { partial_cmp = as_partial_cmp (slice_cmp nat_cmp) }

-- trees share their children
pub tree_send : IsSend tree.the_row
tree_send =
    both_send-Tree leaf_send (λ V s y. map_send key.the_row V key_ord key_eq key_partial key_send key_sync s y)
    leaf_sync (λ V s y. map_sync key.the_row V key_ord key_eq key_partial key_send key_sync s y)

pub tree_sync : IsSync tree.the_row
tree_sync =
    both_sync-Tree leaf_send (λ V s y. map_send key.the_row V key_ord key_eq key_partial key_send key_sync s y)
    leaf_sync (λ V s y. map_sync key.the_row V key_ord key_eq key_partial key_send key_sync s y)
