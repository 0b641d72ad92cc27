-- What is handed to another thread may be: type by type, since `search` ends at its limits where it has to
-- go through all of them at once. Here what a seat's calls are made of, and what it is told.
use denote.Param.Send.{IsSend, IsSync, sendable}
use Rattle.std.proofs.Crossing.{crosses}
use Rattle.std.proofs.MapsCrossing.{crosses as maps_cross}
use Rattle.std.specs.Prelude.{◌==◌}
use Rattle.std.specs.Ordering.{as_partial_cmp, nat_cmp}
use Rattle.std.specs.Cmp.Lexicographic.{slice_cmp, pointwise}
use Rattle.std.specs.declared.cmp.Ord as ord
use Rattle.std.specs.declared.cmp.PartialEq as eq
use Rattle.std.specs.declared.cmp.PartialOrd as partial
use Rattle.rt_tree.proofs.tree.Tree.TheLaws.TheKnot.{both_send-Tree, both_sync-Tree}
use Rattle.rt_tree.specs.contracts.key.Key as key
use Rattle.rt_tree.specs.contracts.leaf.Leaf as leaf
use Rattle.rt_tree.specs.contracts.path.Path as path
use Rattle.rt_tree.specs.contracts.tree.Tree as tree
use Rattle.rt_query.specs.contracts.query.Limit as limit
use Rattle.rt_query.specs.contracts.query.Query as query
use Rattle.rt_writes.specs.contracts.entries.Entries as entries
use Rattle.rt_wire.specs.contracts.request.Reason as reason
use Rattle.rt_wire.specs.contracts.request.Action as action
use Rattle.rt_wire.specs.contracts.request.Ending as ending
use Rattle.rt_wire.specs.contracts.server.ServerMessage as server
use Rattle.rt_world.specs.contracts.step.Call as call
use Rattle.rt_mail.specs.contracts.item.Item as item
use Rattle.rt_client.proofs.MapCrosses.{map_send, map_sync}

pub ruleset all_cross = (sendable, crosses, maps_cross)

pub key_send : IsSend key.the_row
key_send = search all_cross depth 40 fits 20000

pub key_sync : IsSync key.the_row
key_sync = search all_cross depth 40 fits 20000

pub leaf_send : IsSend leaf.the_row
leaf_send = search all_cross depth 40 fits 20000

pub leaf_sync : IsSync leaf.the_row
leaf_sync = search all_cross depth 40 fits 20000

pub path_send : IsSend path.the_row
path_send = search (key_send, all_cross) depth 40 fits 20000

-- how keys compare
abbrev key_ord : ord.Ghosts key.the_row.Denot
key_ord = record { cmp = slice_cmp nat_cmp }

abbrev key_eq : eq.Ghosts key.the_row.Denot
key_eq = record { eq = pointwise ◌==◌ }

abbrev key_partial : partial.Ghosts key.the_row.Denot
key_partial = record { partial_cmp = as_partial_cmp (slice_cmp nat_cmp) }

-- trees share their children
pub tree_send : IsSend tree.the_row
tree_send =
    both_send-Tree leaf_send (λ V s y. map_send key.the_row V key_ord key_eq key_partial key_send key_sync s y)
    leaf_sync (λ V s y. map_sync key.the_row V key_ord key_eq key_partial key_send key_sync s y)

pub tree_sync : IsSync tree.the_row
tree_sync =
    both_sync-Tree leaf_send (λ V s y. map_send key.the_row V key_ord key_eq key_partial key_send key_sync s y)
    leaf_sync (λ V s y. map_sync key.the_row V key_ord key_eq key_partial key_send key_sync s y)

pub ruleset trees_cross =
    (key_send, key_sync, leaf_send, leaf_sync, path_send, tree_send, tree_sync, all_cross)

pub limit_send : IsSend limit.the_row
limit_send = search all_cross depth 40 fits 20000

pub query_send : IsSend query.the_row
query_send = search (path_send, limit_send, all_cross) depth 40 fits 20000

pub entries_send : IsSend entries.the_row
entries_send = search trees_cross depth 40 fits 20000

pub action_send : IsSend action.the_row
action_send = search (entries_send, trees_cross) depth 40 fits 20000

pub ending_send : IsSend ending.the_row
ending_send = search (entries_send, trees_cross) depth 40 fits 20000

pub ruleset calls_cross = (query_send, entries_send, action_send, ending_send, trees_cross)

pub call_send : IsSend call.the_row
call_send = search calls_cross depth 40 fits 20000

pub reason_send : IsSend reason.the_row
reason_send = search all_cross depth 40 fits 20000

pub server_send : IsSend server.the_row
server_send = search (reason_send, calls_cross) depth 40 fits 20000

pub item_send : IsSend item.the_row
item_send = search (reason_send, calls_cross) depth 40 fits 20000
