use Rattle.rt_client.proofs.ClientCrosses.{client_send, client_sync, message_send, mirror_send, seat_send, snapshots_send}
use Rattle.rt_client.proofs.Crosses.{action_send, call_send, entries_send, item_send, key_send, path_send, query_send, server_send, tree_send, tree_sync}
use Rattle.rt_client.proofs.laws.crossing_law.Goals as goal

pub returns : goal.returns
returns c = record {
  client = client_sync;
  moved = client_send;
  seat = seat_send;
  item = item_send;
  mirror = mirror_send;
  snapshots = snapshots_send;
  query = query_send;
  path = path_send;
  tree = tree_send;
  shared = tree_sync;
  key = key_send;
  entries = entries_send;
  action = action_send;
  call = call_send;
  message = message_send;
  server = server_send;
}
