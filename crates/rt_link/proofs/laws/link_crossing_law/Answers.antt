use Rattle.rt_link.proofs.Crosses.{bell_send, bell_sync, fault_send}
use Rattle.rt_link.proofs.Crosses.{link_send, linked_send, linked_sync}
use Rattle.rt_link.proofs.laws.link_crossing_law.Goals as goal

pub returns : goal.returns
returns c =
    let law = c.crossing_law.ensures in
    record {
      linked = linked_sync law.client;
      moved = linked_send law.moved;
      bell = bell_sync;
      moved_bell = bell_send;
      link = link_send;
      fault = fault_send;
    }
