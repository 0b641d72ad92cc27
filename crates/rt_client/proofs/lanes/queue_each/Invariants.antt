use Rattle.rt_client.proofs.Slots.{Goes}
use Rattle.rt_client.proofs.lanes.queue_each.Given as goal

-- some first notes are queued, and the iterator has the rest
abbrev pub invariant-loop-note : goal.invariant-loop-note
invariant-loop-note l = Goes l.fn.notes.items l.note-iterator.rest.items l.fn.lanes.items l.lanes.items
