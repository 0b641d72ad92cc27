use Rattle.std.proofs.Common.{◌+◌, ◌-◌, length}
use Rattle.rt_http.proofs.ChunkSteps.{AreIn}
use Rattle.rt_http.proofs.request.read_chunks.Given as goal

abbrev pub invariant-loop-at : goal.invariant-loop-at
invariant-loop-at l = AreIn l.bytes l.initial.body.items l.at l.body.items

abbrev pub decreases-loop-at : goal.decreases-loop-at
decreases-loop-at l = length l.bytes + 1 - l.at
