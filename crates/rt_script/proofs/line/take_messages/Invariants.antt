use Rattle.std.proofs.Common.{length}
use Rattle.rt_sync.specs.Core.{world_in}
use Rattle.rt_script.specs.Doing.{waiting}
use Rattle.rt_script.proofs.Waiting.{HasTaken}
use Rattle.rt_script.proofs.line.take_messages.Given as goal

abbrev pub invariant-loop-message : goal.invariant-loop-message
invariant-loop-message l = HasTaken (world_in l.initial.core) l.messages.items (world_in l.core)

abbrev pub decreases-loop-message : goal.decreases-loop-message
decreases-loop-message l = length (waiting (world_in l.core))
