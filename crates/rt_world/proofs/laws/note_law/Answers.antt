use Rattle.rt_world.proofs.NoteLaws.{settled_once_told, batches_are_notes, still_is_quiet}
use Rattle.rt_world.proofs.laws.note_law.Goals as goal

pub returns : goal.returns
returns c = record { settled = settled_once_told; batches = batches_are_notes; still = still_is_quiet }
