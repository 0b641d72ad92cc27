use Rattle.rt_world.proofs.AskedLaws.{write_is_made, ending_is_made, writes_are_shallow, next_is_above_pending}
use Rattle.rt_world.proofs.laws.asked_law.Goals as goal

pub returns : goal.returns
returns c = record { write = write_is_made; ending = ending_is_made; shallow = writes_are_shallow; above = next_is_above_pending }
