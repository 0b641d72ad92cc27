use Rattle.rt_world.proofs.RunLaws.{is_written, is_brought}
use Rattle.rt_world.proofs.laws.plain_law.Goals as goal

pub returns-clause-written : goal.returns-clause-written
returns-clause-written c = is_written

pub returns-clause-brought : goal.returns-clause-brought
returns-clause-brought c = is_brought
