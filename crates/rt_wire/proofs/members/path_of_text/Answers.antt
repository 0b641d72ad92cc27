use Rattle.rt_wire.proofs.Faults.{path_of_text-ok}
use Rattle.rt_wire.proofs.members.path_of_text.Goals as goal

pub returns-in-Ok-clause-ok : goal.returns-in-Ok-clause-ok
returns-in-Ok-clause-ok c = path_of_text-ok c.args.text.now c.in-Ok.path c.in-Ok.ensures.refused c.in-Ok.ensures.ok
