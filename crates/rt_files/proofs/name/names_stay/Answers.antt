use Rattle.rt_files.proofs.Staying.{names-stay}
use Rattle.rt_files.proofs.name.names_stay.Goals as goal

pub returns : goal.returns
returns c = names-stay
