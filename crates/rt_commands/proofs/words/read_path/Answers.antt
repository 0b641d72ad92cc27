use Rattle.rt_commands.proofs.Asking.{path_read}
use Rattle.rt_commands.proofs.words.read_path.Goals as goal

pub returns-in-Ok : goal.returns-in-Ok
returns-in-Ok c = path_read c.args.text.now c.in-Ok.path c.in-Ok.ensures.ok c.in-Ok.ensures.refused
