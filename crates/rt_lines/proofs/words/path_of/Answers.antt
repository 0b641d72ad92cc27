use Rattle.rt_tree.specs.Path.{path_keys, path_fault}
use Rattle.rt_lines.proofs.Faults.{unless_ok}
use Rattle.rt_lines.proofs.words.path_of.Goals as goal

pub returns-in-Ok-clause-ok : goal.returns-in-Ok-clause-ok
returns-in-Ok-clause-ok c = unless_ok (path_fault c.args.text.now) c.in-Ok.path (path_keys c.args.text.now) c.in-Ok.ensures.refused c.in-Ok.ensures.ok
