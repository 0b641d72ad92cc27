use Rattle.rt_tree.specs.Path.{path_fault}
use Rattle.rt_hub.proofs.Faults.{no_fault}
use Rattle.rt_hub.proofs.refusal.check_path.Goals as goal

pub returns-clause-ok : goal.returns-clause-ok
returns-clause-ok c =
    no_fault (path_fault c.args.text.now) c.parse.result c.in_ok-_path._path c.in_ok-_path.was
    c.parse.ensures.refused
