use Rattle.std.proofs.Common.{rules, List}
use Rattle.clap.specs.Words.{Row, found_of, rows_of}
use Rattle.rt_commands.proofs.Asking.{served_by}
use Rattle.rt_commands.proofs.words.read_serving.Goals as goal

pub returns : goal.returns
returns c =
    let rows : List Row = rows_of (found_of c.args.entries.now) in
    served_by rows _ _ c.in_ok-tree.tree c.in_ok-denied.denied (search rules) (search rules) (search rules)
    (search rules)
