use Rattle.rt_journal.proofs.Pieces.{refused_result, taken_result}
use Rattle.rt_journal.proofs.book.Replaying.take_first.Goals as goal

pub returns-clause-ok : goal.returns-clause-ok
returns-clause-ok c =
    taken_result c.take_line.result c.args.self.now c.take_line.new.self c.args.rest.now c.args.at c.requires
    c.take_line.ensures.ok

pub returns-clause-fault : goal.returns-clause-fault
returns-clause-fault c =
    refused_result c.take_line.result c.args.self.now c.args.rest.now c.args.at c.requires c.take_line.ensures.fault
