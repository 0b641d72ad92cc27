use Rattle.rt_commands.proofs.Asking.{passed_on}
use Rattle.rt_commands.proofs.words.read_asked.Goals as goal

pub returns-in_err-work-clause-work : goal.returns-in_err-work-clause-work
returns-in_err-work-clause-work c =
    passed_on _ c.in_err-work.field-0.0 c.from_residual.result c.from_residual.ensures.1 c.in_err-work.ensures
