use Rattle.rt_serve.proofs.Hearing.{err_heard, ok_heard}
use Rattle.rt_serve.proofs.serve.take_next.Goals as goal

pub returns-clause-taken : goal.returns-clause-taken
returns-clause-taken g c = ok_heard _ _ _ c.args.connection c.in_ok-heard.heard c.take_heard.ensures.taken

pub returns-clause-failed : goal.returns-clause-failed
returns-clause-failed g c = err_heard _ _ _ c.args.connection c.in_ok-heard.heard c.take_heard.ensures.failed
