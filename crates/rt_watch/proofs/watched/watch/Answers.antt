use Rattle.rt_watch.proofs.Faulting.{outcome_tells}
use Rattle.rt_watch.proofs.watched.watch.Goals as goal

pub returns-clause-fault : goal.returns-clause-fault
returns-clause-fault g c =
    outcome_tells c.run-outcome.result c.close-closed.result c.outcome.result _
    (g.D.Drain.failures c.args.writer.now) (g.D.Drain.failures c.run-outcome.new.writer) c.run-outcome.ensures.ok
    c.run-outcome.ensures.fault c.outcome.ensures.run c.outcome.ensures.closed c.outcome.ensures.done
