use Rattle.std.specs.Sync.Mutex.{mutex_guard_value}
use Rattle.rt_watch.proofs.Turned.{rounds}
use Rattle.rt_watch.proofs.watched.Watched.round.Goals as goal

pub returns-clause-done : goal.returns-clause-done
returns-clause-done g c =
    rounds c.go_on.result (mutex_guard_value c.args.queue) (g.D.Drain.contents c.args.writer.now)
    (g.D.Drain.contents c.do_waiting.new.writer) (g.D.Drain.contents c.go_on.new.writer) c.args.enough
    c.args.self.now c.do_waiting.new.self c.go_on.new.self c.go_on.ensures.done
    c.in_ok-do_waiting.ensures.done
