use Rattle.rt_script.proofs.Written.{err_always, prints_all}
use Rattle.rt_script.proofs.script.Script.do_line.Goals as goal

pub returns-clause-stopped : goal.returns-clause-stopped
returns-clause-stopped g c =
    err_always _ c.say_line.result (prints_all c.args.bytes.now c.args.self.now c.count_line.new.self c.in_ok-is_good.ensures.done)
