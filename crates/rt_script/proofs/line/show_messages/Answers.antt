use Rattle.rt_sync.specs.Core.{world_in}
use Rattle.rt_script.proofs.Doings.{on_err}
use Rattle.rt_script.proofs.Waiting.{lacks_all}
use Rattle.rt_script.proofs.line.show_messages.Goals as goal

pub returns-clause-lacking : goal.returns-clause-lacking
returns-clause-lacking c = on_err c.write_messages.result (lacks_all (world_in c.args.core.now) (world_in c.take_messages.new.core) c.in_ok-messages.ensures.world)
