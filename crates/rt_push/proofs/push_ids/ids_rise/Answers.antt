use Rattle.std.specs.Prelude.{None}
use Rattle.rt_push.proofs.Rising.{rise}
use Rattle.rt_push.proofs.push_ids.ids_rise.Goals as goal

pub returns : goal.returns
returns c = λ calls. (rise None calls).1
