use Rattle.rt_map.proofs.Before.{stop_at, stop_gap}
use Rattle.rt_map.proofs.chunk.count_below.Goals as goal

pub returns-in-Ok : goal.returns-in-Ok
returns-in-Ok g c = stop_at g.K.Ord.cmp c.args.key.now c.args.entries.now c.in-Ok.at c.in-Ok.ensures.found

pub returns-in-Err : goal.returns-in-Err
returns-in-Err g c = stop_gap g.K.Ord.cmp c.args.key.now c.args.entries.now c.in-Err.at c.in-Err.ensures.absent
