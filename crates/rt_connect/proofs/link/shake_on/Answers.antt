use Rattle.rt_connect.proofs.Opens.{connected_by}
use Rattle.rt_connect.proofs.link.shake_on.Goals as goal

pub loop-preserved : goal.loop-preserved
loop-preserved g c = connected_by _ c.handshake.result c.handshake.ensures
