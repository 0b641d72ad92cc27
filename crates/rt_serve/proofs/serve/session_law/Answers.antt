use Rattle.rt_serve.proofs.Sessions.{sessions_leave}
use Rattle.rt_serve.proofs.serve.session_law.Goals as goal

pub returns : goal.returns
returns c p texts rise next = sessions_leave p texts rise.1 next.1
