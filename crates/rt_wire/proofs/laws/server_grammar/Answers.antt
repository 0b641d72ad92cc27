use Rattle.rt_wire.proofs.ServerSaid.{server_said, server_read}
use Rattle.rt_wire.proofs.laws.server_grammar.Goals as goal

pub returns : goal.returns
returns c = λ text m. (server_said text m, server_read text m)
