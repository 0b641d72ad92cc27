use Rattle.rt_wire.proofs.ClientSaid.{client_said, client_read}
use Rattle.rt_wire.proofs.laws.client_grammar.Goals as goal

pub returns : goal.returns
returns c = λ text m. (client_said text m, client_read text m)
