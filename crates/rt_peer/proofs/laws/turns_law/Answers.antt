use Rattle.rt_peer.proofs.TurnLaws.{turn_then_end, last_turn, so_many}
use Rattle.rt_peer.proofs.laws.turns_law.Goals as goal

pub returns-clause-same : goal.returns-clause-same
returns-clause-same c = turn_then_end

pub returns-clause-last : goal.returns-clause-last
returns-clause-last c = last_turn

pub returns-clause-so_many : goal.returns-clause-so_many
returns-clause-so_many c = so_many
