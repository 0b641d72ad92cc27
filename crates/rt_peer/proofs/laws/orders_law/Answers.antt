use Rattle.rt_peer.proofs.OrderLaws.{new_keeps, run_keeps}
use Rattle.rt_peer.proofs.laws.orders_law.Goals as goal

pub returns-clause-listens : goal.returns-clause-listens
returns-clause-listens c tree denied calls = (run_keeps _ calls (new_keeps tree denied)).listens

pub returns-clause-listens_of_known : goal.returns-clause-listens_of_known
returns-clause-listens_of_known c tree denied calls =
    (run_keeps _ calls (new_keeps tree denied)).listens_known

pub returns-clause-actions : goal.returns-clause-actions
returns-clause-actions c tree denied calls = (run_keeps _ calls (new_keeps tree denied)).actions

pub returns-clause-actions_of_known : goal.returns-clause-actions_of_known
returns-clause-actions_of_known c tree denied calls =
    (run_keeps _ calls (new_keeps tree denied)).actions_known
