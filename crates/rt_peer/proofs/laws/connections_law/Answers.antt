use Rattle.rt_peer.proofs.OrderLaws.{least_of, new_keeps, rises_all, rises_pairs, run_keeps}
use Rattle.rt_peer.proofs.laws.connections_law.Goals as goal

pub returns-clause-rise : goal.returns-clause-rise
returns-clause-rise c tree denied calls =
    let h = (run_keeps _ calls (new_keeps tree denied)).numbers in
    (rises_all _ h, rises_pairs 1 _ h)

pub returns-clause-next : goal.returns-clause-next
returns-clause-next c tree denied calls =
    let is = least_of _ (run_keeps _ calls (new_keeps tree denied)).numbers in
    (is.from, is.fresh, is.least)
