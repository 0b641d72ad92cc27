use Rattle.rt_peer.proofs.OrderLaws.{begins_older, new_keeps, rises_pairs, run_keeps}
use Rattle.rt_peer.proofs.VersionLaws.{told_last}
use Rattle.rt_peer.proofs.laws.versions_law.Goals as goal

pub returns-clause-rise : goal.returns-clause-rise
returns-clause-rise c tree denied calls =
    rises_pairs 0 _ (run_keeps _ calls (new_keeps tree denied)).newer

pub returns-clause-known : goal.returns-clause-known
returns-clause-known c tree denied calls = (run_keeps _ calls (new_keeps tree denied)).newer_known

pub returns-clause-begins : goal.returns-clause-begins
returns-clause-begins c tree denied calls = begins_older _ (run_keeps _ calls (new_keeps tree denied))

pub returns-clause-told : goal.returns-clause-told
returns-clause-told c = told_last
