use Rattle.rt_peer.specs.Peers.{new_peer}
use Rattle.rt_peer.specs.Runs.{after_all}
use Rattle.rt_peer.proofs.OrderLaws.{new_keeps, run_keeps}
use Rattle.rt_peer.proofs.PartsRising.{parts_rise}
use Rattle.rt_peer.proofs.PushedLaws.{ends_by_version, messages_by_version, turns_by_version}
use Rattle.rt_peer.proofs.laws.pushes_law.Goals as goal

pub returns-clause-messages : goal.returns-clause-messages
returns-clause-messages c tree denied calls =
    messages_by_version (after_all (new_peer tree denied) calls)
    (run_keeps (new_peer tree denied) calls (new_keeps tree denied)).listens

pub returns-clause-ends : goal.returns-clause-ends
returns-clause-ends c tree denied calls =
    ends_by_version (after_all (new_peer tree denied) calls)
    (run_keeps (new_peer tree denied) calls (new_keeps tree denied)).listens

pub returns-clause-turns : goal.returns-clause-turns
returns-clause-turns c tree denied calls =
    turns_by_version (after_all (new_peer tree denied) calls)
    (run_keeps (new_peer tree denied) calls (new_keeps tree denied)).listens

pub returns-clause-parts : goal.returns-clause-parts
returns-clause-parts c tree denied calls =
    parts_rise (after_all (new_peer tree denied) calls)
    (run_keeps (new_peer tree denied) calls (new_keeps tree denied)).listens
