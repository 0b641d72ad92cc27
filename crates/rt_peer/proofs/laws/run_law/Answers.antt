use Rattle.rt_peer.proofs.RunLaws.{tree_of_run}
use Rattle.rt_peer.proofs.laws.run_law.Goals as goal

pub returns : goal.returns
returns c = tree_of_run
