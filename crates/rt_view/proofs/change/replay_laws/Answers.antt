use Rattle.rt_view.proofs.ReplayLaws.{replay-row_changes}
use Rattle.rt_view.proofs.change.replay_laws.Goals as goal

pub returns : goal.returns
returns c = replay-row_changes
