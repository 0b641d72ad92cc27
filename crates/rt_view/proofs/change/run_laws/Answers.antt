use Rattle.rt_view.proofs.RunLaws.{replay_shown, run_turns, turns_count, reads_named}
use Rattle.rt_view.proofs.change.run_laws.Goals as goal

pub returns : goal.returns
returns c = record { replay = replay_shown; turn = run_turns; count = turns_count; reads = reads_named }
