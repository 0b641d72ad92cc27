use Rattle.rt_view.proofs.TurnLaws.{turns, changes-same, turns-append}
use Rattle.rt_view.proofs.change.turn_laws.Goals as goal

pub returns : goal.returns
returns c = record { turn = turns; none = changes-same; compose = turns-append }
