use Rattle.rt_lines.specs.inside.Appending.{Appends}
use Rattle.rt_connect.specs.Telling.{TellsAll}
use Rattle.rt_connect.proofs.Driving.{at_some_time}
use Rattle.rt_connect.proofs.session.Driven.settle.Goals as goal

pub returns-clause-printed : goal.returns-clause-printed
returns-clause-printed g c =
    at_some_time (Appends c.args.self.now.printed c.settle_all.new.out)
    (λ a b x. TellsAll a c.args.self.now.seats.items x b) c.settle_all.result _ _ c.settle_all.ensures.told
