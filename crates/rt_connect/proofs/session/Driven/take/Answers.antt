use Rattle.rt_lines.specs.inside.Appending.{Appends}
use Rattle.rt_connect.specs.Doing.{TakesTold}
use Rattle.rt_connect.proofs.Driving.{at_some_time}
use Rattle.rt_connect.proofs.session.Driven.take.Goals as goal

pub returns-clause-printed : goal.returns-clause-printed
returns-clause-printed g c =
    at_some_time (Appends c.args.self.now.printed c.take_told.new.out)
    (λ a b x. TakesTold c.args.told a b x) c.take_told.result _ _ c.take_told.ensures
