use Rattle.rt_lines.specs.inside.Appending.{Appends}
use Rattle.rt_connect.specs.Doing.{Obeys}
use Rattle.rt_connect.proofs.Driving.{at_some_time}
use Rattle.rt_connect.proofs.session.Driven.obey.Goals as goal

pub returns-clause-done : goal.returns-clause-done
returns-clause-done g c =
    at_some_time (Appends c.args.self.now.printed c.obey.new.out)
    (λ a b x. Obeys c.args.order a c.args.self.now.seats.items x b c.obey.new.seats.items) c.obey.result _ _
    c.obey.ensures
