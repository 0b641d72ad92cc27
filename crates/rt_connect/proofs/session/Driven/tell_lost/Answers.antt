use Rattle.std.proofs.Common.{◌++◌}
use Rattle.rt_world.specs.declared.step.Step.TheVariants.{Disconnected}
use Rattle.rt_lines.specs.inside.Appending.{Appends}
use Rattle.rt_connect.specs.Doing.{IsTold, disconnected}
use Rattle.rt_connect.proofs.Driving.{at_some_time}
use Rattle.rt_connect.proofs.session.Driven.tell_lost.Goals as goal

pub returns-clause-printed : goal.returns-clause-printed
returns-clause-printed g c =
    at_some_time (λ x. Appends c.args.self.now.printed c.tell_lost.new.out (disconnected ++ x))
    (λ a b x. IsTold a Disconnected b x) c.tell_lost.result _ _ c.tell_lost.ensures
