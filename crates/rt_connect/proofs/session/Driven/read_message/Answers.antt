use Rattle.std.proofs.Common.{refl}
use Rattle.rt_connect.proofs.Driving.{stands_so}
use Rattle.rt_connect.proofs.session.Driven.read_message.Goals as goal

pub returns : goal.returns
returns g c =
    stands_so c.take_heard.result c.in_ok-heard.heard _ c.take_heard.new.self.link _ refl
    c.take_heard.ensures.goes_on c.take_heard.ensures.link
