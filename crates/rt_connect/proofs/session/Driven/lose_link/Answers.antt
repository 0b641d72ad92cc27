use Rattle.std.proofs.Common.{rules, ◌≡◌, string_bytes}
use Rattle.rt_connect.proofs.Driving.{lost_text}
use Rattle.rt_connect.proofs.session.Driven.lose_link.Goals as goal

pub returns-clause-printed : goal.returns-clause-printed
returns-clause-printed g c =
    let same : c.tell_lost.new.self.seats.items ≡ c.args.self.now.seats.items = search rules in
    lost_text (string_bytes c.args.self.now.printed) (string_bytes c.tell_lost.new.self.printed)
    (string_bytes c.settle.new.self.printed) c.in_ok-tell_lost.ensures.printed.0 c.args.self.now.seats.items
    c.tell_lost.new.self.seats.items c.settle.result same c.in_ok-tell_lost.ensures.printed.1
    c.in_ok-tell_lost.ensures.printed.2 c.settle.ensures.printed
