use Rattle.std.proofs.Common.{rules, ◌≡◌, string_bytes}
use Rattle.rt_connect.proofs.Driving.{told_text}
use Rattle.rt_connect.proofs.session.Driven.take_heard.Goals as goal

pub returns-in_ok-settle-in-Told-clause-printed : goal.returns-in_ok-settle-in-Told-clause-printed
returns-in_ok-settle-in-Told-clause-printed g c =
    let same : c.take.new.self.seats.items ≡ c.args.self.now.seats.items = search rules in
    told_text (string_bytes c.args.self.now.printed) (string_bytes c.take.new.self.printed)
    (string_bytes c.settle.new.self.printed) c.in_ok-take-in-Told.ensures.printed.0 c.args.heard c.in-Told.told
    c.args.self.now.seats.items c.take.new.self.seats.items c.in-Told.is same
    c.in_ok-take-in-Told.ensures.printed.1 c.in_ok-take-in-Told.ensures.printed.2
    c.in_ok-settle-in-Told.ensures.printed
