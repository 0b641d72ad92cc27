use Rattle.std.proofs.Common.{rules, ◌≡◌, Some, string_bytes}
use Rattle.rt_connect.specs.Ahead.{nothing_ahead}
use Rattle.rt_connect.specs.Sending.{linked}
use Rattle.rt_connect.proofs.Driving.{began, lost_at_once}
use Rattle.rt_connect.proofs.session.Driven.begin.Goals as goal

pub returns-clause-stands : goal.returns-clause-stands
returns-clause-stands g c =
    let is : c.tell_connected.new.self.link ≡ Some c.new.result = search rules in
    began g.W.Awaited.sends c.send_waiting.result c.tell_connected.new.self.link
    c.send_waiting.new.self.link c.new.result (λ l. linked l.wire l.ahead) (linked c.args.wire nothing_ahead)
    c.args.self.now.printed c.tell_connected.new.self.printed c.send_waiting.new.self.printed
    c.in_ok-tell_connected.ensures.printed.0 is (λ i. linked (c.new.ensures.wire i) (c.new.ensures.ahead i))
    c.in_ok-tell_connected.ensures.printed.1 c.in_ok-tell_connected.ensures.printed.2 c.send_waiting.ensures.sent

pub returns-clause-lost : goal.returns-clause-lost
returns-clause-lost g c =
    let is : c.tell_connected.new.self.link ≡ Some c.new.result = search rules in
    let same : c.tell_connected.new.self.seats.items ≡ c.args.self.now.seats.items = search rules in
    lost_at_once c.send_waiting.result c.tell_connected.new.self.link c.send_waiting.new.self.link c.new.result
    (string_bytes c.args.self.now.printed) (string_bytes c.tell_connected.new.self.printed)
    (string_bytes c.send_waiting.new.self.printed) c.in_ok-tell_connected.ensures.printed.0
    c.args.self.now.seats.items c.tell_connected.new.self.seats.items is same
    c.in_ok-tell_connected.ensures.printed.1 c.in_ok-tell_connected.ensures.printed.2 c.send_waiting.ensures.lost
