use Rattle.std.proofs.Common.{rules, ◌≡◌, length, refl}
use Rattle.rt_connect.specs.Sending.{linked, text_of}
use Rattle.rt_connect.proofs.Sending.{sent_one}
use Rattle.rt_connect.proofs.link.ServerLink.send.Goals as goal

pub returns : goal.returns
returns g c =
    let is : c.as_str-words.result.now ≡ text_of c.args.message.now = search rules in λ _.
    sent_one g.W.Awaited.sends (linked c.args.self.now.wire c.args.self.now.ahead)
    (linked c.make_way.new.self.wire c.make_way.new.self.ahead)
    (linked c.send.new.self c.note_sent.new.self) c.args.message.now
    (length c.as_str-words.result.now) c.as_str-words.result.now c.in_ok-why-2.field-0 is refl
    (c.in_ok-why.ensures.way c.in_default.is) c.in_ok-why-2.ensures c.in_default-2.is c.in_ok-note_sent.ensures
