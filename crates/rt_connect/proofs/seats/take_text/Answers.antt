use Rattle.rt_wire.specs.Server.{server_message}
use Rattle.rt_lines.specs.inside.Appending.{Appends}
use Rattle.rt_connect.proofs.Taking.{refused}
use Rattle.rt_connect.proofs.seats.take_text.Goals as goal

pub returns-in-Err-server_message : goal.returns-in-Err-server_message
returns-in-Err-server_message c =
    refused (Appends c.args.out.now c.write_why.new.out) c.write_why.result (server_message c.args.words.now)
    c.in-Ok.message c.args.shared.now c.server_message.new.self c.in-Err-server_message.why c.in-Ok.ensures.ok
    c.in-Err-server_message.ensures.refused c.write_why.ensures.printed c.write_why.ensures.memory
