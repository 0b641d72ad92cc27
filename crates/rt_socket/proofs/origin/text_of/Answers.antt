use Rattle.std.proofs.Common.{refl}
use Rattle.rt_socket.proofs.Named.{visible_text}
use Rattle.rt_socket.proofs.origin.text_of.Goals as goal

pub returns-in-Ok : goal.returns-in-Ok
returns-in-Ok c =
    visible_text c.args.origin.now.bytes c.in-Ok.text.now c.in-Ok.ensures.ok (c.in-Ok.ensures.succeeds.0 refl)
