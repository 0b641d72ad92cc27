use Rattle.std.proofs.Common.{ℕ, List, sym, subst}
use Rattle.std.specs.Prelude.{IfOk}
use Rattle.tungstenite.specs.Heads.{Connected}
use Rattle.rt_input.specs.declared.stream.TheConstants.{MAX_MESSAGE_BYTES}
use Rattle.rt_socket.specs.Sockets.{WireSocket}
use Rattle.rt_connect.specs.Opening.{IsOpened}
use Rattle.rt_connect.proofs.Opens.{opened_by}
use Rattle.rt_connect.proofs.link.socket_of.Goals as goal

pub returns-in-Ok-clause-opened : goal.returns-in-Ok-clause-opened
returns-in-Ok-clause-opened g c =
    subst (λ (w : WireSocket _). IsOpened MAX_MESSAGE_BYTES w.socket) (sym c.new.ensures)
    (opened_by c.in-Ok.socket c.set_config.new.self MAX_MESSAGE_BYTES c.limits.result
    (subst (λ r. IfOk r (λ f. (key : List ℕ) × Connected key f.0)) c.in-Ok.is c.requires)
    c.set_config.ensures.same c.set_config.ensures.limits c.limits.ensures)
