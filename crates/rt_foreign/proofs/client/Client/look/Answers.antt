use Rattle.std.proofs.Common.{subst, sym, ◌∙◌}
use Rattle.rt_foreign.specs.Clients.{Client}
use Rattle.rt_foreign.specs.Connection.{LooksOut}
use Rattle.rt_foreign.proofs.Giving.{looks_out, no_message}
use Rattle.rt_foreign.proofs.client.Client.look.Goals as goal

pub returns-clause-looked : goal.returns-clause-looked
returns-clause-looked c =
    let was : Client = record {
      shared = c.self.inside.shared;
      places = c.self.inside.places.items;
      message = c.self.inside.message;
      refused = c.self.inside.refused;
    } in
    subst (λ (s : Client). LooksOut s.message s c.hold.new.self) c.self.view_is
    (rw c.hold.ensures (looks_out was c.in_ok-message.message c.take_outgoing.new.self
    (no_message was.message (sym c.is_some.ensures ∙ c.if-is_some.false)) c.in_ok-message.ensures.taken))
