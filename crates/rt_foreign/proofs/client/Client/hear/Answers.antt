use Rattle.std.proofs.Common.{◌⊎◌, subst}
use Rattle.rt_foreign.specs.Clients.{Client}
use Rattle.rt_foreign.specs.Connection.{IsHeard, IsUnheard}
use Rattle.rt_foreign.proofs.Giving.{heard, unheard}
use Rattle.rt_foreign.proofs.client.Client.hear.Goals as goal

pub returns-in-Ok : goal.returns-in-Ok
returns-in-Ok c =
    let was : Client = record {
      shared = c.self.inside.shared;
      places = c.self.inside.places.items;
      message = c.self.inside.message;
      refused = c.self.inside.refused;
    } in
    subst (λ (s : Client). IsHeard c.args.event s c.status_of_outcome.result c.forget.new.self
    ⊎ IsUnheard c.args.event s c.status_of_outcome.result c.forget.new.self) c.self.view_is
    (rw c.forget.ensures (heard c.args.event was c.status_of_outcome.result c.in-Ok.outcome c.tell.new.shared
    c.is_end-is_end.result c.in-Ok.ensures.made c.is_end-is_end.ensures c.status_of_outcome.ensures))

pub returns-in-Err : goal.returns-in-Err
returns-in-Err c =
    let was : Client = record {
      shared = c.self.inside.shared;
      places = c.self.inside.places.items;
      message = c.self.inside.message;
      refused = c.self.inside.refused;
    } in
    subst (λ (s : Client). IsHeard c.args.event s c.refuse.result c.refuse.new.self
    ⊎ IsUnheard c.args.event s c.refuse.result c.refuse.new.self) c.self.view_is
    (rw c.refuse.ensures.kept (unheard c.args.event was c.refuse.result c.in-Err.why c.tell.new.shared
    c.in-Err.ensures.refused c.refuse.ensures.status))
