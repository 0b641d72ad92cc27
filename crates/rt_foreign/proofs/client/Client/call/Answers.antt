use Rattle.std.proofs.Common.{subst, refl}
use Rattle.rt_foreign.specs.Asking.{CallsSeat}
use Rattle.rt_foreign.specs.Clients.{Client, place_at}
use Rattle.rt_foreign.proofs.Placing.{call_refused}
use Rattle.rt_foreign.proofs.client.Client.call.Goals as goal

pub returns-in-Err : goal.returns-in-Err
returns-in-Err c =
    let was : Client = record {
      shared = c.self.inside.shared;
      places = c.self.inside.places.items;
      message = c.self.inside.message;
      refused = c.self.inside.refused;
    } in
    let here = c.in-Some.ensures.here in
    subst (λ (s : Client). CallsSeat (place_at s.places c.args.number) s c.args.number c.args.call c.refuse.result 0
    c.refuse.new.self) c.self.view_is
    (rw c.refuse.ensures.kept (call_refused was c.args.number c.in-Some.place c.index_mut.result.now c.call.new.self
    c.args.call c.refuse.result 0 c.in-Err.why c.call.new.shared here.0 here.1 c.index_mut.ensures.value
    c.in-Err.ensures.refused c.in-Err.ensures.kept c.refuse.ensures.status refl))
