use Rattle.std.proofs.Common.{Result, Ok, Err, IfOk, subst}
use Rattle.rt_peer.specs.inside.Placed.{AreListed}
use Rattle.rt_peer.proofs.EntrySpotLaws.{dirty_listed}
use Rattle.rt_peer.proofs.actions.Placed.dirty_of.Goals as goal

if_ok : {A E : Type 0} (r : Result A E) (P Q : A → Type 0) → IfOk r P → ((x : A) → P x → Q x) → IfOk r Q
if_ok (Ok x) P Q p f = f x p
if_ok (Err e) P Q p f = tt

pub returns-clause-listed : goal.returns-clause-listed
returns-clause-listed c =
    if_ok c.places_under.result _ _ c.places_under.ensures.listed (λ places h.
    subst (AreListed c.args.connection c.args.path.now places.keys) c.self.view_is
    (dirty_listed c.args.connection c.args.path.now places.keys c.self.inside.spots.keys c.self.inside.by_place.entries c.self.invariant.1 h))
