use Rattle.rt_world.proofs.RefusedLaws.{refusal_is_of_kind, own_is_not_stale, accepted_is_stale, refused_is_stale, revoked_is_stale}
use Rattle.rt_world.proofs.laws.kind_law.Goals as goal

pub returns : goal.returns
returns c = record { refusal = refusal_is_of_kind; own = own_is_not_stale; accepted = accepted_is_stale; refused = refused_is_stale; revoked = revoked_is_stale }
