use Rattle.rt_world.proofs.RefusedLaws.{listen_may_add, unlisten_may_remove, close_seat_may_remove, revoked_may_revoke}
use Rattle.rt_world.proofs.laws.covered_law.Goals as goal

pub returns : goal.returns
returns c = record { listen = listen_may_add; unlisten = unlisten_may_remove; close = close_seat_may_remove; revoked = revoked_may_revoke }
