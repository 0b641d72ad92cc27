use Rattle.rt_world.proofs.ListenedLaws.{listen_is_made, unlisten_is_made, close_seat_is_made, revoked_is_made}
use Rattle.rt_world.proofs.laws.listened_law.Goals as goal

pub returns : goal.returns
returns c = record { listen = listen_is_made; unlisten = unlisten_is_made; close = close_seat_is_made; revoked = revoked_is_made }
