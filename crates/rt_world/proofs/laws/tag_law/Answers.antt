use Rattle.rt_world.proofs.RefusedLaws.{listen_needs_tag, unlisten_needs_tag, close_seat_needs_tag, revoked_needs_tag}
use Rattle.rt_world.proofs.laws.tag_law.Goals as goal

pub returns : goal.returns
returns c = record { listen = listen_needs_tag; unlisten = unlisten_needs_tag; close = close_seat_needs_tag; revoked = revoked_needs_tag }
