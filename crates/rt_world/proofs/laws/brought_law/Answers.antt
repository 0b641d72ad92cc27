use Rattle.rt_world.proofs.Putting.{kept_may_be_put}
use Rattle.rt_world.proofs.ReachedLaws.{push_is_brought, listen_brings_nothing, stays_reached}
use Rattle.rt_world.proofs.laws.brought_law.Goals as goal

pub returns : goal.returns
returns c = record { pushed = push_is_brought; listen = listen_brings_nothing; next = stays_reached; kept = kept_may_be_put }
