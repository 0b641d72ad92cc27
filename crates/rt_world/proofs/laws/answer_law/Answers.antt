use Rattle.rt_world.proofs.RefusedLaws.{refused_is_nothing, stale_is_nothing, other_is_made}
use Rattle.rt_world.proofs.laws.answer_law.Goals as goal

pub returns : goal.returns
returns c = record { refused = refused_is_nothing; stale = stale_is_nothing; made = other_is_made }
