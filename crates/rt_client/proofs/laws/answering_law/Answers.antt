use Rattle.rt_client.proofs.Answered.{answers_once, settles_unasked, comes_unasked, twice_is_not_once}
use Rattle.rt_client.proofs.laws.answering_law.Goals as goal

pub returns : goal.returns
returns c = record { once = answers_once; settling = settles_unasked; coming = comes_unasked; twice = twice_is_not_once }
