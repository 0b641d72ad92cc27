use Rattle.rt_client.proofs.Trailed.{not_left_out, not_first_last}
use Rattle.rt_client.proofs.examples.following_refutations.Goals as goal

pub returns : goal.returns
returns c = record { left_out = not_left_out; first_last = not_first_last }
