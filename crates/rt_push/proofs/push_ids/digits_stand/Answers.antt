use Rattle.rt_push.proofs.DigitLaws.{digits-stand}
use Rattle.rt_push.proofs.push_ids.digits_stand.Goals as goal

pub returns : goal.returns
returns c = digits-stand
