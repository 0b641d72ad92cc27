use Rattle.rt_mail.proofs.Calls.{hands_over_in_order, mirrors_what_is_handed_over, calls_are_made}
use Rattle.rt_mail.proofs.laws.order_law.Goals as goal

pub returns-clause-order : goal.returns-clause-order
returns-clause-order c = hands_over_in_order

pub returns-clause-mirror : goal.returns-clause-mirror
returns-clause-mirror c = mirrors_what_is_handed_over

pub returns-clause-made : goal.returns-clause-made
returns-clause-made c = calls_are_made
