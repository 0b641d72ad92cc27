use Rattle.rt_mail.proofs.Rising.{children_are_replayed, requests_are_left_open, numbers_rise}
use Rattle.rt_mail.proofs.laws.replay_law.Goals as goal

pub returns-clause-children : goal.returns-clause-children
returns-clause-children c = children_are_replayed

pub returns-clause-requests : goal.returns-clause-requests
returns-clause-requests c = requests_are_left_open

pub returns-clause-numbers : goal.returns-clause-numbers
returns-clause-numbers c = numbers_rise
