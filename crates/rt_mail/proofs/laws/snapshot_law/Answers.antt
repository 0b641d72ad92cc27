use Rattle.rt_mail.proofs.Again.{select_again, shows_the_view}
use Rattle.rt_mail.proofs.laws.snapshot_law.Goals as goal

pub returns : goal.returns
returns c = record { again = select_again; shows = shows_the_view }
