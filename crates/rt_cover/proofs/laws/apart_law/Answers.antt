use Rattle.rt_cover.proofs.ApartLaws.{plains_apart, needed_apart, kept_apart}
use Rattle.rt_cover.proofs.laws.apart_law.Goals as goal

pub returns : goal.returns
returns c = record { plains = plains_apart; needed = needed_apart; kept = kept_apart }
