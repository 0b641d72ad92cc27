use Rattle.std.proofs.Common.{sym, subst}
use Rattle.std.specs.List.{All}
use Rattle.rt_cover.specs.Shown.{IsCertified}
use Rattle.rt_cover.specs.laws.ShownLaws.{shown_are_certified}
use Rattle.rt_cover.proofs.cover.Cover.certificate.Goals as goal

pub returns-clause-certified : goal.returns-clause-certified
returns-clause-certified c = subst (All (IsCertified c.args.self.now.listeners)) (sym c.in_ok-shown.ensures.listens) (shown_are_certified c.args.self.now c.in_ok-shown.ensures.sound)
