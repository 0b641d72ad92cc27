use Rattle.std.proofs.Common.{sym, subst}
use Rattle.rt_cover.specs.Shown.{AreFewest}
use Rattle.rt_cover.specs.laws.ShownLaws.{shown_are_fewest}
use Rattle.rt_cover.proofs.cover.Cover.open.Goals as goal

pub returns-clause-fewest : goal.returns-clause-fewest
returns-clause-fewest c = subst (AreFewest c.args.self.now.listeners) (sym c.in_ok-shown.ensures.listens) (shown_are_fewest c.args.self.now c.in_ok-shown.ensures.sound)
