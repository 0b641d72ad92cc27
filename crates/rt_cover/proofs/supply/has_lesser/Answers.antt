use Rattle.std.proofs.Common.{sym, ap, ◌∙◌}
use Rattle.std.specs.Option.{option_copied}
use Rattle.rt_cover.proofs.HeldLaws.{lesser_some}
use Rattle.rt_cover.proofs.supply.has_lesser.Goals as goal

pub returns-in-Some : goal.returns-in-Some
returns-in-Some c = lesser_some c.args.number c.args.numbers.now c.in-Some.first.now c.requires (sym (ap option_copied (sym c.in-Some.is) ∙ c.first.ensures.value))
