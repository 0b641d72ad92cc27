use Rattle.std.proofs.Common.{sym, ap, ◌∙◌}
use Rattle.std.specs.Option.{option_copied}
use Rattle.rt_cover.proofs.successors.begun_at.Goals as goal

pub begun-requires-clause-there : goal.begun-requires-clause-there
begun-requires-clause-there g c = sym (ap option_copied (sym c.in-Some.is) ∙ c.at.ensures)
