use Rattle.std.proofs.Common.{◌∙◌, sym}
use Rattle.rt_cache.proofs.Strips.{non_null-none}
use Rattle.rt_cache.proofs.regions.part_of.Goals as goal

pub returns-in-None : goal.returns-in-None
returns-in-None c = c.null.ensures ∙ non_null-none _ (sym c.in-None.ensures)
