use Rattle.std.proofs.Common.{◌∙◌}
use Rattle.rt_parts.proofs.PairLaws.{own_cover}
use Rattle.rt_parts.proofs.views.is_covered.Goals as goal

pub returns : goal.returns
returns c = c.any_covers.ensures ∙ own_cover c.args.entries.now c.args.own.now c.args.path.now c.requires
