use Rattle.std.proofs.Common.{rules, not}
use Rattle.std.proofs.lemmas.Fn.{filter_same}
use Rattle.rt_cover.specs.Cover.{Registered}
use Rattle.rt_cover.proofs.change.retain_left.Goals as goal

pub returns : goal.returns
returns g c = filter_same _ (λ (l : Registered). not (g.E.EndedListeners.ended c.args.ending.now l.0)) _ (λ x b f' k. search rules) _ _ c.retain.ensures.filtered
