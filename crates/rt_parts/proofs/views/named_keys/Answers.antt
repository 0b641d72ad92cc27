use Rattle.std.proofs.Common.{sym, ap, ◌∙◌}
use Rattle.std.specs.List.{filter_map, list_any}
use Rattle.rt_world.specs.Touched.{named_by}
use Rattle.rt_parts.proofs.NamedLaws.{any_once}
use Rattle.rt_parts.proofs.PairLaws.{own_named}
use Rattle.rt_parts.proofs.views.named_keys.Goals as goal

pub returns : goal.returns
returns c = record {
  rise = c.sort_once.ensures.rise;
  same = λ p. c.sort_once.ensures.same p ∙ ap (list_any p) c.in_ok-keys.ensures ∙ own_named c.args.entries.now c.args.own.now c.args.path.now c.requires p ∙ sym (any_once p (filter_map (named_by c.args.path.now) c.args.entries.now));
}
