use Rattle.std.proofs.Common.{◌==◌, ◌&&◌, rules}
use Rattle.std.specs.List.{list_any}
use Rattle.std.proofs.lemmas.Fn.{filter_same}
use Rattle.rt_parts.specs.declared.listeners.HeldListener.{HeldListener}
use Rattle.rt_parts.specs.Refreshed.{is_supplied_at}
use Rattle.rt_parts.proofs.hearers.keep_supplied.Goals as goal

pub returns : goal.returns
returns c =
    filter_same _ (λ n. list_any (λ (l : HeldListener). l.number == n && is_supplied_at c.args.range.now l.query) c.args.listeners.now) _
    (λ x b f' k. search rules) _ _ c.retain.ensures.filtered
