use Rattle.std.proofs.Common.{◌==◌, ◌&&◌, rules}
use Rattle.std.specs.List.{list_any}
use Rattle.std.proofs.lemmas.Fn.{filter_same}
use Rattle.rt_query.specs.QueryEq.{query_eq}
use Rattle.rt_query.specs.Supply.{form}
use Rattle.rt_parts.specs.declared.listeners.HeldListener.{HeldListener}
use Rattle.rt_parts.proofs.renewal.keep_of_form.Goals as goal

pub returns : goal.returns
returns c =
    filter_same _ (λ n. list_any (λ (l : HeldListener). l.number == n && query_eq (form l.query) c.args.listened.now) c.args.listeners.now) _
    (λ x b f' k. search rules) _ _ c.retain.ensures.filtered
