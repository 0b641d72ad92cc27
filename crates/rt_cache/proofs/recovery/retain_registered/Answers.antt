use Rattle.std.proofs.Common.{rules, List, sym, subst}
use Rattle.std.specs.List.{list_any}
use Rattle.std.proofs.lemmas.Fn.{filter_same}
use Rattle.rt_query.specs.QueryEq.{query_eq}
use Rattle.rt_cache.specs.declared.by_path.Lent.{Lent}
use Rattle.rt_cache.specs.declared.windows.Window.{Window}
use Rattle.rt_cache.specs.inside.ByPath.{AreByQuery, query_of}
use Rattle.rt_cache.proofs.ByQueries.{by_query-filter}
use Rattle.rt_cache.proofs.recovery.retain_registered.Goals as goal

pub returns-clause-left : goal.returns-clause-left
returns-clause-left c = filter_same _ (λ (w : Window). list_any (λ (l : Lent). query_eq l.query.now w.query) c.args.registered.now) _ (λ x b f' k. search rules) _ _ c.retain.ensures.filtered

pub returns-clause-order : goal.returns-clause-order
returns-clause-order c =
    subst (λ (ws : List Window). AreByQuery query_of ws) (sym (returns-clause-left c))
    (by_query-filter query_of (λ (w : Window). list_any (λ (l : Lent). query_eq l.query.now w.query) c.args.registered.now) c.args.windows.now.items c.requires.order)
