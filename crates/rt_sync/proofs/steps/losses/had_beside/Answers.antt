use Rattle.std.proofs.Common.{◌&&◌, ap, sym, ◌∙◌}
use Rattle.rt_tree.specs.PathTree.{path_eq}
use Rattle.rt_query.specs.Queries.{Query}
use Rattle.rt_parts.specs.Refreshed.{is_supplied_at}
use Rattle.rt_sync.specs.inside.Moving.{is_lent}
use Rattle.rt_sync.proofs.steps.losses.had_beside.Goals as goal

pub returns : goal.returns
returns c = record {
  order = c.sort_had.ensures.order;
  only = λ q e.
      ap (λ b. b && is_lent c.args.brought.now (c.args.listeners.now).listeners q) (sym (c.in_ok-movers.ensures (λ (f : Query). path_eq f.path q.path)))
      ∙ c.in_ok-had.ensures.only q (sym (c.sort_had.ensures.same q) ∙ e);
  all = λ q e.
      c.sort_had.ensures.same q
      ∙ c.in_ok-had.ensures.all q (ap (λ b. b && is_lent c.args.brought.now (c.args.listeners.now).listeners q) (c.in_ok-movers.ensures (λ (f : Query). is_supplied_at f q)) ∙ e);
  sources = c.sort_had.ensures.sources c.args.brought.now c.in_ok-had.ensures.sources;
}
