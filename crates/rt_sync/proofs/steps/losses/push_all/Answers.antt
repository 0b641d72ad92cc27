use Rattle.std.proofs.Common.{◌≡◌, ◌<◌, ◌≤◌, ◌&&◌, ◌||◌, ℕ, List, length, get_or, rules, ap, ◌∙◌}
use Rattle.rt_query.specs.Queries.{Query}
use Rattle.rt_cache.specs.Recover.{is_among}
use Rattle.rt_sync.specs.inside.Moving.{has_others, is_had}
use Rattle.rt_sync.proofs.Lists.{taken_all}
use Rattle.rt_sync.proofs.MovingLaws.{several, several_none}
use Rattle.rt_sync.proofs.steps.losses.push_all.Goals as goal

pub loop-query-init : goal.loop-query-init
loop-query-init c = record {
  those = λ q. several_none (is_had c.args.had.now.items q) c.args.queries.now q (has_others c.args.brought.now q);
  sources = λ h. h;
}

pub loop-query-preserved : goal.loop-query-preserved
loop-query-preserved c =
    let i : ℕ = c.loop-query.query-index in
    let x : Query = c.query-item.result in
    let within : i < length c.args.queries.now = search rules in
    let at : x ≡ get_or c.args.queries.now i x = search rules in
    record {
      those = λ q. several (is_had c.args.had.now.items q) c.args.queries.now i x q (has_others c.args.brought.now q)
          (is_had c.loop-query.had.items q) (is_had c.push_had.new.had.items q) within at (c.loop-query.invariant.those q) (c.in_ok-push_had.ensures.those q);
      sources = λ h. c.in_ok-push_had.ensures.sources (c.loop-query.invariant.sources h);
    }

pub returns-clause-those : goal.returns-clause-those
returns-clause-those c = λ q.
    let done : length c.args.queries.now ≤ c.loop-query.query-index = search rules in
    c.loop-query.invariant.those q
    ∙ ap (λ (qs : List Query). is_had c.args.had.now.items q || (is_among qs q && has_others c.args.brought.now q)) (taken_all c.loop-query.query-index c.args.queries.now done)

pub returns-clause-sources : goal.returns-clause-sources
returns-clause-sources c = c.loop-query.invariant.sources
