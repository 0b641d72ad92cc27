use Rattle.std.proofs.Common.{rules, ◌≡◌, ◌∙◌, ◌<◌, ◌||◌, arith, suc, List, ap, sym, add-one, length, get_or, drop, cond, None}
use Rattle.std.specs.FinMap as map_of
use Rattle.rt_query.specs.Queries.{Query}
use Rattle.rt_query.specs.QueryEq.{query_eq}
use Rattle.rt_query.specs.QueryOrder.{query_cmp}
use Rattle.rt_cache.specs.Recover.{is_among}
use Rattle.rt_cache.specs.declared.windows.Window.{Window}
use Rattle.rt_cache.specs.inside.Held.{entries_of}
use Rattle.rt_cache.proofs.Forgetting.{any_drop, none_of_both, others_listed}
use Rattle.rt_cache.proofs.Parts.{all_dropped}
use Rattle.rt_cache.proofs.windows.remove_queries.Goals as goal

pub loop-query-preserved : goal.loop-query-preserved
loop-query-preserved c =
    let qs : List Query = c.args.queries.now in
    let q : Query = c.query-item.result in
    let old : List Window = c.loop-query.windows.items in
    let within : c.loop-query.query-index < length qs = search rules in
    let at : q ≡ get_or qs c.loop-query.query-index q = search rules in (
      c.remove_query.ensures.order,
      λ x.
          let one : is_among (drop c.loop-query.query-index qs) x ≡ (query_eq q x || is_among (drop (suc c.loop-query.query-index) qs) x) =
          any_drop (λ y. query_eq y x) qs c.loop-query.query-index q within
          ∙ ap (λ (y : Query). query_eq y x || is_among (drop (suc c.loop-query.query-index) qs) x) (sym at) in
          (λ i. cond (is_among (drop (add-one c.loop-query.query-index i) qs) x) None (c.remove_query.ensures.left x i))
          ∙ none_of_both (query_eq q x) (is_among (drop (suc c.loop-query.query-index) qs) x) (map_of.find query_cmp x (entries_of old))
          ∙ ap (λ b. cond b None (map_of.find query_cmp x (entries_of old))) (sym one)
          ∙ c.loop-query.invariant.1 x,
      omega (arith, c.remove_query.ensures.len, c.loop-query.invariant.2),
      c.remove_query.ensures.room ∙ c.loop-query.invariant.3,
    )

pub returns-clause-left : goal.returns-clause-left
returns-clause-left c =
    others_listed c.args.queries.now c.args.windows.now.items c.loop-query.windows.items
    (λ x. ap (λ (qs : List Query). cond (is_among qs x) None (map_of.find query_cmp x (entries_of c.loop-query.windows.items)))
    (sym (all_dropped c.loop-query.query-index c.args.queries.now c.loop-query-test.false))
    ∙ c.loop-query.invariant.1 x)
