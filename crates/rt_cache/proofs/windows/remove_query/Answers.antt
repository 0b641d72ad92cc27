use Rattle.std.proofs.Common.{rules, ◌≡◌, ◌∙◌, ◌<◌, arith, List, ap, sym, subst, length, get_or, refl, cond, true, false, None}
use Rattle.std.specs.List.{remove}
use Rattle.std.specs.FinMap as map_of
use Rattle.rt_query.specs.Queries.{Query}
use Rattle.rt_query.specs.QueryEq.{query_eq}
use Rattle.rt_query.specs.laws.QueryEq.{query_eq_tells}
use Rattle.rt_query.specs.QueryOrder.{query_cmp}
use Rattle.rt_cache.specs.declared.windows.Window.{Window}
use Rattle.rt_cache.specs.inside.ByPath.{AreByQuery, query_of}
use Rattle.rt_cache.specs.inside.Held.{entries_of}
use Rattle.rt_cache.proofs.Forgetting.{find-remove}
use Rattle.rt_cache.proofs.ByQueries.{by_query-remove}
use Rattle.rt_cache.proofs.windows.remove_query.Goals as goal

pub loop-place-preserved : goal.loop-place-preserved
loop-place-preserved c =
    let old : List Window = c.loop-place.windows.items in
    let within : c.in-Some.place < length old = search rules in
    let own : (d : Window) → query_eq (get_or old c.in-Some.place d).query c.args.query.now ≡ true = search rules in
    let left : c.remove.new.self.items ≡ remove old c.in-Some.place = search rules in (
      subst (λ (ws : List Window). AreByQuery query_of ws) (sym left) (by_query-remove query_of old c.in-Some.place c.loop-place.invariant.0),
      λ x e. ap (λ (ws : List Window). map_of.find query_cmp x (entries_of ws)) left
          ∙ find-remove x c.args.query.now old c.in-Some.place within own e ∙ c.loop-place.invariant.1 x e,
      omega (arith, c.remove.ensures.len, c.loop-place.invariant.2),
      c.remove.ensures.capacity ∙ c.loop-place.invariant.3,
    )

pub returns-clause-left : goal.returns-clause-left
returns-clause-left c = λ x.
    let now : List Window = c.loop-place.windows.items in
    let none : map_of.find query_cmp c.args.query.now (entries_of now) ≡ None = search rules in
    elim (query_eq c.args.query.now x) as (λ b. query_eq c.args.query.now x ≡ b → map_of.find query_cmp x (entries_of now) ≡ cond b None (map_of.find query_cmp x (entries_of c.args.windows.now.items))) [
      | true ↦ λ e. ap (λ (y : Query). map_of.find query_cmp y (entries_of now)) (sym ((query_eq_tells c.args.query.now x).0 e)) ∙ none
      | false ↦ λ e. c.loop-place.invariant.1 x e
    ] refl
