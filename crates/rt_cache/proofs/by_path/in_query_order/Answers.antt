use Rattle.std.proofs.Common.{rules, ◌∙◌, List, ap, sym}
use Rattle.std.specs.List.{list_any}
use Rattle.std.specs.Ordering.{is_lt}
use Rattle.std.proofs.lemmas.Fn.{always_returns_same}
use Rattle.std.proofs.lemmas.List.Sorted.{list_any-IsPermutation}
use Rattle.rt_cache.specs.declared.by_path.Lent.{Lent}
use Rattle.rt_cache.specs.inside.ByPath.{by_whole}
use Rattle.rt_cache.proofs.ByPaths.{any_map}
use Rattle.rt_cache.proofs.ByQueries.{whole_ranks}
use Rattle.rt_cache.proofs.by_path.in_query_order.Goals as goal

pub returns-clause-order : goal.returns-clause-order
returns-clause-order g c = c.sort_unstable_by.ensures.sorted (λ a b. is_lt (by_whole (λ (l : Lent). l.query.now) a b)) (whole_ranks (λ (l : Lent). l.query.now)) (always_returns_same _ _ _ (λ a r f' h. search rules))

pub returns-clause-same : goal.returns-clause-same
returns-clause-same g c = λ p.
    let lent : List Lent = c.in_ok-lent.lent.items in
    sym (list_any-IsPermutation (λ (l : Lent). p l.query.now) lent c.sort_unstable_by.new.self.items c.sort_unstable_by.ensures.permutation)
    ∙ any_map (λ (l : Lent). l.query.now) p lent
    ∙ ap (list_any p) c.in_ok-lent.ensures
    ∙ sym (any_map g.T.HasQuery.query_of p c.args.items.now)
