use Rattle.std.proofs.Common.{rules, sym}
use Rattle.std.specs.Ordering.{is_lt}
use Rattle.std.proofs.lemmas.Fn.{always_returns_same}
use Rattle.std.proofs.lemmas.List.Sorted.{list_any-IsPermutation}
use Rattle.rt_query.specs.Queries.{Query}
use Rattle.rt_query.specs.QueryEq.{query_eq}
use Rattle.rt_query.specs.QueryOrder.{query_cmp}
use Rattle.rt_parts.proofs.OrderLaws.{ranks}
use Rattle.rt_parts.proofs.renewal.sort_queries.Goals as goal

pub returns-clause-order : goal.returns-clause-order
returns-clause-order c = c.sort_unstable_by.ensures.sorted (λ a b. is_lt (query_cmp a b)) ranks (always_returns_same _ _ _ (λ a r f' h. search rules))

pub returns-clause-same : goal.returns-clause-same
returns-clause-same c = λ q.
    sym (list_any-IsPermutation (λ (x : Query). query_eq x q) c.args.queries.now.items c.sort_unstable_by.new.self.items c.sort_unstable_by.ensures.permutation)
