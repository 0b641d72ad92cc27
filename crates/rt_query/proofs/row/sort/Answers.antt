use Rattle.std.proofs.Common.{rules}
use Rattle.std.specs.Ordering.{is_lt}
use Rattle.std.proofs.lemmas.Fn.{always_returns_same}
use Rattle.rt_query.specs.inside.Sorting.{child_cmp}
use Rattle.rt_query.proofs.SortLaws.{child_cmp_ranks}
use Rattle.rt_query.proofs.row.sort.Goals as goal

pub returns-clause-sorted : goal.returns-clause-sorted
returns-clause-sorted c =
    c.sort_unstable_by.ensures.sorted (λ a b. is_lt (child_cmp a b)) child_cmp_ranks (always_returns_same _ _ _ (λ a r f' h. search rules))
