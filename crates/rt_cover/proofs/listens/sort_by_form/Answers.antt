use Rattle.std.proofs.Common.{rules}
use Rattle.std.specs.Cmp.{IsStrictWeakOrder}
use Rattle.std.specs.Ordering.{is_lt}
use Rattle.std.proofs.lemmas.Fn.{always_returns_same}
use Rattle.std.proofs.lemmas.List.Sorted.{ranks_by}
use Rattle.rt_query.specs.laws.QueryOrder.{queries_total}
use Rattle.rt_cover.specs.Cover.{Tagged}
use Rattle.rt_cover.specs.inside.Index.{by_form, form_of}
use Rattle.rt_cover.proofs.CountLaws.{same_permuted}
use Rattle.rt_cover.proofs.listens.sort_by_form.Goals as goal

listens_rank : IsStrictWeakOrder (λ (j k : Tagged). is_lt (by_form form_of j k))
listens_rank = ranks_by queries_total form_of

pub returns-clause-sorted : goal.returns-clause-sorted
returns-clause-sorted c = c.sort_unstable_by.ensures.sorted (λ a b. is_lt (by_form form_of a b)) listens_rank (always_returns_same _ _ _ (λ a r f' h. search rules))

pub returns-clause-same : goal.returns-clause-same
returns-clause-same c = same_permuted c.args.listens.now.items c.sort_unstable_by.new.self.items c.sort_unstable_by.ensures.permutation
