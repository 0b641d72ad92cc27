use Rattle.std.proofs.Common.{rules}
use Rattle.std.specs.Ordering.{is_lt}
use Rattle.std.proofs.lemmas.Fn.{always_returns_same}
use Rattle.rt_order.specs.Entries.{entry_cmp}
use Rattle.rt_view.proofs.Orderings.{entry_ranks, ordering_sorted}
use Rattle.rt_view.proofs.window.ordered.Goals as goal

pub returns : goal.returns
returns c =
    ordering_sorted c.args.children.items c.sort_unstable_by.new.self.items c.requires c.sort_unstable_by.ensures.permutation
    (c.sort_unstable_by.ensures.sorted (λ a b. is_lt (entry_cmp a.0 b.0)) entry_ranks (always_returns_same _ _ _ (λ a r f' h. search rules)))
