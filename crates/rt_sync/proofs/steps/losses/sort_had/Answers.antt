use Rattle.std.proofs.Common.{◌≡◌, Some, rules, sym}
use Rattle.std.specs.Ordering.{is_lt}
use Rattle.std.proofs.lemmas.Fn.{always_returns_same}
use Rattle.std.proofs.lemmas.List.Sorted.{All-permutation, list_any-IsPermutation}
use Rattle.rt_query.specs.QueryEq.{query_eq}
use Rattle.rt_cache.specs.Brought.{source}
use Rattle.rt_sync.specs.declared.steps.losses.Had.{Had}
use Rattle.rt_sync.specs.inside.Moving.{had_cmp}
use Rattle.rt_sync.proofs.HadLaws.{ranks}
use Rattle.rt_sync.proofs.steps.losses.sort_had.Goals as goal

pub returns-clause-order : goal.returns-clause-order
returns-clause-order c = c.sort_unstable_by.ensures.sorted (λ a b. is_lt (had_cmp a b)) ranks (always_returns_same _ _ _ (λ a r f' h. search rules))

pub returns-clause-same : goal.returns-clause-same
returns-clause-same c = λ q.
    sym (list_any-IsPermutation (λ (h : Had). query_eq h.query q) c.args.had.now.items c.sort_unstable_by.new.self.items c.sort_unstable_by.ensures.permutation)

pub returns-clause-sources : goal.returns-clause-sources
returns-clause-sources c = λ b known.
    All-permutation (λ (h : Had). source b h.query ≡ Some h.source) c.args.had.now.items c.sort_unstable_by.new.self.items c.sort_unstable_by.ensures.permutation known
