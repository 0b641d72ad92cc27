use Rattle.std.proofs.lemmas.List.Sorted.{IsNonDecreasingBy-from_sort}
use Rattle.rt_sync.proofs.steps.pushes.sorted_tags.Goals as goal

pub returns-clause-sorted : goal.returns-clause-sorted
returns-clause-sorted c =
    IsNonDecreasingBy-from_sort (λ tag. tag) c.sort_unstable.new.self.items c.sort_unstable.ensures.sorted
