use Rattle.std.proofs.Common.{◌≤◌}
use Rattle.std.specs.List.{All}
use Rattle.rt_tree.specs.PathTree.{levels}
use Rattle.rt_calls.proofs.view.named.Given as goal

abbrev pub invariant-loop : goal.invariant-loop
invariant-loop l = All (λ c. levels c.1 ≤ 32) l.named.items
