use Rattle.std.proofs.Common.{◌≡◌, ◌++◌, drop, not}
use Rattle.std.specs.List.{filter}
use Rattle.rt_tree.specs.Assignments.{is_at_or_above}
use Rattle.rt_peer.proofs.actions.entries_apart.Given as goal

abbrev pub invariant-loop-at : goal.invariant-loop-at
invariant-loop-at l =
    l.left.items ++ filter (λ e. not (is_at_or_above l.path e.0)) (drop l.at-index l.entries)
    ≡ filter (λ e. not (is_at_or_above l.path e.0)) l.entries
