use Rattle.std.proofs.Common.{◌≡◌, ℕ, ◌≤◌, List}
use Rattle.std.specs.List.{filter}
use Rattle.rt_tree.specs.Path.{path_fault, is_nonempty}
use Rattle.rt_tree.proofs.PathLemmas.{Coming, fault_after}
use Rattle.rt_tree.proofs.path.check_path.Given as goal

abbrev pub invariant-loop-piece : goal.invariant-loop-piece
invariant-loop-piece l =
    (l.count ≤ 32)
    × ((rest : List (List ℕ)) × Coming l.piece-iterator rest × (path_fault l.text ≡ fault_after l.count (filter is_nonempty rest)))
