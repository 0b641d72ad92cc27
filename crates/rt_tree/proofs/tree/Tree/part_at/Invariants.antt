use Rattle.std.proofs.Common.{◌≡◌, List, ℕ}
use Rattle.std.specs.List.{filter}
use Rattle.rt_tree.specs.Path.{path_keys, is_nonempty}
use Rattle.rt_tree.specs.Trees.{sub}
use Rattle.rt_tree.proofs.PathLemmas.{Coming}
use Rattle.rt_tree.proofs.tree.Tree.part_at.Given as goal

-- what is looked for below the whole tree is below this part by the names that are left
abbrev pub invariant-loop-name : goal.invariant-loop-name
invariant-loop-name l =
    (rest : List (List ℕ)) × Coming l.name-iterator rest
    × (sub l.self (path_keys l.path) ≡ sub l.part (filter is_nonempty rest))
