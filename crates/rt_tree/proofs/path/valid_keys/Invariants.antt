use Rattle.std.proofs.Common.{◌≡◌, ℕ, ◌++◌, List}
use Rattle.std.specs.List.{filter}
use Rattle.rt_tree.specs.Path.{path_keys, is_nonempty}
use Rattle.rt_tree.proofs.PathLemmas.{Coming}
use Rattle.rt_tree.proofs.path.valid_keys.Given as goal

abbrev pub invariant-loop-piece : goal.invariant-loop-piece
invariant-loop-piece l = (rest : List (List ℕ)) × Coming l.piece-iterator rest × (l.keys.items ++ filter is_nonempty rest ≡ path_keys l.text)
