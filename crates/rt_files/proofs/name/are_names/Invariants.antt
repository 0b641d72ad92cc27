use Rattle.std.proofs.Common.{◌≡◌, ℕ, List}
use Rattle.std.specs.List.{list_all}
use Rattle.rt_files.specs.Names.{are_names, is_name}
use Rattle.rt_files.proofs.Pieces.{Coming}
use Rattle.rt_files.proofs.name.are_names.Given as goal

abbrev pub invariant-loop-piece : goal.invariant-loop-piece
invariant-loop-piece l =
    (rest : List (List ℕ)) × Coming l.piece-iterator rest × (are_names l.text ≡ list_all is_name rest)
