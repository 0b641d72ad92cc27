-- How often a child stands in a row of the index.
use Rattle.std.specs.Prelude.{◌+◌, ℕ, List, nat_eq, slice_get}
use Rattle.std.specs.List.{sum_by}
use Rattle.std.specs.Option.{option_map_or}
use Rattle.std.specs.Global.{Vec}
use Rattle.rt_nodes.specs.Forest.{one_if}
use Rattle.rt_nodes.specs.declared.children.PiecePlace.{PiecePlace}
use Rattle.rt_nodes.specs.declared.children.Children.{Children}

-- in one of the pieces
abbrev pub in_piece : ℕ → List PiecePlace → ℕ
in_piece m places = sum_by (λ place. one_if (nat_eq m place.child)) places

abbrev pub in_pieces : ℕ → List (Vec PiecePlace) → ℕ
in_pieces m pieces = sum_by (λ piece. in_piece m piece.items) pieces

abbrev pub in_row : ℕ → Children → ℕ
in_row m row = in_piece m row.first.items + in_pieces m row.more.items

-- in the n-th row; nowhere where there are fewer
abbrev pub in_nth : ℕ → List Children → ℕ → ℕ
in_nth m rows n = option_map_or (in_row m) (slice_get rows n) 0
