-- What the pieces of a row have, after a child more or less and after one is parted.
use Rattle.std.proofs.Common.{◌≡◌, ◌≤◌, ◌<◌, ℕ, ◌+◌, List, [], take, drop, length, refl, sym, ap, ◌∙◌, arith, Some}
use Rattle.std.specs.Prelude.{slice_get, nat_eq, slice_index_or, slice_set}
use Rattle.std.specs.List.{insert, remove, sum_by}
use Rattle.std.specs.Global.{Vec}
use Rattle.std.proofs.lemmas.List.Sums.{sum_by-remove, sum_by-insert, sum_by-set, sum_by-take-drop, sum_by_more}
use Rattle.std.proofs.lemmas.List.Edits.{get_or-insert_below, length-insert}
use Rattle.std.proofs.lemmas.Option.{get_or_from_slice_get, slice_get_within, slice_get_read}
use Rattle.rt_nodes.specs.Forest.{one_if}
use Rattle.rt_nodes.specs.inside.Often.{in_piece, in_pieces}
use Rattle.rt_nodes.specs.declared.children.PiecePlace.{PiecePlace}

-- ---- a child less
-- in a piece
pub taken : (m : ℕ) (xs : List PiecePlace) (at child : ℕ) (x : PiecePlace) → slice_get xs at ≡ Some x → x.child ≡ child → in_piece m (remove xs at) + one_if (nat_eq m child) ≡ in_piece m xs
taken m xs at child x there is =
    ap (λ y. in_piece m (remove xs at) + one_if (nat_eq m y)) (sym is)
    ∙ ap (λ (y : PiecePlace). in_piece m (remove xs at) + one_if (nat_eq m y.child)) (sym (get_or_from_slice_get xs at x x there))
    ∙ sum_by-remove (λ (y : PiecePlace). one_if (nat_eq m y.child)) xs at x (slice_get_within xs at x there)

-- a place has one piece
pub one_piece : (at : ℕ) (ps : List (Vec PiecePlace)) (p q : Vec PiecePlace) → at < length ps → p ≡ slice_index_or ps at p → q ≡ slice_index_or ps at q → p ≡ q
one_piece at ps p q within there again = there ∙ get_or_from_slice_get ps at q p (slice_get_read ps (length ps) at q refl within again)

-- in one of the pieces
pub fewer : (m at less : ℕ) (ps : List (Vec PiecePlace)) (p q : Vec PiecePlace) → at < length ps → p ≡ slice_index_or ps at p → in_piece m q.items + less ≡ in_piece m p.items → in_pieces m (slice_set ps at q) + less ≡ in_pieces m ps
fewer m at less ps p q within there less_there =
    let f : Vec PiecePlace → ℕ = λ v. in_piece m v.items in
    let changed : sum_by f (slice_set ps at q) + f (slice_index_or ps at p) ≡ sum_by f ps + f q = sum_by-set f ps at q p within in
    let was : f (slice_index_or ps at p) ≡ f p = ap f (sym there) in
    omega (arith, changed, was, less_there)

-- an empty piece
pub emptied : (m at : ℕ) (ps : List (Vec PiecePlace)) (q : Vec PiecePlace) → at < length ps → q ≡ slice_index_or ps at q → q.items ≡ [] → in_pieces m (remove ps at) ≡ in_pieces m ps
emptied m at ps q within there empty =
    let f : Vec PiecePlace → ℕ = λ v. in_piece m v.items in
    let less : sum_by f (remove ps at) + f (slice_index_or ps at q) ≡ sum_by f ps = sum_by-remove f ps at q within in
    let none : f (slice_index_or ps at q) ≡ 0 = ap f (sym there) ∙ ap (in_piece m) empty in
    omega (arith, less, none)

-- ---- pieces that have been passed
pub passed : (m at : ℕ) (ps : List (Vec PiecePlace)) (p : Vec PiecePlace) → at < length ps → p ≡ slice_index_or ps at p → in_pieces m (take at ps) ≡ 0 → in_piece m p.items ≡ 0 → in_pieces m (take (at + 1) ps) ≡ 0
passed m at ps p within there none not_here =
    let f : Vec PiecePlace → ℕ = λ v. in_piece m v.items in
    let more : sum_by f (take (at + 1) ps) ≡ sum_by f (take at ps) + f (slice_index_or ps at p) = sum_by_more f ps at p within in
    let here : f (slice_index_or ps at p) ≡ 0 = ap f (sym there) ∙ not_here in
    omega (arith, more, here, none)

-- ---- a piece in two
halves : (m n : ℕ) (xs : List PiecePlace) (upper lower : Vec PiecePlace) → upper.items ≡ drop n xs → lower.items ≡ take n xs → in_piece m lower.items + in_piece m upper.items ≡ in_piece m xs
halves m n xs upper lower up low =
    ap (λ ys. in_piece m ys + in_piece m upper.items) low ∙ ap (λ ys. in_piece m (take n xs) + in_piece m ys) up
    ∙ sum_by-take-drop (λ (y : PiecePlace). one_if (nat_eq m y.child)) xs n

pub parted : (m at n : ℕ) (ps qs : List (Vec PiecePlace)) (p q upper lower : Vec PiecePlace) → at < length ps → p ≡ slice_index_or ps at p → upper.items ≡ drop n p.items → qs ≡ insert ps (at + 1) upper → q ≡ slice_index_or qs at q
    → lower.items ≡ take n q.items → in_pieces m (slice_set qs at lower) ≡ in_pieces m ps
parted m at n ps qs p q upper lower within there up more still low =
    let f : Vec PiecePlace → ℕ = λ v. in_piece m v.items in
    let behind : at + 1 ≤ length ps = omega (arith, within) in
    let same : q ≡ p = still ∙ ap (λ l. slice_index_or l at q) more ∙ get_or-insert_below ps (at + 1) upper q at (omega arith) behind
    ∙ get_or_from_slice_get ps at p q (slice_get_read ps (length ps) at p refl within there) in
    let len : length qs ≡ length ps + 1 = ap length more ∙ length-insert ps (at + 1) upper behind in
    let changed : sum_by f (slice_set qs at lower) + f (slice_index_or qs at q) ≡ sum_by f qs + f lower = sum_by-set f qs at lower q (omega (arith, len, within)) in
    let was : f (slice_index_or qs at q) ≡ f p = ap f (sym still ∙ same) in
    let one_more : sum_by f qs ≡ sum_by f ps + f upper = ap (sum_by f) more ∙ sum_by-insert f ps (at + 1) upper in
    let both : f lower + f upper ≡ f p = halves m n p.items upper lower up (low ∙ ap (λ (v : Vec PiecePlace). take n v.items) same) in
    omega (arith, changed, was, one_more, both)

pub parted_first : (m n : ℕ) (ps qs : List (Vec PiecePlace)) (xs : List PiecePlace) (upper lower : Vec PiecePlace) → upper.items ≡ drop n xs → qs ≡ insert ps 0 upper → lower.items ≡ take n xs → in_piece m lower.items + in_pieces m qs ≡ in_piece m xs + in_pieces m ps
parted_first m n ps qs xs upper lower up more low =
    let f : Vec PiecePlace → ℕ = λ v. in_piece m v.items in
    let one_more : sum_by f qs ≡ sum_by f ps + f upper = ap (sum_by f) more ∙ sum_by-insert f ps 0 upper in
    let both : in_piece m lower.items + f upper ≡ in_piece m xs = halves m n xs upper lower up low in
    omega (arith, one_more, both)
