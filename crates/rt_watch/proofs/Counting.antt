-- How many lines are bad, and how they are numbered.
use Rattle.std.proofs.Common.{◌≡◌, ℕ, List, [], ◌∷◌, map, drop, Some, sym, ap, ◌∙◌}
use Rattle.std.specs.Global.{Vec}
use Rattle.std.specs.List.{slice_get}
use Rattle.rt_connect.specs.Run.{one_more}
use Rattle.rt_watch.specs.Queued.{items_of}
use Rattle.rt_watch.specs.Watching.{bad_with, counted, is_good_line, numbered}

-- the first line is done
pub bad_first : (items : List (Vec ℕ)) (line : Vec ℕ) (n m : ℕ) → slice_get items 0 ≡ Some line
    → m ≡ counted (is_good_line line.items) n
    → bad_with (map items_of items) n ≡ bad_with (map items_of (drop 1 items)) m
bad_first [] line n m e f = cc
bad_first (i ∷ items) line n m e f =
    let same : i ≡ line = cc in
    ap (bad_with (map items_of items)) (ap (λ (j : Vec ℕ). counted (is_good_line j.items) n) same ∙ sym f)

pub number_first : (items : List (Vec ℕ)) (line : Vec ℕ) (n m : ℕ) → slice_get items 0 ≡ Some line
    → m ≡ one_more n → numbered (map items_of items) n ≡ numbered (map items_of (drop 1 items)) m
number_first [] line n m e f = cc
number_first (i ∷ items) line n m e f = ap (numbered (map items_of items)) (sym f)
