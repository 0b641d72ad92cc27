-- What is printed of lines, by a client behind a lock.
use Rattle.std.proofs.Common.{◌≡◌, ◌++◌, ◌∷◌, [], ℕ, List, map, drop, Some}
use Rattle.std.proofs.Common.{refl, sym, ap, subst, append-nil, append_assoc}
use Rattle.std.specs.Global.{Vec}
use Rattle.std.specs.List.{slice_get}
use Rattle.rt_connect.specs.Doing.{Seats}
use Rattle.rt_connect.specs.Run.{one_more}
use Rattle.rt_watch.specs.Queued.{items_of}
use Rattle.rt_watch.specs.Watching.{PrintsLine, PrintsLines}

-- so far that was printed, and what the lines that are left print comes behind it
abbrev pub ArePrinting : List (List ℕ) → ℕ → Seats → List ℕ → List (List ℕ) → ℕ → Seats → Type 0
ArePrinting all number seats text lines now mid =
    (rest : List ℕ) (left : Seats) → PrintsLines lines now mid rest left
    → PrintsLines all number seats (text ++ rest) left

-- the first line, and those behind it
first_line : (items : List (Vec ℕ)) (line : Vec ℕ) → slice_get items 0 ≡ Some line
    → map items_of items ≡ items_of line ∷ map items_of (drop 1 items)
first_line [] line e = cc
first_line (i ∷ items) line e =
    let same : i ≡ line = cc in
    ap (λ (j : Vec ℕ). items_of j ∷ map items_of items) same

-- one line more
pub line_printed : (all : List (List ℕ)) (number : ℕ) (seats : Seats) (text first : List ℕ)
    (items : List (Vec ℕ)) (line : Vec ℕ) (now next : ℕ) (mid after : Seats) → slice_get items 0 ≡ Some line
    → ArePrinting all number seats text (map items_of items) now mid
    → next ≡ one_more now → PrintsLine line.items (one_more now) mid first after
    → ArePrinting all number seats (text ++ first) (map items_of (drop 1 items)) next after
line_printed all number seats text first items line now next mid after is so_far counted prints = λ rest left others.
    let these : PrintsLines (line.items ∷ map items_of (drop 1 items)) now mid (first ++ rest) left =
    let behind : PrintsLines (map items_of (drop 1 items)) (one_more now) after rest left =
    subst (λ n. PrintsLines (map items_of (drop 1 items)) n after rest left) counted others in
    (first, rest, after, prints, behind, refl) in
    let more : PrintsLines (map items_of items) now mid (first ++ rest) left =
    subst (λ ls. PrintsLines ls now mid (first ++ rest) left) (sym (first_line items line is)) these in
    subst (λ t. PrintsLines all number seats t left) (sym (append_assoc text first rest))
    (so_far (first ++ rest) left more)

-- none is left
pub lines_printed : (all : List (List ℕ)) (number : ℕ) (seats : Seats) (text : List ℕ) (items : List (Vec ℕ))
    (now : ℕ) (mid : Seats) → items ≡ []
    → ArePrinting all number seats text (map items_of items) now mid → PrintsLines all number seats text mid
lines_printed all number seats text items now mid none so_far =
    subst (λ t. PrintsLines all number seats t mid) (append-nil text)
    (so_far [] mid (subst (λ ls. PrintsLines (map items_of ls) now mid [] mid) (sym none) (refl, refl)))
