-- Bad lines, counted one after another.
use Rattle.std.proofs.Common.{◌≡◌, ℕ, List, [], ◌∷◌, ◌++◌, Bool, true, false, Option, Some, sym, ap, subst, ◌∙◌}
use Rattle.std.specs.Prelude.{if◌then◌else◌}
use Rattle.rt_input.specs.Lines.{Gives, Lines, lines_of, to_come}
use Rattle.rt_lines.specs.Orders.{is_good_order}
use Rattle.rt_connect.specs.Run.{bad_among, bad_with, one_more}

-- of all lines so many that were given are bad, and the others are to come
abbrev pub Counts : List (List ℕ) → Lines → Option (List ℕ) → ℕ → Type 0
Counts whole lines remaining bad =
    (left : List ℕ) × (remaining ≡ Some left) × (bad_among whole ≡ bad_with (to_come lines left) bad)

-- the next line is given
pub Counts-line : (whole : List (List ℕ)) (r1 r2 : Option (List ℕ)) (l1 l2 : Lines) (bad : ℕ)
    → Counts whole l1 r1 bad → l1.ended ≡ false
    → ((left : List ℕ) → r1 ≡ Some left → Gives l1 left l2 r2)
    → Counts whole l2 r2 (if is_good_order l2.line then bad else one_more bad)
Counts-line whole r1 r2 l1 l2 bad (left, is, e) goes gives =
    let g : Gives l1 left l2 r2 = gives left is in
    let G : Bool → Type 0 = λ b. to_come l1 left ≡ (if b then [] else l2.line ∷ []) ++ to_come l2 g.0 in
    let next : to_come l1 left ≡ l2.line ∷ to_come l2 g.0 = subst G goes g.2 in
    (g.0, g.1, e ∙ ap (λ ls. bad_with ls bad) next)

-- a good line counts as none
pub Counts-good : (whole : List (List ℕ)) (r : Option (List ℕ)) (l : Lines) (bad : ℕ) (good : Bool)
    → Counts whole l r (if good then bad else one_more bad) → good ≡ true → Counts whole l r bad
Counts-good whole r l bad good h is =
    let P : Bool → Type 0 = λ b. Counts whole l r (if b then bad else one_more bad) in
    subst P is h

-- a bad line counts
pub Counts-bad : (whole : List (List ℕ)) (r : Option (List ℕ)) (l : Lines) (bad : ℕ) (good : Bool)
    → Counts whole l r (if good then bad else one_more bad) → good ≡ false → Counts whole l r (one_more bad)
Counts-bad whole r l bad good h is =
    let P : Bool → Type 0 = λ b. Counts whole l r (if b then bad else one_more bad) in
    subst P is h

-- all lines are given
pub Counts-all : (whole : List (List ℕ)) (r : Option (List ℕ)) (l : Lines) (bad : ℕ)
    → Counts whole l r bad → l.ended ≡ true → bad ≡ bad_among whole
Counts-all whole r l bad (left, is, e) ended =
    let G : Bool → Type 0 = λ b. bad_among whole ≡ bad_with (if b then [] else lines_of (l.rest ++ left)) bad in
    let all : bad_among whole ≡ bad = subst G ended e in
    sym all
