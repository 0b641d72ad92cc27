-- How many bytes lines have.
use Rattle.std.proofs.Common.{◌≡◌, ◌+◌, ◌-◌, ◌^◌, ℕ, List, [], ◌∷◌, ◌++◌, length, map, min, ap, ◌∙◌, arith}
use Rattle.std.specs.Global.{Vec}
use Rattle.rt_watch.specs.Queued.{bytes_in, items_of}

bytes_push : (lines : List (Vec ℕ)) (line : Vec ℕ)
    → bytes_in (map items_of (lines ++ line ∷ [])) ≡ bytes_in (map items_of lines) + length line.items
bytes_push [] line = omega arith
bytes_push (l ∷ lines) line =
    let h : bytes_in (map items_of (lines ++ line ∷ [])) ≡ bytes_in (map items_of lines) + length line.items =
    bytes_push lines line in
    omega (arith, h)

-- one more line waits
pub line_counted : (lines more : List (Vec ℕ)) (line : Vec ℕ) (bytes len sum : ℕ)
    → bytes ≡ min (bytes_in (map items_of lines)) (2 ^ 64 - 1) → len ≡ length line.items
    → sum ≡ min (bytes + len) (2 ^ 64 - 1) → more ≡ lines ++ line ∷ []
    → sum ≡ min (bytes_in (map items_of more)) (2 ^ 64 - 1)
line_counted lines more line bytes len sum is size counted put =
    let all : bytes_in (map items_of more) ≡ bytes_in (map items_of lines) + length line.items =
    ap (λ ls. bytes_in (map items_of ls)) put ∙ bytes_push lines line in
    omega (arith, is, size, counted, all)
