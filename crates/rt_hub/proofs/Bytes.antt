-- How many bytes texts have.
use Rattle.std.proofs.Common.{◌≡◌, ℕ, ◌+◌, List, [], ◌∷◌, length, drop, map, ap, Some, arith}
use Rattle.std.proofs.Common.{string_bytes}
use Rattle.std.specs.Prelude.{String}
use Rattle.std.specs.List.{fold, slice_get}
use Rattle.std.specs.declared.alloc.Global.{Global}
use Rattle.rt_hub.specs.Lines.{bytes_in}

pub from : (n : ℕ) (texts : List (List ℕ)) → fold (λ k text. k + length text) n texts ≡ n + bytes_in texts
from n [] = omega arith
from n (t ∷ texts) =
    let here : fold (λ k text. k + length text) (n + length t) texts ≡ n + length t + bytes_in texts =
    from (n + length t) texts in
    let there : fold (λ k text. k + length text) (0 + length t) texts ≡ 0 + length t + bytes_in texts =
    from (0 + length t) texts in
    omega (arith, here, there)

-- the first text and the others
pub first_bytes : (items : List (String Global)) (text : String Global) → slice_get items 0 ≡ Some text
    → bytes_in (map string_bytes items)
    ≡ length (string_bytes text) + bytes_in (map string_bytes (drop 1 items))
first_bytes [] text e = cc
first_bytes (t ∷ ts) text e =
    let same : t ≡ text = cc in
    let parts : bytes_in (map string_bytes (t ∷ ts))
    ≡ 0 + length (string_bytes t) + bytes_in (map string_bytes ts) =
    from (0 + length (string_bytes t)) (map string_bytes ts) in
    let size : length (string_bytes t) ≡ length (string_bytes text) =
    ap (λ x. length (string_bytes x)) same in
    omega (arith, parts, size)
