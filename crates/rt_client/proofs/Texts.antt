-- Ids that are no integer keys rise in key order, as they do by bytes.
use Rattle.std.proofs.Common.{◌≡◌, ℕ, ◌/◌, ◌%◌, ◌<◌, ◌≤◌, Bool, true, false, not, ◌&&◌, if◌then◌else◌, List, [], ◌∷◌, map, Some, None, pos, neg_ℤ, refl, ap, ◌∙◌, arith, drop}
use Rattle.std.specs.Char.{is_ascii_digit}
use Rattle.std.specs.List.{All, AllByRecursion, list_all}
use Rattle.std.specs.Option.{option_map}
use Rattle.std.specs.List.Sorted.{IsStrictlySortedBy}
use Rattle.std.specs.declared.cmp.Ordering.TheVariants.{Less}
use Rattle.std.proofs.lemmas.List.Elements.{All-head, All-tail}
use Rattle.rt_order.specs.KeyOrder.{bytes_cmp, decimal, integer_of, key_cmp, key_cmp_by, within_32_bits}
use Rattle.rt_push.specs.Digits.{digit_byte, digits}
use Rattle.rt_push.specs.PushIds.{Stamp, push_id}
use Rattle.rt_client.specs.PushKeys.{BeginsAsText}
use Rattle.rt_client.proofs.Allowed.{passes}

-- ---- no integer keys

-- from 11 on a digit is no decimal one
no_decimal : (d : ℕ) → 11 ≤ d → d < 64 → not (is_ascii_digit (digit_byte d)) ≡ true
unfolding digit_byte
no_decimal d low high = passes (λ x. not (is_ascii_digit (digit_byte x))) 11 53 d refl low (omega arith)

-- a minus and then no decimal digit
after_minus : (b : ℕ) (rest : List ℕ) (first : Bool) → is_ascii_digit b ≡ first → not first ≡ true → integer_of (45 ∷ b ∷ rest) ≡ None
after_minus b rest true e h = cc
after_minus b rest false e h =
    ap (λ t. within_32_bits (option_map (λ n. neg_ℤ (pos n)) (if t && list_all is_ascii_digit rest then Some (decimal (b ∷ rest)) else None))) e

zero_byte : digit_byte 0 ≡ 45
unfolding digit_byte
zero_byte = refl

pub no-integer : (s : Stamp) → BeginsAsText s → integer_of (push_id s) ≡ None
unfolding digits
no-integer s h =
    let second = s.0 / 64 / 64 / 64 / 64 / 64 / 64 in
    let rest = drop 2 (push_id s) in
    let minus : second / 64 % 64 ≡ 0 = omega (arith, h.0, h.1) in
    let byte = digit_byte (second % 64) in
    ap (λ d. integer_of (digit_byte d ∷ byte ∷ rest)) minus ∙ ap (λ c. integer_of (c ∷ byte ∷ rest)) zero_byte
    ∙ after_minus byte rest (is_ascii_digit byte) refl (no_decimal (second % 64) (omega (arith, h.0, h.1)) (omega arith))

-- ---- rising

below_as_key : (x y : List ℕ) → integer_of x ≡ None → integer_of y ≡ None → bytes_cmp x y ≡ Less → key_cmp x y ≡ Less
below_as_key x y e f h = ap (λ m. key_cmp_by m (integer_of y) x y) e ∙ ap (λ n. key_cmp_by None n x y) f ∙ h

abbrev NoIntegers : List (List ℕ) → Type 0
NoIntegers = AllByRecursion (λ x. integer_of x ≡ None)

above_as_keys : (x : List ℕ) (ys : List (List ℕ)) → integer_of x ≡ None → NoIntegers ys → AllByRecursion (λ y. bytes_cmp x y ≡ Less) ys → AllByRecursion (λ y. key_cmp x y ≡ Less) ys
above_as_keys x [] e f h = tt
above_as_keys x (y ∷ ys) e f h = (below_as_key x y e f.0 h.0, above_as_keys x ys e f.1 h.1)

rise_as_keys : (xs : List (List ℕ)) → NoIntegers xs → IsStrictlySortedBy bytes_cmp xs → IsStrictlySortedBy key_cmp xs
unfolding IsStrictlySortedBy
rise_as_keys [] e h = tt
rise_as_keys (x ∷ xs) e h = (above_as_keys x xs e.0 e.1 h.0, rise_as_keys xs e.1 h.1)

no_integers : (stamps : List Stamp) → All BeginsAsText stamps → NoIntegers (map push_id stamps)
no_integers [] h = tt
no_integers (s ∷ stamps) h = (no-integer s (All-head BeginsAsText s stamps h), no_integers stamps (All-tail BeginsAsText s stamps h))

pub keys-rise : (stamps : List Stamp) → All BeginsAsText stamps → IsStrictlySortedBy bytes_cmp (map push_id stamps) → IsStrictlySortedBy key_cmp (map push_id stamps)
keys-rise stamps h rise = rise_as_keys (map push_id stamps) (no_integers stamps h) rise
