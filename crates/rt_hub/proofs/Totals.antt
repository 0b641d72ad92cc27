-- How many bytes wait in all.
use Rattle.std.proofs.Common.{◌≡◌, ℕ, zero, suc, ◌+◌, ◌≤◌, Bool, true, false, List, [], ◌∷◌, refl, sym, ap, ◌∙◌}
use Rattle.std.proofs.Common.{arith, drop, length, map, cond, Option, Some, None}
use Rattle.std.specs.Prelude.{◌==◌, if◌then◌else◌}
use Rattle.std.specs.Option.{option_map}
use Rattle.std.proofs.lemmas.Bool.Decides.{nat_tests}
use Rattle.rt_hub.specs.declared.refusal.Bounds.{Bounds}
use Rattle.rt_hub.specs.Hubs.{left_line}
use Rattle.rt_peer.specs.declared.pushes.Sent.{Sent}
use Rattle.rt_hub.specs.Lines.{Line, bytes_for, bytes_in, bytes_in_all, is_full, line_of, over_line, text_of}
use Rattle.rt_hub.specs.Lines.{texts_to, told_more, without_first}
use Rattle.rt_hub.proofs.Bytes.{from}
use Rattle.rt_hub.proofs.Done.{are_puts, puts}
use Rattle.rt_hub.proofs.Places.{Places}

-- ---- the first line, and the others

abbrev others_of : Places → Places
others_of [] = []
others_of (line ∷ lines) = lines

parts : (xs : Places) → bytes_in_all xs ≡ bytes_for (line_of xs 1) + bytes_in_all (others_of xs)
parts [] = refl
parts (x ∷ xs) =
    elim x as (λ x. bytes_for x + bytes_in_all xs ≡ bytes_for (line_of (x ∷ xs) 1) + bytes_in_all xs)
    [ Some l ↦ refl | None ↦ refl ]

next : (xs : Places) (p : ℕ) → line_of xs (suc (suc p)) ≡ line_of (others_of xs) (suc p)
next [] p = refl
next (x ∷ xs) p = refl

-- ---- the same lines

abbrev AreSame : Places → Places → Type 0
AreSame xs ys = (k : ℕ) → line_of ys k ≡ line_of xs k

others_same : (xs ys : Places) → AreSame xs ys → AreSame (others_of xs) (others_of ys)
others_same xs ys h zero = refl
others_same xs ys h (suc p) = sym (next ys p) ∙ h (suc (suc p)) ∙ next xs p

no_line : (ys : Places) → AreSame [] ys → bytes_in_all ys ≡ 0
no_line [] h = refl
no_line (y ∷ ys) h =
    let here : bytes_in_all (y ∷ ys) ≡ bytes_for (line_of (y ∷ ys) 1) + bytes_in_all ys = parts (y ∷ ys) in
    let first : bytes_for (line_of (y ∷ ys) 1) ≡ 0 = ap bytes_for (h 1) in
    let rest : bytes_in_all ys ≡ 0 = no_line ys (others_same [] (y ∷ ys) h) in
    omega (arith, here, first, rest)

same_bytes : (xs ys : Places) → AreSame xs ys → bytes_in_all ys ≡ bytes_in_all xs
same_bytes [] ys h = no_line ys h
same_bytes (x ∷ xs) ys h =
    let mine : bytes_in_all (x ∷ xs) ≡ bytes_for (line_of (x ∷ xs) 1) + bytes_in_all xs = parts (x ∷ xs) in
    let theirs : bytes_in_all ys ≡ bytes_for (line_of ys 1) + bytes_in_all (others_of ys) = parts ys in
    let first : bytes_for (line_of ys 1) ≡ bytes_for (line_of (x ∷ xs) 1) = ap bytes_for (h 1) in
    let rest : bytes_in_all (others_of ys) ≡ bytes_in_all xs =
    same_bytes xs (others_of ys) (others_same (x ∷ xs) ys h) in
    omega (arith, mine, theirs, first, rest)

-- ---- one line is another

one_changed : (n : ℕ) (xs ys : Places) → ((k : ℕ) → (n ≡ k → ⊥) → line_of ys k ≡ line_of xs k)
    → bytes_in_all ys + bytes_for (line_of xs n) ≡ bytes_in_all xs + bytes_for (line_of ys n)
one_changed zero xs ys h =
    let all : bytes_in_all ys ≡ bytes_in_all xs = same_bytes xs ys same in
    omega (arith, all)
  where
    same : AreSame xs ys
    same zero = refl
    same (suc p) = h (suc p) (λ e. cc)
one_changed (suc zero) xs ys h =
    let mine : bytes_in_all xs ≡ bytes_for (line_of xs 1) + bytes_in_all (others_of xs) = parts xs in
    let theirs : bytes_in_all ys ≡ bytes_for (line_of ys 1) + bytes_in_all (others_of ys) = parts ys in
    let rest : bytes_in_all (others_of ys) ≡ bytes_in_all (others_of xs) =
    same_bytes (others_of xs) (others_of ys) same in
    omega (arith, mine, theirs, rest)
  where
    same : AreSame (others_of xs) (others_of ys)
    same zero = refl
    same (suc p) = sym (next ys p) ∙ h (suc (suc p)) (λ e. cc) ∙ next xs p
one_changed (suc (suc q)) xs ys h =
    let mine : bytes_in_all xs ≡ bytes_for (line_of xs 1) + bytes_in_all (others_of xs) = parts xs in
    let theirs : bytes_in_all ys ≡ bytes_for (line_of ys 1) + bytes_in_all (others_of ys) = parts ys in
    let first : bytes_for (line_of ys 1) ≡ bytes_for (line_of xs 1) = ap bytes_for (h 1 (λ e. cc)) in
    let rest : bytes_in_all (others_of ys) + bytes_for (line_of (others_of xs) (suc q))
    ≡ bytes_in_all (others_of xs) + bytes_for (line_of (others_of ys) (suc q)) =
    one_changed (suc q) (others_of xs) (others_of ys) others in
    let here : bytes_for (line_of xs (suc (suc q))) ≡ bytes_for (line_of (others_of xs) (suc q)) =
    ap bytes_for (next xs q) in
    let there : bytes_for (line_of ys (suc (suc q))) ≡ bytes_for (line_of (others_of ys) (suc q)) =
    ap bytes_for (next ys q) in
    omega (arith, mine, theirs, first, rest, here, there)
  where
    others : (k : ℕ) → (suc q ≡ k → ⊥) → line_of (others_of ys) k ≡ line_of (others_of xs) k
    others zero away = refl
    others (suc p) away = sym (next ys p) ∙ h (suc (suc p)) (λ e. away (less e)) ∙ next xs p
      where
        less : suc (suc q) ≡ suc (suc p) → suc q ≡ suc p
        less e = omega (arith, e)

apart_is : (n k : ℕ) → (n ≡ k → ⊥) → (n == k) ≡ false
apart_is n k away = elim (n == k) as (λ b. (n == k) ≡ b → (n == k) ≡ false) [
  | true ↦ λ e. absurd (away (grind (arith, nat_tests)))
  | false ↦ λ e. e
] refl

same_is : (n : ℕ) → (n == n) ≡ true
same_is n = grind (arith, nat_tests)

-- the line of one number becomes another
abbrev pub Becomes : (Option Line → Option Line) → ℕ → Places → Places → Type 0
Becomes f n xs ys = (k : ℕ) → line_of ys k ≡ (if n == k then f (line_of xs k) else line_of xs k)

pub own_line : (f : Option Line → Option Line) (n : ℕ) (xs ys : Places) → Becomes f n xs ys
    → line_of ys n ≡ f (line_of xs n)
own_line f n xs ys ch = ch n ∙ ap (λ b. if b then f (line_of xs n) else line_of xs n) (same_is n)

-- all bytes but those of that line are as before
pub bytes_change : (f : Option Line → Option Line) (n : ℕ) (xs ys : Places) → Becomes f n xs ys
    → bytes_in_all ys + bytes_for (line_of xs n) ≡ bytes_in_all xs + bytes_for (line_of ys n)
bytes_change f n xs ys ch =
    one_changed n xs ys (λ k away.
    ch k ∙ ap (λ b. if b then f (line_of xs k) else line_of xs k) (apart_is n k away))

pub bytes_put : (s : Sent) (xs ys : Places)
    → ((k : ℕ) → line_of ys k ≡ puts (texts_to k (s ∷ [])) (line_of xs k))
    → bytes_in_all ys + bytes_for (line_of xs s.to) ≡ bytes_in_all xs + bytes_for (line_of ys s.to)
bytes_put s xs ys ch =
    one_changed s.to xs ys (λ k away.
    ch k
    ∙ ap (λ b. puts (map (λ (s : Sent). text_of s.message) (cond b (s ∷ []) [])) (line_of xs k))
    (apart_is s.to k away)
    ∙ are_puts.none (line_of xs k))

-- one line has no more bytes than all
pub bytes_within : (n : ℕ) (xs : Places) → bytes_for (line_of xs n) ≤ bytes_in_all xs
bytes_within zero xs = omega arith
bytes_within (suc zero) xs =
    let all : bytes_in_all xs ≡ bytes_for (line_of xs 1) + bytes_in_all (others_of xs) = parts xs in
    omega (arith, all)
bytes_within (suc (suc q)) xs =
    let all : bytes_in_all xs ≡ bytes_for (line_of xs 1) + bytes_in_all (others_of xs) = parts xs in
    let rest : bytes_for (line_of (others_of xs) (suc q)) ≤ bytes_in_all (others_of xs) =
    bytes_within (suc q) (others_of xs) in
    let here : bytes_for (line_of xs (suc (suc q))) ≡ bytes_for (line_of (others_of xs) (suc q)) =
    ap bytes_for (next xs q) in
    omega (arith, all, rest, here)

-- ---- fewer bytes

pub bytes_fewer : (f : Option Line → Option Line) (n : ℕ) (xs ys : Places)
    → ((line : Option Line) → bytes_for (f line) ≤ bytes_for line) → Becomes f n xs ys
    → bytes_for (line_of ys n) ≤ bytes_for (line_of xs n)
bytes_fewer f n xs ys fewer ch =
    let now : bytes_for (line_of ys n) ≡ bytes_for (f (line_of xs n)) = ap bytes_for (own_line f n xs ys ch) in
    let less : bytes_for (f (line_of xs n)) ≤ bytes_for (line_of xs n) = fewer (line_of xs n) in
    omega (arith, now, less)

pub first_goes : (line : Option Line) → bytes_for (without_first line) ≤ bytes_for line
first_goes None = omega arith
first_goes (Some l) = fewer l.waiting
  where
    fewer : (texts : List (List ℕ)) → bytes_in (drop 1 texts) ≤ bytes_in texts
    fewer [] = omega arith
    fewer (t ∷ texts) =
        let all : bytes_in (t ∷ texts) ≡ 0 + length t + bytes_in texts = from (0 + length t) texts in
        omega (arith, all)

pub over_goes : (b : Bounds) (line : Option Line) → bytes_for (option_map (told_more b) line) ≤ bytes_for line
over_goes b None = omega arith
over_goes b (Some l) =
    elim (is_full b l.waiting) as (λ full. bytes_for (Some (if full then over_line else l)) ≤ bytes_for (Some l))
    [ true ↦ omega arith | false ↦ omega arith ]

pub left_goes : (last : Bool) (line : Option Line) → bytes_for (left_line last line) ≡ 0
left_goes true line = refl
left_goes false None = refl
left_goes false (Some l) = refl
