-- How many of a connection there are where one comes or goes.
use Rattle.std.proofs.Common.{◌≡◌, ℕ, ◌+◌, ◌-◌, ◌==◌, Bool, true, false, cond, not, List, [], ◌∷◌, length, length-append, Option, Some, refl, sym, ap, ◌∙◌, arith, if◌then◌else◌}
use Rattle.std.specs.List.{filter}
use Rattle.std.specs.Map.{lookup}
use Rattle.std.specs.BTreeMap.{is_at as key_is}
use Rattle.std.specs.Option.{unwrap_or}
use Rattle.std.specs.Ordering.{nat_cmp, is_eq}
use Rattle.std.proofs.lemmas.List.Elements.{filter-append}
use Rattle.rt_peer.specs.Peers.{Listen, in_place, is_at, is_before}
use Rattle.rt_peer.specs.inside.Counts.{count_of, AreCounted}
use Rattle.rt_peer.proofs.FoundLaws.{eq_is, same_of}

-- ---- counts

abbrev pub one_if : ℕ → ℕ → ℕ
one_if k n = if k == n then 1 else 0

-- what a key has been given, or none where it is taken out
abbrev pub IsSetTo : ℕ → Option ℕ → List (ℕ × ℕ) → List (ℕ × ℕ) → Type 0
IsSetTo k v old new = (q : ℕ) → lookup (key_is (nat_cmp q)) new ≡ cond (is_eq (nat_cmp k q)) v (lookup (key_is (nat_cmp q)) old)

pub set_to : (k m : ℕ) (v : Option ℕ) (old new : List (ℕ × ℕ)) → IsSetTo k v old new → unwrap_or v 0 ≡ m
    → (n : ℕ) → count_of new n ≡ (if k == n then m else count_of old n)
set_to k m v old new set is n =
    ap (λ r. unwrap_or r 0) (set n)
    ∙ ap (λ b. unwrap_or (cond b v (lookup (key_is (nat_cmp n)) old)) 0) (eq_is k n)
    ∙ elim (k == n) as (λ b. unwrap_or (cond b v (lookup (key_is (nat_cmp n)) old)) 0 ≡ (if b then m else count_of old n)) [
      | true ↦ is
      | false ↦ refl
    ]

pub raised : (k m : ℕ) (old new : List (ℕ × ℕ)) → IsSetTo k (Some m) old new → m ≡ count_of old k + 1
    → (n : ℕ) → count_of new n ≡ count_of old n + one_if k n
raised k m old new set is n =
    set_to k m (Some m) old new set refl n
    ∙ elim (k == n) as (λ b. (k == n) ≡ b → (if b then m else count_of old n) ≡ count_of old n + (if b then 1 else 0)) [
      | true ↦ λ e. is ∙ ap (λ j. count_of old j + 1) (same_of k n e)
      | false ↦ λ e. omega arith
    ] refl

pub lowered : (k m : ℕ) (v : Option ℕ) (old new : List (ℕ × ℕ)) → IsSetTo k v old new → unwrap_or v 0 ≡ m
    → m ≡ count_of old k - 1 → (n : ℕ) → count_of new n ≡ count_of old n - one_if k n
lowered k m v old new set is less n =
    set_to k m v old new set is n
    ∙ elim (k == n) as (λ b. (k == n) ≡ b → (if b then m else count_of old n) ≡ count_of old n - (if b then 1 else 0)) [
      | true ↦ λ e. less ∙ ap (λ j. count_of old j - 1) (same_of k n e)
      | false ↦ λ e. omega arith
    ] refl

-- ---- listens that are counted

pub split_count : (p q : Listen → Bool) (ls : List Listen)
    → length (filter p (filter q ls)) + length (filter p (filter (λ l. not (q l)) ls)) ≡ length (filter p ls)
split_count p q [] = refl
split_count p q (l ∷ ls) =
    let rest = split_count p q ls in
    elim (q l) as (λ b. length (filter p (cond b (l ∷ filter q ls) (filter q ls)))
    + length (filter p (cond (not b) (l ∷ filter (λ m. not (q m)) ls) (filter (λ m. not (q m)) ls)))
    ≡ length (cond (p l) (l ∷ filter p ls) (filter p ls))) [
      | true ↦ elim (p l) as (λ c. length (cond c (l ∷ filter p (filter q ls)) (filter p (filter q ls)))
          + length (filter p (filter (λ m. not (q m)) ls)) ≡ length (cond c (l ∷ filter p ls) (filter p ls))) [
            | true ↦ omega (arith, rest)
            | false ↦ rest
          ]
      | false ↦ elim (p l) as (λ c. length (filter p (filter q ls))
          + length (cond c (l ∷ filter p (filter (λ m. not (q m)) ls)) (filter p (filter (λ m. not (q m)) ls)))
          ≡ length (cond c (l ∷ filter p ls) (filter p ls))) [
            | true ↦ omega (arith, rest)
            | false ↦ rest
          ]
    ]

put_count : (p : Listen → Bool) (x : Listen) (ls : List Listen)
    → length (filter p (in_place is_before x ls)) ≡ length (filter p ls) + (if p x then 1 else 0)
put_count p x ls =
    let front : List Listen = filter p (filter (λ y. not (is_before x y)) ls) in
    let back : List Listen = filter p (filter (is_before x) ls) in
    let split = split_count p (is_before x) ls in
    ap length (filter-append p (filter (λ y. not (is_before x y)) ls) (x ∷ filter (is_before x) ls))
    ∙ length-append front (filter p (x ∷ filter (is_before x) ls))
    ∙ elim (p x) as (λ b. length front + length (cond b (x ∷ back) back) ≡ length (filter p ls) + (if b then 1 else 0)) [
      | true ↦ omega (arith, split)
      | false ↦ omega (arith, split)
    ]

-- one more
pub counted_put : (x : Listen) (old new : List (ℕ × ℕ)) (ls : List Listen) → AreCounted old ls
    → ((n : ℕ) → count_of new n ≡ count_of old n + one_if x.connection n) → AreCounted new (in_place is_before x ls)
counted_put x old new ls counted more n =
    more n ∙ ap (λ m. m + one_if x.connection n) (counted n) ∙ sym (put_count (λ l. l.connection == n) x ls)

-- one less
pub counted_taken : (x : Listen) (c t : ℕ) (old new : List (ℕ × ℕ)) (ls : List Listen) → AreCounted old ls
    → filter (is_at c t) ls ≡ x ∷ [] → x.connection ≡ c → ((n : ℕ) → count_of new n ≡ count_of old n - one_if c n)
    → AreCounted new (filter (λ l. not (is_at c t l)) ls)
counted_taken x c t old new ls counted alone own less n =
    let p : Listen → Bool = λ l. l.connection == n in
    let split : length (filter p (x ∷ [])) + length (filter p (filter (λ l. not (is_at c t l)) ls)) ≡ length (filter p ls) =
    ap (λ xs. length (filter p xs) + length (filter p (filter (λ l. not (is_at c t l)) ls))) (sym alone) ∙ split_count p (is_at c t) ls in
    let here : length (filter p (x ∷ [])) ≡ one_if c n = one_of (x.connection == n) ∙ ap (λ m. one_if m n) own in
    less n ∙ ap (λ m. m - one_if c n) (counted n)
    ∙ minus (length (filter p (x ∷ []))) (one_if c n) (length (filter p (filter (λ l. not (is_at c t l)) ls))) (length (filter p ls)) here split
  where
    one_of : (b : Bool) → length (cond b (x ∷ []) []) ≡ (if b then 1 else 0)
    one_of true = refl
    one_of false = refl

    minus : (a b l m : ℕ) → a ≡ b → a + l ≡ m → m - b ≡ l
    minus a b l m e f = omega (arith, e, f)

-- one that came and went
pub put_back : (k : ℕ) (a b d : List (ℕ × ℕ)) → ((n : ℕ) → count_of b n ≡ count_of a n + one_if k n)
    → ((n : ℕ) → count_of d n ≡ count_of b n - one_if k n) → (n : ℕ) → count_of d n ≡ count_of a n
put_back k a b d more less n = less n ∙ ap (λ m. m - one_if k n) (more n) ∙ gone (count_of a n) (one_if k n)
  where
    gone : (m j : ℕ) → m + j - j ≡ m
    gone m j = omega arith
