-- One listen is taken out of a list.
use Rattle.std.proofs.Common.{◌≡◌, ℕ, zero, suc, ◌+◌, ◌<◌, ◌≤◌, ◌==◌, nat_lt, Bool, true, false, cond, not, ◌||◌, List, [], ◌∷◌, map, length, get_or, refl, sym, ap, ◌∙◌, arith, eqb-true, ltb-true}
use Rattle.std.specs.List.{filter, list_any, remove, count_by, AllPairs}
use Rattle.rt_cover.specs.Cover.{Tagged}
use Rattle.rt_cover.specs.laws.Pairs.{AllPairs-rest}
use Rattle.rt_cover.proofs.CountLaws.{count_cons, any_count}
use Rattle.rt_cover.proofs.ListenLaws.{none_taken}

-- ---- how many there are

counted : (p : Tagged → Bool) (k : Tagged) (ks : List Tagged) (b : Bool) → p k ≡ b → count_by p (k ∷ ks) ≡ cond b 1 0 + count_by p ks
counted p k ks b e = count_cons p k ks ∙ ap (λ t. cond t 1 0 + count_by p ks) e

pub none_counted : (p : Tagged → Bool) (ks : List Tagged) → count_by p ks ≡ 0 → list_any p ks ≡ false
none_counted p ks e = any_count p ks ∙ ap (nat_lt 0) e

some_counted : (p : Tagged → Bool) (ks : List Tagged) → list_any p ks ≡ true → 0 < count_by p ks
some_counted p ks e = ltb-true 0 (count_by p ks) (sym (any_count p ks) ∙ e)

some_at : (p : Tagged → Bool) (ks : List Tagged) (i : ℕ) (d : Tagged) → i < length ks → p (get_or ks i d) ≡ true → list_any p ks ≡ true
some_at p [] i d lt e = absurd (omega (arith, lt))
some_at p (k ∷ ks) zero d lt e = ap (λ b. b || list_any p ks) e
some_at p (k ∷ ks) (suc i) d lt e = elim (p k) as (λ b. (b || list_any p ks) ≡ true) [
  | true ↦ refl
  | false ↦ some_at p ks i d (omega (arith, lt)) e
]

-- so many tags are taken
pub stopped_count : (s : Tagged → Bool) (ks : List Tagged) → length (map (λ (k : Tagged). k.tag) (filter s ks)) ≡ count_by s ks
stopped_count s [] = refl
stopped_count s (k ∷ ks) = at (s k) refl (stopped_count s ks)
  where
    at : (b : Bool) → s k ≡ b → length (map (λ (x : Tagged). x.tag) (filter s ks)) ≡ count_by s ks
        → length (map (λ (x : Tagged). x.tag) (cond (s k) (k ∷ filter s ks) (filter s ks))) ≡ count_by s (k ∷ ks)
    at true e rest =
        let c = counted s k ks true e in
        let l = ap (λ b. length (map (λ (x : Tagged). x.tag) (cond b (k ∷ filter s ks) (filter s ks)))) e in
        omega (arith, rest, c, l)
    at false e rest =
        let c = counted s k ks false e in
        let l = ap (λ b. length (map (λ (x : Tagged). x.tag) (cond b (k ∷ filter s ks) (filter s ks)))) e in
        omega (arith, rest, c, l)

-- ---- where it is one, the others stay

pub one_taken : (p : Tagged → Bool) (ks : List Tagged) (i : ℕ) (d : Tagged) → count_by p ks ≤ 1 → i < length ks → p (get_or ks i d) ≡ true
    → filter (λ k. not (p k)) ks ≡ remove ks i
one_taken p [] i d one lt e = absurd (omega (arith, lt))
one_taken p (k ∷ ks) zero d one lt e =
    ap (λ b. cond (not b) (k ∷ filter (λ x. not (p x)) ks) (filter (λ x. not (p x)) ks)) e
    ∙ none_taken p ks (none_counted p ks (let c = counted p k ks true e in omega (arith, one, c)))
one_taken p (k ∷ ks) (suc i) d one lt e = at (p k) refl (λ le. one_taken p ks i d le (omega (arith, lt)) e)
  where
    at : (b : Bool) → p k ≡ b → (count_by p ks ≤ 1 → filter (λ x. not (p x)) ks ≡ remove ks i) → cond (not (p k)) (k ∷ filter (λ x. not (p x)) ks) (filter (λ x. not (p x)) ks) ≡ k ∷ remove ks i
    at true t onward =
        let c = counted p k ks true t in
        let some = some_counted p ks (some_at p ks i d (omega (arith, lt)) e) in
        absurd (omega (arith, one, c, some))
    at false t onward =
        let c = counted p k ks false t in
        ap (λ b. cond (not b) (k ∷ filter (λ x. not (p x)) ks) (filter (λ x. not (p x)) ks)) t
        ∙ ap (λ z. k ∷ z) (onward (omega (arith, one, c)))

-- ---- of tags that rise one has a tag

no_count : (p : Tagged → Bool) (ks : List Tagged) → ((i : ℕ) (d : Tagged) → i < length ks → p (get_or ks i d) ≡ false) → count_by p ks ≡ 0
no_count p [] none = refl
no_count p (k ∷ ks) none =
    let c = counted p k ks false (none 0 k (omega arith)) in
    let rest = no_count p ks (λ i d lt. none (suc i) d (omega (arith, lt))) in
    omega (arith, c, rest)

other_tag : (m n : ℕ) → m < n → ((m == n) || false) ≡ false
other_tag m n lt = at (m == n) refl
  where
    at : (b : Bool) → (m == n) ≡ b → ((m == n) || false) ≡ false
    at true e = let same : m ≡ n = eqb-true m n e in absurd (omega (arith, lt, same))
    at false e = ap (λ b. b || false) e

pub lost_once : (lost ks : List Tagged) → length lost ≡ 1 → AllPairs (λ (j k : Tagged). j.tag < k.tag) ks
    → count_by (λ (k : Tagged). list_any (λ (j : Tagged). j.tag == k.tag) lost) ks ≤ 1
lost_once [] ks one up = absurd (omega (arith, one))
lost_once (j ∷ i ∷ lost) ks one up = absurd (omega (arith, one))
lost_once (j ∷ []) [] one up = omega arith
lost_once (j ∷ []) (k ∷ ks) one up = at (j.tag == k.tag) refl (lost_once (j ∷ []) ks one (AllPairs-rest (λ (x y : Tagged). x.tag < y.tag) k ks up))
  where
    at : (b : Bool) → (j.tag == k.tag) ≡ b → count_by (λ (x : Tagged). (j.tag == x.tag) || false) ks ≤ 1 → count_by (λ (x : Tagged). (j.tag == x.tag) || false) (k ∷ ks) ≤ 1
    at true e rest =
        let same : j.tag ≡ k.tag = eqb-true j.tag k.tag e in
        let none = no_count (λ (x : Tagged). (j.tag == x.tag) || false) ks
        (λ i d lt. other_tag j.tag (get_or ks i d).tag (let above : k.tag < (get_or ks i d).tag = up 0 (suc i) d (omega arith) (omega (arith, lt)) in omega (arith, same, above))) in
        let c = counted (λ (x : Tagged). (j.tag == x.tag) || false) k ks true (ap (λ b. b || false) e) in
        omega (arith, none, c)
    at false e rest =
        let c = counted (λ (x : Tagged). (j.tag == x.tag) || false) k ks false (ap (λ b. b || false) e) in
        omega (arith, rest, c)
