-- Where listeners stand that end, and what is left without these places.
use Rattle.std.proofs.Common.{◌≡◌, ℕ, zero, suc, ◌+◌, ◌<◌, ◌==◌, nat_lt, arith, length, get_or, Bool, true, false, cond, not, ◌||◌, List, [], ◌∷◌, map, refl, sym, ap, subst, ◌∙◌, eqb-true, eq-eqb, ltb-true, ltb-false, Option, Some, None}
use mathlib.Core.Bool.{true≢false}
use Rattle.std.specs.List.{filter, list_any, enumerate_from, position, position_or_len, All, AllPairs}
use Rattle.std.specs.Option.{option_map_or}
use Rattle.std.proofs.lemmas.List.{length-map}
use Rattle.std.proofs.lemmas.List.Elements.{All-head, All-tail, All-cons, All-nil}
use Rattle.std.proofs.lemmas.List.Kept.{AllPairs-cons}
use Rattle.std.proofs.lemmas.List.Quantifiers.{position-Some}
use Rattle.rt_query.specs.Queries.{Query}
use Rattle.rt_query.specs.Supply.{form}
use Rattle.rt_cache.specs.Recover.{without_places}
use Rattle.rt_cache.proofs.Removing.{left_from}
use Rattle.rt_cover.specs.Cover.{Registered}
use Rattle.rt_cover.specs.State.{without_listeners}
use Rattle.rt_cover.specs.laws.FormLaws.{same_tests}
use Rattle.rt_cover.specs.laws.Pairs.{AllPairs-nil, AllPairs-first, AllPairs-rest}
use Rattle.rt_writes.specs.laws.Places.{place_within}
use Rattle.rt_world.specs.World.{Listener, registered, listening}
use Rattle.rt_sync.specs.inside.Losing.{places_at}

-- ---- places of numbers

-- where the first of a number stands
abbrev pub place : List Registered → ℕ → Option ℕ
place rs n = position (λ (r : Registered). r.0 == n) rs

-- the places of some numbers
abbrev pub places : List Registered → List ℕ → List ℕ
places rs [] = []
places rs (n ∷ ns) = option_map_or (λ p. p ∷ places rs ns) (place rs n) (places rs ns)

place_mapped : (ls : List Listener) (n : ℕ) → position (λ (l : Listener). l.number == n) ls ≡ place (registered ls) n
place_mapped ls n = λ i. cond (nat_lt (first ls i) (sym (length-map {B = Registered} ls (λ (l : Listener). (l.number, form l.query))) i)) (Some (first ls i)) None
  where
    first : (xs : List Listener) → position_or_len (λ (l : Listener). l.number == n) xs ≡ position_or_len (λ (r : Registered). r.0 == n) (registered xs)
    first [] = refl
    first (x ∷ xs) = ap (λ m. cond (not (x.number == n)) (1 + m) 0) (first xs)

places_mapped : (ls : List Listener) (ns : List ℕ) → places_at ls ns ≡ places (registered ls) ns
places_mapped ls [] = refl
places_mapped ls (n ∷ ns) = λ i. option_map_or (λ p. p ∷ places_mapped ls ns i) (place_mapped ls n i) (places_mapped ls ns i)

-- none is found, so none has the number
nowhere : (rs : List Registered) (n i : ℕ) (d : Registered) → i < length rs → place rs n ≡ None → ((get_or rs i d).0 == n) ≡ false
nowhere rs n i d lt none = unless (inside (first rs i lt))
  where
    first : (xs : List Registered) (j : ℕ) → j < length xs → ((get_or xs j d).0 == n) ≡ true → position_or_len (λ (r : Registered). r.0 == n) xs < length xs
    first [] j l t = absurd (omega (arith, l))
    first (x ∷ xs) zero l t = ap_lt (sym (ap (λ b. cond (not b) (1 + position_or_len (λ (r : Registered). r.0 == n) xs) 0) t))
      where
        ap_lt : 0 ≡ position_or_len (λ (r : Registered). r.0 == n) (x ∷ xs) → position_or_len (λ (r : Registered). r.0 == n) (x ∷ xs) < length (x ∷ xs)
        ap_lt e = subst (λ m. m < length (x ∷ xs)) e (omega arith)
    first (x ∷ xs) (suc j) l t =
        let rest = first xs j (omega (arith, l)) t in
        elim (x.0 == n) as (λ b. cond (not b) (1 + position_or_len (λ (r : Registered). r.0 == n) xs) 0 < length (x ∷ xs)) [
          | true ↦ omega arith
          | false ↦ omega (arith, rest)
        ]

    inside : (((get_or rs i d).0 == n) ≡ true → position_or_len (λ (r : Registered). r.0 == n) rs < length rs) → ((get_or rs i d).0 == n) ≡ true → true ≡ false
    inside f t = found (nat_lt (position_or_len (λ (r : Registered). r.0 == n) rs) (length rs)) refl none
      where
        found : (b : Bool) → nat_lt (position_or_len (λ (r : Registered). r.0 == n) rs) (length rs) ≡ b → cond (nat_lt (position_or_len (λ (r : Registered). r.0 == n) rs) (length rs)) (Some (position_or_len (λ (r : Registered). r.0 == n) rs)) None ≡ None → true ≡ false
        found true e g = cc
        found false e g = let low = f t in let high = ltb-false (position_or_len (λ (r : Registered). r.0 == n) rs) (length rs) e in absurd (omega (arith, low, high))

    unless : (((get_or rs i d).0 == n) ≡ true → true ≡ false) → ((get_or rs i d).0 == n) ≡ false
    unless f = elim ((get_or rs i d).0 == n) as (λ b. ((get_or rs i d).0 == n) ≡ b → b ≡ false) [
      | true ↦ λ e. f e
      | false ↦ λ e. refl
    ] refl

abbrev Rises : List Registered → Type 0
Rises rs = AllPairs (λ (l m : Registered). l.0 < m.0) rs

-- of rising numbers, that of the lesser place is less
one_place : (rs : List Registered) → Rises rs → (p i : ℕ) (d : Registered) → p < length rs → i < length rs → (get_or rs p d).0 ≡ (get_or rs i d).0 → p ≡ i
one_place rs up p i d lp li e =
    elim (nat_lt p i) as (λ b. nat_lt p i ≡ b → p ≡ i) [
      | true ↦ λ t. let less = up p i d (ltb-true p i t) li in absurd (omega (arith, less, e))
      | false ↦ λ t. elim (nat_lt i p) as (λ b. nat_lt i p ≡ b → p ≡ i) [
        | true ↦ λ u. let less = up i p d (ltb-true i p u) lp in absurd (omega (arith, less, e))
        | false ↦ λ u. let low = ltb-false p i t in let high = ltb-false i p u in omega (arith, low, high)
      ] refl
    ] refl

-- a place is one of theirs where the number there is
any_place : (rs : List Registered) → Rises rs → (ns : List ℕ) (i : ℕ) (d : Registered) → i < length rs
    → list_any (λ p. p == i) (places rs ns) ≡ list_any (λ n. n == (get_or rs i d).0) ns
any_place rs up [] i d lt = refl
any_place rs up (n ∷ ns) i d lt = at (any_place rs up ns i d lt) (place rs n) refl
  where
    at : list_any (λ p. p == i) (places rs ns) ≡ list_any (λ m. m == (get_or rs i d).0) ns → (o : Option ℕ) → place rs n ≡ o → list_any (λ p. p == i) (places rs (n ∷ ns)) ≡ (n == (get_or rs i d).0 || list_any (λ m. m == (get_or rs i d).0) ns)
    at rest None e =
        ap (λ o. list_any (λ p. p == i) (option_map_or (λ p. p ∷ places rs ns) o (places rs ns))) e
        ∙ rest ∙ sym (ap (λ b. b || list_any (λ m. m == (get_or rs i d).0) ns) (other (n == (get_or rs i d).0) refl))
      where
        other : (b : Bool) → (n == (get_or rs i d).0) ≡ b → (n == (get_or rs i d).0) ≡ false
        other true t = absurd (true≢false (sym (eq-eqb (get_or rs i d).0 n (sym (eqb-true n (get_or rs i d).0 t))) ∙ nowhere rs n i d lt e))
        other false t = t
    at rest (Some p) e =
        ap (λ o. list_any (λ q. q == i) (option_map_or (λ q. q ∷ places rs ns) o (places rs ns))) e
        ∙ (λ j. same j || rest j)
      where
        own : (get_or rs p d).0 ≡ n
        own = eqb-true (get_or rs p d).0 n (position-Some (λ (r : Registered). r.0 == n) rs p d e).1

        same : (p == i) ≡ (n == (get_or rs i d).0)
        same = same_tests (p == i) (n == (get_or rs i d).0)
            (λ t. eq-eqb n (get_or rs i d).0 (sym own ∙ ap (λ q. (get_or rs q d).0) (eqb-true p i t)))
            (λ t. eq-eqb p i (one_place rs up p i d (position-Some (λ (r : Registered). r.0 == n) rs p d e).0 lt (own ∙ eqb-true n (get_or rs i d).0 t)))

-- they stand within, and rise with the numbers
places_within : (rs : List Registered) (ns : List ℕ) → All (λ p. p < length rs) (places rs ns)
places_within rs [] = All-nil (λ p. p < length rs)
places_within rs (n ∷ ns) = at (places_within rs ns) (place rs n) refl
  where
    at : All (λ p. p < length rs) (places rs ns) → (o : Option ℕ) → place rs n ≡ o → All (λ p. p < length rs) (option_map_or (λ p. p ∷ places rs ns) o (places rs ns))
    at rest None e = rest
    at rest (Some p) e = All-cons (λ q. q < length rs) p (places rs ns) (place_within (λ (r : Registered). r.0 == n) rs p e) rest

-- what stands at a number's place has it
at_place : (rs : List Registered) (n p : ℕ) (d : Registered) → place rs n ≡ Some p → (get_or rs p d).0 ≡ n
at_place rs n p d e = eqb-true (get_or rs p d).0 n (position-Some (λ (r : Registered). r.0 == n) rs p d e).1

later_place : (rs : List Registered) → Rises rs → (m n p q : ℕ) → place rs m ≡ Some p → place rs n ≡ Some q → m < n → p < q
later_place [] up m n p q e f lt = cc
later_place (r ∷ rs) up m n p q e f lt =
    elim (nat_lt p q) as (λ b. nat_lt p q ≡ b → p < q) [
      | true ↦ λ t. ltb-true p q t
      | false ↦ λ t. elim (nat_lt q p) as (λ b. nat_lt q p ≡ b → p < q) [
        | true ↦ λ u.
            let less = up q p r (ltb-true q p u) (place_within (λ (x : Registered). x.0 == m) (r ∷ rs) p e) in
            absurd (omega (arith, less, at_place (r ∷ rs) m p r e, at_place (r ∷ rs) n q r f, lt))
        | false ↦ λ u.
            let low = ltb-false p q t in
            let high = ltb-false q p u in
            let same : p ≡ q = omega (arith, low, high) in
            absurd (omega (arith, sym (at_place (r ∷ rs) m p r e), ap (λ k. (get_or (r ∷ rs) k r).0) same, at_place (r ∷ rs) n q r f, lt))
      ] refl
    ] refl

all_later : (rs : List Registered) → Rises rs → (m p : ℕ) → place rs m ≡ Some p → (ns : List ℕ) → All (λ n. m < n) ns → All (λ q. p < q) (places rs ns)
all_later rs up m p e [] h = All-nil (λ q. p < q)
all_later rs up m p e (n ∷ ns) h = at (all_later rs up m p e ns (All-tail (λ k. m < k) n ns h)) (place rs n) refl
  where
    at : All (λ q. p < q) (places rs ns) → (o : Option ℕ) → place rs n ≡ o → All (λ q. p < q) (option_map_or (λ q. q ∷ places rs ns) o (places rs ns))
    at rest None f = rest
    at rest (Some q) f = All-cons (λ k. p < k) q (places rs ns) (later_place rs up m n p q e f (All-head (λ k. m < k) n ns h)) rest

places_rise : (rs : List Registered) → Rises rs → (ns : List ℕ) → AllPairs (λ (m n : ℕ). m < n) ns → AllPairs (λ (p q : ℕ). p < q) (places rs ns)
places_rise rs up [] rising = AllPairs-nil (λ (p q : ℕ). p < q)
places_rise rs up (n ∷ ns) rising = at (places_rise rs up ns (AllPairs-rest (λ (k m : ℕ). k < m) n ns rising)) (place rs n) refl
  where
    at : AllPairs (λ (p q : ℕ). p < q) (places rs ns) → (o : Option ℕ) → place rs n ≡ o → AllPairs (λ (p q : ℕ). p < q) (option_map_or (λ q. q ∷ places rs ns) o (places rs ns))
    at rest None e = rest
    at rest (Some p) e = AllPairs-cons (λ (q r : ℕ). q < r) p (places rs ns) (all_later rs up n p e ns (AllPairs-first (λ (k m : ℕ). k < m) n ns rising)) rest

-- ---- what is left

left_listed : (out : ℕ → Bool) (stays : Registered → Bool) (n : ℕ) (rs : List Registered)
    → ((i : ℕ) (d : Registered) → i < length rs → out (n + i) ≡ not (stays (get_or rs i d)))
    → left_from out n (listening rs) ≡ listening (filter stays rs)
left_listed out stays n [] h = refl
left_listed out stays n (r ∷ rs) h =
    let first : n ≡ n + 0 = omega arith in
    let here : out n ≡ not (stays r) = ap out first ∙ h 0 r (omega arith) in
    let rest : left_from out (n + 1) (listening rs) ≡ listening (filter stays rs) =
    left_listed out stays (n + 1) rs (λ i d lt. let next : n + 1 + i ≡ n + suc i = omega arith in ap out next ∙ h (suc i) d (omega (arith, lt))) in
    ap (λ b. map (λ (e : ℕ × Query). e.1) (cond (not b) ((n, r.1) ∷ filter (λ (e : ℕ × Query). not (out e.0)) (enumerate_from (n + 1) (listening rs))) (filter (λ (e : ℕ × Query). not (out e.0)) (enumerate_from (n + 1) (listening rs))))) here
    ∙ elim (stays r) as (λ b. map (λ (e : ℕ × Query). e.1) (cond (not (not b)) ((n, r.1) ∷ filter (λ (e : ℕ × Query). not (out e.0)) (enumerate_from (n + 1) (listening rs))) (filter (λ (e : ℕ × Query). not (out e.0)) (enumerate_from (n + 1) (listening rs))))
    ≡ listening (cond b (r ∷ filter stays rs) (filter stays rs))) [
      | true ↦ ap (λ fs. r.1 ∷ fs) rest
      | false ↦ rest
    ]

-- without their places there are left the forms of the others
pub places_left : (ls : List Listener) (rs : List Registered) → rs ≡ registered ls → Rises rs → (ns : List ℕ)
    → without_places (places_at ls ns) (listening rs) ≡ listening (without_listeners rs ns)
places_left ls rs e up ns =
    ap (λ ps. without_places ps (listening rs)) (places_mapped ls ns ∙ ap (λ xs. places xs ns) (sym e))
    ∙ left_listed (λ k. list_any (λ p. p == k) (places rs ns)) (λ r. not (list_any (λ n. n == r.0) ns)) 0 rs
    (λ i d lt. let here : 0 + i ≡ i = omega arith in
    ap (λ k. list_any (λ p. p == k) (places rs ns)) here ∙ any_place rs up ns i d lt ∙ sym (twice (list_any (λ n. n == (get_or rs i d).0) ns)))
  where
    twice : (b : Bool) → not (not b) ≡ b
    twice true = refl
    twice false = refl

pub places_in : (ls : List Listener) (rs : List Registered) → rs ≡ registered ls → (ns : List ℕ) → All (λ p. p < length (listening rs)) (places_at ls ns)
places_in ls rs e ns =
    subst (λ ps. All (λ p. p < length (listening rs)) ps) (sym (places_mapped ls ns ∙ ap (λ xs. places xs ns) (sym e)))
    (subst (λ n. All (λ p. p < n) (places rs ns)) (sym (length-map rs (λ (r : Registered). r.1))) (places_within rs ns))

pub places_up : (ls : List Listener) (rs : List Registered) → rs ≡ registered ls → Rises rs → (ns : List ℕ) → AllPairs (λ (m n : ℕ). m < n) ns → AllPairs (λ (p q : ℕ). p < q) (places_at ls ns)
places_up ls rs e up ns rising = subst (AllPairs (λ (p q : ℕ). p < q)) (sym (places_mapped ls ns ∙ ap (λ xs. places xs ns) (sym e))) (places_rise rs up ns rising)
