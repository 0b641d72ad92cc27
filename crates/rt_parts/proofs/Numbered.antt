-- Elements of some numbers are changed, one number after another.
use Rattle.std.proofs.Common.{◌≡◌, ℕ, zero, suc, ◌<◌, Bool, true, false, cond, ◌||◌, List, [], ◌∷◌, ◌++◌, length, get_or, set, map, refl, sym, ap, ◌∙◌, arith, nat_lt, Option, Some, None, eqb-true, ◌≤◌}
use Rattle.std.specs.Prelude.{◌==◌}
use Rattle.std.specs.List.{All, AllPairs, filter_map, cons_option, list_any, position}
use Rattle.std.specs.Option.{option_to_list}
use Rattle.std.proofs.lemmas.Bool.{ltb-false, ltb-true}
use Rattle.std.proofs.lemmas.List.Elements.{All-head, All-tail, All-cons}
use Rattle.std.proofs.lemmas.List.Folds.{list_any_none, Any-from_list_any}
use Rattle.std.proofs.lemmas.List.Quantifiers.{position-Some}

other_number : (m n : ℕ) → (m ≡ n → ⊥) → (m == n) ≡ false
other_number m n h = elim (m == n) as (λ b. (m == n) ≡ b → b ≡ false) [
  | true ↦ λ e. absurd (h (eqb-true m n e))
  | false ↦ λ e. refl
] refl

-- none of the greater numbers is this one
not_later : (n : ℕ) (ns : List ℕ) → All (λ m. n < m) ns → list_any (λ m. n == m) ns ≡ false
not_later n ns h = list_any_none (λ m. n == m) ns (λ k d lt. other_number n (get_or ns k d) (λ e. let above : n < get_or ns k d = h k d lt in absurd (omega (arith, e, above))))

cons_append : {Z : Type 0} (o : Option Z) (xs ys : List Z) → cons_option o (xs ++ ys) ≡ cons_option o xs ++ ys
cons_append (Some z) xs ys = refl
cons_append None xs ys = refl

module _ {X Z : Type 0} (number : X → ℕ) (f : X → X) (t : X → Option Z) where
  -- whether the element's number is one of these
  abbrev pub is_due : List ℕ → X → Bool
  is_due ns x = list_any (λ n. number x == n) ns

  -- the element changed, where its number is one of these, and what is told of it
  abbrev pub changed_in : List ℕ → X → X
  changed_in ns x = cond (is_due ns x) (f x) x

  abbrev pub told_in : List ℕ → X → Option Z
  told_in ns x = cond (is_due ns x) (t x) None

  -- the same of one number
  abbrev pub changed_at : ℕ → X → X
  changed_at n x = cond (number x == n) (f x) x

  abbrev pub told_at : ℕ → X → Option Z
  told_at n x = cond (number x == n) (t x) None

  module _ (stays : (x : X) → number (f x) ≡ number x) where
    -- what is changed under one number is due under none of the greater ones
    due_no_more : (n : ℕ) (ns : List ℕ) → All (λ m. n < m) ns → (x : X) → (number x == n) ≡ true → is_due ns (f x) ≡ false
    due_no_more n ns h x e = ap (λ z. list_any (λ m. z == m) ns) (stays x ∙ eqb-true (number x) n e) ∙ not_later n ns h

    pub changed_step : (n : ℕ) (ns : List ℕ) (xs : List X) → All (λ m. n < m) ns → map (changed_in (n ∷ ns)) xs ≡ map (changed_in ns) (map (changed_at n) xs)
    changed_step n ns [] h = refl
    changed_step n ns (x ∷ xs) h = λ i. point i ∷ changed_step n ns xs h i
      where
        point : changed_in (n ∷ ns) x ≡ changed_in ns (changed_at n x)
        point = elim (number x == n) as (λ b. (number x == n) ≡ b → cond (b || is_due ns x) (f x) x ≡ changed_in ns (cond b (f x) x)) [
          | true ↦ λ e. sym (ap (λ b. cond b (f (f x)) (f x)) (due_no_more n ns h x e))
          | false ↦ λ e. refl
        ] refl

    with_first : (n : ℕ) (ns : List ℕ) (x : X) (xs : List X) → All (λ m. n < m) ns → AllPairs (λ a b. number a < number b) (x ∷ xs)
        → filter_map (told_in (n ∷ ns)) xs ≡ filter_map (told_at n) xs ++ filter_map (told_in ns) (map (changed_at n) xs)
        → filter_map (told_in (n ∷ ns)) (x ∷ xs) ≡ filter_map (told_at n) (x ∷ xs) ++ filter_map (told_in ns) (map (changed_at n) (x ∷ xs))
    with_first n ns x xs h up more = elim (number x == n) as (λ b. (number x == n) ≡ b → cons_option (cond (b || is_due ns x) (t x) None) all ≡ cons_option (cond b (t x) None) one ++ cons_option (told_in ns (cond b (f x) x)) rest) [
      | true ↦ λ e. ap (cons_option (t x)) more ∙ cons_append (t x) one rest
          ∙ sym (ap (λ b. cons_option (t x) one ++ cons_option (cond b (t (f x)) None) rest) (due_no_more n ns h x e))
      | false ↦ λ e. elim (is_due ns x) as (λ b. is_due ns x ≡ b → cons_option (cond b (t x) None) all ≡ one ++ cons_option (cond b (t x) None) rest) [
        | true ↦ λ d. ap (cons_option (t x)) (more ∙ ap (λ z. z ++ rest) (none d)) ∙ sym (ap (λ z. z ++ cons_option (t x) rest) (none d))
        | false ↦ λ d. more
      ] refl
    ] refl
      where
        all : List Z
        all = filter_map (told_in (n ∷ ns)) xs

        one : List Z
        one = filter_map (told_at n) xs

        rest : List Z
        rest = filter_map (told_in ns) (map (changed_at n) xs)

        nothing : (ys : List X) → All (λ y. n < number y) ys → filter_map (told_at n) ys ≡ []
        nothing [] a = refl
        nothing (y ∷ ys) a =
            let above : n < number y = All-head (λ z. n < number z) y ys a in
            ap (λ b. cons_option (cond b (t y) None) (filter_map (told_at n) ys)) (other_number (number y) n (λ e. absurd (omega (arith, above, e))))
            ∙ nothing ys (All-tail (λ z. n < number z) y ys a)

        none : is_due ns x ≡ true → one ≡ []
        none d =
            let at = Any-from_list_any (λ m. number x == m) ns d in
            let greater : n < number x = (let low : n < get_or ns at.0 at.1 = h at.0 at.1 at.2 in omega (arith, low, ap (λ z. z) (at.3), eqb-true (number x) at.1 at.4)) in
            nothing xs (λ k e lt. let rise : number x < number (get_or xs k e) = up 0 (suc k) e (omega arith) (omega arith) in omega (arith, rise, greater))

    pub told_step : (n : ℕ) (ns : List ℕ) (xs : List X) → All (λ m. n < m) ns → AllPairs (λ a b. number a < number b) xs
        → filter_map (told_in (n ∷ ns)) xs ≡ filter_map (told_at n) xs ++ filter_map (told_in ns) (map (changed_at n) xs)
    told_step n ns [] h up = refl
    told_step n ns (x ∷ xs) h up =
        with_first n ns x xs h up (told_step n ns xs h (λ i j d lt within. up (suc i) (suc j) d (omega arith) (omega arith)))

    -- what holds of those that are due holds of those that are due still
    pub due_left : (P : X → Type 0) (n : ℕ) (ns : List ℕ) (xs : List X) → All (λ m. n < m) ns → All (λ x. is_due (n ∷ ns) x ≡ true → P x) xs → All (λ x. is_due ns x ≡ true → P x) (map (changed_at n) xs)
    due_left P n ns [] h a = λ k d lt. absurd (omega arith)
    due_left P n ns (x ∷ xs) h a = All-cons (λ y. is_due ns y ≡ true → P y) (changed_at n x) (map (changed_at n) xs)
        (elim (number x == n) as (λ b. (number x == n) ≡ b → is_due ns (cond b (f x) x) ≡ true → P (cond b (f x) x)) [
          | true ↦ λ e d. cc (due_no_more n ns h x e, d)
          | false ↦ λ e d. All-head (λ y. is_due (n ∷ ns) y ≡ true → P y) x xs a (ap (λ b. b || is_due ns x) e ∙ d)
        ] refl)
        (due_left P n ns xs h (All-tail (λ y. is_due (n ∷ ns) y ≡ true → P y) x xs a))

  -- where the others stay as they are, all are changed, and told
  module _ (met : X → Bool) (ns : List ℕ) where
    pub changed_all : (xs : List X) → ((x : X) → met x ≡ false → f x ≡ x) → All (λ x. met x ≡ true → is_due ns x ≡ true) xs → map (changed_in ns) xs ≡ map f xs
    changed_all [] same h = refl
    changed_all (x ∷ xs) same h = λ i. point i ∷ changed_all xs same (All-tail (λ y. met y ≡ true → is_due ns y ≡ true) x xs h) i
      where
        point : changed_in ns x ≡ f x
        point = elim (is_due ns x) as (λ b. is_due ns x ≡ b → cond b (f x) x ≡ f x) [
          | true ↦ λ e. refl
          | false ↦ λ e. elim (met x) as (λ b. met x ≡ b → x ≡ f x) [
            | true ↦ λ m. cc (All-head (λ y. met y ≡ true → is_due ns y ≡ true) x xs h m, e)
            | false ↦ λ m. sym (same x m)
          ] refl
        ] refl

    pub told_all : (xs : List X) → ((x : X) → met x ≡ false → t x ≡ None) → All (λ x. met x ≡ true → is_due ns x ≡ true) xs → filter_map (told_in ns) xs ≡ filter_map t xs
    told_all [] same h = refl
    told_all (x ∷ xs) same h = λ i. cons_option (point i) (told_all xs same (All-tail (λ y. met y ≡ true → is_due ns y ≡ true) x xs h) i)
      where
        point : told_in ns x ≡ t x
        point = elim (is_due ns x) as (λ b. is_due ns x ≡ b → cond b (t x) None ≡ t x) [
          | true ↦ λ e. refl
          | false ↦ λ e. elim (met x) as (λ b. met x ≡ b → None ≡ t x) [
            | true ↦ λ m. cc (All-head (λ y. met y ≡ true → is_due ns y ≡ true) x xs h m, e)
            | false ↦ λ m. sym (same x m)
          ] refl
        ] refl

  -- ---- the one of a number

  -- where none has the number, all stay
  pub stay_none : (n : ℕ) (xs : List X) → All (λ x. (number x == n) ≡ false) xs → map (changed_at n) xs ≡ xs
  stay_none n [] h = refl
  stay_none n (x ∷ xs) h = λ i. cond (All-head (λ y. (number y == n) ≡ false) x xs h i) (f x) x ∷ stay_none n xs (All-tail (λ y. (number y == n) ≡ false) x xs h) i

  pub told_none : (n : ℕ) (xs : List X) → All (λ x. (number x == n) ≡ false) xs → filter_map (told_at n) xs ≡ []
  told_none n [] h = refl
  told_none n (x ∷ xs) h =
      ap (λ b. cons_option (cond b (t x) None) (filter_map (told_at n) xs)) (All-head (λ y. (number y == n) ≡ false) x xs h)
      ∙ told_none n xs (All-tail (λ y. (number y == n) ≡ false) x xs h)

  one_more : (o : Option Z) → cons_option o [] ≡ option_to_list o
  one_more (Some z) = refl
  one_more None = refl

  -- of the elements that are read from others, that at i is changed
  module _ {W : Type 0} (g : W → X) where
    abbrev pub OnlyAt : ℕ → List W → ℕ → Type 0
    OnlyAt n ws i = (k : ℕ) (d : W) → k < length ws → (k ≡ i → ⊥) → (number (g (get_or ws k d)) == n) ≡ false

    others_none : (n : ℕ) (ws : List W) → ((k : ℕ) (d : W) → k < length ws → (number (g (get_or ws k d)) == n) ≡ false) → All (λ x. (number x == n) ≡ false) (map g ws)
    others_none n [] h = λ k d lt. absurd (omega arith)
    others_none n (w ∷ ws) h = All-cons (λ x. (number x == n) ≡ false) (g w) (map g ws) (h 0 w (omega arith)) (others_none n ws (λ k d lt. h (suc k) d (omega arith)))

    pub changed_one : (n : ℕ) (ws : List W) (i : ℕ) (d new : W) → i < length ws → (number (g (get_or ws i d)) == n) ≡ true → OnlyAt n ws i → g new ≡ f (g (get_or ws i d))
        → map g (set ws i new) ≡ map (changed_at n) (map g ws)
    changed_one n [] i d new lt here others put = absurd (omega arith)
    changed_one n (w ∷ ws) zero d new lt here others put =
        let rest = stay_none n (map g ws) (others_none n ws (λ k e l. others (suc k) e (omega arith) (λ z. absurd (omega arith)))) in
        let head : g new ≡ changed_at n (g w) = put ∙ sym (ap (λ b. cond b (f (g w)) (g w)) here) in
        λ j. head j ∷ sym rest j
    changed_one n (w ∷ ws) (suc i) d new lt here others put =
        let head : changed_at n (g w) ≡ g w = ap (λ b. cond b (f (g w)) (g w)) (others 0 w (omega arith) (λ z. absurd (omega arith))) in
        λ j. sym head j ∷ changed_one n ws i d new (omega arith) here (λ k e l z. others (suc k) e (omega arith) (λ q. z (omega arith))) put j

    pub told_one : (n : ℕ) (ws : List W) (i : ℕ) (d : W) → i < length ws → (number (g (get_or ws i d)) == n) ≡ true → OnlyAt n ws i
        → filter_map (told_at n) (map g ws) ≡ option_to_list (t (g (get_or ws i d)))
    told_one n [] i d lt here others = absurd (omega arith)
    told_one n (w ∷ ws) zero d lt here others =
        ap (λ b. cons_option (cond b (t (g w)) None) (filter_map (told_at n) (map g ws))) here
        ∙ ap (cons_option (t (g w))) (told_none n (map g ws) (others_none n ws (λ k e l. others (suc k) e (omega arith) (λ z. absurd (omega arith)))))
        ∙ one_more (t (g w))
    told_one n (w ∷ ws) (suc i) d lt here others =
        ap (λ b. cons_option (cond b (t (g w)) None) (filter_map (told_at n) (map g ws))) (others 0 w (omega arith) (λ z. absurd (omega arith)))
        ∙ told_one n ws i d (omega arith) here (λ k e l z. others (suc k) e (omega arith) (λ q. z (omega arith)))

-- where numbers rise, the one that is found is the only one of its number
pub only_there : {W : Type 0} (number : W → ℕ) (ws : List W) (n i : ℕ) → AllPairs (λ a b. number a < number b) ws → position (λ w. number w == n) ws ≡ Some i
    → (k : ℕ) (d : W) → k < length ws → (k ≡ i → ⊥) → (number (get_or ws k d) == n) ≡ false
only_there number ws n i up e k d lt apart =
    let at = position-Some (λ w. number w == n) ws i d e in
    elim (nat_lt k i) as (λ b. nat_lt k i ≡ b → (number (get_or ws k d) == n) ≡ false) [
      | true ↦ λ l. at.2 k (ltb-true k i l)
      | false ↦ λ l.
          let past : i < k = (let ge : i ≤ k = ltb-false k i l in omega (arith, ge, apart)) in
          let here : number (get_or ws i d) ≡ n = eqb-true (number (get_or ws i d)) n at.1 in
          let rise : number (get_or ws i d) < number (get_or ws k d) = up i k d past lt in
          other_number (number (get_or ws k d)) n (λ q. absurd (omega (arith, rise, here, q)))
    ] refl
