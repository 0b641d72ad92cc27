-- A map's entries, whose numbers rise: changed at one of them, and passed by where it is none of theirs.
use Rattle.std.proofs.Common.{◌≡◌, ℕ, ◌<◌, Bool, true, false, cond, ◌==◌, not, nat_lt, List, [], ◌∷◌, ◌++◌, map, refl, sym, ap, subst, ◌∙◌, arith, Option, Some, None}
use Rattle.std.proofs.lemmas.Bool.Decides.{nat_tests}
use Rattle.std.proofs.lemmas.List.Elements.{All-head, All-tail, All-filter, All-map, All-weaker}
use Rattle.std.specs.declared.cmp.Ordering.TheVariants.{Less, Equal, Greater}
use Rattle.std.specs.BTreeMap.{insert_entry, is_at}
use Rattle.std.specs.Cmp.{nat_eq_equiv, unsigned_tied}
use Rattle.std.specs.List.{filter, All}
use Rattle.std.specs.Map.{lookup, remove_entry, set_value}
use Rattle.std.specs.Option.{option_map_or}
use Rattle.std.specs.Ordering.{match_ordering, nat_cmp}
use Rattle.rt_client.proofs.Numbers.{same_number, other_number, flip}

-- ---- numbers

swapped : (m n : ℕ) → (m == n) ≡ (n == m)
swapped m n = elim (m == n) as (λ b. (m == n) ≡ b → b ≡ (n == m)) [
  | true ↦ λ e. sym (ap (λ x. x == m) (sym (same_number m n e)) ∙ nat_eq_equiv.refl m)
  | false ↦ λ e. sym (flip m n e)
] refl

-- the test of a map's key
pub is_at-number : (n m : ℕ) → is_at (nat_cmp n) m ≡ (m == n)
is_at-number n m = unsigned_tied n m ∙ swapped n m

not_below : (m n : ℕ) → m < n → nat_lt n m ≡ false
not_below m n lt = grind (arith, nat_tests)

greater : (m n : ℕ) → m < n → nat_cmp n m ≡ Greater
greater m n lt =
    let apart : (n == m) ≡ false = other_number n m (λ same. omega (arith, same, lt)) in
    ap (λ b. cond b Less (cond (n == m) Equal Greater)) (not_below m n lt) ∙ ap (λ b. cond b Equal Greater) apart

apart_above : (m n : ℕ) → m < n → (n == m) ≡ false
apart_above m n lt = other_number n m (λ same. omega (arith, same, lt))

-- ---- entries

module _ {X : Type 0} where
  -- the numbers rise
  abbrev pub Up : List (ℕ × X) → Type 0
  Up [] = Unit {0}
  Up (e ∷ es) = All (λ (f : ℕ × X). e.0 < f.0) es × Up es

  pub Up-filter : (p : ℕ × X → Bool) (es : List (ℕ × X)) → Up es → Up (filter p es)
  Up-filter p [] u = tt
  Up-filter p (e ∷ es) u = elim (p e) as (λ b. Up (cond b (e ∷ filter p es) (filter p es))) [
    | true ↦ (All-filter p (λ (f : ℕ × X). e.0 < f.0) es u.0, Up-filter p es u.1)
    | false ↦ Up-filter p es u.1
  ]

  pub Up-map : (g : ℕ × X → ℕ × X) → ((e : ℕ × X) → (g e).0 ≡ e.0) → (es : List (ℕ × X)) → Up es → Up (map g es)
  Up-map g same [] u = tt
  Up-map g same (e ∷ es) u =
      let later : (f : ℕ × X) → e.0 < f.0 → (g e).0 < (g f).0 =
      λ f lt. subst (λ n. n < (g f).0) (sym (same e)) (subst (λ n. e.0 < n) (sym (same f)) lt) in
      (All-map (λ (f : ℕ × X). (g e).0 < f.0) g es (All-weaker (λ (f : ℕ × X). e.0 < f.0) (λ (f : ℕ × X). (g e).0 < (g f).0) later es u.0), Up-map g same es u.1)

  -- a number above all is not there, and comes last
  pub lookup-above : (n : ℕ) (es : List (ℕ × X)) → All (λ (e : ℕ × X). e.0 < n) es → lookup (is_at (nat_cmp n)) es ≡ None
  lookup-above n [] h = refl
  lookup-above n (e ∷ es) h =
      let lt : e.0 < n = All-head (λ (e : ℕ × X). e.0 < n) e es h in
      ap (λ b. cond b (Some e.1) (lookup (is_at (nat_cmp n)) es)) (unsigned_tied n e.0 ∙ apart_above e.0 n lt)
      ∙ lookup-above n es (All-tail (λ (e : ℕ × X). e.0 < n) e es h)

  pub insert-above : (n : ℕ) (x : X) (es : List (ℕ × X)) → All (λ (e : ℕ × X). e.0 < n) es → insert_entry nat_cmp es n x ≡ es ++ (n, x) ∷ []
  insert-above n x [] h = refl
  insert-above n x (e ∷ es) h =
      let lt : e.0 < n = All-head (λ (e : ℕ × X). e.0 < n) e es h in
      ap (λ o. match_ordering o ((n, x) ∷ e ∷ es) ((e.0, x) ∷ es) (e ∷ insert_entry nat_cmp es n x)) (greater e.0 n lt)
      ∙ ap (λ z. e ∷ z) (insert-above n x es (All-tail (λ (e : ℕ × X). e.0 < n) e es h))

  -- a number below all is none of theirs
  filter-below : (n : ℕ) (es : List (ℕ × X)) → All (λ (e : ℕ × X). n < e.0) es → filter (λ e. not (e.0 == n)) es ≡ es
  filter-below n [] h = refl
  filter-below n (e ∷ es) h =
      let lt : n < e.0 = All-head (λ (e : ℕ × X). n < e.0) e es h in
      ap (λ b. cond (not b) (e ∷ filter (λ e. not (e.0 == n)) es) (filter (λ e. not (e.0 == n)) es)) (apart_above n e.0 lt)
      ∙ ap (λ z. e ∷ z) (filter-below n es (All-tail (λ (e : ℕ × X). n < e.0) e es h))

  -- one goes
  pub remove-one : (n : ℕ) (es : List (ℕ × X)) → Up es → remove_entry (is_at (nat_cmp n)) es ≡ filter (λ e. not (e.0 == n)) es
  remove-one n [] u = refl
  remove-one n (e ∷ es) u =
      let rest = remove_entry (is_at (nat_cmp n)) es in
      let others = filter (λ (f : ℕ × X). not (f.0 == n)) es in
      ap (λ b. cond b es (e ∷ rest)) (is_at-number n e.0)
      ∙ elim (e.0 == n) as (λ b. (e.0 == n) ≡ b → cond b es (e ∷ rest) ≡ cond (not b) (e ∷ others) others) [
        | true ↦ λ t.
            sym (filter-below e.0 es u.0) ∙ ap (λ k. filter (λ (f : ℕ × X). not (f.0 == k)) es) (same_number e.0 n t)
        | false ↦ λ t. ap (λ z. e ∷ z) (remove-one n es u.1)
      ] refl

  -- one of that number is changed, if it is there
  abbrev pub changed : ℕ → (X → X) → ℕ × X → ℕ × X
  changed n f e = cond (e.0 == n) (e.0, f e.1) e

  changed-below : (n : ℕ) (f : X → X) (es : List (ℕ × X)) → All (λ (e : ℕ × X). n < e.0) es → map (changed n f) es ≡ es
  changed-below n f [] h = refl
  changed-below n f (e ∷ es) h =
      let lt : n < e.0 = All-head (λ (e : ℕ × X). n < e.0) e es h in
      ap (λ b. cond b (e.0, f e.1) e ∷ map (changed n f) es) (apart_above n e.0 lt)
      ∙ ap (λ z. e ∷ z) (changed-below n f es (All-tail (λ (e : ℕ × X). n < e.0) e es h))

  pub changed-number : (n : ℕ) (f : X → X) (e : ℕ × X) → (changed n f e).0 ≡ e.0
  changed-number n f e = elim (e.0 == n) as (λ b. (cond b (e.0, f e.1) e).0 ≡ e.0) [ true ↦ refl | false ↦ refl ]

  pub set-one : (n : ℕ) (f : X → X) (es : List (ℕ × X)) → Up es
      → option_map_or (λ x. set_value (is_at (nat_cmp n)) es (f x)) (lookup (is_at (nat_cmp n)) es) es ≡ map (changed n f) es
  set-one n f [] u = refl
  set-one n f (e ∷ es) u =
      let set = λ (x : X). set_value (is_at (nat_cmp n)) es (f x) in
      let found = lookup (is_at (nat_cmp n)) es in
      ap (λ b. option_map_or (λ x. cond b ((e.0, f x) ∷ es) (e ∷ set x)) (cond b (Some e.1) found) (e ∷ es)) (is_at-number n e.0)
      ∙ elim (e.0 == n) as (λ b. (e.0 == n) ≡ b
      → option_map_or (λ x. cond b ((e.0, f x) ∷ es) (e ∷ set x)) (cond b (Some e.1) found) (e ∷ es) ≡ cond b (e.0, f e.1) e ∷ map (changed n f) es) [
        | true ↦ λ t.
            ap (λ z. (e.0, f e.1) ∷ z) (sym (changed-below e.0 f es u.0) ∙ ap (λ k. map (changed k f) es) (same_number e.0 n t))
        | false ↦ λ t. kept found set ∙ ap (λ z. e ∷ z) (set-one n f es u.1)
      ] refl
    where
      kept : (o : Option X) (s : X → List (ℕ × X)) → option_map_or (λ x. e ∷ s x) o (e ∷ es) ≡ e ∷ option_map_or s o es
      kept None s = refl
      kept (Some x) s = refl
