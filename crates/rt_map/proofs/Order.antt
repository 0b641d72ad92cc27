-- What one comparison says of the other entries.
use Rattle.std.proofs.Common.{◌≡◌, refl, sym, ap, ◌∙◌, subst, ℕ, zero, suc, arith, take-append-drop, drop-cons, get_or, ◌<◌, List, [], ◌∷◌, ◌++◌, length, take, drop, cond}
use Rattle.std.specs.declared.cmp.Ordering.{Ordering}
use Rattle.std.specs.declared.cmp.Ordering.TheVariants.{Less, Equal, Greater}
use Rattle.std.specs.Ordering.{ordering_reverse, match_ordering, is_eq}
use Rattle.std.specs.Cmp.{IsTotalOrder}
use Rattle.std.specs.BTreeMap.{insert_entry, is_at}
use Rattle.std.specs.Map.{keys_of, remove_entry}
use Rattle.std.specs.List.{AllByRecursion}
use Rattle.std.specs.List.Sorted.{IsStrictlySortedBy}
use Rattle.std.proofs.lemmas.Map.Keys.{sorted_head, sorted_tail}
use Rattle.rt_map.specs.inside.Places.{AllBelow, AllAbove, IsAt}

-- `remove_entry` at one entry, by what its key compares to
abbrev remove_step : {E : Type 0} → Ordering → E → List E → List E → List E
remove_step r e es rest = cond (is_eq r) es (e ∷ rest)

-- what stands in place of a missing entry is not read
pub get_or-any : {X : Type 0} (xs : List X) (i : ℕ) (a b : X) → i < length xs → get_or xs i a ≡ get_or xs i b
get_or-any [] i a b h = absurd (omega arith)
get_or-any (x ∷ xs) zero a b h = refl
get_or-any (x ∷ xs) (suc i) a b h = get_or-any xs i a b (omega arith)

take_one : {X : Type 0} (i : ℕ) (xs : List X) (x : X) (ys : List X) → drop i xs ≡ x ∷ ys → take (suc i) xs ≡ take i xs ++ x ∷ []
take_one zero [] x ys e = absurd (omega (arith, ap length e))
take_one zero (y ∷ xs) x ys e = cc
take_one (suc i) [] x ys e = absurd (omega (arith, ap length e))
take_one (suc i) (y ∷ xs) x ys e = ap (λ l. y ∷ l) (take_one i xs x ys e)

module _ {K : Type 0} {cmp : K → K → Ordering} (o : IsTotalOrder cmp) where
  pub turned : (x y : K) → cmp x y ≡ Less → cmp y x ≡ Greater
  turned x y e = o.antisymm y x ∙ ap ordering_reverse e

  pub turned_back : (x y : K) → cmp x y ≡ Greater → cmp y x ≡ Less
  turned_back x y e = o.antisymm y x ∙ ap ordering_reverse e

  rises : (k x y : K) (r : Ordering) → cmp k x ≡ r → (r ≡ Greater → ⊥) → cmp x y ≡ Less → cmp k y ≡ Less
  rises k x y Less e n h = o.trans k x y e h
  rises k x y Equal e n h = o.congr k x y e ∙ h
  rises k x y Greater e n h = absurd (n refl)

  falls : (k x y : K) (r : Ordering) → cmp k x ≡ r → (r ≡ Less → ⊥) → cmp y x ≡ Less → cmp k y ≡ Greater
  falls k x y Less e n h = absurd (n refl)
  falls k x y Equal e n h = o.congr k x y e ∙ turned y x h
  falls k x y Greater e n h = turned y k (o.trans y x k h (turned_back k x e))

  all_risen : (k x : K) (ks : List K) → cmp k x ≡ Less → AllByRecursion (λ y. cmp x y ≡ Less) ks → AllByRecursion (λ y. cmp k y ≡ Less) ks
  all_risen k x [] e h = tt
  all_risen k x (y ∷ ks) e h = (o.trans k x y e h.0, all_risen k x ks e h.1)

module _ {K V : Type 0} {cmp : K → K → Ordering} (o : IsTotalOrder cmp) where
  all_above : (k x : K) (es : List (K × V)) → (cmp k x ≡ Greater → ⊥) → AllByRecursion (λ y. cmp x y ≡ Less) (keys_of es) → AllAbove cmp k es
  all_above k x [] n h = tt
  all_above k x (e ∷ es) n h = (rises o k x e.0 (cmp k x) refl n h.0, all_above k x es n h.1)

  -- the entries after one that is not below k are above it
  pub above_after : (k : K) (xs : List (K × V)) (e : K × V) (ys : List (K × V)) → IsStrictlySortedBy cmp (keys_of (xs ++ e ∷ ys)) → (cmp k e.0 ≡ Greater → ⊥) → AllAbove cmp k ys
  above_after k [] e ys s n = all_above k e.0 ys n (sorted_head cmp e.0 (keys_of ys) s)
  above_after k (x ∷ xs) e ys s n = above_after k xs e ys (sorted_tail cmp x.0 (keys_of (xs ++ e ∷ ys)) s) n

  at_middle : (P : K → Type 0) (xs : List (K × V)) (e : K × V) (ys : List (K × V)) → AllByRecursion P (keys_of (xs ++ e ∷ ys)) → P e.0
  at_middle P [] e ys h = h.0
  at_middle P (x ∷ xs) e ys h = at_middle P xs e ys h.1

  -- and those before one that is not above k are below it
  pub below_before : (k : K) (xs : List (K × V)) (e : K × V) (ys : List (K × V)) → IsStrictlySortedBy cmp (keys_of (xs ++ e ∷ ys)) → (cmp k e.0 ≡ Less → ⊥) → AllBelow cmp k xs
  below_before k [] e ys s n = tt
  below_before k (x ∷ xs) e ys s n = (
    falls o k e.0 x.0 (cmp k e.0) refl n (at_middle (λ y. cmp x.0 y ≡ Less) xs e ys (sorted_head cmp x.0 (keys_of (xs ++ e ∷ ys)) s)),
    below_before k xs e ys (sorted_tail cmp x.0 (keys_of (xs ++ e ∷ ys)) s) n,
  )

  all_left : (P : K → Type 0) (xs ys : List (K × V)) → AllByRecursion P (keys_of (xs ++ ys)) → AllByRecursion P (keys_of xs)
  all_left P [] ys h = tt
  all_left P (x ∷ xs) ys h = (h.0, all_left P xs ys h.1)

  pub sorted_left : (xs ys : List (K × V)) → IsStrictlySortedBy cmp (keys_of (xs ++ ys)) → IsStrictlySortedBy cmp (keys_of xs)
  unfolding IsStrictlySortedBy
  sorted_left [] ys s = tt
  sorted_left (x ∷ xs) ys s = (all_left (λ y. cmp x.0 y ≡ Less) xs ys s.0, sorted_left xs ys s.1)

  pub sorted_right : (xs ys : List (K × V)) → IsStrictlySortedBy cmp (keys_of (xs ++ ys)) → IsStrictlySortedBy cmp (keys_of ys)
  unfolding IsStrictlySortedBy
  sorted_right [] ys s = s
  sorted_right (x ∷ xs) ys s = sorted_right xs ys s.1

  all_insert : (P : K → Type 0) (k : K) (v : V) (es : List (K × V)) → P k → AllByRecursion P (keys_of es) → AllByRecursion P (keys_of (insert_entry cmp es k v))
  all_insert P k v [] p h = (p, tt)
  all_insert P k v (e ∷ es) p h =
      elim (cmp k e.0) as (λ r. AllByRecursion P (keys_of (match_ordering r ((k, v) ∷ e ∷ es) ((e.0, v) ∷ es) (e ∷ insert_entry cmp es k v)))) [
        | Less ↦ (p, h)
        | Equal ↦ h
        | Greater ↦ (h.0, all_insert P k v es p h.1)
      ]

  -- the keys still rise after an insert
  pub sorted_insert : (k : K) (v : V) (es : List (K × V)) → IsStrictlySortedBy cmp (keys_of es) → IsStrictlySortedBy cmp (keys_of (insert_entry cmp es k v))
  unfolding IsStrictlySortedBy
  sorted_insert k v [] s = (tt, tt)
  sorted_insert k v (e ∷ es) s =
      elim (cmp k e.0) as (λ r. cmp k e.0 ≡ r → IsStrictlySortedBy cmp (keys_of (match_ordering r ((k, v) ∷ e ∷ es) ((e.0, v) ∷ es) (e ∷ insert_entry cmp es k v)))) [
        | Less ↦ λ is. ((is, all_risen o k e.0 (keys_of es) is s.0), s)
        | Equal ↦ λ is. s
        | Greater ↦ λ is. (all_insert (λ y. cmp e.0 y ≡ Less) k v es (turned_back o k e.0 is) s.0, sorted_insert k v es s.1)
      ] refl

  all_remove : (P : K → Type 0) (k : K) (es : List (K × V)) → AllByRecursion P (keys_of es) → AllByRecursion P (keys_of (remove_entry (is_at (cmp k)) es))
  all_remove P k [] h = tt
  all_remove P k (e ∷ es) h =
      elim (cmp k e.0) as (λ r. AllByRecursion P (keys_of (remove_step r e es (remove_entry (is_at (cmp k)) es)))) [
        | Less ↦ (h.0, all_remove P k es h.1)
        | Equal ↦ h.1
        | Greater ↦ (h.0, all_remove P k es h.1)
      ]

  -- and after a removal
  pub sorted_remove : (k : K) (es : List (K × V)) → IsStrictlySortedBy cmp (keys_of es) → IsStrictlySortedBy cmp (keys_of (remove_entry (is_at (cmp k)) es))
  unfolding IsStrictlySortedBy
  sorted_remove k [] s = tt
  sorted_remove k (e ∷ es) s =
      elim (cmp k e.0) as (λ r. IsStrictlySortedBy cmp (keys_of (remove_step r e es (remove_entry (is_at (cmp k)) es)))) [
        | Less ↦ (all_remove (λ y. cmp e.0 y ≡ Less) k es s.0, sorted_remove k es s.1)
        | Equal ↦ s.1
        | Greater ↦ (all_remove (λ y. cmp e.0 y ≡ Less) k es s.0, sorted_remove k es s.1)
      ]

  below_append : (k : K) (xs : List (K × V)) (e : K × V) → AllBelow cmp k xs → cmp k e.0 ≡ Greater → AllBelow cmp k (xs ++ e ∷ [])
  below_append k [] e h g = (g, tt)
  below_append k (x ∷ xs) e h g = (h.0, below_append k xs e h.1 g)

  -- ---- at a place
  module _ (k : K) (es : List (K × V)) (at : ℕ) (d : K × V) (h : at < length es) (s : IsStrictlySortedBy cmp (keys_of es)) where
    split : es ≡ take at es ++ get_or es at d ∷ drop (suc at) es
    split = sym (take-append-drop at es) ∙ ap (λ l. take at es ++ l) (drop-cons es at d h)

    sorted_split : IsStrictlySortedBy cmp (keys_of (take at es ++ get_or es at d ∷ drop (suc at) es))
    sorted_split = subst (λ l. IsStrictlySortedBy cmp (keys_of l)) split s

    pub below_at : (cmp k (get_or es at d).0 ≡ Less → ⊥) → AllBelow cmp k (take at es)
    below_at n = below_before k (take at es) (get_or es at d) (drop (suc at) es) sorted_split n

    pub above_at : (cmp k (get_or es at d).0 ≡ Greater → ⊥) → AllAbove cmp k (drop (suc at) es)
    above_at n = above_after k (take at es) (get_or es at d) (drop (suc at) es) sorted_split n

    pub above_from : cmp k (get_or es at d).0 ≡ Less → AllAbove cmp k (drop at es)
    above_from l = subst (AllAbove cmp k) (sym (drop-cons es at d h)) (l, above_at (λ g. cc))

    pub below_to : cmp k (get_or es at d).0 ≡ Greater → AllBelow cmp k (take (suc at) es)
    below_to g = subst (AllBelow cmp k) (sym (take_one at es (get_or es at d) (drop (suc at) es) (drop-cons es at d h))) (below_append k (take at es) (get_or es at d) (below_at (λ l. cc)) g)

    pub is_at_place : cmp k (get_or es at d).0 ≡ Equal → IsAt cmp k es at
    is_at_place e = record { within = h; below = below_at (λ l. cc); same = λ b. ap (λ x. cmp k x.0) (get_or-any es at b d h) ∙ e; above = above_at (λ g. cc) }
