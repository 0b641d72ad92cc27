-- Entries by their keys: one is put between others, in the place of another, or taken out.
use Rattle.std.proofs.Common.{◌≡◌, ℕ, suc, Bool, true, false, cond, not, List, [], ◌∷◌, ◌++◌, append-nil, length, refl, sym, ap, ◌∙◌, Option, Some, None, ◌⊎◌, inl, inr}
use Rattle.std.specs.declared.cmp.Ordering.{Ordering}
use Rattle.std.specs.declared.cmp.Ordering.TheVariants.{Less, Equal, Greater}
use Rattle.std.specs.Ordering.{is_eq, is_le, match_ordering}
use Rattle.std.specs.Option.{option_map}
use Rattle.std.specs.Cmp.{IsTotalOrder}
use Rattle.std.specs.List.{AllByRecursion, slice_get}
use Rattle.std.specs.List.Sorted.{IsStrictlySortedBy}
use Rattle.std.specs.BTreeMap.{insert_entry, is_at}
use Rattle.std.specs.Map.{keys_of, values_of, lookup, remove_entry}
use Rattle.std.proofs.lemmas.Map.Keys.{sorted_head, sorted_tail}
use Rattle.rt_chain.specs.Chains.{below, head_or, last_or, slots_of}
use Rattle.rt_chain.specs.inside.Halves.{places_in}

-- ---- all of two lists
pub all-left : {A : Type 0} (P : A → Type 0) (es ds : List A) → AllByRecursion P (es ++ ds) → AllByRecursion P es
all-left P [] ds h = tt
all-left P (e ∷ es) ds h = (h.0, all-left P es ds h.1)

pub all-right : {A : Type 0} (P : A → Type 0) (es ds : List A) → AllByRecursion P (es ++ ds) → AllByRecursion P ds
all-right P [] ds h = h
all-right P (e ∷ es) ds h = all-right P es ds h.1

pub all-append : {A : Type 0} (P : A → Type 0) (es ds : List A) → AllByRecursion P es → AllByRecursion P ds → AllByRecursion P (es ++ ds)
all-append P [] ds h g = g
all-append P (e ∷ es) ds h g = (h.0, all-append P es ds h.1 g)

-- ---- a list in two parts, twice
abbrev pub Split : {A : Type 0} → List A → List A → List A → List A → Type 0
Split {A} a b c d = ((m : List A) × ((a ≡ c ++ m) × (d ≡ m ++ b))) ⊎ ((m : List A) × ((c ≡ a ++ m) × (b ≡ m ++ d)))

pub split : {A : Type 0} (a b c d : List A) → a ++ b ≡ c ++ d → Split a b c d
split [] b c d e = inr (c, (refl, e))
split (x ∷ a) b [] d e = inl (x ∷ a, (refl, sym e))
split (x ∷ a) b (y ∷ c) d e =
    let head : x ≡ y = cc e in
    let tail : a ++ b ≡ c ++ d = cc e in
    elim (split a b c d tail) [
      | inl p ↦ inl (p.0, ((λ i. head i ∷ p.1.0 i), p.1.1))
      | inr p ↦ inr (p.0, ((λ i. sym head i ∷ p.1.0 i), p.1.1))
    ]

-- a list in two parts, of which one has this element
pub held : {A : Type 0} (a b c d : List A) (x : A) → a ++ b ≡ c ++ x ∷ d → ((m : List A) × ((a ≡ c ++ x ∷ m) × (d ≡ m ++ b))) ⊎ ((m : List A) × ((c ≡ a ++ m) × (b ≡ m ++ x ∷ d)))
held {A} a b c d x e = elim (split a b c (x ∷ d) e) [
  | inl p ↦ at p.0 p.1.0 p.1.1
  | inr p ↦ inr p
]
  where
    at : (m : List A) → a ≡ c ++ m → x ∷ d ≡ m ++ b → ((m : List A) × ((a ≡ c ++ x ∷ m) × (d ≡ m ++ b))) ⊎ ((m : List A) × ((c ≡ a ++ m) × (b ≡ m ++ x ∷ d)))
    at [] u v = inr ([], (sym (append-nil a ∙ u ∙ append-nil c), sym v))
    at (y ∷ m) u v =
        let one : x ≡ y = cc v in
        let rest : d ≡ m ++ b = cc v in
        inl (m, (u ∙ ap (λ z. c ++ z ∷ m) (sym one), rest))

-- ---- the first of some places, and the last
pub head-first : {K : Type 0} (es : List (K × ℕ)) (e : K × ℕ) → slice_get es 0 ≡ Some e → Some e.1 ≡ head_or (values_of es) None
head-first {K} [] e h = cc h
head-first {K} (d ∷ es) e h = ap (λ (o : Option (K × ℕ)). elim o [ None ↦ None | Some x ↦ Some x.1 ]) (sym h)

pub last-push : {K : Type 0} (y : Option ℕ) (es : List (K × ℕ)) (e : K × ℕ) → last_or y (values_of (es ++ e ∷ [])) ≡ Some e.1
last-push y [] e = refl
last-push y (d ∷ es) e = last-push (Some d.1) es e

-- ---- entries by their places
module _ {K X : Type 0} where
  pub slots-append : (es ds : List (K × (ℕ × X))) → slots_of (es ++ ds) ≡ slots_of es ++ slots_of ds
  slots-append [] ds = refl
  slots-append (e ∷ es) ds = ap (λ ns. e.1.0 ∷ ns) (slots-append es ds)

  pub places-append : (es ds : List (K × (ℕ × X))) → places_in (es ++ ds) ≡ places_in es ++ places_in ds
  places-append [] ds = refl
  places-append (e ∷ es) ds = ap (λ xs. (e.0, e.1.0) ∷ xs) (places-append es ds)

  pub places-keys : (es : List (K × (ℕ × X))) → keys_of (places_in es) ≡ keys_of es
  places-keys [] = refl
  places-keys (e ∷ es) = ap (λ xs. e.0 ∷ xs) (places-keys es)

  pub places-slots : (es : List (K × (ℕ × X))) → values_of (places_in es) ≡ slots_of es
  places-slots [] = refl
  places-slots (e ∷ es) = ap (λ xs. e.1.0 ∷ xs) (places-slots es)

  pub places-length : (es : List (K × (ℕ × X))) → length (places_in es) ≡ length es
  places-length [] = refl
  places-length (e ∷ es) = ap suc (places-length es)

  pub places-lookup : (p : K → Bool) (es : List (K × (ℕ × X))) → lookup p (places_in es) ≡ option_map (λ (q : ℕ × X). q.0) (lookup p es)
  places-lookup p [] = refl
  places-lookup p (e ∷ es) =
      elim (p e.0) as (λ t. cond t (Some e.1.0) (lookup p (places_in es)) ≡ option_map (λ (q : ℕ × X). q.0) (cond t (Some e.1) (lookup p es))) [
        | true ↦ refl
        | false ↦ places-lookup p es
      ]

  pub places-remove : (p : K → Bool) (es : List (K × (ℕ × X))) → remove_entry p (places_in es) ≡ places_in (remove_entry p es)
  places-remove p [] = refl
  places-remove p (e ∷ es) =
      elim (p e.0) as (λ t. cond t (places_in es) ((e.0, e.1.0) ∷ remove_entry p (places_in es)) ≡ places_in (cond t es (e ∷ remove_entry p es))) [
        | true ↦ refl
        | false ↦ ap (λ xs. (e.0, e.1.0) ∷ xs) (places-remove p es)
      ]

  pub places-below : (compare : K → Ordering) (es : List (K × (ℕ × X))) → below compare (places_in es) ≡ places_in (below compare es)
  places-below compare [] = refl
  places-below compare (e ∷ es) =
      elim (is_le (compare e.0)) as (λ t. cond (not t) ((e.0, e.1.0) ∷ below compare (places_in es)) (below compare (places_in es)) ≡ places_in (cond (not t) (e ∷ below compare es) (below compare es))) [
        | true ↦ places-below compare es
        | false ↦ ap (λ xs. (e.0, e.1.0) ∷ xs) (places-below compare es)
      ]

module _ {K : Type 0} (cmp : K → K → Ordering) where
  -- ---- a key among others
  abbrev pub Above : K → List K → Type 0
  Above k ks = AllByRecursion (λ j. cmp k j ≡ Greater) ks

  abbrev pub Under : K → List K → Type 0
  Under k ks = AllByRecursion (λ j. cmp k j ≡ Less) ks

  abbrev pub Apart : K → List K → Type 0
  Apart k ks = AllByRecursion (λ j. is_eq (cmp k j) ≡ false) ks

  pub above-apart : (k : K) (ks : List K) → Above k ks → Apart k ks
  above-apart k [] h = tt
  above-apart k (j ∷ ks) h = (ap is_eq h.0, above-apart k ks h.1)

  pub under-apart : (k : K) (ks : List K) → Under k ks → Apart k ks
  under-apart k [] h = tt
  under-apart k (j ∷ ks) h = (ap is_eq h.0, under-apart k ks h.1)

  all_risen : IsTotalOrder cmp → (k x : K) (ks : List K) → cmp k x ≡ Less → AllByRecursion (λ y. cmp x y ≡ Less) ks → Under k ks
  all_risen o k x [] e h = tt
  all_risen o k x (y ∷ ks) e h = (o.trans k x y e h.0, all_risen o k x ks e h.1)

  equal_under : IsTotalOrder cmp → (k j : K) (ks : List K) → cmp k j ≡ Equal → AllByRecursion (λ y. cmp j y ≡ Less) ks → Under k ks
  equal_under o k j [] e h = tt
  equal_under o k j (y ∷ ks) e h = (o.congr k j y e ∙ h.0, equal_under o k j ks e h.1)

  pub places-insert : {X : Type 0} (k : K) (n : ℕ) (x : X) (es : List (K × (ℕ × X))) → insert_entry cmp (places_in es) k n ≡ places_in (insert_entry cmp es k (n, x))
  places-insert k n x [] = refl
  places-insert k n x (e ∷ es) =
      elim (cmp k e.0) as (λ r. match_ordering r ((k, n) ∷ (e.0, e.1.0) ∷ places_in es) ((e.0, n) ∷ places_in es) ((e.0, e.1.0) ∷ insert_entry cmp (places_in es) k n)
      ≡ places_in (match_ordering r ((k, (n, x)) ∷ e ∷ es) ((e.0, (n, x)) ∷ es) (e ∷ insert_entry cmp es k (n, x)))) [
        | Less ↦ refl
        | Equal ↦ refl
        | Greater ↦ ap (λ xs. (e.0, e.1.0) ∷ xs) (places-insert k n x es)
      ]

  module _ {Y : Type 0} where
    pub keys-left : (P : K → Type 0) (es ds : List (K × Y)) → AllByRecursion P (keys_of (es ++ ds)) → AllByRecursion P (keys_of es)
    keys-left P [] ds h = tt
    keys-left P (e ∷ es) ds h = (h.0, keys-left P es ds h.1)

    pub keys-right : (P : K → Type 0) (es ds : List (K × Y)) → AllByRecursion P (keys_of (es ++ ds)) → AllByRecursion P (keys_of ds)
    keys-right P [] ds h = h
    keys-right P (e ∷ es) ds h = keys-right P es ds h.1

    -- those below the key
    pub below_low : (k : K) (es ds : List (K × Y)) → Above k (keys_of es) → below (cmp k) (es ++ ds) ≡ es ++ below (cmp k) ds
    below_low k [] ds h = refl
    below_low k (e ∷ es) ds h = ap (λ r. cond (not (is_le r)) (e ∷ below (cmp k) (es ++ ds)) (below (cmp k) (es ++ ds))) h.0 ∙ ap (λ xs. e ∷ xs) (below_low k es ds h.1)

    pub below_high : (k : K) (ds : List (K × Y)) → Under k (keys_of ds) → below (cmp k) ds ≡ []
    below_high k [] h = refl
    below_high k (d ∷ ds) h = ap (λ r. cond (not (is_le r)) (d ∷ below (cmp k) ds) (below (cmp k) ds)) h.0 ∙ below_high k ds h.1

    pub insert_between : (k : K) (y : Y) (es ds : List (K × Y)) → Above k (keys_of es) → Under k (keys_of ds) → insert_entry cmp (es ++ ds) k y ≡ es ++ (k, y) ∷ ds
    insert_between k y [] [] a u = refl
    insert_between k y [] (d ∷ ds) a u = ap (λ r. match_ordering r ((k, y) ∷ d ∷ ds) ((d.0, y) ∷ ds) (d ∷ insert_entry cmp ds k y)) u.0
    insert_between k y (e ∷ es) ds a u =
        ap (λ r. match_ordering r ((k, y) ∷ e ∷ es ++ ds) ((e.0, y) ∷ es ++ ds) (e ∷ insert_entry cmp (es ++ ds) k y)) a.0
        ∙ ap (λ xs. e ∷ xs) (insert_between k y es ds a.1 u)

    pub insert_at : (k j : K) (y z : Y) (es ds : List (K × Y)) → Above k (keys_of es) → cmp k j ≡ Equal → insert_entry cmp (es ++ (j, z) ∷ ds) k y ≡ es ++ (j, y) ∷ ds
    insert_at k j y z [] ds a s = ap (λ r. match_ordering r ((k, y) ∷ (j, z) ∷ ds) ((j, y) ∷ ds) ((j, z) ∷ insert_entry cmp ds k y)) s
    insert_at k j y z (e ∷ es) ds a s =
        ap (λ r. match_ordering r ((k, y) ∷ e ∷ es ++ (j, z) ∷ ds) ((e.0, y) ∷ es ++ (j, z) ∷ ds) (e ∷ insert_entry cmp (es ++ (j, z) ∷ ds) k y)) a.0
        ∙ ap (λ xs. e ∷ xs) (insert_at k j y z es ds a.1 s)

    pub remove_other : (k : K) (es : List (K × Y)) → Apart k (keys_of es) → remove_entry (is_at (cmp k)) es ≡ es
    remove_other k [] h = refl
    remove_other k (e ∷ es) h = ap (λ b. cond b es (e ∷ remove_entry (is_at (cmp k)) es)) h.0 ∙ ap (λ xs. e ∷ xs) (remove_other k es h.1)

    pub remove_at : (k j : K) (z : Y) (es ds : List (K × Y)) → Apart k (keys_of es) → cmp k j ≡ Equal → remove_entry (is_at (cmp k)) (es ++ (j, z) ∷ ds) ≡ es ++ ds
    remove_at k j z [] ds h s = ap (λ r. cond (is_eq r) ds ((j, z) ∷ remove_entry (is_at (cmp k)) ds)) s
    remove_at k j z (e ∷ es) ds h s =
        ap (λ b. cond b (es ++ (j, z) ∷ ds) (e ∷ remove_entry (is_at (cmp k)) (es ++ (j, z) ∷ ds))) h.0 ∙ ap (λ xs. e ∷ xs) (remove_at k j z es ds h.1 s)

    pub lookup_other : (k : K) (es : List (K × Y)) → Apart k (keys_of es) → lookup (is_at (cmp k)) es ≡ None
    lookup_other k [] h = refl
    lookup_other k (e ∷ es) h = ap (λ b. cond b (Some e.1) (lookup (is_at (cmp k)) es)) h.0 ∙ lookup_other k es h.1

    pub lookup_at : (k j : K) (z : Y) (es ds : List (K × Y)) → Apart k (keys_of es) → cmp k j ≡ Equal → lookup (is_at (cmp k)) (es ++ (j, z) ∷ ds) ≡ Some z
    lookup_at k j z [] ds h s = ap (λ r. cond (is_eq r) (Some z) (lookup (is_at (cmp k)) ds)) s
    lookup_at k j z (e ∷ es) ds h s = ap (λ b. cond b (Some e.1) (lookup (is_at (cmp k)) (es ++ (j, z) ∷ ds))) h.0 ∙ lookup_at k j z es ds h.1 s

    -- ---- those below a key that is missing, and those above
    pub record Gap (k : K) (es : List (K × Y)) : Type 0 where
      pub low : List (K × Y)
      pub high : List (K × Y)
      pub whole : es ≡ low ++ high
      pub above : Above k (keys_of low)
      pub under : Under k (keys_of high)

    pub gap : IsTotalOrder cmp → (k : K) (es : List (K × Y)) → IsStrictlySortedBy cmp (keys_of es) → lookup (is_at (cmp k)) es ≡ None → Gap k es
    gap o k [] s h = record { low = []; high = []; whole = refl; above = tt; under = tt }
    gap o k (e ∷ es) s h =
        elim (cmp k e.0) as (λ r. cmp k e.0 ≡ r → Gap k (e ∷ es)) [
          | Less ↦ λ is. record { low = []; high = e ∷ es; whole = refl; above = tt; under = (is, all_risen o k e.0 (keys_of es) is (sorted_head cmp e.0 (keys_of es) s)) }
          | Equal ↦ λ is. cc (h, ap (λ r. cond (is_eq r) (Some e.1) (lookup (is_at (cmp k)) es)) is)
          | Greater ↦ λ is.
              let rest = gap o k es (sorted_tail cmp e.0 (keys_of es) s) (sym (ap (λ r. cond (is_eq r) (Some e.1) (lookup (is_at (cmp k)) es)) is) ∙ h) in
              record { low = e ∷ rest.low; high = rest.high; whole = ap (λ xs. e ∷ xs) rest.whole; above = (is, rest.above); under = rest.under }
        ] refl

    -- ---- a key that is there, those below it, and those above
    pub record Spot (k : K) (z : Y) (es : List (K × Y)) : Type 0 where
      pub low : List (K × Y)
      pub key : K
      pub high : List (K × Y)
      pub whole : es ≡ low ++ (key, z) ∷ high
      pub above : Above k (keys_of low)
      pub same : cmp k key ≡ Equal
      pub under : Under k (keys_of high)

    pub spot : IsTotalOrder cmp → (k : K) (z : Y) (es : List (K × Y)) → IsStrictlySortedBy cmp (keys_of es) → lookup (is_at (cmp k)) es ≡ Some z → Spot k z es
    spot o k z [] s h = cc h
    spot o k z (e ∷ es) s h =
        elim (cmp k e.0) as (λ r. cmp k e.0 ≡ r → Spot k z (e ∷ es)) [
          | Less ↦ λ is.
              let none = lookup_other k es (under-apart k (keys_of es) (all_risen o k e.0 (keys_of es) is (sorted_head cmp e.0 (keys_of es) s))) in
              cc (h, ap (λ r. cond (is_eq r) (Some e.1) (lookup (is_at (cmp k)) es)) is, none)
          | Equal ↦ λ is.
              let same : e.1 ≡ z = inside (sym (ap (λ r. cond (is_eq r) (Some e.1) (lookup (is_at (cmp k)) es)) is) ∙ h) in
              record { low = []; key = e.0; high = es; whole = ap (λ y. (e.0, y) ∷ es) same; above = tt; same = is; under = equal_under o k e.0 (keys_of es) is (sorted_head cmp e.0 (keys_of es) s) }
          | Greater ↦ λ is.
              let rest = spot o k z es (sorted_tail cmp e.0 (keys_of es) s) (sym (ap (λ r. cond (is_eq r) (Some e.1) (lookup (is_at (cmp k)) es)) is) ∙ h) in
              record { low = e ∷ rest.low; key = rest.key; high = rest.high; whole = ap (λ xs. e ∷ xs) rest.whole; above = (is, rest.above); same = rest.same; under = rest.under }
        ] refl
      where
        inside : {x y : Y} → Some x ≡ Some y → x ≡ y
        inside q = cc q
