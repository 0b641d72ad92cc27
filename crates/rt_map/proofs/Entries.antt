-- What each call of a map does to a part of the entries.
use Rattle.std.proofs.Common.{◌≡◌, refl, sym, ap, ◌∙◌, ℕ, zero, suc, ◌<◌, List, [], ◌∷◌, ◌++◌, length, take, drop, cond, Bool, true, false, None, Some, Option, get_or, set, drop-cons, arith, take-append-drop}
use Rattle.std.specs.declared.cmp.Ordering.{Ordering}
use Rattle.std.specs.declared.cmp.Ordering.TheVariants.{Less, Equal, Greater}
use Rattle.std.specs.Ordering.{match_ordering, is_eq}
use Rattle.std.specs.Prelude.{IsSome}
use Rattle.std.specs.BTreeMap.{insert_entry, is_at}
use Rattle.std.specs.Map.{lookup, remove_entry, set_value}
use Rattle.rt_map.specs.inside.Places.{AllBelow, AllAbove, IsAt, IsGap}

-- an entry set in its place
pub set-parts : {X : Type 0} (xs : List X) (i : ℕ) (x : X) → i < length xs → set xs i x ≡ take i xs ++ x ∷ drop (suc i) xs
set-parts [] i x h = absurd (omega arith)
set-parts (y ∷ ys) zero x h = refl
set-parts (y ∷ ys) (suc i) x h = ap (λ l. y ∷ l) (set-parts ys i x (omega arith))

no_some : {X : Type 0} (o : Option X) → o ≡ None → IsSome o → ⊥
no_some None e h = cc
no_some (Some x) e h = cc

module _ {K V : Type 0} (cmp : K → K → Ordering) (k : K) where
  pub lookup_below : (xs ys : List (K × V)) → AllBelow cmp k xs → lookup (is_at (cmp k)) (xs ++ ys) ≡ lookup (is_at (cmp k)) ys
  lookup_below [] ys h = refl
  lookup_below (x ∷ xs) ys h = ap (λ r. cond (is_eq r) (Some x.1) (lookup (is_at (cmp k)) (xs ++ ys))) h.0 ∙ lookup_below xs ys h.1

  pub lookup_none : (zs : List (K × V)) → AllAbove cmp k zs → lookup (is_at (cmp k)) zs ≡ None
  lookup_none [] h = refl
  lookup_none (z ∷ zs) h = ap (λ r. cond (is_eq r) (Some z.1) (lookup (is_at (cmp k)) zs)) h.0 ∙ lookup_none zs h.1

  pub lookup_above : (ys zs : List (K × V)) → AllAbove cmp k zs → lookup (is_at (cmp k)) (ys ++ zs) ≡ lookup (is_at (cmp k)) ys
  lookup_above [] zs h = lookup_none zs h
  lookup_above (y ∷ ys) zs h = ap (λ o. cond (is_at (cmp k) y.0) (Some y.1) o) (lookup_above ys zs h)

  pub insert_below : (xs ys : List (K × V)) (v : V) → AllBelow cmp k xs → insert_entry cmp (xs ++ ys) k v ≡ xs ++ insert_entry cmp ys k v
  insert_below [] ys v h = refl
  insert_below (x ∷ xs) ys v h =
      ap (λ r. match_ordering r ((k, v) ∷ x ∷ (xs ++ ys)) ((x.0, v) ∷ (xs ++ ys)) (x ∷ insert_entry cmp (xs ++ ys) k v)) h.0 ∙ ap (λ l. x ∷ l) (insert_below xs ys v h.1)

  pub insert_front : (zs : List (K × V)) (v : V) → AllAbove cmp k zs → insert_entry cmp zs k v ≡ (k, v) ∷ zs
  insert_front [] v h = refl
  insert_front (z ∷ zs) v h = ap (λ r. match_ordering r ((k, v) ∷ z ∷ zs) ((z.0, v) ∷ zs) (z ∷ insert_entry cmp zs k v)) h.0

  insert_step : (y : K × V) (ys zs : List (K × V)) (v : V) → insert_entry cmp (ys ++ zs) k v ≡ insert_entry cmp ys k v ++ zs → (r : Ordering)
      → match_ordering r ((k, v) ∷ y ∷ (ys ++ zs)) ((y.0, v) ∷ (ys ++ zs)) (y ∷ insert_entry cmp (ys ++ zs) k v) ≡ match_ordering r ((k, v) ∷ y ∷ ys) ((y.0, v) ∷ ys) (y ∷ insert_entry cmp ys k v) ++ zs
  insert_step y ys zs v e Less = refl
  insert_step y ys zs v e Equal = refl
  insert_step y ys zs v e Greater = ap (λ l. y ∷ l) e

  pub insert_above : (ys zs : List (K × V)) (v : V) → AllAbove cmp k zs → insert_entry cmp (ys ++ zs) k v ≡ insert_entry cmp ys k v ++ zs
  insert_above [] zs v h = insert_front zs v h
  insert_above (y ∷ ys) zs v h = insert_step y ys zs v (insert_above ys zs v h) (cmp k y.0)

  pub remove_below : (xs ys : List (K × V)) → AllBelow cmp k xs → remove_entry (is_at (cmp k)) (xs ++ ys) ≡ xs ++ remove_entry (is_at (cmp k)) ys
  remove_below [] ys h = refl
  remove_below (x ∷ xs) ys h = ap (λ r. cond (is_eq r) (xs ++ ys) (x ∷ remove_entry (is_at (cmp k)) (xs ++ ys))) h.0 ∙ ap (λ l. x ∷ l) (remove_below xs ys h.1)

  pub remove_none : (zs : List (K × V)) → AllAbove cmp k zs → remove_entry (is_at (cmp k)) zs ≡ zs
  remove_none [] h = refl
  remove_none (z ∷ zs) h = ap (λ r. cond (is_eq r) zs (z ∷ remove_entry (is_at (cmp k)) zs)) h.0 ∙ ap (λ l. z ∷ l) (remove_none zs h.1)

  remove_step : (y : K × V) (ys zs : List (K × V)) → remove_entry (is_at (cmp k)) (ys ++ zs) ≡ remove_entry (is_at (cmp k)) ys ++ zs → (r : Ordering)
      → cond (is_eq r) (ys ++ zs) (y ∷ remove_entry (is_at (cmp k)) (ys ++ zs)) ≡ cond (is_eq r) ys (y ∷ remove_entry (is_at (cmp k)) ys) ++ zs
  remove_step y ys zs e Less = ap (λ l. y ∷ l) e
  remove_step y ys zs e Equal = refl
  remove_step y ys zs e Greater = ap (λ l. y ∷ l) e

  pub remove_above : (ys zs : List (K × V)) → AllAbove cmp k zs → remove_entry (is_at (cmp k)) (ys ++ zs) ≡ remove_entry (is_at (cmp k)) ys ++ zs
  remove_above [] zs h = remove_none zs h
  remove_above (y ∷ ys) zs h = remove_step y ys zs (remove_above ys zs h) (cmp k y.0)

  pub set_below : (xs ys : List (K × V)) (w : V) → AllBelow cmp k xs → set_value (is_at (cmp k)) (xs ++ ys) w ≡ xs ++ set_value (is_at (cmp k)) ys w
  set_below [] ys w h = refl
  set_below (x ∷ xs) ys w h = ap (λ r. cond (is_eq r) ((x.0, w) ∷ (xs ++ ys)) (x ∷ set_value (is_at (cmp k)) (xs ++ ys) w)) h.0 ∙ ap (λ l. x ∷ l) (set_below xs ys w h.1)

  set_none : (zs : List (K × V)) (w : V) → AllAbove cmp k zs → set_value (is_at (cmp k)) zs w ≡ zs
  set_none [] w h = refl
  set_none (z ∷ zs) w h = ap (λ r. cond (is_eq r) ((z.0, w) ∷ zs) (z ∷ set_value (is_at (cmp k)) zs w)) h.0 ∙ ap (λ l. z ∷ l) (set_none zs w h.1)

  set_step : (y : K × V) (ys zs : List (K × V)) (w : V) → set_value (is_at (cmp k)) (ys ++ zs) w ≡ set_value (is_at (cmp k)) ys w ++ zs → (b : Bool)
      → cond b ((y.0, w) ∷ (ys ++ zs)) (y ∷ set_value (is_at (cmp k)) (ys ++ zs) w) ≡ cond b ((y.0, w) ∷ ys) (y ∷ set_value (is_at (cmp k)) ys w) ++ zs
  set_step y ys zs w e true = refl
  set_step y ys zs w e false = ap (λ l. y ∷ l) e

  pub set_above : (ys zs : List (K × V)) (w : V) → AllAbove cmp k zs → set_value (is_at (cmp k)) (ys ++ zs) w ≡ set_value (is_at (cmp k)) ys w ++ zs
  set_above [] zs w h = set_none zs w h
  set_above (y ∷ ys) zs w h = set_step y ys zs w (set_above ys zs w h) (is_at (cmp k) y.0)

  -- ---- in one chunk
  module _ (es : List (K × V)) (at : ℕ) where
    parted : es ≡ take at es ++ drop at es
    parted = sym (take-append-drop at es)

    -- x is what stands there
    pub lookup-at : (h : IsAt cmp k es at) (x : K × V) → x ≡ get_or es at x → Some x.1 ≡ lookup (is_at (cmp k)) es
    lookup-at h x is = sym (ap (lookup (is_at (cmp k))) parted ∙ lookup_below (take at es) (drop at es) h.below ∙ ap (lookup (is_at (cmp k))) (drop-cons es at x h.within)
        ∙ ap (λ r. cond (is_eq r) (Some (get_or es at x).1) (lookup (is_at (cmp k)) (drop (suc at) es))) (h.same x) ∙ ap (λ y. Some y.1) (sym is))

    pub lookup-gap : IsGap cmp k es at → lookup (is_at (cmp k)) es ≡ None
    lookup-gap h = ap (lookup (is_at (cmp k))) parted ∙ lookup_below (take at es) (drop at es) h.below ∙ lookup_none (drop at es) h.above

    pub insert-at : (v : V) (h : IsAt cmp k es at) (x : K × V) → x ≡ get_or es at x → set es at (x.0, v) ≡ insert_entry cmp es k v
    insert-at v h x is =
        let y : K × V = get_or es at x in
        let e : insert_entry cmp es k v ≡ take at es ++ (y.0, v) ∷ drop (suc at) es = ap (λ l. insert_entry cmp l k v) parted ∙ insert_below (take at es) (drop at es) v h.below
        ∙ ap (λ l. take at es ++ l) (ap (λ l. insert_entry cmp l k v) (drop-cons es at x h.within)
        ∙ ap (λ r. match_ordering r ((k, v) ∷ y ∷ drop (suc at) es) ((y.0, v) ∷ drop (suc at) es) (y ∷ insert_entry cmp (drop (suc at) es) k v)) (h.same x)) in
        set-parts es at (x.0, v) h.within ∙ ap (λ z. take at es ++ (z.0, v) ∷ drop (suc at) es) is ∙ sym e

    pub insert-gap : (v : V) → IsGap cmp k es at → insert_entry cmp es k v ≡ take at es ++ (k, v) ∷ drop at es
    insert-gap v h = ap (λ l. insert_entry cmp l k v) parted ∙ insert_below (take at es) (drop at es) v h.below ∙ ap (λ l. take at es ++ l) (insert_front (drop at es) v h.above)

    pub remove-at : (h : IsAt cmp k es at) (x : K × V) → remove_entry (is_at (cmp k)) es ≡ take at es ++ drop (suc at) es
    remove-at h x = ap (remove_entry (is_at (cmp k))) parted ∙ remove_below (take at es) (drop at es) h.below
        ∙ ap (λ l. take at es ++ l) (ap (remove_entry (is_at (cmp k))) (drop-cons es at x h.within)
        ∙ ap (λ r. cond (is_eq r) (drop (suc at) es) (get_or es at x ∷ remove_entry (is_at (cmp k)) (drop (suc at) es))) (h.same x))

    pub remove-gap : IsGap cmp k es at → remove_entry (is_at (cmp k)) es ≡ es
    remove-gap h = ap (remove_entry (is_at (cmp k))) parted ∙ remove_below (take at es) (drop at es) h.below ∙ ap (λ l. take at es ++ l) (remove_none (drop at es) h.above) ∙ sym parted

    pub set-at : (w : V) (h : IsAt cmp k es at) (x : K × V) → x ≡ get_or es at x → set es at (x.0, w) ≡ set_value (is_at (cmp k)) es w
    set-at w h x is =
        let y : K × V = get_or es at x in
        let e : set_value (is_at (cmp k)) es w ≡ take at es ++ (y.0, w) ∷ drop (suc at) es = ap (λ l. set_value (is_at (cmp k)) l w) parted ∙ set_below (take at es) (drop at es) w h.below
        ∙ ap (λ l. take at es ++ l) (ap (λ l. set_value (is_at (cmp k)) l w) (drop-cons es at x h.within)
        ∙ ap (λ r. cond (is_eq r) ((y.0, w) ∷ drop (suc at) es) (y ∷ set_value (is_at (cmp k)) (drop (suc at) es) w)) (h.same x)) in
        set-parts es at (x.0, w) h.within ∙ ap (λ z. take at es ++ (z.0, w) ∷ drop (suc at) es) is ∙ sym e

    -- a key that is there has no gap
    pub no-gap : IsSome (lookup (is_at (cmp k)) es) → IsGap cmp k es at → ⊥
    no-gap s h = no_some (lookup (is_at (cmp k)) es) (lookup-gap h) s
