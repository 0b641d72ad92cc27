-- The last key below one.
use Rattle.std.proofs.Common.{◌≡◌, refl, sym, ap, ◌∙◌, ℕ, zero, suc, arith, append-nil, take-append-drop, take_all, take-suc, get_or, ◌<◌, ◌-◌, List, [], ◌∷◌, ◌++◌, length, take, drop, drop-cons, cond, true, false, None, Some}
use Rattle.std.specs.declared.cmp.Ordering.{Ordering}
use Rattle.std.specs.List.{filter}
use Rattle.std.specs.Map.{keys_of}
use Rattle.std.specs.Ordering.{is_gt}
use Rattle.rt_map.specs.Maps.{last_below, last_in}
use Rattle.rt_map.specs.inside.Joined.{AllFilled, joined}
use Rattle.rt_map.specs.inside.Places.{AllAbove, AllBelow, IsAt, IsGap, IsPart, IsStop}
use Rattle.rt_map.proofs.Parts.{AllFilled-get_or, Part, joined-append, joined-around}

-- ---- the last of a list

last_in-append : {X : Type 0} (xs ys : List X) (y : X) → last_in ys ≡ Some y → last_in (xs ++ ys) ≡ Some y
last_in-append [] ys y e = e
last_in-append (x ∷ []) [] y e = cc
last_in-append (x ∷ []) (z ∷ ys) y e = e
last_in-append (x ∷ w ∷ xs) ys y e = last_in-append (w ∷ xs) ys y e

last_in-none : {X : Type 0} (xs : List X) → last_in xs ≡ None → xs ≡ []
last_in-none [] e = refl
last_in-none (x ∷ []) e = cc
last_in-none (x ∷ y ∷ xs) e = let f : y ∷ xs ≡ [] = last_in-none (y ∷ xs) e in cc

keys-append : {K V : Type 0} (es ds : List (K × V)) → keys_of (es ++ ds) ≡ keys_of es ++ keys_of ds
keys-append [] ds = refl
keys-append (e ∷ es) ds = ap (λ ks. e.0 ∷ ks) (keys-append es ds)

last_taken : {K V : Type 0} (es : List (K × V)) (n : ℕ) (d : K × V) → n < length es → last_in (keys_of (take (suc n) es)) ≡ Some (get_or es n d).0
last_taken [] n d h = absurd (omega arith)
last_taken (e ∷ es) zero d h = refl
last_taken (e ∷ []) (suc n) d h = absurd (omega arith)
last_taken (e ∷ f ∷ es) (suc n) d h = last_taken (f ∷ es) n d (omega arith)

last_all : {K V : Type 0} (es : List (K × V)) (d : K × V) → 0 < length es → last_in (keys_of es) ≡ Some (get_or es (length es - 1) d).0
last_all es d h =
    ap (λ ds. last_in (keys_of ds)) (sym (take_all (suc (length es - 1)) es (omega arith))) ∙ last_taken es (length es - 1) d (omega arith)

module _ {K V : Type 0} (cmp : K → K → Ordering) (k : K) where
  those : List (K × V) → List K
  those es = filter (λ j. is_gt (cmp k j)) (keys_of es)

  those-append : (es ds : List (K × V)) → those (es ++ ds) ≡ those es ++ those ds
  unfolding those
  those-append [] ds = refl
  those-append (e ∷ es) ds = elim (is_gt (cmp k e.0)) as (λ b. cond b (e.0 ∷ those (es ++ ds)) (those (es ++ ds)) ≡ cond b (e.0 ∷ those es) (those es) ++ those ds) [
    | true ↦ ap (λ ks. e.0 ∷ ks) (those-append es ds)
    | false ↦ those-append es ds
  ]

  those_below : (es : List (K × V)) → AllBelow cmp k es → those es ≡ keys_of es
  unfolding those
  those_below [] h = refl
  those_below (e ∷ es) h = ap (λ o. cond (is_gt o) (e.0 ∷ those es) (those es)) h.0 ∙ ap (λ ks. e.0 ∷ ks) (those_below es h.1)

  pub none_above : (es : List (K × V)) → AllAbove cmp k es → filter (λ j. is_gt (cmp k j)) (keys_of es) ≡ []
  none_above [] h = refl
  none_above (e ∷ es) h =
      ap (λ o. cond (is_gt o) (e.0 ∷ filter (λ j. is_gt (cmp k j)) (keys_of es)) (filter (λ j. is_gt (cmp k j)) (keys_of es))) h.0 ∙ none_above es h.1

  -- ---- in one chunk

  pub stop_gap : (es : List (K × V)) (at : ℕ) → IsGap cmp k es at → IsStop cmp k es at
  stop_gap es at h = record { within = h.within; below = h.below; none = none_above (drop at es) h.above }

  pub stop_at : (es : List (K × V)) (at : ℕ) → IsAt cmp k es at → IsStop cmp k es at
  stop_at [] at h = absurd (omega (arith, h.within))
  stop_at (e ∷ es) at h =
      let rest = filter (λ j. is_gt (cmp k j)) (keys_of (drop (suc at) (e ∷ es))) in
      record {
        within = omega (arith, h.within);
        below = h.below;
        none = ap (λ (ds : List (K × V)). filter (λ j. is_gt (cmp k j)) (keys_of ds)) (drop-cons (e ∷ es) at e h.within)
            ∙ ap (λ o. cond (is_gt o) ((get_or (e ∷ es) at e).0 ∷ rest) rest) (h.same e) ∙ none_above (drop (suc at) (e ∷ es)) h.above;
      }

  stop_keys : (es : List (K × V)) (at : ℕ) → IsStop cmp k es at → those es ≡ keys_of (take at es)
  unfolding those
  stop_keys es at h =
      ap those (sym (take-append-drop at es)) ∙ those-append (take at es) (drop at es)
      ∙ (λ i. those_below (take at es) h.below i ++ h.none i) ∙ append-nil (keys_of (take at es))

  pub before_none : (es : List (K × V)) (at : ℕ) → IsStop cmp k es at → at ≡ 0 → None ≡ last_below (cmp k) es
  unfolding those
  before_none es at h is = sym (ap last_in (stop_keys es at h ∙ ap (λ n. keys_of (take n es)) is))

  pub before_some : (es : List (K × V)) (at : ℕ) (d : K × V) → IsStop cmp k es at → (at ≡ 0 → ⊥) → d ≡ get_or es (at - 1) d → Some d.0 ≡ last_below (cmp k) es
  unfolding those
  before_some es zero d h some is = absurd (some refl)
  before_some es (suc n) d h some is =
      let less : suc n - 1 ≡ n = omega arith in
      ap (λ (e : K × V). Some e.0) (is ∙ ap (λ m. get_or es m d) less) ∙ sym (ap last_in (stop_keys es (suc n) h) ∙ last_taken es n d (omega (arith, h.within)))

  -- ---- in parts

  module _ (as' : List (Part (K × V))) (i : ℕ) (p : Part (K × V)) (h : IsPart cmp k as' i) where
    part_keys : those (joined as') ≡ keys_of (joined (take i as')) ++ those (get_or as' i p).value
    unfolding those
    part_keys =
        let part = (get_or as' i p).value in
        let behind = joined (drop (suc i) as') in
        ap those (joined-around as' i p h.within) ∙ those-append (joined (take i as')) (part ++ behind)
        ∙ (λ j. those_below (joined (take i as')) h.below j ++ those-append part behind j)
        ∙ ap (λ ks. keys_of (joined (take i as')) ++ (those part ++ ks)) (none_above behind h.above)
        ∙ ap (λ ks. keys_of (joined (take i as')) ++ ks) (append-nil (those part))

    pub before_here : (x : K) → Some x ≡ last_below (cmp k) (get_or as' i p).value → Some x ≡ last_below (cmp k) (joined as')
    unfolding those
    before_here x is = sym (ap last_in part_keys ∙ last_in-append (keys_of (joined (take i as'))) _ x (sym is))

    pub before_front : None ≡ last_below (cmp k) (get_or as' i p).value → last_in (keys_of (joined (take i as'))) ≡ last_below (cmp k) (joined as')
    unfolding those
    before_front is =
        sym (ap last_in (part_keys ∙ ap (λ ks. keys_of (joined (take i as')) ++ ks) (last_in-none _ (sym is)) ∙ append-nil (keys_of (joined (take i as')))))

-- ---- the last key of the parts in front of one

pub front_none : {K V : Type 0} (as' : List (Part (K × V))) (i : ℕ) → i ≡ 0 → None ≡ last_in (keys_of (joined (take i as')))
front_none as' i is = sym (ap (λ n. last_in (keys_of (joined (take n as')))) is)

pub front_some : {K V : Type 0} (as' : List (Part (K × V))) (i : ℕ) (q : Part (K × V)) (d : K × V) → AllFilled as' → i < length as' → (i ≡ 0 → ⊥)
    → d ≡ get_or (get_or as' (i - 1) q).value (length (get_or as' (i - 1) q).value - 1) d → Some d.0 ≡ last_in (keys_of (joined (take i as')))
front_some as' zero q d filled within some is = absurd (some refl)
front_some {K = K} {V = V} as' (suc n) q d filled within some is =
    let less : suc n - 1 ≡ n = omega arith in
    let front = (get_or as' n q).value in
    let parted : joined (take (suc n) as') ≡ joined (take n as') ++ front =
    ap joined (take-suc as' n q (omega (arith, within))) ∙ joined-append (take n as') (get_or as' n q ∷ []) ∙ ap (λ es. joined (take n as') ++ es) (append-nil front) in
    ap (λ (e : K × V). Some e.0) (is ∙ ap (λ m. get_or (get_or as' m q).value (length (get_or as' m q).value - 1) d) less)
    ∙ sym (ap (λ es. last_in (keys_of es)) parted ∙ ap last_in (keys-append (joined (take n as')) front)
    ∙ last_in-append (keys_of (joined (take n as'))) (keys_of front) _ (last_all front d (AllFilled-get_or as' n q (omega (arith, within)) filled)))
