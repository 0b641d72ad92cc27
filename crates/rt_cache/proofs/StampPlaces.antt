-- Where the filtered form of a path and a stamp stands.
use Rattle.std.proofs.Common.{◌≡◌, ◌∙◌, ℕ, zero, suc, ◌<◌, ◌≤◌, ◌==◌, nat_lt, ltb-true, ltb-false, Bool, true, false, cond, not, ◌&&◌, ◌||◌, List, [], ◌∷◌, length, get_or, refl, sym, ap, subst, arith, eqb-true}
use mathlib.Core.Bool.{true≢false}
use Rattle.std.specs.Ordering.{is_lt}
use Rattle.std.specs.List.{filter, list_any, AllPairs, Contains}
use Rattle.std.specs.List.Sorted.{IsPartitionedBy, IsPartitionPoint}
use Rattle.std.proofs.lemmas.List.Elements.{Contains-get_or}
use Rattle.std.proofs.lemmas.List.Kept.{AllPairs-filter}
use Rattle.rt_tree.specs.PathTree.{Path, path_cmp, path_eq-is}
use Rattle.rt_tree.specs.TreeEq.{both_first, both_second, both}
use Rattle.rt_query.specs.laws.NeededLaws.{Contains-filter}
use Rattle.rt_cache.specs.declared.forms.Form.{Form}
use Rattle.rt_cache.specs.inside.ByPath.{AreByPath}
use Rattle.rt_cache.specs.inside.Listed.{form_query, stands_at, is_filtered_at, is_same_form, is_form_before, AreFilteredOf}
use Rattle.rt_cache.proofs.ByPaths.{befores_first, up_to_first, not_itself, none_of, neither_before}
use Rattle.rt_cache.proofs.Places.{or_true}
use Rattle.rt_cache.proofs.RunLaws.{never}
use Rattle.rt_cache.proofs.Stamps.{Rises}

-- stamps rise among those of a path
abbrev pub RiseAt : List Form → Type 0
RiseAt gs = (p : Path) → AllPairs Rises (filter (stands_at p) gs)

pub rise_at : (fs gs : List Form) → AreFilteredOf fs gs → RiseAt gs
rise_at fs gs h p = subst (AllPairs Rises) (sym (h.same p)) (AllPairs-filter Rises (is_filtered_at p) fs h.rising)

-- what holds of those that pass a test, by their places among all
pairs_in : {X : Type 0} (R : X → X → Type 0) (t : X → Bool) (xs : List X) → AllPairs R (filter t xs) → (i j : ℕ) (d : X) → i < j → j < length xs
    → t (get_or xs i d) ≡ true → t (get_or xs j d) ≡ true → R (get_or xs i d) (get_or xs j d)
pairs_in R t [] h i j d lt within a b = absurd (omega (arith, within))
pairs_in R t (x ∷ xs) h zero zero d lt within a b = absurd (omega (arith, lt))
pairs_in R t (x ∷ xs) h (suc i) zero d lt within a b = absurd (omega (arith, lt))
pairs_in R t (x ∷ xs) h zero (suc j) d lt within a b =
    first (Contains-filter t xs (get_or xs j d) (Contains-get_or xs j d (omega (arith, within))) b)
    (subst (AllPairs R) (ap (λ c. cond c (x ∷ filter t xs) (filter t xs)) a) h)
  where
    first : Contains (filter t xs) (get_or xs j d) → AllPairs R (x ∷ filter t xs) → R x (get_or xs j d)
    first m g = subst (R x) m.2 (g 0 (suc m.0) (get_or xs j d) (omega arith) (omega (arith, m.1)))
pairs_in R t (x ∷ xs) h (suc i) (suc j) d lt within a b =
    pairs_in R t xs (rest (t x) h) i j d (omega (arith, lt)) (omega (arith, within)) a b
  where
    rest : (c : Bool) → AllPairs R (cond c (x ∷ filter t xs) (filter t xs)) → AllPairs R (filter t xs)
    rest true g = λ k l e low high. g (suc k) (suc l) e (omega (arith, low)) (omega (arith, high))
    rest false g = g

lower : (m n : ℕ) → m < n → nat_lt m n ≡ true
lower m n lt = at (nat_lt m n) refl
  where
    at : (b : Bool) → nat_lt m n ≡ b → nat_lt m n ≡ true
    at true e = e
    at false e = absurd (omega (arith, ltb-false m n e, lt))

module _ (f : Form) (gs : List Form) (up : AreByPath form_query gs) (rise : RiseAt gs) where
  -- in front of one of the path stands none of a path behind
  of_path : (i j : ℕ) (d : Form) → i ≤ j → j < length gs → stands_at (f.query).path (get_or gs j d) ≡ true
      → is_lt (path_cmp ((get_or gs i d).query).path (f.query).path) ≡ false → stands_at (f.query).path (get_or gs i d) ≡ true
  of_path i j d le lt at behind =
      let p : Path = (f.query).path in
      let x : Form = get_or gs i d in
      let y : Form = get_or gs j d in
      let here : (y.query).path ≡ p = path_eq-is (y.query).path p at in
      let not_behind : is_lt (path_cmp p (y.query).path) ≡ false = never (is_lt (path_cmp p (y.query).path)) (λ e. absurd (not_itself (y.query).path p e (sym here))) in
      let front : not (is_lt (path_cmp p (x.query).path)) ≡ true = up_to_first form_query p gs up i j d le lt (ap not not_behind) in
      neither_before (x.query).path p behind (not_so (is_lt (path_cmp p (x.query).path)) front)
    where
      not_so : (b : Bool) → not b ≡ true → b ≡ false
      not_so true e = absurd (true≢false (sym e))
      not_so false e = refl

  in_front : (i j : ℕ) (d : Form) → i < j → j < length gs → stands_at (f.query).path (get_or gs j d) ≡ true → (get_or gs j d).stamp ≤ f.stamp
      → is_form_before f (get_or gs i d) ≡ true
  in_front i j d less lt at low = by (is_lt (path_cmp ((get_or gs i d).query).path (f.query).path)) refl
    where
      by : (b : Bool) → is_lt (path_cmp ((get_or gs i d).query).path (f.query).path) ≡ b → is_form_before f (get_or gs i d) ≡ true
      by true e = ap (λ b. b || stands_at (f.query).path (get_or gs i d) && nat_lt (get_or gs i d).stamp f.stamp) e
      by false e =
          let here = of_path i j d (omega (arith, less)) lt at e in
          let rises : (get_or gs i d).stamp < (get_or gs j d).stamp = pairs_in Rises (stands_at (f.query).path) gs (rise (f.query).path) i j d less lt here at in
          or_true (is_lt (path_cmp ((get_or gs i d).query).path (f.query).path)) _
          (both (stands_at (f.query).path (get_or gs i d)) _ here (lower (get_or gs i d).stamp f.stamp (omega (arith, rises, low))))

  pub before_first : IsPartitionedBy (is_form_before f) gs
  before_first i j d le lt e = by (nat_lt i j) refl
    where
      behind : (b : Bool) → is_lt (path_cmp ((get_or gs j d).query).path (f.query).path) ≡ b → i < j → is_form_before f (get_or gs i d) ≡ true
      behind true l less =
          ap (λ b. b || stands_at (f.query).path (get_or gs i d) && nat_lt (get_or gs i d).stamp f.stamp) (befores_first form_query (f.query).path gs up i j d le lt l)
      behind false l less =
          let own : (stands_at (f.query).path (get_or gs j d) && nat_lt (get_or gs j d).stamp f.stamp) ≡ true =
          sym (ap (λ b. b || stands_at (f.query).path (get_or gs j d) && nat_lt (get_or gs j d).stamp f.stamp) l) ∙ e in
          let low : (get_or gs j d).stamp < f.stamp = ltb-true (get_or gs j d).stamp f.stamp (both_second (stands_at (f.query).path (get_or gs j d)) _ own) in
          in_front i j d less lt (both_first (stands_at (f.query).path (get_or gs j d)) _ own) (omega (arith, low))

      by : (b : Bool) → nat_lt i j ≡ b → is_form_before f (get_or gs i d) ≡ true
      by true l = behind (is_lt (path_cmp ((get_or gs j d).query).path (f.query).path)) refl (ltb-true i j l)
      by false l =
          let one : j ≡ i = omega (arith, ltb-false i j l, le) in
          ap (λ k. is_form_before f (get_or gs k d)) (sym one) ∙ e

  -- what stands before the form isn't of its path and stamp
  before_differs : (g : Form) → is_form_before f g ≡ true → is_same_form f g ≡ false
  before_differs g e = never (is_same_form f g) (λ s.
      let at : stands_at (f.query).path g ≡ true = both_first (stands_at (f.query).path g) (g.stamp == f.stamp) s in
      let stamp : g.stamp ≡ f.stamp = eqb-true g.stamp f.stamp (both_second (stands_at (f.query).path g) (g.stamp == f.stamp) s) in
      by g at stamp (is_lt (path_cmp (g.query).path (f.query).path)) refl e)
    where
      by : (g : Form) → stands_at (f.query).path g ≡ true → g.stamp ≡ f.stamp → (b : Bool) → is_lt (path_cmp (g.query).path (f.query).path) ≡ b
          → is_form_before f g ≡ true → false ≡ true
      by g at stamp true l e = absurd (not_itself (f.query).path (g.query).path l (path_eq-is (g.query).path (f.query).path at))
      by g at stamp false l e =
          let own : (stands_at (f.query).path g && nat_lt g.stamp f.stamp) ≡ true =
          sym (ap (λ b. b || stands_at (f.query).path g && nat_lt g.stamp f.stamp) l) ∙ e in
          let low : g.stamp < f.stamp = ltb-true g.stamp f.stamp (both_second (stands_at (f.query).path g) _ own) in
          absurd (omega (arith, low, stamp))

  -- where the first that isn't before the form isn't of its path and stamp, none is
  pub none_same : (n : ℕ) → IsPartitionPoint (λ (g : Form). is_form_before f g ≡ true) (λ (g : Form). is_form_before f g ≡ false) gs n
      → ((d : Form) → n < length gs → is_same_form f (get_or gs n d) ≡ false) → list_any (is_same_form f) gs ≡ false
  none_same n point misses = none_of (is_same_form f) gs none
    where
      none : (k : ℕ) (d : Form) → k < length gs → is_same_form f (get_or gs k d) ≡ false
      none k d lt = at (nat_lt k n) refl (nat_lt n k) refl
        where
          at : (a : Bool) → nat_lt k n ≡ a → (b : Bool) → nat_lt n k ≡ b → is_same_form f (get_or gs k d) ≡ false
          at true e b g = before_differs (get_or gs k d) (point.0 k d (omega arith) (ltb-true k n e))
          at false e true g = never (is_same_form f (get_or gs k d)) (λ s.
              let own : stands_at (f.query).path (get_or gs k d) ≡ true = both_first (stands_at (f.query).path (get_or gs k d)) _ s in
              let stamp : (get_or gs k d).stamp ≡ f.stamp = eqb-true (get_or gs k d).stamp f.stamp (both_second (stands_at (f.query).path (get_or gs k d)) _ s) in
              let less : n < k = ltb-true n k g in
              sym (point.1 n d (omega arith) (omega (arith, less, lt))) ∙ in_front n k d less lt own (omega (arith, stamp)))
          at false e false g =
              let one : n ≡ k = omega (arith, ltb-false k n e, ltb-false n k g) in
              ap (λ i. is_same_form f (get_or gs i d)) (sym one) ∙ misses d (omega (arith, one, lt))
