-- A chain that is made in order: one entry more, above all others.
use Rattle.std.proofs.Common.{◌≡◌, ℕ, zero, suc, ◌<◌, ◌≤◌, Bool, true, false, cond, List, [], ◌∷◌, ◌++◌, append_assoc, append-nil, arith, length, length-append, min, refl, sym, ap, subst, ◌∙◌, Option, Some, None, is_some}
use Rattle.std.specs.Prelude.{get_or, ◌||◌, ◌&&◌, T, drop, take}
use Rattle.std.specs.declared.cmp.Ordering.{Ordering}
use Rattle.std.specs.declared.cmp.Ordering.TheVariants.{Less, Equal}
use Rattle.std.specs.FinMap.Entries.{below_all, find, is_sorted, same_entries}
use Rattle.std.specs.Ordering.{eq_by_cmp, is_lt}
use Rattle.std.specs.Cmp.{IsTotalOrder, eq_by_cmp_equiv}
use Rattle.std.specs.List.{AllByRecursion}
use Rattle.std.specs.List.Sorted.{IsStrictlySortedBy}
use Rattle.std.specs.BTreeMap.{BTreeMap, IsFromIterResult, is_at}
use Rattle.std.specs.Map.{keys_of, values_of, lookup}
use Rattle.std.proofs.lemmas.Map.Keys.{IsDistinct-from_sorted, sorted_head, sorted_tail}
use Rattle.std.proofs.lemmas.Map.Made.{update_all_none}
use Rattle.slab.specs.Slab.{Slab}
use Rattle.rt_chain.specs.Chains.{Chain, IsOther, all_in, entries_of, head_or, last_or, slots_of}
use Rattle.rt_chain.specs.inside.Links.{IsLinked, Pushes, kept_in}
use Rattle.rt_chain.specs.inside.Halves.{AreKept, AreListed, IsCut, chain_of}
use Rattle.rt_chain.specs.inside.Made.{IsMade}
use Rattle.rt_chain.specs.declared.chain.Node.{Node}
use Rattle.rt_chain.proofs.Cuts.{Marks, both_other, last_both, others-kept, seen, settled}
use Rattle.rt_chain.proofs.Entries.{all-append, last-push, places-append, places-keys, places-length, places-slots, slots-append}
use Rattle.rt_chain.proofs.Nodes.{pushed_at, pushed_keeps, pushed_linked, pushed_other}

-- ---- a map that is made of entries in order
both : (a b : Bool) → T a → T b → T (a && b)
both true b p q = q
both false b p q = p

module _ {K X : Type 0} (cmp : K → K → Ordering) where
  rise_below : (k : K) (es : List (K × X)) → AllByRecursion (λ y. cmp k y ≡ Less) (keys_of es) → T (below_all cmp k es)
  rise_below k [] h = tt
  rise_below k (e ∷ es) h = both _ _ (subst (λ r. T (is_lt r)) (sym h.0) tt) (rise_below k es h.1)

  rise : (es : List (K × X)) → IsStrictlySortedBy cmp (keys_of es) → T (is_sorted cmp es)
  rise [] h = tt
  rise (e ∷ es) h = both _ _ (rise_below e.0 es (sorted_head cmp e.0 (keys_of es) h)) (rise es (sorted_tail cmp e.0 (keys_of es) h))

  find_lookup : (es : List (K × X)) (k : K) → lookup (is_at (cmp k)) es ≡ find cmp k es
  find_lookup [] k = refl
  find_lookup (e ∷ es) k = ap (cond (eq_by_cmp cmp k e.0) (Some e.1)) (find_lookup es k)

  pub made_of : IsTotalOrder cmp → ((j k : K) → cmp j k ≡ Equal → j ≡ k) → (xs : List (K × X)) (m : BTreeMap K X) → IsStrictlySortedBy cmp (keys_of xs) → IsFromIterResult cmp xs m → m.entries ≡ xs
  made_of o same xs m up made =
      same_entries cmp o same m.entries xs (rise m.entries made.1) (rise xs up)
      (λ q. sym (find_lookup m.entries q) ∙ made.0 q ∙ update_all_none (eq_by_cmp_equiv o) (eq_by_cmp cmp) (λ x y. refl) xs q (IsDistinct-from_sorted cmp (keys_of xs) up) ∙ find_lookup xs q)

-- ---- the first of some entries, and the others
pub parts_of : {A : Type 0} (xs ys zs : List A) (n : ℕ) → xs ++ ys ≡ zs → length xs ≡ min (length zs) n → (xs ≡ take n zs) × (ys ≡ drop n zs)
parts_of [] ys zs zero e h = (refl, e)
parts_of (x ∷ xs) ys zs zero e h = absurd (omega (arith, h))
parts_of [] ys [] (suc n) e h = (refl, e)
parts_of [] ys (z ∷ zs) (suc n) e h = absurd (omega (arith, h))
parts_of (x ∷ xs) ys [] (suc n) e h = absurd (omega (arith, h))
parts_of (x ∷ xs) ys (z ∷ zs) (suc n) e h =
    let head : x ≡ z = cc e in
    let tail : xs ++ ys ≡ zs = cc e in
    let rest = parts_of xs ys zs n tail (omega (arith, h)) in
    (λ i. head i ∷ rest.0 i, rest.1)

pub no_length : {A : Type 0} (es : List A) → length es ≡ 0 → es ≡ []
no_length [] h = refl
no_length (e ∷ es) h = absurd (omega (arith, h))

module _ {K X : Type 0} where
  entries-append : (es ds : List (K × (ℕ × X))) → entries_of (es ++ ds) ≡ entries_of es ++ entries_of ds
  entries-append [] ds = refl
  entries-append (e ∷ es) ds = ap (λ xs. (e.0, e.1.1) ∷ xs) (entries-append es ds)

  entries-length : (es : List (K × (ℕ × X))) → length (entries_of es) ≡ length es
  entries-length [] = refl
  entries-length (e ∷ es) = ap suc (entries-length es)

  first_or : (es : List (K × (ℕ × X))) (f : Option ℕ) (e : K × (ℕ × X)) → f ≡ head_or (slots_of es) None → cond (is_some f) f (Some e.1.0) ≡ head_or (slots_of (es ++ e ∷ [])) None
  first_or [] f e h = ap (λ o. cond (is_some o) o (Some e.1.0)) h
  first_or (d ∷ es) f e h = ap (λ o. cond (is_some o) o (Some e.1.0)) h

  -- the keys rise up to one of them
  rises_to : (cmp : K → K → Ordering) (es : List (K × (ℕ × X))) (e : K × (ℕ × X)) (rest : List (K × X)) → IsStrictlySortedBy cmp (keys_of (entries_of es ++ (e.0, e.1.1) ∷ rest)) → IsStrictlySortedBy cmp (keys_of (es ++ e ∷ []))
  unfolding IsStrictlySortedBy
  rises_to cmp [] e rest h = (tt, tt)
  rises_to cmp (d ∷ es) e rest h = (part es h.0, rises_to cmp es e rest h.1)
    where
      part : (xs : List (K × (ℕ × X))) → AllByRecursion (λ y. cmp d.0 y ≡ Less) (keys_of (entries_of xs ++ (e.0, e.1.1) ∷ rest)) → AllByRecursion (λ y. cmp d.0 y ≡ Less) (keys_of (xs ++ e ∷ []))
      part [] g = (g.0, tt)
      part (x ∷ xs) g = (g.0, part xs g.1)

-- ---- one entry more
module _ {K X : Type 0} {cmp : K → K → Ordering} (front : ℕ) (ps : List (K × ℕ)) (s t : Slab (Node X)) (k : K) (n : ℕ) (b : Bool) (v : X) (tail last first : Option ℕ) (made : IsMade cmp front ps s tail last first)
    (h : Pushes tail None n b v s t) (rest : List (K × X)) (up : IsStrictlySortedBy cmp (keys_of (entries_of (all_in (chain_of ps s)) ++ (k, v) ∷ rest))) where
  abbrev c : Chain K X
  c = chain_of ps s

  abbrev e : K × (ℕ × X)
  e = (k, (n, v))

  abbrev qs : List (K × ℕ)
  qs = ps ++ (k, n) ∷ []

  listed : AreListed cmp qs t (all_in c ++ e ∷ [])
  listed =
      let all = made.cut.all in
      let slots = pushed_linked s t tail None n b v h (slots_of (all_in c)) [] (made.tail_is ∙ ap (λ (es : List (K × ℕ)). last_or None (values_of es)) all.places_are ∙ ap (last_or None) (places-slots (all_in c))) refl
      (subst (IsLinked s) (sym (append-nil (slots_of (all_in c)))) all.linked) in
      record {
        rises = rises_to cmp (all_in c) e rest up;
        places_are = ap (λ es. es ++ (k, n) ∷ []) all.places_are ∙ sym (places-append (all_in c) (e ∷ []));
        linked = subst (IsLinked t) (sym (slots-append (all_in c) (e ∷ []))) slots;
      }

  other : IsOther n (slots_of c.front) × IsOther n (slots_of c.behind)
  other = both_other n c.front c.behind (pushed_other s t tail None n b v h (slots_of (all_in c)) made.cut.all.linked)

  -- what a step of the loop keeps
  abbrev pub Grows : Option ℕ → Option ℕ → Type 0
  Grows l f = IsMade cmp front qs t (Some n) l f × (entries_of (all_in (chain_of qs t)) ≡ entries_of (all_in c) ++ (k, v) ∷ [])

  grown : (d : Chain K X) (l f : Option ℕ) → IsCut cmp qs t l f (min (length qs) front) d → all_in d ≡ all_in c ++ e ∷ [] → Grows l f
  grown d l f cut whole = (
    record { cut = settled cut; tail_is = sym (last-push None ps (k, n)) },
    ap (λ x. entries_of (all_in x)) (seen cut) ∙ ap entries_of whole ∙ entries-append (all_in c) (e ∷ []),
  )

  pub grows : (b ≡ true → length ps < front) → (b ≡ false → front ≤ length ps) → Grows (cond b (Some n) last) (cond (b || is_some first) first (Some n))
  grows low high = at b refl
    where
      marked : AreKept true (kept_in t) c.front
      marked = others-kept n (kept_in s) (kept_in t) (pushed_keeps s t tail None n b v h) true c.front other.0 made.cut.marked

      unmarked : AreKept false (kept_in t) c.behind
      unmarked = others-kept n (kept_in s) (kept_in t) (pushed_keeps s t tail None n b v h) false c.behind other.1 made.cut.unmarked

      at : (u : Bool) → b ≡ u → Grows (cond u (Some n) last) (cond (u || is_some first) first (Some n))
      at true is =
          let a = made.cut in
          let none : c.behind ≡ [] = no_length c.behind (omega (arith, low is, a.count_is, ap (λ (xs : List (K × ℕ)). length xs) a.all.places_are, places-length (all_in c), length-append c.front c.behind)) in
          let d : Chain K X = record { front = c.front ++ e ∷ []; behind = c.behind } in
          let whole : all_in d ≡ all_in c ++ e ∷ [] = ap (λ xs. (c.front ++ e ∷ []) ++ xs) none ∙ append-nil (c.front ++ e ∷ []) ∙ sym (ap (λ xs. (c.front ++ xs) ++ e ∷ []) none ∙ ap (λ xs. xs ++ e ∷ []) (append-nil c.front)) in
          grown d (Some n) first (record {
            all = subst (AreListed cmp qs t) (sym whole) listed;
            marked = all-append (Marks true (kept_in t)) c.front (e ∷ []) marked (pushed_at s t tail None n b v h ∙ ap (λ u. Some (u, v)) is, tt);
            unmarked = unmarked;
            last_is = sym (last_both t None c.front (e ∷ []));
            first_is = a.first_is;
            count_is = omega (arith, low is, a.count_is, length-append ps ((k, n) ∷ []), length-append c.front (e ∷ []));
          }) whole
      at false is =
          let a = made.cut in
          let d : Chain K X = record { front = c.front; behind = c.behind ++ e ∷ [] } in
          let whole : all_in d ≡ all_in c ++ e ∷ [] = sym (append_assoc c.front c.behind (e ∷ [])) in
          grown d last (cond (is_some first) first (Some n)) (record {
            all = subst (AreListed cmp qs t) (sym whole) listed;
            marked = marked;
            unmarked = all-append (Marks false (kept_in t)) c.behind (e ∷ []) unmarked (pushed_at s t tail None n b v h ∙ ap (λ u. Some (u, v)) is, tt);
            last_is = a.last_is;
            first_is = first_or c.behind first e a.first_is;
            count_is = omega (arith, high is, a.count_is, length-append ps ((k, n) ∷ []));
          }) whole

-- the map has these places
pub places_made : {K X : Type 0} {cmp : K → K → Ordering} {front : ℕ} {ps : List (K × ℕ)} {s : Slab (Node X)} {tail last first : Option ℕ} → IsTotalOrder cmp → ((j k : K) → cmp j k ≡ Equal → j ≡ k) → IsMade cmp front ps s tail last first
    → (m : BTreeMap K ℕ) → IsFromIterResult cmp ps m → m.entries ≡ ps
places_made {K} {X} {cmp} {front} {ps} {s} o same made m h =
    made_of cmp o same ps m (subst (IsStrictlySortedBy cmp) (sym (ap keys_of made.cut.all.places_are ∙ places-keys (all_in (chain_of ps s)))) made.cut.all.rises) h

-- ---- nothing yet, and all of them
module _ {K X : Type 0} (cmp : K → K → Ordering) (front : ℕ) where
  pub nothing_made : (s : Slab (Node X)) → s.slots ≡ [] → IsMade {K = K} cmp front [] s None None None
  unfolding IsStrictlySortedBy
  nothing_made s none = record {
    cut = record {
      all = record { rises = tt; places_are = refl; linked = record { linked = tt; apart = tt; whole = λ n h. ap (λ xs. get_or xs n None) none } };
      marked = tt;
      unmarked = tt;
      last_is = refl;
      first_is = refl;
      count_is = omega arith;
    };
    tail_is = refl;
  }

  pub halves_made : (ps : List (K × ℕ)) (s : Slab (Node X)) (tail last first : Option ℕ) → IsMade cmp front ps s tail last first → (xs : List (K × X)) → entries_of (all_in (chain_of ps s)) ≡ xs
      → (entries_of (chain_of ps s).front ≡ take front xs) × (entries_of (chain_of ps s).behind ≡ drop front xs)
  halves_made ps s tail last first made xs all =
      let c = chain_of ps s in
      parts_of (entries_of c.front) (entries_of c.behind) xs front (sym (entries-append c.front c.behind) ∙ all)
      (omega (arith, entries-length c.front, entries-length (all_in c), made.cut.count_is, ap (λ (es : List (K × ℕ)). length es) made.cut.all.places_are, places-length (all_in c), ap (λ (es : List (K × X)). length es) all))
