-- A chain that is cut: what it is seen as, and how a value comes, changes, goes or crosses.
use Rattle.std.proofs.Common.{◌≡◌, ℕ, ◌+◌, Bool, true, false, cond, not, List, [], ◌∷◌, ◌++◌, append-nil, refl, sym, ap, subst, ◌∙◌, Option, Some, None, ◌⊎◌, inl, inr}
use Rattle.std.specs.Option.{option_map}
use Rattle.std.specs.declared.cmp.Ordering.{Ordering}
use Rattle.std.specs.declared.cmp.Ordering.TheVariants.{Less, Equal, Greater}
use Rattle.std.specs.Ordering.{is_le, ordering_reverse}
use Rattle.std.specs.Cmp.{IsTotalOrder}
use Rattle.std.specs.List.{AllByRecursion}
use Rattle.std.specs.BTreeMap.{insert_entry}
use Rattle.std.specs.Map.{keys_of, lookup}
use Rattle.slab.specs.Slab.{Slab, get}
use Rattle.rt_chain.specs.Chains.{Chain, IsApart, IsOther, Puts, all_in, half_at, half_between, head_or, is_from_first, is_to_last, last_or, slots_of}
use Rattle.rt_chain.specs.inside.Links.{IsLinked, IsRun, is_marked, kept_in, links_in, slot_next, slot_previous, value_in}
use Rattle.rt_chain.specs.inside.Halves.{AreKept, IsCut, Kept, chain_of, is_behind, is_front, is_same, picked, places_in, taken}
use Rattle.rt_chain.specs.declared.chain.Half.{Half}
use Rattle.rt_chain.specs.declared.chain.Half.TheVariants.{Front, Behind}
use Rattle.rt_chain.specs.declared.chain.Node.{Node}
use Rattle.rt_chain.proofs.Entries.{Above, Under, all-append, all-left, all-right, keys-left, keys-right, places-append, places-lookup, slots-append, split}
use Rattle.rt_chain.proofs.Nodes.{KeepsBut, marked_as, next_of, previous_of, value_of}
use Rattle.rt_chain.proofs.Runs.{apart_without, last-append, links_at, other-left, other-right}

same_true : (b : Bool) → is_same b b ≡ true
same_true true = refl
same_true false = refl

same_not : (b : Bool) → is_same b (not b) ≡ false
same_not true = refl
same_not false = refl

module _ {K X : Type 0} where
  -- ---- what a chain is seen as
  picked-same : (b : Bool) (g : Kept X) (es : List (K × (ℕ × X))) (ds : List (K × ℕ)) → AreKept b g es → picked b g (places_in es ++ ds) ≡ es ++ picked b g ds
  picked-same b g [] ds h = refl
  picked-same b g (e ∷ es) ds h =
      ap (λ o. taken b (e.0, e.1.0) o (picked b g (places_in es ++ ds))) h.0 ∙ ap (λ t. cond t (e ∷ picked b g (places_in es ++ ds)) (picked b g (places_in es ++ ds))) (same_true b)
      ∙ ap (λ xs. e ∷ xs) (picked-same b g es ds h.1)

  picked-none : (b : Bool) (g : Kept X) (es : List (K × (ℕ × X))) (ds : List (K × ℕ)) → AreKept (not b) g es → picked b g (places_in es ++ ds) ≡ picked b g ds
  picked-none b g [] ds h = refl
  picked-none b g (e ∷ es) ds h =
      ap (λ o. taken b (e.0, e.1.0) o (picked b g (places_in es ++ ds))) h.0 ∙ ap (λ t. cond t (e ∷ picked b g (places_in es ++ ds)) (picked b g (places_in es ++ ds))) (same_not b)
      ∙ picked-none b g es ds h.1

  pub others-kept : (n : ℕ) (g h : Kept X) → KeepsBut n g h → (b : Bool) (es : List (K × (ℕ × X))) → IsOther n (slots_of es) → AreKept b g es → AreKept b h es
  others-kept n g h k b [] o m = tt
  others-kept n g h k b (e ∷ es) o m = (k e.1.0 o.0 ∙ m.0, others-kept n g h k b es o.1 m.1)

  abbrev pub Marks : Bool → Kept X → K × (ℕ × X) → Type 0
  Marks b g e = g e.1.0 ≡ Some (b, e.1.1)

  -- an entry whose slot keeps its value
  abbrev pub Keeps : Kept X → K × (ℕ × X) → Type 0
  Keeps g e = (b : Bool) × (g e.1.0 ≡ Some (b, e.1.1))

  keeps_all : (b : Bool) (g : Kept X) (es : List (K × (ℕ × X))) → AreKept b g es → AllByRecursion (Keeps g) es
  keeps_all b g [] h = tt
  keeps_all b g (e ∷ es) h = ((b, h.0), keeps_all b g es h.1)

  pub both_other : (n : ℕ) (es ds : List (K × (ℕ × X))) → IsOther n (slots_of (es ++ ds)) → IsOther n (slots_of es) × IsOther n (slots_of ds)
  both_other n es ds h =
      let o = subst (IsOther n) (slots-append es ds) h in
      (other-left n (slots_of es) (slots_of ds) o, other-right n (slots_of es) (slots_of ds) o)

  pub links_here : (s : Slab (Node X)) (all fs gs : List (K × (ℕ × X))) (k : K) (n : ℕ) (v : X) → IsLinked s (slots_of all) → all ≡ fs ++ (k, (n, v)) ∷ gs
      → links_in s n ≡ Some (last_or None (slots_of fs), head_or (slots_of gs) None)
  links_here s all fs gs k n v a is = links_at (links_in s) (slots_of fs) (slots_of gs) n (subst (λ ns. IsRun (links_in s) None ns None) (ap slots_of is ∙ slots-append fs ((k, (n, v)) ∷ gs)) a.linked)

  pub next_at : (s : Slab (Node X)) (all fs gs : List (K × (ℕ × X))) (k : K) (n : ℕ) (v : X) → IsLinked s (slots_of all) → all ≡ fs ++ (k, (n, v)) ∷ gs → slot_next s n ≡ head_or (slots_of gs) None
  next_at s all fs gs k n v a is = next_of (get s n) (last_or None (slots_of fs)) (head_or (slots_of gs) None) (links_here s all fs gs k n v a is)

  pub previous_at : (s : Slab (Node X)) (all fs gs : List (K × (ℕ × X))) (k : K) (n : ℕ) (v : X) → IsLinked s (slots_of all) → all ≡ fs ++ (k, (n, v)) ∷ gs → slot_previous s n ≡ last_or None (slots_of fs)
  previous_at s all fs gs k n v a is = previous_of (get s n) (last_or None (slots_of fs)) (head_or (slots_of gs) None) (links_here s all fs gs k n v a is)

  pub apart_at : (s : Slab (Node X)) (all fs gs : List (K × (ℕ × X))) (k : K) (n : ℕ) (v : X) → IsLinked s (slots_of all) → all ≡ fs ++ (k, (n, v)) ∷ gs → IsOther n (slots_of fs) × IsOther n (slots_of gs)
  apart_at s all fs gs k n v a is =
      let o = (apart_without (slots_of fs) (slots_of gs) n (subst IsApart (ap slots_of is ∙ slots-append fs ((k, (n, v)) ∷ gs)) a.apart)).1 in
      (other-left n (slots_of fs) (slots_of gs) o, other-right n (slots_of fs) (slots_of gs) o)

  module _ {cmp : K → K → Ordering} {places : List (K × ℕ)} {s : Slab (Node X)} {l f : Option ℕ} {count : ℕ} {c : Chain K X} (a : IsCut cmp places s l f count c) where
    pub seen : chain_of places s ≡ c
    seen =
        let whole : places ≡ places_in c.front ++ (places_in c.behind ++ []) = a.all.places_are ∙ places-append c.front c.behind ∙ ap (λ xs. places_in c.front ++ xs) (sym (append-nil (places_in c.behind))) in
        let front : picked true (kept_in s) places ≡ c.front =
        ap (picked true (kept_in s)) whole ∙ picked-same true (kept_in s) c.front (places_in c.behind ++ []) a.marked ∙ ap (λ xs. c.front ++ xs) (picked-none true (kept_in s) c.behind [] a.unmarked) ∙ append-nil c.front in
        let behind : picked false (kept_in s) places ≡ c.behind =
        ap (picked false (kept_in s)) whole ∙ picked-none false (kept_in s) c.front (places_in c.behind ++ []) a.marked ∙ picked-same false (kept_in s) c.behind [] a.unmarked ∙ append-nil c.behind in
        λ i. record { front = front i; behind = behind i }

    -- the invariant, which says it of what the chain is seen as
    pub settled : IsCut cmp places s l f count (chain_of places s)
    settled = subst (IsCut cmp places s l f count) (sym seen) a

    pub found : (p : K → Bool) → lookup p places ≡ option_map (λ (q : ℕ × X). q.0) (lookup p (all_in c))
    found p = ap (lookup p) a.all.places_are ∙ places-lookup p (all_in c)

    pub all_keep : AllByRecursion (Keeps (kept_in s)) (all_in c)
    all_keep = all-append (Keeps (kept_in s)) c.front c.behind (keeps_all true (kept_in s) c.front a.marked) (keeps_all false (kept_in s) c.behind a.unmarked)

    pub value_at : (fs gs : List (K × (ℕ × X))) (k : K) (n : ℕ) (v : X) → all_in c ≡ fs ++ (k, (n, v)) ∷ gs → value_in s n ≡ Some v
    value_at fs gs k n v is =
        let one = (all-right (Keeps (kept_in s)) fs ((k, (n, v)) ∷ gs) (subst (AllByRecursion (Keeps (kept_in s))) is all_keep)).0 in
        value_of (get s n) one.0 v one.1

    -- a call that left the nodes
    pub same_cut : (ps : List (K × ℕ)) (t : Slab (Node X)) → ps ≡ places → ((n : ℕ) → get t n ≡ get s n) → IsLinked t (slots_of (all_in c)) → IsCut cmp ps t l f count c
    same_cut ps t is same linked = record {
      all = record { rises = a.all.rises; places_are = is ∙ a.all.places_are; linked = linked };
      marked = kept true c.front a.marked;
      unmarked = kept false c.behind a.unmarked;
      last_is = a.last_is;
      first_is = a.first_is;
      count_is = a.count_is;
    }
      where
        kept : (b : Bool) (es : List (K × (ℕ × X))) → AreKept b (kept_in s) es → AreKept b (kept_in t) es
        kept b [] h = tt
        kept b (e ∷ es) h = (ap (option_map (λ (x : Node X). (x.marked, x.value))) (same e.1.0) ∙ h.0, kept b es h.1)

  -- ---- marks at the cut
  module _ (s : Slab (Node X)) where
    head_front : (e : K × (ℕ × X)) (es : List (K × (ℕ × X))) → AreKept true (kept_in s) (e ∷ es) → is_front (is_marked s) (Some e.1.0) ≡ true
    head_front e es h = marked_as s e.1.0 true e.1.1 h.0

    pub head_behind : (es : List (K × (ℕ × X))) → AreKept false (kept_in s) es → is_front (is_marked s) (head_or (slots_of es) None) ≡ false
    head_behind [] h = refl
    head_behind (e ∷ es) h = marked_as s e.1.0 false e.1.1 h.0

    pub last_behind : (y : Option ℕ) (e : K × (ℕ × X)) (es : List (K × (ℕ × X))) → AreKept false (kept_in s) (e ∷ es) → is_behind (is_marked s) (last_or y (slots_of (e ∷ es))) ≡ true
    last_behind y e [] h = ap not (marked_as s e.1.0 false e.1.1 h.0)
    last_behind y e (d ∷ es) h = last_behind (Some e.1.0) d es h.1

    pub last_front : (y : Option ℕ) (es : List (K × (ℕ × X))) → AreKept true (kept_in s) es → is_behind (is_marked s) y ≡ false → is_behind (is_marked s) (last_or y (slots_of es)) ≡ false
    last_front y [] h o = o
    last_front y (e ∷ es) h o = last_front (Some e.1.0) es h.1 (ap not (marked_as s e.1.0 true e.1.1 h.0))

    pub last_both : (y : Option ℕ) (fs bs : List (K × (ℕ × X))) → last_or y (slots_of (fs ++ bs)) ≡ last_or (last_or y (slots_of fs)) (slots_of bs)
    last_both y fs bs = ap (last_or y) (slots-append fs bs) ∙ last-append y (slots_of fs) (slots_of bs)

    -- the last slot in front, where one came behind some of them or went from there
    pub last_stays : (l n : Option ℕ) (es xs bs : List (K × (ℕ × X))) → l ≡ last_or None (slots_of (es ++ xs)) → AreKept true (kept_in s) xs → AreKept false (kept_in s) bs
        → cond (is_front (is_marked s) (head_or (slots_of (xs ++ bs)) None)) l n ≡ last_or n (slots_of xs)
    last_stays l n es [] bs is f b = ap (λ t. cond t l n) (head_behind bs b)
    last_stays l n es (x ∷ xs) bs is f b = ap (λ t. cond t l n) (head_front x xs f) ∙ is ∙ last_both None es (x ∷ xs)

    -- the first slot behind, where one came in front of some of them or went from there
    pub first_stays : (o n : Option ℕ) (fs xs ds : List (K × (ℕ × X))) → o ≡ head_or (slots_of (xs ++ ds)) None → AreKept true (kept_in s) fs → AreKept false (kept_in s) xs
        → cond (is_behind (is_marked s) (last_or None (slots_of (fs ++ xs)))) o n ≡ head_or (slots_of xs) n
    first_stays o n fs [] ds is f b = ap (λ t. cond t o n) (ap (λ ys. is_behind (is_marked s) (last_or None (slots_of ys))) (append-nil fs) ∙ last_front None fs f refl)
    first_stays o n fs (x ∷ xs) ds is f b = ap (λ t. cond t o n) (ap (is_behind (is_marked s)) (last_both None fs (x ∷ xs)) ∙ last_behind (last_or None (slots_of fs)) x xs b) ∙ is

  -- ---- a key beyond all of some, or in front of all of others
  module _ (cmp : K → K → Ordering) (k : K) where
    pub above_last : (es : List (K × (ℕ × X))) → Above cmp k (keys_of es) → is_to_last cmp k es ≡ false
    above_last [] h = refl
    above_last (e ∷ []) h = ap is_le h.0
    above_last (e ∷ d ∷ es) h = above_last (d ∷ es) h.1

    pub to_last : (es : List (K × (ℕ × X))) (e : K × (ℕ × X)) (ds : List (K × (ℕ × X))) → is_le (cmp k e.0) ≡ true → Under cmp k (keys_of ds) → is_to_last cmp k (es ++ e ∷ ds) ≡ true
    to_last [] e [] h u = h
    to_last [] e (d ∷ ds) h u = to_last [] d ds (ap is_le u.0) u.1
    to_last (x ∷ []) e ds h u = to_last [] e ds h u
    to_last (x ∷ y ∷ es) e ds h u = to_last (y ∷ es) e ds h u

    under_first : IsTotalOrder cmp → (es : List (K × (ℕ × X))) → Under cmp k (keys_of es) → is_from_first cmp k es ≡ false
    under_first o [] h = refl
    under_first o (e ∷ es) h = ap is_le (o.antisymm e.0 k ∙ ap ordering_reverse h.0)

    pub from_first : IsTotalOrder cmp → (es : List (K × (ℕ × X))) (e : K × (ℕ × X)) (ds : List (K × (ℕ × X))) → Above cmp k (keys_of es) → ordering_reverse (cmp k e.0) ≡ Less ⊎ ordering_reverse (cmp k e.0) ≡ Equal → is_from_first cmp k (es ++ e ∷ ds) ≡ true
    from_first o [] e ds h (inl g) = ap is_le (o.antisymm e.0 k ∙ g)
    from_first o [] e ds h (inr g) = ap is_le (o.antisymm e.0 k ∙ g)
    from_first o (d ∷ es) e ds h g = ap is_le (o.antisymm d.0 k ∙ ap ordering_reverse h.0)

  -- ---- where a key that is missing lies
  abbrev pub Fits : Half → Chain K X → List (K × (ℕ × X)) → List (K × (ℕ × X)) → Type 0
  Fits Front c low high = (xs : List (K × (ℕ × X))) × ((c.front ≡ low ++ xs) × (high ≡ xs ++ c.behind))
  Fits Behind c low high = (xs : List (K × (ℕ × X))) × ((low ≡ c.front ++ xs) × (c.behind ≡ xs ++ high))

  -- what a put does: to one half, and to both together
  pub record Put (cmp : K → K → Ordering) (k : K) (p : ℕ × X) (half : Half) (old new : Chain K X) : Type 0 where
    pub puts : Puts half cmp k p old new
    pub whole : all_in new ≡ insert_entry cmp (all_in old) k p

  module _ {cmp : K → K → Ordering} (o : IsTotalOrder cmp) {places : List (K × ℕ)} {s : Slab (Node X)} {l f : Option ℕ} {count : ℕ} {c : Chain K X} (a : IsCut cmp places s l f count c) (k : K) where
    abbrev pub side : List (K × (ℕ × X)) → List (K × (ℕ × X)) → Half → Half
    side low high at_cut = half_between (is_front (is_marked s) (head_or (slots_of high) None)) (is_behind (is_marked s) (last_or None (slots_of low))) at_cut

    pub lies : (low high : List (K × (ℕ × X))) → all_in c ≡ low ++ high → Above cmp k (keys_of low) → Under cmp k (keys_of high) → (at_cut : Half)
        → Fits (side low high at_cut) c low high × (side low high at_cut ≡ half_at cmp k at_cut c)
    lies low high whole above under at_cut = elim (split c.front c.behind low high whole) [
      | inl p ↦ front p.0 p.1.0 p.1.1
      | inr p ↦ behind p.0 p.1.0 p.1.1
    ]
      where
        between : c.front ≡ low → high ≡ c.behind → Fits (side low high at_cut) c low high × (side low high at_cut ≡ half_at cmp k at_cut c)
        between u w =
            let after = ap (λ ys. is_front (is_marked s) (head_or (slots_of ys) None)) w ∙ head_behind s c.behind a.unmarked in
            let before = ap (λ ys. is_behind (is_marked s) (last_or None (slots_of ys))) (sym u) ∙ last_front s None c.front a.marked refl in
            let code : side low high at_cut ≡ at_cut = λ i. half_between (after i) (before i) at_cut in
            let last = above_last cmp k c.front (subst (λ ys. Above cmp k (keys_of ys)) (sym u) above) in
            let first = under_first cmp k o c.behind (subst (λ ys. Under cmp k (keys_of ys)) w under) in
            let said : half_at cmp k at_cut c ≡ at_cut = λ i. half_between (last i) (first i) at_cut in
            let fits : (h : Half) → Fits h c low high = λ h. elim h as (λ h. Fits h c low high) [ Front ↦ ([], (u ∙ sym (append-nil low), w)) | Behind ↦ ([], (sym u ∙ sym (append-nil c.front), sym w)) ] in
            (fits (side low high at_cut), code ∙ sym said)

        front : (xs : List (K × (ℕ × X))) → c.front ≡ low ++ xs → high ≡ xs ++ c.behind → Fits (side low high at_cut) c low high × (side low high at_cut ≡ half_at cmp k at_cut c)
        front [] u w = between (u ∙ append-nil low) w
        front (x ∷ xs) u w =
            let mine = all-right (Marks true (kept_in s)) low (x ∷ xs) (subst (AreKept true (kept_in s)) u a.marked) in
            let over = subst (λ ys. Under cmp k (keys_of ys)) w under in
            let code : side low high at_cut ≡ Front =
            ap (λ t. half_between t (is_behind (is_marked s) (last_or None (slots_of low))) at_cut) (ap (λ ys. is_front (is_marked s) (head_or (slots_of ys) None)) w ∙ head_front s x xs mine) in
            let last = ap (is_to_last cmp k) u ∙ to_last cmp k low x xs (ap is_le over.0) (keys-left cmp (λ j. cmp k j ≡ Less) xs c.behind over.1) in
            let said : half_at cmp k at_cut c ≡ Front = ap (λ t. half_between t (is_from_first cmp k c.behind) at_cut) last in
            (subst (λ h. Fits h c low high) (sym code) (x ∷ xs, (u, w)), code ∙ sym said)

        behind : (xs : List (K × (ℕ × X))) → low ≡ c.front ++ xs → c.behind ≡ xs ++ high → Fits (side low high at_cut) c low high × (side low high at_cut ≡ half_at cmp k at_cut c)
        behind [] u w = between (sym (u ∙ append-nil c.front)) (sym w)
        behind (x ∷ xs) u w =
            let mine = subst (AreKept false (kept_in s)) w a.unmarked in
            let lower = subst (λ ys. Above cmp k (keys_of ys)) u above in
            let mine-low = all-left (Marks false (kept_in s)) (x ∷ xs) high mine in
            let after = head_behind s high (all-right (Marks false (kept_in s)) (x ∷ xs) high mine) in
            let before = ap (λ ys. is_behind (is_marked s) (last_or None (slots_of ys))) u ∙ ap (is_behind (is_marked s)) (last_both s None c.front (x ∷ xs)) ∙ last_behind s (last_or None (slots_of c.front)) x xs mine-low in
            let code : side low high at_cut ≡ Behind = λ i. half_between (after i) (before i) at_cut in
            let last = above_last cmp k c.front (keys-left cmp (λ j. cmp k j ≡ Greater) c.front (x ∷ xs) lower) in
            let over = keys-right cmp (λ j. cmp k j ≡ Greater) c.front (x ∷ xs) lower in
            let first = ap (is_from_first cmp k) w ∙ from_first cmp k o [] x (xs ++ high) tt (inl (ap ordering_reverse over.0)) in
            let said : half_at cmp k at_cut c ≡ Behind = λ i. half_between (last i) (first i) at_cut in
            (subst (λ h. Fits h c low high) (sym code) (x ∷ xs, (u, w)), code ∙ sym said)
