-- What is looked up in a chain that is cut.
use Rattle.std.proofs.Common.{◌≡◌, ℕ, Bool, true, false, cond, not, List, [], ◌∷◌, ◌++◌, append_assoc, append-nil, refl, sym, ap, subst, ◌∙◌, Option, Some, None}
use Rattle.std.specs.Prelude.{IsSome}
use Rattle.std.specs.Option.{option_and_then, option_map}
use Rattle.std.specs.declared.cmp.Ordering.{Ordering}
use Rattle.std.specs.declared.cmp.Ordering.TheVariants.{Less, Equal, Greater}
use Rattle.std.specs.Ordering.{is_le, ordering_reverse}
use Rattle.std.specs.Cmp.{IsTotalOrder}
use Rattle.std.specs.List.{AllByRecursion}
use Rattle.std.specs.List.Sorted.{IsStrictlySortedBy}
use Rattle.std.specs.BTreeMap.{is_at}
use Rattle.std.specs.Map.{keys_of, values_of, lookup}
use Rattle.std.proofs.lemmas.Map.Keys.{sorted_head, sorted_tail}
use Rattle.slab.specs.Slab.{Slab, get}
use Rattle.rt_chain.specs.Chains.{Chain, all_in, below, in_half, last_in, last_or, slots_of}
use Rattle.rt_chain.specs.inside.Links.{is_marked, kept_in, slot_below, slot_previous, value_in}
use Rattle.rt_chain.specs.inside.Halves.{AreKept, IsCut, is_behind}
use Rattle.rt_chain.specs.declared.chain.Half.{Half}
use Rattle.rt_chain.specs.declared.chain.Half.TheVariants.{Front, Behind}
use Rattle.rt_chain.specs.declared.chain.Node.{Node}
use Rattle.rt_chain.proofs.Cuts.{Keeps, Marks, found, last_behind, last_both, last_front, previous_at, all_keep}
use Rattle.rt_chain.proofs.Entries.{all-left, all-right, below_high, below_low, keys-left, places-below, places-slots, spot}
use Rattle.rt_chain.proofs.Nodes.{inside, value_of}

-- ---- what a slot that was found holds
some_map : {A B : Type 0} (f : A → B) (o : Option A) (y : B) → Some y ≡ option_map f o → (x : A) × ((o ≡ Some x) × (y ≡ f x))
some_map f None y h = cc h
some_map f (Some x) y h = (x, (refl, inside h))

pub none_map : {A B : Type 0} (f : A → B) (o : Option A) → None ≡ option_map f o → o ≡ None
none_map f None h = refl
none_map f (Some x) h = cc h

module _ {K X : Type 0} {cmp : K → K → Ordering} {places : List (K × ℕ)} {s : Slab (Node X)} {l f : Option ℕ} {count : ℕ} {c : Chain K X} (a : IsCut cmp places s l f count c) where
  pub there : (p : K → Bool) (n : ℕ) → lookup p places ≡ Some n → (x : X) × (lookup p (all_in c) ≡ Some (n, x))
  there p n is =
      let q = some_map (λ (q : ℕ × X). q.0) (lookup p (all_in c)) n (sym is ∙ found a p) in
      (q.0.1, q.1.0 ∙ ap (λ m. Some (m, q.0.1)) (sym q.1.1))

  pub absent : (p : K → Bool) → lookup p places ≡ None → lookup p (all_in c) ≡ None
  absent p is = none_map (λ (q : ℕ × X). q.0) (lookup p (all_in c)) (sym is ∙ found a p)

  -- the value that was found
  pub value_found : (p : K → Bool) (n : ℕ) (x : X) → lookup p (all_in c) ≡ Some (n, x) → value_in s n ≡ Some x
  value_found p n x is = let k = kept (all_in c) (all_keep a) is in value_of (get s n) k.0 x k.1
    where
      kept : (es : List (K × (ℕ × X))) → AllByRecursion (Keeps (kept_in s)) es → lookup p es ≡ Some (n, x) → (b : Bool) × (kept_in s n ≡ Some (b, x))
      kept [] h e = cc e
      kept (e ∷ es) h is =
          elim (p e.0) as (λ t. cond t (Some e.1) (lookup p es) ≡ Some (n, x) → (b : Bool) × (kept_in s n ≡ Some (b, x))) [
            | true ↦ λ u. subst (λ (q : ℕ × X). (b : Bool) × (kept_in s q.0 ≡ Some (b, q.1))) (inside u) h.0
            | false ↦ λ u. kept es h.1 u
          ] is

  -- a key that is found has a node
  pub has_node : (p : K → Bool) (n : ℕ) (x : X) → lookup p (all_in c) ≡ Some (n, x) → IsSome (get s n)
  has_node p n x is = some (get s n) (value_found p n x is)
    where
      some : (o : Option (Node X)) → option_map (λ (y : Node X). y.value) o ≡ Some x → IsSome o
      some None h = cc h
      some (Some y) h = refl

-- ---- the last one below a key
module _ {K X : Type 0} where
  last_value : (s : Slab (Node X)) (es : List (K × (ℕ × X))) → AllByRecursion (Keeps (kept_in s)) es → option_and_then (value_in s) (last_or None (slots_of es)) ≡ option_map (λ (e : K × (ℕ × X)). e.1.1) (last_in es)
  last_value s [] h = refl
  last_value s (e ∷ es) h = at e es h
    where
      at : (e : K × (ℕ × X)) (es : List (K × (ℕ × X))) → AllByRecursion (Keeps (kept_in s)) (e ∷ es) → option_and_then (value_in s) (last_or (Some e.1.0) (slots_of es)) ≡ option_map (λ (e : K × (ℕ × X)). e.1.1) (last_in (e ∷ es))
      at e [] h = value_of (get s e.1.0) h.0.0 e.1.1 h.0.1
      at e (d ∷ es) h = at d es h.1

  module _ (cmp : K → K → Ordering) (k : K) where
    below-append : (es ds : List (K × (ℕ × X))) → below (cmp k) (es ++ ds) ≡ below (cmp k) es ++ below (cmp k) ds
    below-append [] ds = refl
    below-append (e ∷ es) ds =
        elim (is_le (cmp k e.0)) as (λ t. cond (not t) (e ∷ below (cmp k) (es ++ ds)) (below (cmp k) (es ++ ds)) ≡ cond (not t) (e ∷ below (cmp k) es) (below (cmp k) es) ++ below (cmp k) ds) [
          | true ↦ below-append es ds
          | false ↦ ap (λ xs. e ∷ xs) (below-append es ds)
        ]

    below_have : (P : K × (ℕ × X) → Type 0) (es : List (K × (ℕ × X))) → AllByRecursion P es → AllByRecursion P (below (cmp k) es)
    below_have P [] h = tt
    below_have P (e ∷ es) h =
        elim (is_le (cmp k e.0)) as (λ t. AllByRecursion P (cond (not t) (e ∷ below (cmp k) es) (below (cmp k) es))) [
          | true ↦ below_have P es h.1
          | false ↦ (h.0, below_have P es h.1)
        ]

    -- all of the half in front are below a key that one behind the cut is below
    all_below : (j : K) (es : List (K × (ℕ × X))) → IsTotalOrder cmp → cmp j k ≡ Less → AllByRecursion (λ i. cmp i j ≡ Less) (keys_of es) → below (cmp k) es ≡ es
    all_below j [] o is h = refl
    all_below j (e ∷ es) o is h =
        let up : cmp k e.0 ≡ Greater = o.antisymm k e.0 ∙ ap ordering_reverse (o.trans e.0 j k h.0 is) in
        ap (λ r. cond (not (is_le r)) (e ∷ below (cmp k) es) (below (cmp k) es)) up ∙ ap (λ xs. e ∷ xs) (all_below j es o is h.1)

    risen_before : (es ds : List (K × (ℕ × X))) (d : K × (ℕ × X)) → IsStrictlySortedBy cmp (keys_of (es ++ d ∷ ds)) → AllByRecursion (λ i. cmp i d.0 ≡ Less) (keys_of es)
    risen_before [] ds d h = tt
    risen_before (e ∷ es) ds d h = (keys_in es (sorted_head cmp e.0 (keys_of (es ++ d ∷ ds)) h), risen_before es ds d (sorted_tail cmp e.0 (keys_of (es ++ d ∷ ds)) h))
      where
        keys_in : (xs : List (K × (ℕ × X))) → AllByRecursion (λ y. cmp e.0 y ≡ Less) (keys_of (xs ++ d ∷ ds)) → cmp e.0 d.0 ≡ Less
        keys_in [] g = g.0
        keys_in (x ∷ xs) g = keys_in xs g.1

    front_below : IsTotalOrder cmp → (fs es ds : List (K × (ℕ × X))) → IsStrictlySortedBy cmp (keys_of (fs ++ (es ++ ds))) → (x : K × (ℕ × X)) (xs : List (K × (ℕ × X))) → below (cmp k) ds ≡ x ∷ xs → below (cmp k) fs ≡ fs
    front_below o fs es [] up x xs is = cc is
    front_below o fs es (d ∷ ds) up x xs is =
        elim (is_le (cmp k d.0)) as (λ t. is_le (cmp k d.0) ≡ t → cond (not t) (d ∷ below (cmp k) ds) (below (cmp k) ds) ≡ x ∷ xs → below (cmp k) fs ≡ fs) [
          | true ↦ λ t e. front_below o fs (es ++ d ∷ []) ds (subst (λ (ys : List (K × (ℕ × X))). IsStrictlySortedBy cmp (keys_of (fs ++ ys))) (sym (append_assoc es (d ∷ []) ds)) up) x xs e
          | false ↦ λ t e.
              let less : cmp d.0 k ≡ Less = o.antisymm d.0 k ∙ ap ordering_reverse (not_le (cmp k d.0) t) in
              let all = risen_before (fs ++ es) ds d (subst (λ (ys : List (K × (ℕ × X))). IsStrictlySortedBy cmp (keys_of ys)) (sym (append_assoc fs es (d ∷ ds))) up) in
              all_below d.0 fs o less (keys-left cmp (λ i. cmp i d.0 ≡ Less) fs es all)
        ] refl is
      where
        not_le : (r : Ordering) → is_le r ≡ false → r ≡ Greater
        not_le Less e = cc
        not_le Equal e = cc
        not_le Greater e = refl

  module _ {cmp : K → K → Ordering} {places : List (K × ℕ)} {s : Slab (Node X)} {l f : Option ℕ} {count : ℕ} {c : Chain K X} (a : IsCut cmp places s l f count c) (o : IsTotalOrder cmp) (k : K) where
    lower_is : slot_below (cmp k) places ≡ last_or None (slots_of (below (cmp k) (all_in c)))
    lower_is =
        ap (λ (es : List (K × ℕ)). last_or None (values_of es)) (ap (below (cmp k)) a.all.places_are ∙ places-below (cmp k) (all_in c)) ∙ ap (last_or None) (places-slots (below (cmp k) (all_in c)))

    -- the slot of a key leads to that of the last key below it
    pub before_slot : (n : ℕ) → lookup (is_at (cmp k)) places ≡ Some n → slot_previous s n ≡ slot_below (cmp k) places
    before_slot n is =
        let at = there a (is_at (cmp k)) n is in
        let h = spot cmp o k (n, at.0) (all_in c) a.all.rises at.1 in
        let one : below (cmp k) ((h.key, (n, at.0)) ∷ h.high) ≡ [] =
        ap (λ r. cond (not (is_le r)) ((h.key, (n, at.0)) ∷ below (cmp k) h.high) (below (cmp k) h.high)) h.same ∙ below_high cmp k h.high h.under in
        let less : below (cmp k) (all_in c) ≡ h.low = ap (below (cmp k)) h.whole ∙ below_low cmp k h.low ((h.key, (n, at.0)) ∷ h.high) h.above ∙ ap (λ xs. h.low ++ xs) one ∙ append-nil h.low in
        previous_at s (all_in c) h.low h.high h.key n at.0 a.all.linked h.whole ∙ sym (lower_is ∙ ap (λ xs. last_or None (slots_of xs)) less)

    -- what the code answers, by the slot below the key
    abbrev answered : Half → Option ℕ → Option ℕ
    answered Front p = cond (is_behind (is_marked s) p) l p
    answered Behind p = cond (is_behind (is_marked s) p) p None

    parts_answer : (h : Half) (bs : List (K × (ℕ × X))) → AreKept false (kept_in s) bs → ((x : K × (ℕ × X)) (xs : List (K × (ℕ × X))) → bs ≡ x ∷ xs → below (cmp k) c.front ≡ c.front)
        → bs ≡ below (cmp k) c.behind → answered h (last_or None (slots_of (below (cmp k) c.front ++ bs))) ≡ last_or None (slots_of (below (cmp k) (in_half h c)))
    parts_answer h [] b all is =
        let fs = below (cmp k) c.front in
        let front = last_front s None fs (below_have cmp k (Marks true (kept_in s)) c.front a.marked) refl in
        ap (λ ys. answered h (last_or None (slots_of ys))) (append-nil fs) ∙ elim h as (λ h. answered h (last_or None (slots_of fs)) ≡ last_or None (slots_of (below (cmp k) (in_half h c)))) [
          | Front ↦ ap (λ t. cond t l (last_or None (slots_of fs))) front
          | Behind ↦ ap (λ t. cond t (last_or None (slots_of fs)) None) front ∙ ap (λ ys. last_or None (slots_of ys)) is
        ]
    parts_answer h (x ∷ bs) b all is =
        let fs = below (cmp k) c.front in
        let behind = last_behind s (last_or None (slots_of fs)) x bs b in
        let p = last_or (last_or None (slots_of fs)) (slots_of (x ∷ bs)) in
        ap (answered h) (last_both s None fs (x ∷ bs)) ∙ elim h as (λ h. answered h p ≡ last_or None (slots_of (below (cmp k) (in_half h c)))) [
          | Front ↦ ap (λ t. cond t l p) behind ∙ a.last_is ∙ ap (λ ys. last_or None (slots_of ys)) (sym (all x bs refl))
          | Behind ↦ ap (λ t. cond t p None) behind ∙ ap (λ ys. last_or None (slots_of ys)) is
        ]

    pub before_step : (h : Half) (p : Option ℕ) → p ≡ slot_below (cmp k) places → answered h p ≡ last_or None (slots_of (below (cmp k) (in_half h c)))
    before_step h p is =
        ap (answered h) (is ∙ lower_is ∙ ap (λ ys. last_or None (slots_of ys)) (below-append cmp k c.front c.behind))
        ∙ parts_answer h (below (cmp k) c.behind) (below_have cmp k (Marks false (kept_in s)) c.behind a.unmarked)
        (λ x xs e. front_below cmp k o c.front [] c.behind a.all.rises x xs e) refl

    pub before_value : (h : Half) → option_and_then (value_in s) (last_or None (slots_of (below (cmp k) (in_half h c)))) ≡ option_map (λ (e : K × (ℕ × X)). e.1.1) (last_in (below (cmp k) (in_half h c)))
    before_value h = last_value s (below (cmp k) (in_half h c)) (below_have cmp k (Keeps (kept_in s)) (in_half h c) (half h))
      where
        half : (h : Half) → AllByRecursion (Keeps (kept_in s)) (in_half h c)
        half Front = all-left (Keeps (kept_in s)) c.front c.behind (all_keep a)
        half Behind = all-right (Keeps (kept_in s)) c.front c.behind (all_keep a)
