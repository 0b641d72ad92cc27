-- A node that is taken out of its row, and the siblings beside it linked to each other.
use Rattle.std.proofs.Common.{◌≡◌, ◌≢◌, ◌≤◌, ◌<◌, ◌⊎◌, inl, inr, ℕ, Option, Some, None, true, false, cond, refl, sym, ap, subst, ◌∙◌, arith}
use Rattle.std.specs.Prelude.{nat_eq}
use Rattle.std.specs.Option.{option_map}
use Rattle.std.proofs.lemmas.Bool.{eqb-true, eq-eqb}
use Rattle.slab.specs.Slab.{Slab, get}
use Rattle.rt_nodes.specs.Forest.{Forest, bare, node, one_if, first, times, Links}
use Rattle.rt_nodes.specs.Changes.{is_link, joined, InRow, without}
use Rattle.rt_nodes.specs.declared.nodes.Slot.{Slot}
use Rattle.rt_nodes.proofs.Felling.{one_of, links_kept}

pub not_same : (m n : ℕ) → m ≢ n → nat_eq m n ≡ false
not_same m n differ = elim (nat_eq m n) as (λ b. nat_eq m n ≡ b → b ≡ false) [
  | true ↦ λ e. absurd (differ (eqb-true m n e))
  | false ↦ λ e. refl
] refl

module _ {X : Type 0} where
  -- a link that leads nowhere, or into the row
  abbrev pub LiesIn : Option ℕ → Forest X → Type 0
  LiesIn o f = (o ≡ None) ⊎ ((m : ℕ) × (o ≡ Some m) × (0 < times m f))

  pub link_out : (o : Option ℕ) (f : Forest X) (n : ℕ) → LiesIn o f → times n f ≡ 0 → is_link o n ≡ false
  link_out o f n lies none = elim lies [
    | inl e ↦ ap (λ x. is_link x n) e
    | inr e ↦ ap (λ x. is_link x n) e.1 ∙ not_same n e.0 (λ same. absurd (omega (arith, e.2, none, ap (λ x. times x f) same)))
  ]

  pub lies_first : (f : Forest X) → LiesIn (first f) f
  lies_first bare = inl refl
  lies_first (node n key value below behind) = inr (n, refl, omega (arith, one_of n))

  pub lies_more : (o : Option ℕ) (f g : Forest X) → ((n : ℕ) → times n f ≤ times n g) → LiesIn o f → LiesIn o g
  lies_more o f g more lies = elim lies [
    | inl e ↦ inl e
    | inr e ↦ inr (e.0, e.1, omega (arith, e.2, more e.0))
  ]

  pub slots_same : (s : Slab (Slot X)) (n : ℕ) (x y : Slot X) → get s n ≡ Some x → get s n ≡ Some y → x ≡ y
  slots_same s n x y e f = same (sym e ∙ f)
    where
      same : Some x ≡ Some y → x ≡ y
      same g = cc

  -- where the links of a sibling lead
  pub at_sibling : (s : Slab (Slot X)) (parent previous : Option ℕ) (f : Forest X) (k : ℕ) (slot : Slot X) → Links s parent previous f → InRow k f → get s k ≡ Some slot
      → ((slot.previous ≡ previous) ⊎ LiesIn slot.previous f) × LiesIn slot.next f
  at_sibling s parent previous bare k slot h is there = absurd is
  at_sibling s parent previous (node n key value below behind) k slot h is there = elim is [
    | inl same ↦
        let slots : record { key = key; parent = parent; first_child = first below; previous = previous; next = first behind; value = value } ≡ slot =
        slots_same s n _ slot h.0 (ap (get s) (sym same) ∙ there) in (
          inl (ap (λ (x : Slot X). x.previous) (sym slots)),
          subst (λ o. LiesIn o (node n key value below behind)) (ap (λ (x : Slot X). x.next) slots) (lies_more (first behind) behind (node n key value below behind) (λ m. omega arith) (lies_first behind)),
        )
    | inr later ↦
        let rest = at_sibling s parent (Some n) behind k slot h.2 later there in (
          inr (elim rest.0 [
            | inl e ↦ inr (n, e, omega (arith, one_of n))
            | inr e ↦ lies_more slot.previous behind (node n key value below behind) (λ m. omega arith) e
          ]),
          lies_more slot.next behind (node n key value below behind) (λ m. omega arith) rest.1,
        )
  ]

  pub in_row_times : (k : ℕ) (f : Forest X) → InRow k f → 0 < times k f
  in_row_times k bare is = absurd is
  in_row_times k (node n key value below behind) is = elim is [
    | inl same ↦ omega (arith, one_of n, ap (λ x. one_if (nat_eq x n)) same)
    | inr later ↦ omega (arith, in_row_times k behind later)
  ]

  untouched_slot : (p q : Option ℕ) (n : ℕ) (o : Option (Slot X)) → is_link p n ≡ false → is_link q n ≡ false → option_map (joined p q n) o ≡ o
  untouched_slot p q n None e f = refl
  untouched_slot p q n (Some slot) e f = λ i. Some (record slot { next = cond (e i) q slot.next; previous = cond (f i) p slot.previous })

  -- the slab after a node was taken out and its siblings were joined
  module _ (s t : Slab (Slot X)) (k : ℕ) (slot : Slot X) (there : get s k ≡ Some slot)
      (each : (n : ℕ) → n ≢ k → get t n ≡ option_map (joined slot.previous slot.next n) (get s n)) where
    pub untouched : (n : ℕ) → n ≢ k → is_link slot.previous n ≡ false → is_link slot.next n ≡ false → get t n ≡ get s n
    untouched n differ p q = each n differ ∙ untouched_slot slot.previous slot.next n (get s n) p q

    -- the row behind the node
    moved_up : (parent previous : Option ℕ) (f : Forest X) → Links s parent (Some k) f → ((n : ℕ) → times n f ≤ 1) → times k f ≡ 0
        → slot.previous ≡ previous → slot.next ≡ first f → ((n : ℕ) → 0 < times n f → is_link previous n ≡ false) → Links t parent previous f
    moved_up parent previous bare h once free p q out = tt
    moved_up parent previous (node m key value below behind) h once free p q out =
        let apart : (n : ℕ) → 0 < times n f → n ≢ k = λ n some same. absurd (omega (arith, some, free, ap (λ x. times x f) same)) in
        let here : 0 < times m f = omega (arith, one_of m) in (
          each m (apart m here) ∙ ap (option_map (joined slot.previous slot.next m)) h.0
              ∙ (λ i. Some (record {
                key = key;
                parent = parent;
                first_child = first below;
                previous = cond (is_link (q i) m) (p i) (Some k);
                next = cond (is_link (p i) m) (q i) (first behind);
                value = value;
              }))
              ∙ (λ i. Some (record {
                key = key;
                parent = parent;
                first_child = first below;
                previous = cond (eq-eqb m m refl i) previous (Some k);
                next = cond (out m here i) (Some m) (first behind);
                value = value;
              })),
          links_kept s t (Some m) None below h.1 (λ n some. same_below n (omega (arith, some)) (omega (arith, some, once n))),
          links_kept s t parent (Some m) behind h.2 (λ n some. same_below n (omega (arith, some)) (omega (arith, some, once n))),
        )
      where
        f : Forest X
        f = node m key value below behind

        same_below : (n : ℕ) → 0 < times n (node m key value below behind) → one_if (nat_eq n m) ≡ 0 → get t n ≡ get s n
        same_below n some other =
            untouched n (λ same. absurd (omega (arith, some, free, ap (λ x. times x (node m key value below behind)) same)))
            (ap (λ o. is_link o n) p ∙ out n some)
            (ap (λ o. is_link o n) q ∙ not_same n m (λ same. absurd (omega (arith, other, one_of m, ap (λ x. one_if (nat_eq x m)) same))))

    -- the link of the sibling in front
    next_of : (parent : Option ℕ) (n : ℕ) (f : Forest X) → Links s parent (Some n) f → InRow k f → times n f ≡ 0 → cond (is_link slot.previous n) slot.next (first f) ≡ first (without k f)
    next_of parent n bare h is apart = absurd is
    next_of parent n (node m key value below behind) h is apart =
        elim (nat_eq k m) as (λ b. nat_eq k m ≡ b → cond (is_link slot.previous n) slot.next (Some m) ≡ first (cond b behind (node m key value below (without k behind)))) [
          | true ↦ λ e.
              let slots : record { key = key; parent = parent; first_child = first below; previous = Some n; next = first behind; value = value } ≡ slot =
              slots_same s m _ slot h.0 (ap (get s) (sym (eqb-true k m e)) ∙ there) in
              (λ i. cond (is_link (sym slots i).previous n) (sym slots i).next (Some m)) ∙ ap (λ b. cond b (first behind) (Some m)) (eq-eqb n n refl)
          | false ↦ λ e.
              let later : InRow k behind = elim is [ inl same ↦ cc (e, eq-eqb k m same) | inr l ↦ l ] in
              let lies : LiesIn slot.previous (node m key value below behind) = elim (at_sibling s parent (Some m) behind k slot h.2 later there).0 [
                | inl p ↦ inr (m, p, omega (arith, one_of m))
                | inr p ↦ lies_more slot.previous behind (node m key value below behind) (λ x. omega arith) p
              ] in
              ap (λ b. cond b slot.next (Some m)) (link_out slot.previous (node m key value below behind) n lies apart)
        ] refl

    pub links_without : (parent previous : Option ℕ) (f : Forest X) → Links s parent previous f → InRow k f → ((n : ℕ) → times n f ≤ 1) → ((n : ℕ) → 0 < times n f → is_link previous n ≡ false) → Links t parent previous (without k f)
    links_without parent previous bare h is once out = absurd is
    links_without parent previous (node n key value below behind) h is once out =
        elim (nat_eq k n) as (λ b. nat_eq k n ≡ b → Links t parent previous (cond b behind (node n key value below (without k behind)))) [
          | true ↦ λ e.
              let same : k ≡ n = eqb-true k n e in
              let slots : record { key = key; parent = parent; first_child = first below; previous = previous; next = first behind; value = value } ≡ slot =
              slots_same s n _ slot h.0 (ap (get s) (sym same) ∙ there) in
              moved_up parent previous behind (subst (λ x. Links s parent (Some x) behind) (sym same) h.2) (λ m. omega (arith, once m))
              (omega (arith, once k, ap one_if e))
              (ap (λ (x : Slot X). x.previous) (sym slots)) (ap (λ (x : Slot X). x.next) (sym slots)) (λ m some. out m (omega (arith, some)))
          | false ↦ λ e.
              let later : InRow k behind = elim is [ inl same ↦ cc (e, eq-eqb k n same) | inr l ↦ l ] in
              let sibling = at_sibling s parent (Some n) behind k slot h.2 later there in
              let inside : 0 < times k behind = in_row_times k behind later in
              let alone : times n behind ≡ 0 = omega (arith, once n, one_of n) in
              let differ : n ≢ k = λ same. cc (e, eq-eqb k n (sym same)) in
              let q_out : is_link slot.next n ≡ false = link_out slot.next behind n sibling.1 alone in (
                each n differ ∙ ap (option_map (joined slot.previous slot.next n)) h.0
                    ∙ (λ i. Some (record {
                      key = key;
                      parent = parent;
                      first_child = first below;
                      previous = cond (q_out i) slot.previous previous;
                      next = next_of parent n behind h.2 later alone i;
                      value = value;
                    })),
                links_kept s t (Some n) None below h.1 (λ m some. untouched m
                    (λ same. absurd (omega (arith, some, once m, inside, ap (λ x. times x behind) same)))
                    (elim sibling.0 [
                      | inl p ↦ ap (λ o. is_link o m) p ∙ not_same m n (λ same. absurd (omega (arith, some, once m, one_of n, ap (λ x. one_if (nat_eq x n)) same)))
                      | inr p ↦ link_out slot.previous behind m p (omega (arith, some, once m))
                    ])
                    (link_out slot.next behind m sibling.1 (omega (arith, some, once m)))),
                links_without parent (Some n) behind h.2 later (λ m. omega (arith, once m)) (λ m some. not_same m n (λ same. absurd (omega (arith, some, alone, ap (λ x. times x behind) same)))),
              )
        ] refl
