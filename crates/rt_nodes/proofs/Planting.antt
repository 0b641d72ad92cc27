-- A node that is put into a row at the place of its key.
use Rattle.std.proofs.Common.{◌≡◌, ◌≤◌, ◌<◌, ◌⊎◌, inl, inr, ℕ, zero, suc, ◌+◌, Option, Some, None, false, cond, refl, sym, ap, ◌∙◌, arith}
use Rattle.std.specs.Prelude.{nat_eq}
use Rattle.std.specs.declared.cmp.Ordering.TheVariants.{Less, Equal, Greater}
use Rattle.std.specs.Ordering.{ordering_reverse}
use Rattle.std.specs.Option.{option_map}
use Rattle.std.specs.FinMap.Entries.{by_order}
use Rattle.std.proofs.lemmas.Bool.{eq-eqb}
use Rattle.slab.specs.Slab.{Slab, get, slab_len}
use Rattle.rt_tree.specs.PathTree.{Key}
use Rattle.rt_order.specs.KeyOrder.{key_cmp}
use Rattle.rt_order.specs.laws.KeyOrder.{key_cmp_total}
use Rattle.rt_nodes.specs.Forest.{Forest, bare, node, one_if, first, size, times, AllAfter, Sound, Links, IsRow}
use Rattle.rt_nodes.specs.Walks.{spot_in}
use Rattle.rt_nodes.specs.Changes.{is_link, linked_in, planted, Changed}
use Rattle.rt_nodes.specs.declared.nodes.SeekResult.TheVariants.{Here, Gap}
use Rattle.rt_nodes.specs.declared.nodes.Slot.{Slot}
use Rattle.rt_nodes.proofs.Reached.{locate, not_nowhere}
use Rattle.rt_nodes.proofs.Felling.{one_of, links_kept}
use Rattle.rt_nodes.proofs.Joining.{LiesIn, link_out, lies_first, lies_more, not_same}

module _ {X : Type 0} where
  -- a key that stands in front of the whole row
  pub spot_in-front : (k : Key) (f : Forest X) → AllAfter k f → spot_in k None f ≡ Gap None (first f)
  spot_in-front k bare after = refl
  spot_in-front k (node n key value below behind) after = ap (λ r. by_order r (Gap None (Some n)) (Here n) (spot_in k (Some n) behind)) after.0

  pub planted-front : (n : ℕ) (k : Key) (l : X) (b f : Forest X) → AllAfter k f → planted n k l b f ≡ node n k l b f
  planted-front n k l b bare after = refl
  planted-front n k l b (node m key value below behind) after =
      ap (λ r. by_order r (node n k l b (node m key value below behind)) (node m key value below behind) (node m key value below (planted n k l b behind))) after.0

  -- ---- how many nodes there are then
  pub times_planted : (n : ℕ) (k : Key) (l : X) (b f : Forest X) (o p q : Option ℕ) → spot_in k o f ≡ Gap p q → (m : ℕ) → times m (planted n k l b f) ≡ times m f + times m (node n k l b bare)
  times_planted n k l b bare o p q spot m = omega arith
  times_planted n k l b (node x key value below behind) o p q spot m =
      elim (key_cmp k key) as (λ r. by_order r (Gap o (Some x)) (Here x) (spot_in k (Some x) behind) ≡ Gap p q
      → times m (by_order r (node n k l b (node x key value below behind)) (node x key value below behind) (node x key value below (planted n k l b behind)))
      ≡ one_if (nat_eq m x) + (times m below + times m behind) + times m (node n k l b bare)) [
        | Less ↦ λ e. omega arith
        | Equal ↦ λ e. cc
        | Greater ↦ λ e. omega (arith, times_planted n k l b behind (Some x) p q e m)
      ] spot

  pub size_planted : (n : ℕ) (k : Key) (l : X) (b f : Forest X) (o p q : Option ℕ) → spot_in k o f ≡ Gap p q → size (planted n k l b f) ≡ size f + suc (size b)
  size_planted n k l b bare o p q spot = omega arith
  size_planted n k l b (node x key value below behind) o p q spot =
      elim (key_cmp k key) as (λ r. by_order r (Gap o (Some x)) (Here x) (spot_in k (Some x) behind) ≡ Gap p q
      → size (by_order r (node n k l b (node x key value below behind)) (node x key value below behind) (node x key value below (planted n k l b behind)))
      ≡ suc (size below + size behind) + suc (size b)) [
        | Less ↦ λ e. omega arith
        | Equal ↦ λ e. cc
        | Greater ↦ λ e. omega (arith, size_planted n k l b behind (Some x) p q e)
      ] spot

  -- ---- keys stay in order
  after_planted : (n : ℕ) (k : Key) (l : X) (b : Forest X) (j : Key) (f : Forest X) → AllAfter j f → key_cmp j k ≡ Less → AllAfter j (planted n k l b f)
  after_planted n k l b j bare h less = (less, tt)
  after_planted n k l b j (node m key value below behind) h less =
      elim (key_cmp k key) as (λ r. AllAfter j (by_order r (node n k l b (node m key value below behind)) (node m key value below behind) (node m key value below (planted n k l b behind)))) [
        | Less ↦ (less, h)
        | Equal ↦ h
        | Greater ↦ (h.0, after_planted n k l b j behind h.1 less)
      ]

  all_after : (k key : Key) (f : Forest X) → key_cmp k key ≡ Less → AllAfter key f → AllAfter k f
  all_after k key bare less h = tt
  all_after k key (node m j value below behind) less h = (key_cmp_total.trans k key j less h.0, all_after k key behind less h.1)

  pub sound_planted : (n : ℕ) (k : Key) (l : X) (b f : Forest X) → Sound f → Sound b → Sound (planted n k l b f)
  sound_planted n k l b bare h sound = (tt, sound, tt)
  sound_planted n k l b (node m key value below behind) h sound =
      elim (key_cmp k key) as (λ r. key_cmp k key ≡ r → Sound (by_order r (node n k l b (node m key value below behind)) (node m key value below behind) (node m key value below (planted n k l b behind)))) [
        | Less ↦ λ order. ((order, all_after k key behind order h.0), sound, h)
        | Equal ↦ λ order. h
        | Greater ↦ λ order.
            (after_planted n k l b key behind h.0 (key_cmp_total.antisymm key k ∙ ap ordering_reverse order), h.1, sound_planted n k l b behind h.2 sound)
      ] refl

  -- ---- the siblings on both sides
  abbrev StandsIn : Option ℕ → Forest X → Type 0
  StandsIn o f = (m : ℕ) × (o ≡ Some m) × (0 < times m f)

  stands_from : (p : Option ℕ) (m : ℕ) (key : Key) (value : X) (below behind : Forest X) → (p ≡ Some m) ⊎ StandsIn p behind → StandsIn p (node m key value below behind)
  stands_from p m key value below behind is = elim is [
    | inl e ↦ (m, e, omega (arith, one_of m))
    | inr e ↦ (e.0, e.1, omega (arith, e.2))
  ]

  spot_lies : (k : Key) (o : Option ℕ) (f : Forest X) (p q : Option ℕ) → spot_in k o f ≡ Gap p q → ((p ≡ o) ⊎ StandsIn p f) × LiesIn q f
  spot_lies k o bare p q spot = (inl cc, inl cc)
  spot_lies k o (node m key value below behind) p q spot =
      elim (key_cmp k key) as (λ r. by_order r (Gap o (Some m)) (Here m) (spot_in k (Some m) behind) ≡ Gap p q
      → ((p ≡ o) ⊎ StandsIn p (node m key value below behind)) × LiesIn q (node m key value below behind)) [
        | Less ↦ λ e. (inl cc, inr (m, cc, omega (arith, one_of m)))
        | Equal ↦ λ e. cc
        | Greater ↦ λ e.
            let rest = spot_lies k (Some m) behind p q e in
            (inr (stands_from p m key value below behind rest.0), lies_more q behind (node m key value below behind) (λ x. omega arith) rest.1)
      ] spot

  untouched_in : (p q : Option ℕ) (n m : ℕ) (o : Option (Slot X)) → nat_eq m n ≡ false → is_link p m ≡ false → is_link q m ≡ false → option_map (linked_in p n q m) o ≡ o
  untouched_in p q n m None other e f = refl
  untouched_in p q n m (Some slot) other e f =
      λ i. Some (record slot { next = cond (other i) q (cond (e i) (Some n) slot.next); previous = cond (f i) (Some n) (cond (other i) p slot.previous) })

  -- t after the node was made, u after it was linked
  module _ (t u : Slab (Slot X)) (parent p q : Option ℕ) (n : ℕ) (k : Key) (l : X) (b : Forest X)
      (new : Links t parent None (node n k l b bare)) (each : (m : ℕ) → get u m ≡ option_map (linked_in p n q m) (get t m)) where
    stays : (m : ℕ) → nat_eq m n ≡ false → is_link p m ≡ false → is_link q m ≡ false → get u m ≡ get t m
    stays m other e f = each m ∙ untouched_in p q n m (get t m) other e f

    -- a number of the row, which isn't one of the node's
    other_than : (f : Forest X) → ((m : ℕ) → times m f + times m (node n k l b bare) ≤ 1) → (m : ℕ) → 0 < times m f → nat_eq m n ≡ false
    other_than f once m some = not_same m n (λ same. absurd (omega (arith, some, once m, one_of n, ap (λ x. one_if (nat_eq x n)) same)))

    -- what stands behind the node
    links_behind : (previous : Option ℕ) (f : Forest X) → Links t parent previous f → ((m : ℕ) → times m f + times m (node n k l b bare) ≤ 1)
        → q ≡ first f → ((m : ℕ) → 0 < times m f → is_link p m ≡ false) → Links u parent (Some n) f
    links_behind previous bare h once is_q out = tt
    links_behind previous (node m key value below behind) h once is_q out =
        let here : 0 < times m (node m key value below behind) = omega (arith, one_of m) in
        let other : nat_eq m n ≡ false = other_than (node m key value below behind) once m here in (
          each m ∙ ap (option_map (linked_in p n q m)) h.0
              ∙ (λ i. Some (record {
                key = key;
                parent = parent;
                first_child = first below;
                previous = cond (is_link (is_q i) m) (Some n) (cond (other i) p previous);
                next = cond (other i) q (cond (out m here i) (Some n) (first behind));
                value = value;
              }))
              ∙ (λ i. Some (record {
                key = key;
                parent = parent;
                first_child = first below;
                previous = cond (eq-eqb m m refl i) (Some n) previous;
                next = first behind;
                value = value;
              })),
          links_kept t u (Some m) None below h.1 (λ j some. same_at j (omega (arith, some)) (omega (arith, some, once j))),
          links_kept t u parent (Some m) behind h.2 (λ j some. same_at j (omega (arith, some)) (omega (arith, some, once j))),
        )
      where
        same_at : (j : ℕ) → 0 < times j (node m key value below behind) → one_if (nat_eq j m) ≡ 0 → get u j ≡ get t j
        same_at j some none = stays j (other_than (node m key value below behind) once j some) (out j some)
            (ap (λ o. is_link o j) is_q ∙ not_same j m (λ same. absurd (omega (arith, none, one_of m, ap (λ x. one_if (nat_eq x m)) same))))

    -- the node in front of a row
    links_front : (previous before : Option ℕ) (f : Forest X) → Links t parent before f → ((m : ℕ) → times m f + times m (node n k l b bare) ≤ 1)
        → p ≡ previous → q ≡ first f → ((m : ℕ) → 0 < times m f + times m (node n k l b bare) → is_link previous m ≡ false) → Links u parent previous (node n k l b f)
    links_front previous before f h once is_p is_q out =
        let p_out : (m : ℕ) → 0 < times m f + times m (node n k l b bare) → is_link p m ≡ false = λ m some. ap (λ o. is_link o m) is_p ∙ out m some in
        let q_out : (m : ℕ) → times m f ≡ 0 → is_link q m ≡ false = λ m none. ap (λ o. is_link o m) is_q ∙ link_out (first f) f m (lies_first f) none in
        let alone : is_link q n ≡ false = q_out n (omega (arith, once n, one_of n)) in (
          each n ∙ ap (option_map (linked_in p n q n)) new.0
              ∙ (λ i. Some (record {
                key = k;
                parent = parent;
                first_child = first b;
                previous = cond (alone i) (Some n) (cond (eq-eqb n n refl i) p None);
                next = cond (eq-eqb n n refl i) q (cond (is_link p n) (Some n) None);
                value = l;
              }))
              ∙ (λ i. Some (record { key = k; parent = parent; first_child = first b; previous = is_p i; next = is_q i; value = l })),
          links_kept t u (Some n) None b new.1 (λ m some. stays m
              (not_same m n (λ same. absurd (omega (arith, some, once m, one_of n, ap (λ x. one_if (nat_eq x n)) same))))
              (p_out m (omega (arith, some))) (q_out m (omega (arith, some, once m)))),
          links_behind before f h once is_q (λ m some. p_out m (omega (arith, some))),
        )

    -- the link of the sibling in front
    next_in : (m : ℕ) (f : Forest X) → spot_in k (Some m) f ≡ Gap p q → times m f ≡ 0 → cond (is_link p m) (Some n) (first f) ≡ first (planted n k l b f)
    next_in m bare spot apart = let is_p : p ≡ Some m = cc in ap (λ o. cond (is_link o m) (Some n) None) is_p ∙ ap (λ c. cond c (Some n) None) (eq-eqb m m refl)
    next_in m (node j key value below behind) spot apart =
        elim (key_cmp k key) as (λ r. by_order r (Gap (Some m) (Some j)) (Here j) (spot_in k (Some j) behind) ≡ Gap p q
        → cond (is_link p m) (Some n) (Some j)
        ≡ first (by_order r (node n k l b (node j key value below behind)) (node j key value below behind) (node j key value below (planted n k l b behind)))) [
          | Less ↦ λ e. let is_p : p ≡ Some m = cc in ap (λ o. cond (is_link o m) (Some n) (Some j)) is_p ∙ ap (λ c. cond c (Some n) (Some j)) (eq-eqb m m refl)
          | Equal ↦ λ e. cc
          | Greater ↦ λ e.
              let lies = stands_from p j key value below behind (spot_lies k (Some j) behind p q e).0 in
              ap (λ c. cond c (Some n) (Some j)) (link_out p (node j key value below behind) m (inr lies) apart)
        ] spot

    pub links_planted : (previous : Option ℕ) (f : Forest X) → Links t parent previous f → ((m : ℕ) → times m f + times m (node n k l b bare) ≤ 1) → spot_in k previous f ≡ Gap p q
        → ((m : ℕ) → 0 < times m f + times m (node n k l b bare) → is_link previous m ≡ false) → Links u parent previous (planted n k l b f)
    links_planted previous bare h once spot out = links_front previous previous bare h once (cc) (cc) out
    links_planted previous (node m key value below behind) h once spot out =
        elim (key_cmp k key) as (λ r. by_order r (Gap previous (Some m)) (Here m) (spot_in k (Some m) behind) ≡ Gap p q
        → Links u parent previous (by_order r (node n k l b (node m key value below behind)) (node m key value below behind) (node m key value below (planted n k l b behind)))) [
          | Less ↦ λ e. links_front previous previous (node m key value below behind) h once (cc) (cc) out
          | Equal ↦ λ e. cc
          | Greater ↦ λ e.
              let sides = spot_lies k (Some m) behind p q e in
              let alone : times m behind ≡ 0 = omega (arith, once m, one_of m) in
              let other : (j : ℕ) → 0 < times j (node m key value below behind) → nat_eq j n ≡ false = other_than (node m key value below behind) once in
              let other_m : nat_eq m n ≡ false = other m (omega (arith, one_of m)) in
              let q_out : is_link q m ≡ false = link_out q behind m sides.1 alone in (
                each m ∙ ap (option_map (linked_in p n q m)) h.0
                    ∙ (λ i. Some (record {
                      key = key;
                      parent = parent;
                      first_child = first below;
                      previous = cond (q_out i) (Some n) (cond (other_m i) p previous);
                      next = cond (other_m i) q (next_in m behind e alone i);
                      value = value;
                    })),
                links_kept t u (Some m) None below h.1 (λ j some. stays j (other j (omega (arith, some)))
                    (elim sides.0 [
                      | inl is ↦ ap (λ o. is_link o j) is ∙ not_same j m (λ same. absurd (omega (arith, some, once j, one_of m, ap (λ x. one_if (nat_eq x m)) same)))
                      | inr is ↦ link_out p behind j (inr is) (omega (arith, some, once j))
                    ])
                    (link_out q behind j sides.1 (omega (arith, some, once j)))),
                links_planted (Some m) behind h.2 (λ j. omega (arith, once j)) e
                    (λ j some. not_same j m (λ same. absurd (omega (arith, some, once j, one_of m, ap (λ x. one_if (nat_eq x m)) same)))),
              )
        ] spot

  -- s before, t after the node was made, u after it was linked
  module _ (s t u : Slab (Slot X)) (o parent p q : Option ℕ) (f : Forest X) (n : ℕ) (k : Key) (l : X) (b : Forest X)
      (h : IsRow s o parent None f) (once : (m : ℕ) → times m f ≤ 1) (spot : spot_in k None f ≡ Gap p q)
      (new : IsRow t (Some n) parent None (node n k l b bare)) (grown : Changed s t bare (node n k l b bare))
      (each : (m : ℕ) → get u m ≡ option_map (linked_in p n q m) (get t m)) (len : slab_len u ≡ slab_len t) where
    counts : (m : ℕ) → times m (planted n k l b f) ≡ times m f + times m (node n k l b bare)
    counts m = times_planted n k l b f None p q spot m

    sizes : size (planted n k l b f) ≡ size f + suc (size b)
    sizes = size_planted n k l b f None p q spot

    -- the node took only vacant numbers
    apart : (m : ℕ) → 0 < times m f → times m (node n k l b bare) ≡ 0
    apart m there = of (times m (node n k l b bare)) refl
      where
        of : (c : ℕ) → times m (node n k l b bare) ≡ c → c ≡ 0
        of zero e = refl
        of (suc c) e = absurd (not_nowhere s m (locate s o parent None f h m there) (grown.fresh m (omega (arith, e)) refl))

    once_both : (m : ℕ) → times m f + times m (node n k l b bare) ≤ 1
    once_both m = of (times m f) refl
      where
        of : (c : ℕ) → times m f ≡ c → times m f + times m (node n k l b bare) ≤ 1
        of zero e = omega (arith, e, grown.once m)
        of (suc c) e = omega (arith, once m, apart m (omega (arith, e)))

    pub planted_row : (r : Option ℕ) → (p ≡ None → r ≡ Some n) → ((x : ℕ) → p ≡ Some x → r ≡ o) → IsRow u r parent None (planted n k l b f)
    planted_row r front later = record {
      links = links_planted t u parent p q n k l b new.links each None f (links_kept s t parent None f h.links (λ m some. grown.kept m refl (apart m some))) once_both spot (λ m some. refl);
      sound = sound_planted n k l b f h.sound new.sound.1;
      starts = starts f h.starts spot;
      fits = omega (arith, sizes, grown.len, h.fits, len);
    }
      where
        starts : (g : Forest X) → first g ≡ o → spot_in k None g ≡ Gap p q → first (planted n k l b g) ≡ r
        starts bare e at = sym (front cc)
        starts (node m key value below behind) e at =
            elim (key_cmp k key) as (λ c. by_order c (Gap None (Some m)) (Here m) (spot_in k (Some m) behind) ≡ Gap p q
            → first (by_order c (node n k l b (node m key value below behind)) (node m key value below behind) (node m key value below (planted n k l b behind))) ≡ r) [
              | Less ↦ λ at_here. sym (front cc)
              | Equal ↦ λ at_here. cc
              | Greater ↦ λ at_later.
                  let lies = stands_from p m key value below behind (spot_lies k (Some m) behind p q at_later).0 in
                  e ∙ sym (later lies.0 lies.1)
            ] at

    pub planted_changed : Changed s u f (planted n k l b f)
    planted_changed = record {
      kept = λ m none left.
          let sides = spot_lies k None f p q spot in
          each m ∙ untouched_in p q n m (get t m)
          (not_same m n (λ same. absurd (omega (arith, counts m, left, one_of n, ap (λ x. one_if (nat_eq x n)) same))))
          (elim sides.0 [ inl is ↦ ap (λ x. is_link x m) is | inr is ↦ link_out p f m (inr is) none ])
          (link_out q f m sides.1 none)
          ∙ grown.kept m refl (omega (arith, counts m, none, left));
      gone = λ m some none. absurd (omega (arith, counts m, some, none));
      fresh = λ m some none. grown.fresh m (omega (arith, counts m, some, none)) refl;
      once = λ m. omega (arith, counts m, once_both m);
      len = omega (arith, sizes, grown.len, len);
    }
