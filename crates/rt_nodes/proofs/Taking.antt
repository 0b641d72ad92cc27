-- A node that is taken out of its row with all below it.
use Rattle.std.proofs.Common.{◌≡◌, ◌≢◌, ◌≤◌, ◌<◌, ◌⊎◌, inl, inr, ℕ, zero, suc, ◌+◌, Option, Some, None, true, false, cond, refl, sym, ap, subst, ◌∙◌, arith}
use Rattle.std.specs.Prelude.{nat_eq}
use Rattle.std.specs.Option.{option_map}
use Rattle.std.proofs.lemmas.Bool.{eqb-true, eq-eqb}
use Rattle.slab.specs.Slab.{Slab, get, slab_len, Updates}
use Rattle.rt_tree.specs.PathTree.{Key}
use Rattle.rt_nodes.specs.Forest.{Forest, bare, node, one_if, first, size, times, AllAfter, Sound, Links, IsRow, row_at}
use Rattle.rt_nodes.specs.Walks.{IsPlace}
use Rattle.rt_nodes.specs.Changes.{is_link, joined, InRow, without, below_of, Felled, Changed}
use Rattle.rt_nodes.specs.declared.nodes.Slot.{Slot}
use Rattle.rt_nodes.proofs.Reached.{row_at_is, place_of, locate, not_nowhere}
use Rattle.rt_nodes.proofs.Felling.{one_of, links_kept}
use Rattle.rt_nodes.proofs.Joining.{LiesIn, link_out, lies_first, lies_more, slots_same, in_row_times, untouched, links_without}

module _ {X : Type 0} where
  pub later_of : (k n : ℕ) (f : Forest X) → (k ≡ n) ⊎ InRow k f → nat_eq k n ≡ false → InRow k f
  later_of k n f is e = elim is [ inl same ↦ cc (e, eq-eqb k n same) | inr l ↦ l ]

  -- ---- the row without the node, and what stood below it
  pub times_without : (k : ℕ) (f : Forest X) → InRow k f → (m : ℕ) → times m f ≡ times m (without k f) + (one_if (nat_eq m k) + times m (below_of k f))
  times_without k bare is m = absurd is
  times_without k (node n key value below behind) is m =
      elim (nat_eq k n) as (λ b. nat_eq k n ≡ b → one_if (nat_eq m n) + (times m below + times m behind) ≡ times m (cond b behind (node n key value below (without k behind))) + (one_if (nat_eq m k) + times m (cond b below (below_of k behind)))) [
        | true ↦ λ e. omega (arith, ap (λ x. one_if (nat_eq m x)) (eqb-true k n e))
        | false ↦ λ e. omega (arith, times_without k behind (later_of k n behind is e) m)
      ] refl

  pub size_without : (k : ℕ) (f : Forest X) → InRow k f → size f ≡ suc (size (without k f) + size (below_of k f))
  size_without k bare is = absurd is
  size_without k (node n key value below behind) is =
      elim (nat_eq k n) as (λ b. nat_eq k n ≡ b → suc (size below + size behind) ≡ suc (size (cond b behind (node n key value below (without k behind))) + size (cond b below (below_of k behind)))) [
        | true ↦ λ e. omega arith
        | false ↦ λ e. omega (arith, size_without k behind (later_of k n behind is e))
      ] refl

  after_without : (k : ℕ) (j : Key) (f : Forest X) → AllAfter j f → AllAfter j (without k f)
  after_without k j bare h = tt
  after_without k j (node n key value below behind) h =
      elim (nat_eq k n) as (λ b. AllAfter j (cond b behind (node n key value below (without k behind)))) [
        | true ↦ h.1
        | false ↦ (h.0, after_without k j behind h.1)
      ]

  pub sound_without : (k : ℕ) (f : Forest X) → Sound f → Sound (without k f)
  sound_without k bare h = tt
  sound_without k (node n key value below behind) h =
      elim (nat_eq k n) as (λ b. Sound (cond b behind (node n key value below (without k behind)))) [
        | true ↦ h.2
        | false ↦ (after_without k key behind h.0, h.1, sound_without k behind h.2)
      ]

  pub sound_below : (k : ℕ) (f : Forest X) → Sound f → Sound (below_of k f)
  sound_below k bare h = tt
  sound_below k (node n key value below behind) h =
      elim (nat_eq k n) as (λ b. Sound (cond b below (below_of k behind))) [ true ↦ h.1 | false ↦ sound_below k behind h.2 ]

  pub links_below : (s : Slab (Slot X)) (parent previous : Option ℕ) (k : ℕ) (slot : Slot X) (f : Forest X) → Links s parent previous f → InRow k f → get s k ≡ Some slot
      → Links s (Some k) None (below_of k f) × (first (below_of k f) ≡ slot.first_child)
  links_below s parent previous k slot bare h is there = absurd is
  links_below s parent previous k slot (node n key value below behind) h is there =
      elim (nat_eq k n) as (λ b. nat_eq k n ≡ b → Links s (Some k) None (cond b below (below_of k behind)) × (first (cond b below (below_of k behind)) ≡ slot.first_child)) [
        | true ↦ λ e.
            let same : k ≡ n = eqb-true k n e in (
              subst (λ x. Links s (Some x) None below) (sym same) h.1,
              ap (λ (x : Slot X). x.first_child) (slots_same s n _ slot h.0 (ap (get s) (sym same) ∙ there)),
            )
        | false ↦ λ e. links_below s parent (Some n) k slot behind h.2 (later_of k n behind is e) there
      ] refl

  pub times_below_of : (j : ℕ) (f : Forest X) (m : ℕ) → times m (below_of j f) ≤ times m f
  times_below_of j bare m = omega arith
  times_below_of j (node x y l below behind) m =
      elim (nat_eq j x) as (λ c. times m (cond c below (below_of j behind)) ≤ one_if (nat_eq m x) + (times m below + times m behind)) [
        | true ↦ omega arith
        | false ↦ omega (arith, times_below_of j behind m)
      ]

  -- the row below a sibling
  module _ (s : Slab (Slot X)) (o parent : Option ℕ) (n : ℕ) (slot : Slot X) (row : IsRow s o parent None (row_at s o)) (is : InRow n (row_at s o)) (there : get s n ≡ Some slot) where
    in_below : IsRow s slot.first_child (Some n) None (below_of n (row_at s o))
    in_below =
        let links = links_below s parent None n slot (row_at s o) row.links is there in
        record { links = links.0; sound = sound_below n (row_at s o) row.sound; starts = links.1; fits = omega (arith, size_without n (row_at s o) is, row.fits) }

    pub below_is : row_at s slot.first_child ≡ below_of n (row_at s o)
    below_is = row_at_is s slot.first_child (Some n) None (below_of n (row_at s o)) in_below

    pub below_row : IsRow s slot.first_child (Some n) None (row_at s slot.first_child)
    below_row = subst (IsRow s slot.first_child (Some n) None) (sym below_is) in_below

    pub below_once : ((m : ℕ) → times m (row_at s o) ≤ 1) → (m : ℕ) → times m (row_at s slot.first_child) ≤ 1
    below_once once m = omega (arith, ap (times m) below_is, times_below_of n (row_at s o) m, once m)

  -- the siblings beside the node stand in the row without it
  pub beside : (s : Slab (Slot X)) (parent previous : Option ℕ) (f : Forest X) (k : ℕ) (slot : Slot X) → Links s parent previous f → InRow k f → get s k ≡ Some slot
      → ((slot.previous ≡ previous) ⊎ LiesIn slot.previous (without k f)) × LiesIn slot.next (without k f)
  beside s parent previous bare k slot h is there = absurd is
  beside s parent previous (node n key value below behind) k slot h is there =
      elim (nat_eq k n) as (λ b. nat_eq k n ≡ b → ((slot.previous ≡ previous) ⊎ LiesIn slot.previous (cond b behind (node n key value below (without k behind)))) × LiesIn slot.next (cond b behind (node n key value below (without k behind)))) [
        | true ↦ λ e.
            let slots : record { key = key; parent = parent; first_child = first below; previous = previous; next = first behind; value = value } ≡ slot =
            slots_same s n _ slot h.0 (ap (get s) (sym (eqb-true k n e)) ∙ there) in
            (inl (ap (λ (x : Slot X). x.previous) (sym slots)), subst (λ o. LiesIn o behind) (ap (λ (x : Slot X). x.next) slots) (lies_first behind))
        | false ↦ λ e.
            let rest = beside s parent (Some n) behind k slot h.2 (later_of k n behind is e) there in (
              inr (elim rest.0 [
                | inl p ↦ inr (n, p, omega (arith, one_of n))
                | inr p ↦ lies_more slot.previous (without k behind) (node n key value below (without k behind)) (λ m. omega arith) p
              ]),
              lies_more slot.next (without k behind) (node n key value below (without k behind)) (λ m. omega arith) rest.1,
            )
      ] refl

  some_previous : (s : Slab (Slot X)) (parent : Option ℕ) (x : ℕ) (f : Forest X) (k : ℕ) (slot : Slot X) → Links s parent (Some x) f → InRow k f → get s k ≡ Some slot → slot.previous ≡ None → ⊥
  some_previous s parent x bare k slot h is there none = absurd is
  some_previous s parent x (node n key value below behind) k slot h is there none = elim is [
    | inl same ↦
        let slots : record { key = key; parent = parent; first_child = first below; previous = Some x; next = first behind; value = value } ≡ slot =
        slots_same s n _ slot h.0 (ap (get s) (sym same) ∙ there) in
        cc (ap (λ (y : Slot X). y.previous) slots, none)
    | inr later ↦ some_previous s parent n behind k slot h.2 later there none
  ]

  -- the first that is left
  pub first_without : (s : Slab (Slot X)) (parent : Option ℕ) (f : Forest X) (k : ℕ) (slot : Slot X) → Links s parent None f → InRow k f → get s k ≡ Some slot
      → (slot.previous ≡ None → first (without k f) ≡ slot.next) × ((x : ℕ) → slot.previous ≡ Some x → first (without k f) ≡ first f)
  first_without s parent bare k slot h is there = absurd is
  first_without s parent (node n key value below behind) k slot h is there =
      elim (nat_eq k n) as (λ b. nat_eq k n ≡ b → (slot.previous ≡ None → first (cond b behind (node n key value below (without k behind))) ≡ slot.next) × ((x : ℕ) → slot.previous ≡ Some x → first (cond b behind (node n key value below (without k behind))) ≡ Some n)) [
        | true ↦ λ e.
            let slots : record { key = key; parent = parent; first_child = first below; previous = None; next = first behind; value = value } ≡ slot =
            slots_same s n _ slot h.0 (ap (get s) (sym (eqb-true k n e)) ∙ there) in
            (λ none. ap (λ (x : Slot X). x.next) slots, λ x some. cc (ap (λ (y : Slot X). y.previous) slots, some))
        | false ↦ λ e. (λ none. absurd (some_previous s parent n behind k slot h.2 (later_of k n behind is e) there none), λ x some. refl)
      ] refl

  pub not_there : (s : Slab (Slot X)) (o parent : Option ℕ) (f : Forest X) (k : ℕ) → IsRow s o parent None f → InRow k f → get s k ≡ None → ⊥
  not_there s o parent f k h is none = not_nowhere s k (locate s o parent None f h k (in_row_times k f is)) none

  -- ---- the steps
  module _ (s : Slab (Slot X)) (o parent : Option ℕ) (f : Forest X) (k : ℕ) (slot : Slot X) (u t : Slab (Slot X))
      (h : IsRow s o parent None f) (once : (n : ℕ) → times n f ≤ 1) (is : InRow k f) (there : get s k ≡ Some slot)
      (taken : Updates s u k None) (taken_len : slab_len u + 1 ≡ slab_len s)
      (each : (n : ℕ) → get t n ≡ option_map (joined slot.previous slot.next n) (get u n)) (len : slab_len t ≡ slab_len u) where
    others : (n : ℕ) → n ≢ k → get t n ≡ option_map (joined slot.previous slot.next n) (get s n)
    others n differ = each n ∙ ap (option_map (joined slot.previous slot.next n)) (taken.others n differ)

    the_node : get t k ≡ None
    the_node = each k ∙ ap (option_map (joined slot.previous slot.next k)) taken.changed

    counts : (n : ℕ) → times n f ≡ times n (without k f) + (one_if (nat_eq n k) + times n (below_of k f))
    counts n = times_without k f is n

    sizes : size f ≡ suc (size (without k f) + size (below_of k f))
    sizes = size_without k f is

    not_the_node : (n : ℕ) → one_if (nat_eq n k) ≡ 0 → n ≢ k
    not_the_node n none same = absurd (omega (arith, none, one_of k, ap (λ x. one_if (nat_eq x k)) same))

    -- what isn't left in the row is as it was, but for the node
    stays : (n : ℕ) → one_if (nat_eq n k) ≡ 0 → times n (without k f) ≡ 0 → get t n ≡ get s n
    stays n other none =
        let sides = beside s parent None f k slot h.links is there in
        untouched s t k slot there others n (not_the_node n other)
        (elim sides.0 [ inl p ↦ ap (λ x. is_link x n) p | inr p ↦ link_out slot.previous (without k f) n p none ])
        (link_out slot.next (without k f) n sides.1 none)

    fit : size f ≤ slab_len s
    fit = h.fits

    row_below : IsRow t slot.first_child (Some k) None (below_of k f)
    row_below =
        let kept : (n : ℕ) → 0 < times n (below_of k f) → get t n ≡ get s n =
        λ n some. stays n (omega (arith, some, counts n, once n)) (omega (arith, some, counts n, once n)) in
        let b = links_below s parent None k slot f h.links is there in
        record { links = links_kept s t (Some k) None (below_of k f) b.0 kept; sound = sound_below k f h.sound; starts = b.1; fits = omega (arith, sizes, fit, len, taken_len) }

    pub out_below : row_at t slot.first_child ≡ below_of k f
    out_below = row_at_is t slot.first_child (Some k) None (below_of k f) row_below

    pub out_place : IsPlace t slot.first_child
    out_place = place_of t slot.first_child (Some k) None (below_of k f) row_below

    pub out_once : (n : ℕ) → times n (row_at t slot.first_child) ≤ 1
    out_once n = omega (arith, ap (times n) out_below, counts n, once n)

    module _ (w : Slab (Slot X)) (felled : Felled t w (row_at t slot.first_child)) where
      times_below : (n : ℕ) → times n (row_at t slot.first_child) ≡ times n (below_of k f)
      times_below n = ap (times n) out_below

      links_left : Links t parent None (without k f)
      links_left = links_without s t k slot there others parent None f h.links is once (λ n some. refl)

      pub out_row : (r : Option ℕ) → first (without k f) ≡ r → IsRow w r parent None (without k f)
      out_row r starts = record {
        links = links_kept t w parent None (without k f) links_left (λ n some. felled.kept n (omega (arith, some, times_below n, counts n, once n)));
        sound = sound_without k f h.sound;
        starts = starts;
        fits = omega (arith, sizes, fit, len, taken_len, felled.len, ap size out_below);
      }

      gone_of : (n : ℕ) → 0 < times n f → times n (without k f) ≡ 0 → get w n ≡ None
      gone_of n some none = of (times n (below_of k f)) refl
        where
          of : (c : ℕ) → times n (below_of k f) ≡ c → get w n ≡ None
          of zero e =
              let same : nat_eq n k ≡ true = elim (nat_eq n k) as (λ b. nat_eq n k ≡ b → b ≡ true) [
                | true ↦ λ d. refl
                | false ↦ λ d. absurd (omega (arith, some, none, e, counts n, ap one_if d))
              ] refl in
              felled.kept n (omega (arith, times_below n, e)) ∙ ap (get t) (eqb-true n k same) ∙ the_node
          of (suc c) e = felled.gone n (omega (arith, times_below n, e))

      pub out_changed : Changed s w f (without k f)
      out_changed = record {
        kept = λ n none left. felled.kept n (omega (arith, times_below n, counts n, none)) ∙ stays n (omega (arith, counts n, none)) left;
        gone = gone_of;
        fresh = λ n some none. absurd (omega (arith, some, none, counts n));
        once = λ n. omega (arith, counts n, once n);
        len = omega (arith, sizes, len, taken_len, felled.len, ap size out_below);
      }
