-- Nodes that are made, and rows that give way to them.
use Rattle.std.proofs.Common.{◌≡◌, ◌≢◌, ◌≤◌, ◌<◌, ℕ, zero, suc, ◌+◌, Option, Some, None, true, false, is_some, refl, sym, ap, subst, ◌∙◌, arith}
use Rattle.std.specs.Prelude.{nat_eq}
use Rattle.std.specs.Option.{option_map, option_map_or}
use Rattle.std.proofs.lemmas.Bool.{eqb-true}
use Rattle.slab.specs.Slab.{Slab, get, slab_len, Updates}
use Rattle.rt_tree.specs.PathTree.{Key}
use Rattle.rt_nodes.specs.Forest.{Forest, bare, node, one_if, first, size, times, reached, IsRow, row_at}
use Rattle.rt_nodes.specs.Walks.{IsPlace}
use Rattle.rt_nodes.specs.Changes.{Same, Felled, Changed, Grown, with_content}
use Rattle.rt_nodes.specs.declared.nodes.Slot.{Slot}
use Rattle.rt_nodes.proofs.Reached.{row_at_is, row_at-none, place_of, locate, not_nowhere}
use Rattle.rt_nodes.proofs.Felling.{one_of, links_kept, row_kept}

-- ---- each number stands in a row at most once
pub at_most_one : {A : Type 0} (o : Option A) → one_if (is_some o) ≤ 1
at_most_one None = omega arith
at_most_one (Some x) = omega arith

there_is : {A : Type 0} (o : Option A) → (o ≡ None → ⊥) → one_if (is_some o) ≡ 1
there_is None h = absurd (h refl)
there_is (Some x) h = refl

module _ {X : Type 0} where
  -- ---- nothing was made yet
  pub grown_none : (s : Slab (Slot X)) (parent : Option ℕ) → Grown s s None parent
  grown_none s parent =
      let is : row_at s None ≡ bare = row_at-none s in record {
        row = subst (IsRow s None parent None) (sym is) (record { links = tt; sound = tt; starts = refl; fits = omega arith });
        changed = subst (Changed s s bare) (sym is) (record {
          kept = λ n none left. refl;
          gone = λ n some left. absurd (omega (arith, some));
          fresh = λ n some none. absurd (omega (arith, some));
          once = λ n. omega arith;
          len = refl;
        });
      }

  -- nodes that were made became others
  pub changed_then : (s t u : Slab (Slot X)) (f g : Forest X) → Changed s t bare f → Changed t u f g → Changed s u bare g
  changed_then s t u f g a b = record {
    kept = λ n none left. kept n left (times n f) refl;
    gone = λ n some left. absurd (omega (arith, some));
    fresh = λ n some none. fresh n some (times n f) refl;
    once = b.once;
    len = omega (arith, a.len, b.len);
  }
    where
      kept : (n : ℕ) → times n g ≡ 0 → (c : ℕ) → times n f ≡ c → get u n ≡ get s n
      kept n left zero e = b.kept n e left ∙ a.kept n refl e
      kept n left (suc c) e =
          let some : 0 < times n f = omega (arith, e) in
          b.gone n some left ∙ sym (a.fresh n some refl)

      fresh : (n : ℕ) → 0 < times n g → (c : ℕ) → times n f ≡ c → get s n ≡ None
      fresh n some zero e = sym (a.kept n refl e) ∙ b.fresh n some e
      fresh n some (suc c) e = a.fresh n (omega (arith, e)) refl

  -- ---- what was made is taken out again
  module _ (s t u : Slab (Slot X)) (o parent : Option ℕ) (h : Grown s t o parent) (same : Same t u) where
    still : IsRow u o parent None (row_at t o)
    still =
        let fits : size (row_at t o) ≤ slab_len t = h.row.fits in
        row_kept t u o parent None (row_at t o) h.row (λ n some. same.kept n) (omega (arith, fits, same.len))

    still_is : row_at u o ≡ row_at t o
    still_is = row_at_is u o parent None (row_at t o) still

    pub still_place : IsPlace u o
    still_place = place_of u o parent None (row_at t o) still

    pub still_once : (n : ℕ) → times n (row_at u o) ≤ 1
    still_once n = omega (arith, ap (times n) still_is, h.changed.once n)

    pub undone : (w : Slab (Slot X)) → Felled u w (row_at u o) → Same s w
    undone w felled = record {
      kept = λ n. kept n (times n (row_at t o)) refl;
      len = let len : slab_len t + 0 ≡ slab_len s + size (row_at t o) = h.changed.len in omega (arith, felled.len, same.len, len, ap size still_is);
    }
      where
        kept : (n : ℕ) (c : ℕ) → times n (row_at t o) ≡ c → get w n ≡ get s n
        kept n zero e = felled.kept n (ap (times n) still_is ∙ e) ∙ same.kept n ∙ h.changed.kept n refl e
        kept n (suc c) e = felled.gone n (omega (arith, ap (times n) still_is, e)) ∙ sym (h.changed.fresh n (omega (arith, e)) refl)

  -- ---- one node: s before, u with the node, t with what stands below it, v with both linked
  module _ (s u : Slab (Slot X)) (n : ℕ) (key : Key) (parent : Option ℕ) (at_first : X) (vacant : get s n ≡ None)
      (put_in : Updates s u n (Some (record { key = key; parent = parent; first_child = None; previous = None; next = None; value = at_first }))) (more : slab_len u ≡ slab_len s + 1)
      (t v : Slab (Slot X)) (value : X) (o : Option ℕ) (B : Forest X) (is_row : IsRow t o (Some n) None B) (below : Changed u t bare B)
      (written : get v n ≡ option_map (with_content value o) (get t n)) (others : (m : ℕ) → m ≢ n → get v m ≡ get t m) (len : slab_len v ≡ slab_len t) where
    apart : (m : ℕ) → 0 < times m B → m ≢ n
    apart m some same = cc (ap is_some (sym (below.fresh m some refl) ∙ ap (get u) same ∙ put_in.changed))

    lens : slab_len v ≡ slab_len s + suc (size B)
    lens = omega (arith, below.len, len, more)

    none_below : times n B ≡ 0
    none_below = of (times n B) refl
      where
        of : (c : ℕ) → times n B ≡ c → c ≡ 0
        of zero e = refl
        of (suc c) e = absurd (apart n (omega (arith, e)) refl)

    there : get v n ≡ Some (record { key = key; parent = parent; first_child = first B; previous = None; next = None; value = value })
    there =
        written ∙ ap (option_map (with_content value o)) (below.kept n refl none_below ∙ put_in.changed)
        ∙ ap (λ x. Some (record { key = key; parent = parent; first_child = x; previous = None; next = None; value = value })) (sym is_row.starts)

    row : IsRow v (Some n) parent None (node n key value B bare)
    row = record {
      links = (there, links_kept t v (Some n) None B is_row.links (λ m some. others m (apart m some)), tt);
      sound = (tt, is_row.sound, tt);
      starts = refl;
      fits = omega (arith, lens);
    }

    beside : (m : ℕ) → one_if (nat_eq m n) ≡ 0 → m ≢ n
    beside m none same = absurd (omega (arith, none, one_of n, ap (λ x. one_if (nat_eq x n)) same))

    either : (A : Type 0) (m : ℕ) → (m ≡ n → A) → (one_if (nat_eq m n) ≡ 0 → A) → A
    either A m f g = elim (nat_eq m n) as (λ b. nat_eq m n ≡ b → A) [ true ↦ λ e. f (eqb-true m n e) | false ↦ λ e. g (ap one_if e) ] refl

    changed : Changed s v bare (node n key value B bare)
    changed = record {
      kept = λ m none left.
          let other : m ≢ n = beside m (omega (arith, left)) in
          others m other ∙ below.kept m refl (omega (arith, left)) ∙ put_in.others m other;
      gone = λ m some left. absurd (omega (arith, some));
      fresh = λ m some none. either (get s m ≡ None) m (λ same. ap (get s) same ∙ vacant) (λ other.
          let inside : 0 < times m B = omega (arith, some, other) in
          sym (put_in.others m (apart m inside)) ∙ below.fresh m inside refl);
      once = λ m. either (times m (node n key value B bare) ≤ 1) m
          (λ same. omega (arith, ap (λ x. times x B) same, none_below, ap (λ x. one_if (nat_eq x n)) same, one_of n))
          (λ other. omega (arith, other, below.once m));
      len = omega (arith, lens);
    }

    pub one_is : row_at v (Some n) ≡ node n key value B bare
    one_is = row_at_is v (Some n) parent None (node n key value B bare) row

    pub one_grown : Grown s v (Some n) parent
    one_grown = record { row = subst (IsRow v (Some n) parent None) (sym one_is) row; changed = subst (Changed s v bare) (sym one_is) changed }

  -- ---- a row that gives way to one that was grown
  module _ (s t : Slab (Slot X)) (o r parent : Option ℕ) (row : IsRow s o parent None (row_at s o)) (once : (m : ℕ) → times m (row_at s o) ≤ 1) (grown : Grown s t r parent) where
    fresh : (m : ℕ) → 0 < times m (row_at s o) → times m (row_at t r) ≡ 0
    fresh m some = of (times m (row_at t r)) refl
      where
        of : (c : ℕ) → times m (row_at t r) ≡ c → c ≡ 0
        of zero e = refl
        of (suc c) e = absurd (not_nowhere s m (locate s o parent None (row_at s o) row m some) (grown.changed.fresh m (omega (arith, e)) refl))

    old_row : IsRow t o parent None (row_at s o)
    old_row = row_kept s t o parent None (row_at s o) row (λ m some. grown.changed.kept m refl (fresh m some)) (omega (arith, row.fits, grown.changed.len))

    old_is : row_at t o ≡ row_at s o
    old_is = row_at_is t o parent None (row_at s o) old_row

    pub old_place : IsPlace t o
    old_place = place_of t o parent None (row_at s o) old_row

    pub old_once : (m : ℕ) → times m (row_at t o) ≤ 1
    old_once m = omega (arith, ap (times m) old_is, once m)

    module _ (u : Slab (Slot X)) (felled : Felled t u (row_at t o)) where
      gone : Felled t u (row_at s o)
      gone = subst (Felled t u) old_is felled

      sizes : slab_len u + size (row_at s o) ≡ slab_len s + size (row_at t r)
      sizes = omega (arith, gone.len, grown.changed.len)

      not_both : (m : ℕ) → 0 < times m (row_at t r) → times m (row_at s o) ≡ 0
      not_both m there = none_of (times m (row_at s o)) (times m (row_at t r)) there (fresh m)
        where
          none_of : (c d : ℕ) → 0 < d → (0 < c → d ≡ 0) → c ≡ 0
          none_of zero d there h = refl
          none_of (suc c) d there h = absurd (omega (arith, there, h (omega arith)))

      pub swapped_row : IsRow u r parent None (row_at t r)
      swapped_row = row_kept t u r parent None (row_at t r) grown.row (λ m there. gone.kept m (not_both m there)) (omega (arith, sizes, row.fits))

      pub swapped : Changed s u (row_at s o) (row_at t r)
      swapped = record {
        kept = λ m none left. gone.kept m none ∙ grown.changed.kept m refl left;
        gone = λ m there left. gone.gone m there;
        fresh = λ m there none. grown.changed.fresh m there refl;
        once = grown.changed.once;
        len = sizes;
      }

  -- a number of the new row is there, and any other isn't
  pub once_after : (s t : Slab (Slot X)) (o parent previous : Option ℕ) (f g : Forest X) → IsRow t o parent previous g → Changed s t f g
      → (n : ℕ) → times n f ≡ one_if (is_some (get s n)) → times n g ≡ one_if (is_some (get t n))
  once_after s t o parent previous f g row changed n was = of (times n f) refl (times n g) refl
    where
      of : (c : ℕ) → times n f ≡ c → (d : ℕ) → times n g ≡ d → times n g ≡ one_if (is_some (get t n))
      of zero e zero d = d ∙ sym e ∙ was ∙ ap (λ x. one_if (is_some x)) (sym (changed.kept n e d))
      of (suc c) e zero d = d ∙ ap (λ x. one_if (is_some x)) (sym (changed.gone n (omega (arith, e)) d))
      of c e (suc d) g_has = omega (arith, g_has, changed.once n, there_is (get t n) (not_nowhere t n (locate t o parent previous g row n (omega (arith, g_has)))))

  -- ---- the nodes are as they were
  step_same : (f g : Option ℕ → Forest X) → ((o : Option ℕ) → f o ≡ g o) → (n : ℕ) (o : Option (Slot X))
      → option_map_or (λ (slot : Slot X). node n slot.key slot.value (f slot.first_child) (f slot.next)) o bare ≡ option_map_or (λ (slot : Slot X). node n slot.key slot.value (g slot.first_child) (g slot.next)) o bare
  step_same f g same n None = refl
  step_same f g same n (Some slot) = (λ i. node n slot.key slot.value (same slot.first_child i) (same slot.next i))

  reached_same : (m : ℕ) (s t : Slab (Slot X)) → Same s t → (o : Option ℕ) → reached m t o ≡ reached m s o
  reached_same zero s t same o = refl
  reached_same (suc m) s t same None = refl
  reached_same (suc m) s t same (Some n) =
      step_same (reached m t) (reached m s) (reached_same m s t same) n (get t n)
      ∙ ap (λ x. option_map_or (λ (slot : Slot X). node n slot.key slot.value (reached m s slot.first_child) (reached m s slot.next)) x bare) (same.kept n)

  pub row_at_same : (s t : Slab (Slot X)) → Same s t → (o : Option ℕ) → row_at t o ≡ row_at s o
  row_at_same s t same o = ap (λ m. reached m t o) same.len ∙ reached_same (slab_len s) s t same o

  -- ---- some changes
  -- all nodes are taken out
  pub felled_changed : (s t : Slab (Slot X)) (f : Forest X) → Felled s t f → Changed s t f bare
  felled_changed s t f h = record {
    kept = λ n none _. h.kept n none;
    gone = λ n some _. h.gone n some;
    fresh = λ n some none. absurd (omega (arith, some));
    once = λ n. omega arith;
    len = omega (arith, h.len);
  }

  -- nothing changed
  pub same_changed : (s : Slab (Slot X)) (f : Forest X) → ((n : ℕ) → times n f ≤ 1) → Changed s s f f
  same_changed s f once = record { kept = λ n none none2. refl; gone = λ n some none. absurd (omega (arith, some, none)); fresh = λ n some none. absurd (omega (arith, some, none)); once = once; len = refl }
