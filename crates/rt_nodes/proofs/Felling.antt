-- Nodes that are taken out, and rows that stay as they were.
use Rattle.std.proofs.Common.{◌≡◌, ◌≢◌, ◌≤◌, ◌<◌, ℕ, zero, suc, ◌+◌, Option, Some, None, Bool, true, false, refl, sym, ap, subst, ◌∙◌, arith}
use Rattle.std.specs.Prelude.{nat_eq}
use Rattle.std.proofs.lemmas.Bool.{eqb-true, eq-eqb}
use Rattle.slab.specs.Slab.{Slab, get, slab_len, Updates}
use Rattle.rt_nodes.specs.Forest.{Forest, bare, node, one_if, size, times, Links, IsRow, row_at}
use Rattle.rt_nodes.specs.Walks.{IsPlace}
use Rattle.rt_nodes.specs.Changes.{Felled}
use Rattle.rt_nodes.specs.declared.nodes.Slot.{Slot}
use Rattle.rt_nodes.proofs.Reached.{IsAt, at_place, row_at_is, row_at-none, place_of, not_nowhere}

-- ---- what stays
pub one_of : (n : ℕ) → one_if (nat_eq n n) ≡ 1
one_of n = ap one_if (eq-eqb n n refl)

not_of : (m n : ℕ) → m ≢ n → one_if (nat_eq m n) ≡ 0
not_of m n differ = elim (nat_eq m n) as (λ b. nat_eq m n ≡ b → one_if b ≡ 0) [
  | true ↦ λ e. absurd (differ (eqb-true m n e))
  | false ↦ λ e. refl
] refl

module _ {X : Type 0} where
  -- links stay where each node of the row does
  pub links_kept : (s t : Slab (Slot X)) (parent previous : Option ℕ) (f : Forest X) → Links s parent previous f → ((n : ℕ) → 0 < times n f → get t n ≡ get s n) → Links t parent previous f
  links_kept s t parent previous bare h same = tt
  links_kept s t parent previous (node n key value below behind) h same = (
    same n (omega (arith, one_of n)) ∙ h.0,
    links_kept s t (Some n) None below h.1 (λ m some. same m (omega (arith, some))),
    links_kept s t parent (Some n) behind h.2 (λ m some. same m (omega (arith, some))),
  )

  pub row_kept : (s t : Slab (Slot X)) (o parent previous : Option ℕ) (f : Forest X) → IsRow s o parent previous f → ((n : ℕ) → 0 < times n f → get t n ≡ get s n) → size f ≤ slab_len t → IsRow t o parent previous f
  row_kept s t o parent previous f h same fits = record { links = links_kept s t parent previous f h.links same; sound = h.sound; starts = h.starts; fits = fits }

  -- ---- a node taken out, and then all below it
  pub record Felling (s : Slab (Slot X)) (f : Forest X) (t : Slab (Slot X)) (o : Option ℕ) : Type 0 where
    pub place : IsPlace t o
    pub once : (n : ℕ) → times n (row_at t o) ≤ 1
    pub within : (n : ℕ) → times n (row_at t o) ≤ times n f
    pub gone : (n : ℕ) → 0 < times n f → times n (row_at t o) ≡ 0 → get t n ≡ None
    pub kept : (n : ℕ) → times n f ≡ 0 → get t n ≡ get s n
    pub len : slab_len t + size f ≡ slab_len s + size (row_at t o)
    pub smaller : size (row_at t o) ≤ size f

  pub felling_all : (s : Slab (Slot X)) (o : Option ℕ) → IsPlace s o → ((n : ℕ) → times n (row_at s o) ≤ 1) → Felling s (row_at s o) s o
  felling_all s o place once = record {
    place = place;
    once = once;
    within = λ n. omega arith;
    gone = λ n some none. absurd (omega (arith, some, none));
    kept = λ n none. refl;
    len = refl;
    smaller = omega arith;
  }

  pub felled_all : (s : Slab (Slot X)) (f : Forest X) (t : Slab (Slot X)) (o : Option ℕ) → Felling s f t o → o ≡ None → Felled s t f
  felled_all s f t o h end =
      let none : row_at t o ≡ bare = ap (row_at t) end ∙ row_at-none t in record {
        gone = λ n some. h.gone n some (ap (times n) none);
        kept = h.kept;
        len = omega (arith, h.len, ap size none);
      }

  pub not_lost : (s : Slab (Slot X)) (f : Forest X) (t : Slab (Slot X)) (o : Option ℕ) (n : ℕ) → Felling s f t o → o ≡ Some n → get t n ≡ None → ⊥
  not_lost s f t o n h is none = not_nowhere t n (subst (IsPlace t) is h.place) none

  -- what is known where a node was taken out
  module _ (s : Slab (Slot X)) (f : Forest X) (t : Slab (Slot X)) (o : Option ℕ) (n : ℕ) (slot : Slot X) (u : Slab (Slot X))
      (h : Felling s f t o) (is : o ≡ Some n) (there : get t n ≡ Some slot) (taken : Updates t u n None) (len : slab_len u + 1 ≡ slab_len t) where
    at : IsAt t n slot
    at = at_place t n slot (subst (IsPlace t) is h.place) there

    B : Forest X
    B = row_at t slot.first_child

    R : Forest X
    R = row_at t slot.next

    whole : row_at t o ≡ node n slot.key slot.value B R
    unfolding B R
    whole = ap (row_at t) is ∙ at.is

    counts : (m : ℕ) → times m (row_at t o) ≡ one_if (nat_eq m n) + (times m B + times m R)
    counts m = ap (times m) whole

    sizes : size (row_at t o) ≡ suc (size B + size R)
    sizes = ap size whole

    apart_below : (m : ℕ) → 0 < times m B → m ≢ n
    apart_below m some e = omega (arith, some, h.once m, counts m, ap (λ k. one_if (nat_eq m k)) (sym e), one_of m)

    apart_behind : (m : ℕ) → 0 < times m R → m ≢ n
    apart_behind m some e = omega (arith, some, h.once m, counts m, ap (λ k. one_if (nat_eq m k)) (sym e), one_of m)

    fits_whole : size (row_at t o) ≤ slab_len t
    fits_whole = h.place.2.fits

    row_below : IsRow u slot.first_child at.below.0 at.below.1 B
    unfolding B
    row_below = row_kept t u slot.first_child at.below.0 at.below.1 B at.below.2 (λ m some. taken.others m (apart_below m some)) (omega (arith, sizes, len, fits_whole))

    pub below_is : row_at u slot.first_child ≡ row_at t slot.first_child
    unfolding B
    below_is = row_at_is u slot.first_child at.below.0 at.below.1 B row_below

    pub fell_place : IsPlace u slot.first_child
    fell_place = place_of u slot.first_child at.below.0 at.below.1 B row_below

    pub fell_once : (m : ℕ) → times m (row_at u slot.first_child) ≤ 1
    unfolding B
    fell_once m = omega (arith, ap (times m) below_is, h.once m, counts m)

    pub fell_smaller : size (row_at u slot.first_child) < size f
    unfolding B
    fell_smaller = omega (arith, ap size below_is, sizes, h.smaller)

    module _ (w : Slab (Slot X)) (felled : Felled u w (row_at u slot.first_child)) where
      times_below : (m : ℕ) → times m (row_at u slot.first_child) ≡ times m B
      unfolding B
      times_below m = ap (times m) below_is

      size_below : size (row_at u slot.first_child) ≡ size B
      unfolding B
      size_below = ap size below_is

      row_behind : IsRow w slot.next at.behind.0 at.behind.1 R
      unfolding R
      row_behind = row_kept t w slot.next at.behind.0 at.behind.1 R at.behind.2
          (λ m some. felled.kept m (omega (arith, times_below m, h.once m, counts m, some)) ∙ taken.others m (apart_behind m some))
          (omega (arith, sizes, len, fits_whole, felled.len, size_below))

      behind_is : row_at w slot.next ≡ R
      behind_is = row_at_is w slot.next at.behind.0 at.behind.1 R row_behind

      times_behind : (m : ℕ) → times m (row_at w slot.next) ≡ times m R
      times_behind m = ap (times m) behind_is

      gone_after : (m : ℕ) → 0 < times m f → times m R ≡ 0 → get w m ≡ None
      gone_after m some none = of (times m B) refl
        where
          here : (b : Bool) → nat_eq m n ≡ b → times m B ≡ 0 → get w m ≡ None
          here true e z = felled.kept m (omega (arith, times_below m, z)) ∙ ap (get u) (eqb-true m n e) ∙ taken.changed
          here false e z =
              felled.kept m (omega (arith, times_below m, z)) ∙ taken.others m (λ same. cc (e, eq-eqb m n same))
              ∙ h.gone m some (omega (arith, counts m, ap one_if e, z, none))

          of : (c : ℕ) → times m B ≡ c → get w m ≡ None
          of zero e = here (nat_eq m n) refl e
          of (suc c) e = felled.gone m (omega (arith, times_below m, e))

      pub felling_next : Felling s f w slot.next
      felling_next = record {
        place = place_of w slot.next at.behind.0 at.behind.1 R row_behind;
        once = λ m. omega (arith, times_behind m, counts m, h.once m);
        within = λ m. omega (arith, times_behind m, counts m, h.within m);
        gone = λ m some none. gone_after m some (sym (times_behind m) ∙ none);
        kept = λ m none.
            felled.kept m (omega (arith, times_below m, counts m, h.within m, none))
            ∙ taken.others m (λ same. absurd (omega (arith, none, counts m, h.within m, ap (λ k. one_if (nat_eq m k)) (sym same), one_of m)))
            ∙ h.kept m none;
        len = omega (arith, h.len, sizes, len, felled.len, size_below, ap size behind_is);
        smaller = omega (arith, h.smaller, sizes, ap size behind_is);
      }

      pub fewer_next : size (row_at w slot.next) < size (row_at t o)
      fewer_next = omega (arith, sizes, ap size behind_is)
