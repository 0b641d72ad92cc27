-- What is known of the nodes of a row.
use Rattle.std.proofs.Common.{◌≡◌, ◌≤◌, ◌<◌, ℕ, zero, suc, ◌+◌, Option, Some, None, true, false, is_some, refl, sym, ap, subst, ◌∙◌, arith}
use Rattle.std.specs.Prelude.{nat_eq}
use Rattle.std.proofs.lemmas.Bool.{eqb-true}
use Rattle.std.specs.Option.{option_map_or, unwrap_or}
use Rattle.slab.specs.Slab.{Slab, get, slab_len}
use Rattle.rt_tree.specs.PathTree.{Key}
use Rattle.rt_nodes.specs.Forest.{Forest, bare, node, one_if, first, size, times, AllAfter, Links, reached, row_at, IsRow}
use Rattle.rt_nodes.specs.Walks.{IsPlace}
use Rattle.rt_nodes.specs.declared.nodes.Slot.{Slot}

pub same_some : {A : Type 0} (x y : A) → Some x ≡ Some y → x ≡ y
same_some x y e = ap (λ o. unwrap_or o x) e

-- a number that stands in a row leads to a place
pub either : {A : Type 0} (t u : ℕ) → 0 < t + u → (0 < t → A) → (0 < u → A) → A
either zero u g f h = h (omega (arith, g))
either (suc t) u g f h = f (omega arith)

module _ {X : Type 0} where
  -- enough steps reach the whole row
  pub reached_is : (m : ℕ) (s : Slab (Slot X)) (parent previous : Option ℕ) (f : Forest X) → Links s parent previous f → size f ≤ m → reached m s (first f) ≡ f
  reached_is zero s parent previous bare h fits = refl
  reached_is zero s parent previous (node n key value below behind) h fits = absurd (omega (arith, fits))
  reached_is (suc m) s parent previous bare h fits = refl
  reached_is (suc m) s parent previous (node n key value below behind) h fits =
      ap (λ o. option_map_or (λ slot. node n slot.key slot.value (reached m s slot.first_child) (reached m s slot.next)) o bare) h.0
      ∙ (λ i. node n key value (reached_is m s (Some n) None below h.1 (omega (arith, fits)) i) (reached_is m s parent (Some n) behind h.2 (omega (arith, fits)) i))

  pub row_at_is : (s : Slab (Slot X)) (o parent previous : Option ℕ) (f : Forest X) → IsRow s o parent previous f → row_at s o ≡ f
  row_at_is s o parent previous f h = ap (reached (slab_len s) s) (sym h.starts) ∙ reached_is (slab_len s) s parent previous f h.links h.fits

  pub place_of : (s : Slab (Slot X)) (o parent previous : Option ℕ) (f : Forest X) → IsRow s o parent previous f → IsPlace s o
  place_of s o parent previous f h = (parent, previous, subst (IsRow s o parent previous) (sym (row_at_is s o parent previous f h)) h)

  -- the rows below and behind a node
  pub below_row : (s : Slab (Slot X)) (o parent previous : Option ℕ) (n : ℕ) (key : Key) (value : X) (below behind : Forest X)
      → IsRow s o parent previous (node n key value below behind) → IsRow s (first below) (Some n) None below
  below_row s o parent previous n key value below behind h = record { links = h.links.1; sound = h.sound.1; starts = refl; fits = omega (arith, h.fits) }

  pub behind_row : (s : Slab (Slot X)) (o parent previous : Option ℕ) (n : ℕ) (key : Key) (value : X) (below behind : Forest X)
      → IsRow s o parent previous (node n key value below behind) → IsRow s (first behind) parent (Some n) behind
  behind_row s o parent previous n key value below behind h = record { links = h.links.2; sound = h.sound.2; starts = refl; fits = omega (arith, h.fits) }

  -- what is known of a node that a place leads to
  pub record IsAt (s : Slab (Slot X)) (n : ℕ) (slot : Slot X) : Type 0 where
    pub is : row_at s (Some n) ≡ node n slot.key slot.value (row_at s slot.first_child) (row_at s slot.next)
    pub below : IsPlace s slot.first_child
    pub behind : IsPlace s slot.next
    pub after : AllAfter slot.key (row_at s slot.next)

  is_at : (s : Slab (Slot X)) (n : ℕ) (slot : Slot X) (parent previous : Option ℕ) (f : Forest X) → row_at s (Some n) ≡ f → IsRow s (Some n) parent previous f → get s n ≡ Some slot → IsAt s n slot
  is_at s n slot parent previous bare e h there = cc h.starts
  is_at s n slot parent previous (node m key value below behind) e h there =
      let same : m ≡ n = same_some m n h.starts in
      let slots : record { key = key; parent = parent; first_child = first below; previous = previous; next = first behind; value = value } ≡ slot =
      same_some _ _ (sym h.links.0 ∙ ap (get s) same ∙ there) in
      let B = below_row s (Some n) parent previous m key value below behind h in
      let S = behind_row s (Some n) parent previous m key value below behind h in
      let b : row_at s (first below) ≡ below = row_at_is s (first below) (Some m) None below B in
      let r : row_at s (first behind) ≡ behind = row_at_is s (first behind) parent (Some m) behind S in
      subst (IsAt s n) slots (record {
        is = e ∙ (λ i. node (same i) key value (sym b i) (sym r i));
        below = place_of s (first below) (Some m) None below B;
        behind = place_of s (first behind) parent (Some m) behind S;
        after = subst (AllAfter key) (sym r) h.sound.0;
      })

  pub at_place : (s : Slab (Slot X)) (n : ℕ) (slot : Slot X) → IsPlace s (Some n) → get s n ≡ Some slot → IsAt s n slot
  at_place s n slot h there = is_at s n slot h.0 h.1 (row_at s (Some n)) refl h.2 there

  -- a place leads to a node that is there
  there_from : (s : Slab (Slot X)) (n : ℕ) (parent previous : Option ℕ) (f : Forest X) → IsRow s (Some n) parent previous f → get s n ≡ None → ⊥
  there_from s n parent previous bare h none = cc h.starts
  there_from s n parent previous (node m key value below behind) h none =
      let same : m ≡ n = same_some m n h.starts in
      cc (ap is_some (sym h.links.0 ∙ ap (get s) same ∙ none))

  pub not_nowhere : (s : Slab (Slot X)) (n : ℕ) → IsPlace s (Some n) → get s n ≡ None → ⊥
  not_nowhere s n h none = there_from s n h.0 h.1 (row_at s (Some n)) h.2 none

  -- nothing is reached from a number that is not there
  pub row_at-none : (s : Slab (Slot X)) → row_at s None ≡ bare
  row_at-none s = of (slab_len s)
    where
      of : (m : ℕ) → reached m s None ≡ bare
      of zero = refl
      of (suc m) = refl

  pub row_at-nowhere : (s : Slab (Slot X)) (n : ℕ) → get s n ≡ None → row_at s (Some n) ≡ bare
  row_at-nowhere s n none = of (slab_len s)
    where
      of : (m : ℕ) → reached m s (Some n) ≡ bare
      of zero = refl
      of (suc m) = ap (λ o. option_map_or (λ slot. node n slot.key slot.value (reached m s slot.first_child) (reached m s slot.next)) o bare) none

  pub locate : (s : Slab (Slot X)) (o parent previous : Option ℕ) (f : Forest X) → IsRow s o parent previous f → (n : ℕ) → 0 < times n f → IsPlace s (Some n)
  locate s o parent previous bare h n some = absurd (omega (arith, some))
  locate s o parent previous (node m key value below behind) h n some =
      elim (nat_eq n m) as (λ b. nat_eq n m ≡ b → 0 < one_if b + (times n below + times n behind) → IsPlace s (Some n)) [
        | true ↦ λ e g. subst (λ k. IsPlace s (Some k)) (sym (eqb-true n m e)) (subst (IsPlace s) (sym h.starts) (place_of s o parent previous (node m key value below behind) h))
        | false ↦ λ e g. either (times n below) (times n behind) (omega (arith, g))
            (λ d. locate s (first below) (Some m) None below (below_row s o parent previous m key value below behind h) n d)
            (λ d. locate s (first behind) parent (Some m) behind (behind_row s o parent previous m key value below behind h) n d)
      ] refl some

  -- and each number of the slab has a place in it
  pub place_in_store : (s : Slab (Slot X)) (o parent previous : Option ℕ) (f : Forest X) → IsRow s o parent previous f → (n : ℕ) → times n f ≡ one_if (is_some (get s n)) → (slot : Slot X) → get s n ≡ Some slot → IsPlace s (Some n)
  place_in_store s o parent previous f h n once slot there =
      locate s o parent previous f h n (let one : times n f ≡ 1 = once ∙ ap (λ g. one_if (is_some g)) there in omega (arith, one))
