-- A search that begins at a sibling near the one sought.
use Rattle.std.proofs.Common.{◌≡◌, ◌<◌, ◌⊎◌, inl, inr, ℕ, ◌+◌, Option, Some, None, true, false, is_some, refl, sym, ap, subst, ◌∙◌, arith}
use Rattle.std.specs.Prelude.{nat_eq}
use Rattle.std.proofs.lemmas.Bool.{eqb-true}
use Rattle.std.specs.declared.cmp.Ordering.TheVariants.{Less, Equal, Greater}
use Rattle.std.specs.FinMap.Entries.{by_order}
use Rattle.slab.specs.Slab.{Slab, get}
use Rattle.rt_tree.specs.PathTree.{Key}
use Rattle.rt_order.specs.KeyOrder.{key_cmp}
use Rattle.rt_order.specs.laws.KeyOrder.{key_cmp_total, key_cmp-IsAntisymmetric}
use Rattle.rt_nodes.specs.Forest.{Forest, bare, node, one_if, first, times, AllAfter, Links, IsRow, row_at}
use Rattle.rt_nodes.specs.Walks.{IsPlace, spot_in}
use Rattle.rt_nodes.specs.Changes.{InRow, Told}
use Rattle.rt_nodes.specs.declared.nodes.SeekResult.TheVariants.{Here, Gap}
use Rattle.rt_nodes.specs.declared.nodes.Slot.{Slot}
use Rattle.rt_nodes.proofs.Reached.{same_some, row_at_is, below_row, behind_row, locate, either}
use Rattle.rt_nodes.proofs.Joining.{slots_same, in_row_times}

module _ {X : Type 0} where
  -- ---- each node stands in the row that its parent leads to
  -- the node stands in the row of its parent's children
  abbrev IsBelow : Slab (Slot X) → ℕ → Slot X → Type 0
  IsBelow s n slot = (m : ℕ) × (above : Slot X) × (get s m ≡ Some above) × (slot.parent ≡ Some m) × InRow n (row_at s above.first_child)

  stands : (s : Slab (Slot X)) (o parent previous : Option ℕ) (f : Forest X) → IsRow s o parent previous f → (n : ℕ) (slot : Slot X) → get s n ≡ Some slot → 0 < times n f
      → ((slot.parent ≡ parent) × InRow n f) ⊎ IsBelow s n slot
  stands s o parent previous bare h n slot there some = absurd (omega (arith, some))
  stands s o parent previous (node m key value below behind) h n slot there some =
      let B = below_row s o parent previous m key value below behind h in
      elim (nat_eq n m) as (λ b. nat_eq n m ≡ b → 0 < one_if b + (times n below + times n behind) → ((slot.parent ≡ parent) × ((n ≡ m) ⊎ InRow n behind)) ⊎ IsBelow s n slot) [
        | true ↦ λ e g.
            let same : n ≡ m = eqb-true n m e in
            inl (ap (λ (x : Slot X). x.parent) (slots_same s m slot _ (ap (get s) (sym same) ∙ there) h.links.0), inl same)
        | false ↦ λ e g. either (times n below) (times n behind) (omega (arith, g))
            (λ d. elim (stands s (first below) (Some m) None below B n slot there d) [
              | inl x ↦ inr (m, _, h.links.0, x.0, subst (InRow n) (sym (row_at_is s (first below) (Some m) None below B)) x.1)
              | inr x ↦ inr x
            ])
            (λ d. elim (stands s (first behind) parent (Some m) behind (behind_row s o parent previous m key value below behind h) n slot there d) [
              | inl x ↦ inl (x.0, inr x.1)
              | inr x ↦ inr x
            ])
      ] refl some

  pub told : (s : Slab (Slot X)) (o : Option ℕ) → IsRow s o None None (row_at s o) → ((n : ℕ) → times n (row_at s o) ≡ one_if (is_some (get s n))) → Told s o None
  told s o row once = record {
    here = λ n slot there e. elim (found n slot there) [ inl x ↦ x.1 | inr x ↦ cc (e, x.3) ];
    below = λ m n above slot above_there there e. elim (found n slot there) [
      | inl x ↦ cc (e, x.0)
      | inr x ↦
          let same : x.0 ≡ m = same_some x.0 m (sym x.3 ∙ e) in
          subst (λ (y : Slot X). InRow n (row_at s y.first_child)) (slots_same s m x.1 above (ap (get s) (sym same) ∙ x.2) above_there) x.4
    ];
  }
    where
      found : (n : ℕ) (slot : Slot X) → get s n ≡ Some slot → ((slot.parent ≡ None) × InRow n (row_at s o)) ⊎ IsBelow s n slot
      found n slot there =
          let one : times n (row_at s o) ≡ 1 = once n ∙ ap (λ g. one_if (is_some g)) there in
          stands s o None None (row_at s o) row n slot there (omega (arith, one))

  pub told_below : (s : Slab (Slot X)) (o parent : Option ℕ) (n : ℕ) (slot : Slot X) → Told s o parent → get s n ≡ Some slot → Told s slot.first_child (Some n)
  told_below s o parent n slot h there = record { here = λ m x x_there e. h.below n m slot x there x_there e; below = h.below }

  -- ---- a search from a sibling on
  after_at : (s : Slab (Slot X)) (parent previous : Option ℕ) (k : Key) (f : Forest X) → Links s parent previous f → AllAfter k f → (n : ℕ) (slot : Slot X) → get s n ≡ Some slot → InRow n f → key_cmp k slot.key ≡ Less
  after_at s parent previous k bare h after n slot there is = absurd is
  after_at s parent previous k (node m key value below behind) h after n slot there is = elim is [
    | inl same ↦ ap (λ (x : Slot X). key_cmp k x.key) (slots_same s m slot _ (ap (get s) (sym same) ∙ there) h.0) ∙ after.0
    | inr later ↦ after_at s parent (Some m) k behind h.2 after.1 n slot there later
  ]

  -- finds the same spot, where the key doesn't stand in front of it
  pub spot_near : (s : Slab (Slot X)) (o parent previous : Option ℕ) (f : Forest X) → IsRow s o parent previous f → (k : Key) (n : ℕ) (slot : Slot X) → get s n ≡ Some slot → InRow n f
      → (key_cmp k slot.key ≡ Less → ⊥) → spot_in k previous f ≡ spot_in k slot.previous (row_at s (Some n))
  spot_near s o parent previous bare h k n slot there is behind_it = absurd is
  spot_near s o parent previous (node m key value below behind) h k n slot there is behind_it = elim is [
    | inl same ↦
        let whole : IsRow s (Some m) parent previous (node m key value below behind) = record { links = h.links; sound = h.sound; starts = refl; fits = h.fits } in
        let slots : _ ≡ slot = slots_same s m _ slot h.links.0 (ap (get s) (sym same) ∙ there) in
        (λ i. spot_in k (slots i).previous (sym (row_at_is s (Some m) parent previous (node m key value below behind) whole) i)) ∙ ap (λ x. spot_in k slot.previous (row_at s (Some x))) (sym same)
    | inr later ↦
        let less : key_cmp key slot.key ≡ Less = after_at s parent (Some m) key behind h.links.2 h.sound.0 n slot there later in
        elim (key_cmp k key) as (λ r. key_cmp k key ≡ r → by_order r (Gap previous (Some m)) (Here m) (spot_in k (Some m) behind) ≡ spot_in k slot.previous (row_at s (Some n))) [
          | Less ↦ λ order. absurd (behind_it (key_cmp_total.trans k key slot.key order less))
          | Equal ↦ λ order. absurd (behind_it (ap (λ x. key_cmp x slot.key) (key_cmp-IsAntisymmetric k key order) ∙ less))
          | Greater ↦ λ order. spot_near s (first behind) parent (Some m) behind (behind_row s o parent previous m key value below behind h) k n slot there later behind_it
        ] refl
  ]

  pub near_place : (s : Slab (Slot X)) (o parent : Option ℕ) (n : ℕ) → IsRow s o parent None (row_at s o) → InRow n (row_at s o) → IsPlace s (Some n)
  near_place s o parent n row is = locate s o parent None (row_at s o) row n (in_row_times n (row_at s o) is)
