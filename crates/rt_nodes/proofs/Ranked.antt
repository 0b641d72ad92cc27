-- What the ranks have of a slab's nodes.
use Rattle.std.proofs.Common.{◌≡◌, ◌≢◌, ◌<◌, ℕ, Option, Some, None, Bool, true, false, refl, sym, ap, ◌∙◌, arith}
use Rattle.std.specs.Prelude.{nat_eq, ◌&&◌}
use Rattle.std.specs.Option.{option_map}
use Rattle.std.proofs.lemmas.Bool.{eqb-true, eq-eqb}
use Rattle.slab.specs.Slab.{Slab, get, Updates}
use Rattle.rt_nodes.specs.Forest.{one_if}
use Rattle.rt_nodes.specs.inside.Ranks.{held, same_link, is_child, Added, IsAlike, IsRanked}
use Rattle.rt_nodes.specs.Changes.{Same}
use Rattle.rt_nodes.specs.declared.nodes.Slot.{Slot}
use Rattle.rt_nodes.specs.declared.children.Ranks.{Ranks}

-- ---- a node that is there
same_same : (p : Option ℕ) → same_link p p ≡ true
same_same None = refl
same_same (Some n) = eq-eqb n n refl

-- ---- the nodes change
-- at one node, or at another
either_node : (A : Type 0) (m n : ℕ) → (nat_eq m n ≡ true → A) → (nat_eq m n ≡ false → A) → A
either_node A m n here there = elim (nat_eq m n) as (λ b. nat_eq m n ≡ b → A) [ true ↦ here | false ↦ there ] refl

differ : (m n : ℕ) → nat_eq m n ≡ false → m ≢ n
differ m n e same = cc (e, eq-eqb m n same)

and-true : (b : Bool) → (b && true) ≡ b
and-true true = refl
and-true false = refl

and-false : (b : Bool) → (b && false) ≡ false
and-false true = refl
and-false false = refl

module _ {X : Type 0} where
  -- stands in the row of its parent
  pub ranked_there : (s : Slab (Slot X)) (r : Ranks) (n : ℕ) (slot : Slot X) → IsRanked s r → get s n ≡ Some slot → 0 < held n r slot.parent
  ranked_there s r n slot h there =
      let one : held n r slot.parent ≡ 1 = h slot.parent n ∙ ap (λ o. one_if (is_child slot.parent o)) there ∙ ap one_if (same_same slot.parent) in
      omega (arith, one)

  -- each has the parent that it had
  pub ranked_mapped : (s t : Slab (Slot X)) (r : Ranks) (f : ℕ → Slot X → Slot X) → ((n : ℕ) (slot : Slot X) → (f n slot).parent ≡ slot.parent) → ((n : ℕ) → get t n ≡ option_map (f n) (get s n)) → IsRanked s r → IsRanked t r
  ranked_mapped s t r f parents each h p m = h p m ∙ ap one_if (sym (ap (is_child p) (each m) ∙ mapped (get s m)))
    where
      mapped : (o : Option (Slot X)) → is_child p (option_map (f m) o) ≡ is_child p o
      mapped None = refl
      mapped (Some slot) = ap (same_link p) (parents m slot)

  pub ranked_written : (s t : Slab (Slot X)) (r : Ranks) (f : Slot X → Slot X) (n : ℕ) → ((slot : Slot X) → (f slot).parent ≡ slot.parent) → get t n ≡ option_map f (get s n) → ((m : ℕ) → m ≢ n → get t m ≡ get s m)
      → IsRanked s r → IsRanked t r
  ranked_written s t r f n parents written others h p m = h p m ∙ ap one_if (sym (either_node (is_child p (get t m) ≡ is_child p (get s m)) m n
      (λ e. let same : m ≡ n = eqb-true m n e in ap (λ x. is_child p (get t x)) same ∙ ap (is_child p) written ∙ mapped (get s n) ∙ ap (λ x. is_child p (get s x)) (sym same))
      (λ e. ap (is_child p) (others m (differ m n e)))))
    where
      mapped : (o : Option (Slot X)) → is_child p (option_map f o) ≡ is_child p o
      mapped None = refl
      mapped (Some slot) = ap (same_link p) (parents slot)

  pub ranked_same : (s t : Slab (Slot X)) (r : Ranks) → Same s t → IsRanked s r → IsRanked t r
  ranked_same s t r same h p m = h p m ∙ ap (λ o. one_if (is_child p o)) (sym (same.kept m))

  pub ranked_alike : (s : Slab (Slot X)) (r q : Ranks) → IsAlike r q → IsRanked s r → IsRanked s q
  ranked_alike s r q alike h p m = alike p m ∙ h p m

  -- a node more
  pub ranked_more : (s t : Slab (Slot X)) (r q : Ranks) (n : ℕ) (slot : Slot X) → get s n ≡ None → Updates s t n (Some slot) → Added r q slot.parent n → IsRanked s r → IsRanked t q
  ranked_more s t r q n slot none updates added h p m = either_node (held m q p ≡ one_if (is_child p (get t m))) m n
      (λ e.
      let same : m ≡ n = eqb-true m n e in
      let was : held m r p ≡ 0 = h p m ∙ ap (λ x. one_if (is_child p (get s x))) same ∙ ap (λ o. one_if (is_child p o)) none in
      let one : one_if (same_link p slot.parent && nat_eq m n) ≡ one_if (same_link p slot.parent) = ap (λ b. one_if (same_link p slot.parent && b)) e ∙ ap one_if (and-true (same_link p slot.parent)) in
      let now : one_if (is_child p (get t m)) ≡ one_if (same_link p slot.parent) = ap (λ x. one_if (is_child p (get t x))) same ∙ ap (λ o. one_if (is_child p o)) updates.changed in
      omega (arith, added p m, was, one, now))
      (λ e.
      let none_more : one_if (same_link p slot.parent && nat_eq m n) ≡ 0 = ap (λ b. one_if (same_link p slot.parent && b)) e ∙ ap one_if (and-false (same_link p slot.parent)) in
      let now : one_if (is_child p (get t m)) ≡ one_if (is_child p (get s m)) = ap (λ o. one_if (is_child p o)) (updates.others m (differ m n e)) in
      omega (arith, added p m, h p m, none_more, now))

  -- a node more that is taken out again
  pub ranked_undone : (s t u : Slab (Slot X)) (r q : Ranks) (n : ℕ) (slot : Slot X) → get s n ≡ None → Updates s t n (Some slot) → Updates t u n None → IsAlike r q → IsRanked s r → IsRanked u q
  ranked_undone s t u r q n slot none more less alike h p m =
      alike p m ∙ h p m
      ∙ ap (λ o. one_if (is_child p o)) (sym (either_node (get u m ≡ get s m) m n
      (λ e. let same : m ≡ n = eqb-true m n e in ap (get u) same ∙ less.changed ∙ sym (ap (get s) same ∙ none))
      (λ e. less.others m (differ m n e) ∙ more.others m (differ m n e))))

  -- a node less
  pub ranked_fewer : (s t : Slab (Slot X)) (r q : Ranks) (n : ℕ) (slot : Slot X) → get s n ≡ Some slot → Updates s t n None → Added q r slot.parent n → IsRanked s r → IsRanked t q
  ranked_fewer s t r q n slot there updates added h p m = either_node (held m q p ≡ one_if (is_child p (get t m))) m n
      (λ e.
      let same : m ≡ n = eqb-true m n e in
      let was : held m r p ≡ one_if (same_link p slot.parent) = h p m ∙ ap (λ x. one_if (is_child p (get s x))) same ∙ ap (λ o. one_if (is_child p o)) there in
      let one : one_if (same_link p slot.parent && nat_eq m n) ≡ one_if (same_link p slot.parent) = ap (λ b. one_if (same_link p slot.parent && b)) e ∙ ap one_if (and-true (same_link p slot.parent)) in
      let now : one_if (is_child p (get t m)) ≡ 0 = ap (λ x. one_if (is_child p (get t x))) same ∙ ap (λ o. one_if (is_child p o)) updates.changed in
      omega (arith, added p m, was, one, now))
      (λ e.
      let none_less : one_if (same_link p slot.parent && nat_eq m n) ≡ 0 = ap (λ b. one_if (same_link p slot.parent && b)) e ∙ ap one_if (and-false (same_link p slot.parent)) in
      let now : one_if (is_child p (get t m)) ≡ one_if (is_child p (get s m)) = ap (λ o. one_if (is_child p o)) (updates.others m (differ m n e)) in
      omega (arith, added p m, h p m, none_less, now))

  -- ---- no nodes
  pub ranked_none : (s : Slab (Slot X)) (r : Ranks) → ((n : ℕ) → get s n ≡ None) → ((p : Option ℕ) (m : ℕ) → held m r p ≡ 0) → IsRanked s r
  ranked_none s r none empty p m = empty p m ∙ sym (ap (λ o. one_if (is_child p o)) (none m))
