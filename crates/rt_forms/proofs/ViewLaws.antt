-- A tree of forms, once a listener was put there.
use Rattle.std.proofs.Common.{◌≡◌, ◌≤◌, ℕ, List, [], ◌∷◌, ◌==◌, length, Option, Some, None, false, cond, is_some, refl, sym, ap, subst, ◌∙◌, arith}
use Rattle.std.specs.List.{list_any}
use Rattle.std.specs.Option.{option_map_or}
use Rattle.slab.specs.Slab.{get, slab_len}
use Rattle.rt_tree.specs.PathTree.{Key, Path}
use Rattle.rt_query.specs.Queries.{Query}
use Rattle.rt_nodes.specs.Forest.{one_if, size, times, IsRow, row_at}
use Rattle.rt_nodes.specs.Walks.{index_in, place_in}
use Rattle.rt_nodes.specs.Changes.{Changed, Same}
use Rattle.rt_nodes.specs.declared.nodes.Slot.{Slot}
use Rattle.rt_nodes.proofs.Reached.{row_at_is, IsAt}
use Rattle.rt_nodes.proofs.Paths.{find_found, find_lacks}
use Rattle.rt_nodes.proofs.Felling.{row_kept}
use Rattle.rt_nodes.proofs.Growing.{at_most_one, once_after, row_at_same, same_changed}
use Rattle.rt_forms.specs.Numbers.{with_number}
use Rattle.rt_forms.specs.Forms.{Forms, numbers, share_form, IsAsBefore}
use Rattle.rt_forms.specs.inside.Trees.{Standing, Trees, Nodes, own, seen, seen_in, IsStanding, Good, Gained, Adds, IsAdded, passed}
use Rattle.rt_forms.specs.inside.FormsView.{IsForms}
use Rattle.rt_forms.proofs.RowLaws.{child_found, child_lacks}
use Rattle.rt_forms.proofs.AddLaws.{adds_here, adds_below}
use Rattle.rt_forms.proofs.FormLaws.{share_form_is}

-- each number stands in the row at most once
pub once_in : (a : Forms) → IsForms a → (n : ℕ) → times n (row_at a.nodes a.first) ≤ 1
once_in a h n = omega (arith, h.once n, at_most_one (get a.nodes n))

-- ---- the nodes became another row
pub forms_after : (a b : Forms) → IsForms a → (g : Trees) → IsRow b.nodes b.first None None g → Changed a.nodes b.nodes (row_at a.nodes a.first) g
    → IsStanding [] b.top g → Good [] g → IsForms b
forms_after a b h g row changed top good =
    let is : row_at b.nodes b.first ≡ g = row_at_is b.nodes b.first None None g row in record {
      row = subst (IsRow b.nodes b.first None None) (sym is) row;
      nodes = ap size is ∙ (let c : size g ≡ slab_len b.nodes = omega (arith, changed.len, h.nodes) in c);
      once = λ n. ap (times n) is ∙ once_after a.nodes b.nodes b.first None None (row_at a.nodes a.first) g row changed n (h.once n);
      top = subst (IsStanding [] b.top) (sym is) top;
      good = subst (Good []) (sym is) good;
    }

-- ---- or are as they were
pub forms_same : (a b : Forms) → IsForms a → Same a.nodes b.nodes → b.first ≡ a.first → b.top ≡ a.top → IsForms b
forms_same a b h same first top =
    let f = row_at a.nodes a.first in
    let is : row_at b.nodes b.first ≡ f = ap (row_at b.nodes) first ∙ row_at_same a.nodes b.nodes same a.first in
    let starts : IsRow b.nodes a.first None None f = row_kept a.nodes b.nodes a.first None None f h.row (λ n some. same.kept n) (omega (arith, h.row.fits, same.len)) in record {
      row = rw (is, first) starts;
      nodes = ap size is ∙ h.nodes ∙ sym same.len;
      once = λ n. ap (times n) is ∙ h.once n ∙ ap (λ x. one_if (is_some x)) (sym (same.kept n));
      top = subst (λ x. IsStanding [] x (row_at b.nodes b.first)) (sym top) (subst (IsStanding [] a.top) (sym is) h.top);
      good = subst (Good []) (sym is) h.good;
    }

pub seen_same : (a b : Forms) → Same a.nodes b.nodes → b.first ≡ a.first → b.top ≡ a.top → IsAsBefore a b
seen_same a b same first top =
    let is : row_at b.nodes b.first ≡ row_at a.nodes a.first = ap (row_at b.nodes) first ∙ row_at_same a.nodes b.nodes same a.first in record {
      listeners = λ q i. seen q q.path (top i) (is i);
      counted = ap (λ (x : Standing). x.count) top;
    }

-- ---- a listener more
module _ (a b : Forms) (h : IsForms a) (g : Trees) (q : Query) (n : ℕ) (row : IsRow b.nodes b.first None None g)
    (changed : Changed a.nodes b.nodes (row_at a.nodes a.first) g) (adds : Adds a.top (row_at a.nodes a.first) b.top g q.path q n) where
  pub added_is : IsForms b
  added_is = forms_after a b h g row changed (adds.standing [] refl h.top h.good) (adds.good [] refl h.top h.good)

  pub added_numbers : (r : Query) → numbers b r ≡ cond (share_form r q) (with_number n (numbers a r)) (numbers a r)
  added_numbers r =
      ap (seen r r.path b.top) (row_at_is b.nodes b.first None None g row)
      ∙ adds.numbers r r.path
      ∙ ap (λ t. cond t (with_number n (numbers a r)) (numbers a r)) (sym (share_form_is r q))

-- ---- what is found at a path
module _ (s : Nodes) (q : Query) where
  abbrev at_node : ℕ → List ℕ
  at_node n = option_map_or (λ (slot : Slot Standing). own q slot.value) (get s n) []

  pub found_at : (p : Path) (o parent previous : Option ℕ) (f : Trees) (k : Key) → IsRow s o parent previous f
      → option_map_or at_node (place_in k p f) [] ≡ seen_in q k p f
  found_at [] o parent previous f k h = of (index_in k f) refl
    where
      of : (i : Option ℕ) → index_in k f ≡ i → option_map_or at_node (place_in k [] f) [] ≡ seen_in q k [] f
      of None e =
          ap (λ z. option_map_or at_node z []) ((find_lacks f k h.sound e).place [])
          ∙ sym (ap (λ z. option_map_or (λ (c : Standing × Trees). seen q [] c.0 c.1) z []) (child_lacks f k h.sound e))
      of (Some n) e =
          let d = find_found s o parent previous f k n h e in
          ap (λ z. option_map_or at_node z []) d.ends
          ∙ ap (λ z. option_map_or (λ (slot : Slot Standing). own q slot.value) z []) d.there
          ∙ sym (ap (λ z. option_map_or (λ (c : Standing × Trees). seen q [] c.0 c.1) z []) (child_found s o parent previous f k n d.slot h e d.there))
  found_at (j ∷ p) o parent previous f k h = of (index_in k f) refl (λ n slot at. found_at p slot.first_child at.below.0 at.below.1 (row_at s slot.first_child) j at.below.2)
    where
      of : (i : Option ℕ) → index_in k f ≡ i
          → ((n : ℕ) (slot : Slot Standing) → IsAt s n slot → option_map_or at_node (place_in j p (row_at s slot.first_child)) [] ≡ seen_in q j p (row_at s slot.first_child))
          → option_map_or at_node (place_in k (j ∷ p) f) [] ≡ seen_in q k (j ∷ p) f
      of None e more =
          ap (λ z. option_map_or at_node z []) ((find_lacks f k h.sound e).place (j ∷ p))
          ∙ sym (ap (λ z. option_map_or (λ (c : Standing × Trees). seen q (j ∷ p) c.0 c.1) z []) (child_lacks f k h.sound e))
      of (Some n) e more =
          let d = find_found s o parent previous f k n h e in
          ap (λ z. option_map_or at_node z []) (d.goes j p)
          ∙ more n d.slot d.at
          ∙ sym (ap (λ z. option_map_or (λ (c : Standing × Trees). seen q (j ∷ p) c.0 c.1) z []) (child_found s o parent previous f k n d.slot h e d.there))

-- ---- the steps of `standing`
module _ (a : Forms) (h : IsForms a) (q : Query) (k : Key) (p : Path) where
  found : option_map_or (at_node a.nodes q) (place_in k p (row_at a.nodes a.first)) [] ≡ seen q (k ∷ p) a.top (row_at a.nodes a.first)
  found = found_at a.nodes q p a.first None None (row_at a.nodes a.first) k h.row

  pub found_none : place_in k p (row_at a.nodes a.first) ≡ None → [] ≡ seen q (k ∷ p) a.top (row_at a.nodes a.first)
  found_none none = sym (ap (λ o. option_map_or (at_node a.nodes q) o []) none) ∙ found

  pub found_lost : (n : ℕ) → place_in k p (row_at a.nodes a.first) ≡ Some n → get a.nodes n ≡ None → [] ≡ seen q (k ∷ p) a.top (row_at a.nodes a.first)
  found_lost n some none =
      sym (ap (λ o. option_map_or (at_node a.nodes q) o []) some ∙ ap (λ o. option_map_or (λ (slot : Slot Standing). own q slot.value) o []) none) ∙ found

  pub found_some : (n : ℕ) (slot : Slot Standing) → place_in k p (row_at a.nodes a.first) ≡ Some n → get a.nodes n ≡ Some slot
      → own q slot.value ≡ seen q (k ∷ p) a.top (row_at a.nodes a.first)
  found_some n slot some there =
      sym (ap (λ o. option_map_or (at_node a.nodes q) o []) some ∙ ap (λ o. option_map_or (λ (slot : Slot Standing). own q slot.value) o []) there) ∙ found

-- ---- the steps of `add`
module _ (a : Forms) (h : IsForms a) (q : Query) (k : Key) (p : Path) (goes : q.path ≡ k ∷ p) where
  pub at_path : numbers a q ≡ seen_in q k p (row_at a.nodes a.first)
  at_path = ap (λ x. seen q x a.top (row_at a.nodes a.first)) goes

  pub free_in : (m : ℕ) → list_any (λ i. i == m) (numbers a q) ≡ false → list_any (λ i. i == m) (seen_in q k p (row_at a.nodes a.first)) ≡ false
  free_in m free = ap (list_any (λ i. i == m)) (sym at_path) ∙ free

  -- a listener was put below the root
  module _ (u : Nodes) (r : Option ℕ) (m : ℕ) (added : IsAdded a.nodes u a.first r None k p q m) where
    adds : Adds a.top (row_at a.nodes a.first) (passed a.top) (row_at u r) q.path q m
    adds = subst (λ x. Adds a.top (row_at a.nodes a.first) (passed a.top) (row_at u r) x q m) (sym goes) (adds_below a.top (row_at a.nodes a.first) (row_at u r) k p q m added.adds)

    pub part_is : IsForms (record { top = passed a.top; nodes = u; first = r })
    part_is = added_is a (record { top = passed a.top; nodes = u; first = r }) h (row_at u r) q m added.row added.changed adds

    pub part_numbers : (s : Query) → numbers (record { top = passed a.top; nodes = u; first = r }) s ≡ cond (share_form s q) (with_number m (numbers a s)) (numbers a s)
    part_numbers = added_numbers a (record { top = passed a.top; nodes = u; first = r }) h (row_at u r) q m added.row added.changed adds

-- or at it
module _ (a : Forms) (h : IsForms a) (q : Query) (m : ℕ) (y : Standing) (short : q.path ≡ []) (gained : Gained a.top y q m) where
  adds_top : Adds a.top (row_at a.nodes a.first) y (row_at a.nodes a.first) q.path q m
  adds_top = subst (λ x. Adds a.top (row_at a.nodes a.first) y (row_at a.nodes a.first) x q m) (sym short) (adds_here a.top y (row_at a.nodes a.first) q m gained)

  still : Changed a.nodes a.nodes (row_at a.nodes a.first) (row_at a.nodes a.first)
  still = same_changed a.nodes (row_at a.nodes a.first) (once_in a h)

  pub top_is : IsForms (record { top = y; nodes = a.nodes; first = a.first })
  top_is = added_is a (record { top = y; nodes = a.nodes; first = a.first }) h (row_at a.nodes a.first) q m h.row still adds_top

  pub top_numbers : (s : Query) → numbers (record { top = y; nodes = a.nodes; first = a.first }) s ≡ cond (share_form s q) (with_number m (numbers a s)) (numbers a s)
  top_numbers = added_numbers a (record { top = y; nodes = a.nodes; first = a.first }) h (row_at a.nodes a.first) q m h.row still adds_top

pub root_numbers : (a : Forms) (q : Query) → q.path ≡ [] → own q a.top ≡ numbers a q
root_numbers a q short = sym (ap (λ x. seen q x a.top (row_at a.nodes a.first)) short)

pub no_path : (p : Path) → length p ≡ 0 → p ≡ []
no_path [] e = refl
no_path (k ∷ p) e = absurd (omega (arith, e))
