-- How all numbers at and under a path are gathered.
use Rattle.std.proofs.Common.{◌≡◌, ◌≤◌, ◌<◌, ℕ, List, [], ◌∷◌, ◌++◌, Bool, true, is_some, Option, Some, None, refl, sym, ap, subst, ◌∙◌, arith, append_assoc, append-nil}
use Rattle.std.specs.List.{list_any}
use Rattle.std.specs.Option.{option_map_or}
use Rattle.slab.specs.Slab.{get}
use Rattle.rt_tree.specs.PathTree.{Key, Path, strip}
use Rattle.rt_tree.specs.Assignments.{is_at_or_above}
use Rattle.rt_tree.specs.laws.Prefixes.{strip-some, strip-append}
use Rattle.rt_query.specs.Queries.{Query}
use Rattle.rt_nodes.specs.Forest.{node, size, IsRow, row_at}
use Rattle.rt_nodes.specs.Walks.{IsPlace, index_in, place_in}
use Rattle.rt_nodes.specs.declared.nodes.Slot.{Slot}
use Rattle.rt_nodes.proofs.Reached.{IsAt, at_place, row_at-none, place_of, place_in_store}
use Rattle.rt_nodes.proofs.Paths.{find_found, find_lacks}
use Rattle.rt_forms.specs.Forms.{Forms, numbers, IsHeardUnder}
use Rattle.rt_forms.specs.inside.Trees.{Standing, Trees, Nodes, seen, child_in, all_own, all_in, all_at}
use Rattle.rt_forms.specs.inside.FormsView.{IsForms, all_under}
use Rattle.rt_forms.proofs.RowLaws.{child_found, child_lacks}
use Rattle.rt_forms.proofs.UnderLaws.{each_at, only_at}

-- ---- along a row
-- what was gathered so far, with what is left of a row
pub record Gathering (s : Nodes) (f : Trees) (before now : List ℕ) (o : Option ℕ) : Type 0 where
  pub place : IsPlace s o
  pub all : now ++ all_in (row_at s o) ≡ before ++ all_in f
  pub smaller : size (row_at s o) ≤ size f

pub gathering_all : (s : Nodes) (o : Option ℕ) (ns : List ℕ) → IsPlace s o → Gathering s (row_at s o) ns ns o
gathering_all s o ns place = record { place = place; all = refl; smaller = omega arith }

module _ (s : Nodes) (f : Trees) (before now : List ℕ) (o : Option ℕ) (n : ℕ) (slot : Slot Standing) (h : Gathering s f before now o) (is : o ≡ Some n) (there : get s n ≡ Some slot) where
  at : IsAt s n slot
  at = at_place s n slot (subst (IsPlace s) is h.place) there

  whole : row_at s o ≡ node n slot.key slot.value (row_at s slot.first_child) (row_at s slot.next)
  whole = ap (row_at s) is ∙ at.is

  pub under_place : IsPlace s slot.first_child
  under_place = at.below

  pub under_smaller : size (row_at s slot.first_child) < size f
  under_smaller = let w = ap size whole in let le = h.smaller in omega (arith, w, le)

  pub fewer_left : size (row_at s slot.next) < size (row_at s o)
  fewer_left = let w = ap size whole in omega (arith, w)

  pub gathering_next : (here under : List ℕ) → here ≡ now ++ all_own slot.value → under ≡ here ++ all_in (row_at s slot.first_child) → Gathering s f before under slot.next
  gathering_next here under own below = record {
    place = at.behind;
    all =
        ap (λ ns. ns ++ all_in (row_at s slot.next)) (below ∙ ap (λ ns. ns ++ all_in (row_at s slot.first_child)) own ∙ append_assoc now (all_own slot.value) (all_in (row_at s slot.first_child)))
        ∙ append_assoc now (all_own slot.value ++ all_in (row_at s slot.first_child)) (all_in (row_at s slot.next))
        ∙ ap (λ g. now ++ all_in g) (sym whole) ∙ h.all;
    smaller = let w = ap size whole in let le = h.smaller in omega (arith, w, le);
  }

pub gathered : (s : Nodes) (f : Trees) (before now : List ℕ) (o : Option ℕ) → Gathering s f before now o → o ≡ None → now ≡ before ++ all_in f
gathered s f before now o h end =
    sym (append-nil now) ∙ ap (λ g. now ++ all_in g) (sym (ap (row_at s) end ∙ row_at-none s)) ∙ h.all

-- ---- at a path
module _ (s : Nodes) where
  abbrev all_node : ℕ → List ℕ
  all_node n = option_map_or (λ (slot : Slot Standing). all_own slot.value ++ all_in (row_at s slot.first_child)) (get s n) []

  found_all : (p : Path) (o parent previous : Option ℕ) (f : Trees) (k : Key) → IsRow s o parent previous f
      → option_map_or all_node (place_in k p f) [] ≡ option_map_or (λ (c : Standing × Trees). all_at p c.0 c.1) (child_in k f) []
  found_all [] o parent previous f k h = of (index_in k f) refl
    where
      of : (i : Option ℕ) → index_in k f ≡ i → option_map_or all_node (place_in k [] f) [] ≡ option_map_or (λ (c : Standing × Trees). all_at [] c.0 c.1) (child_in k f) []
      of None e =
          ap (λ z. option_map_or all_node z []) ((find_lacks f k h.sound e).place [])
          ∙ sym (ap (λ z. option_map_or (λ (c : Standing × Trees). all_at [] c.0 c.1) z []) (child_lacks f k h.sound e))
      of (Some n) e =
          let d = find_found s o parent previous f k n h e in
          ap (λ z. option_map_or all_node z []) d.ends
          ∙ ap (λ z. option_map_or (λ (slot : Slot Standing). all_own slot.value ++ all_in (row_at s slot.first_child)) z []) d.there
          ∙ sym (ap (λ z. option_map_or (λ (c : Standing × Trees). all_at [] c.0 c.1) z []) (child_found s o parent previous f k n d.slot h e d.there))
  found_all (j ∷ p) o parent previous f k h = of (index_in k f) refl (λ n slot at. found_all p slot.first_child at.below.0 at.below.1 (row_at s slot.first_child) j at.below.2)
    where
      of : (i : Option ℕ) → index_in k f ≡ i
          → ((n : ℕ) (slot : Slot Standing) → IsAt s n slot → option_map_or all_node (place_in j p (row_at s slot.first_child)) [] ≡ option_map_or (λ (c : Standing × Trees). all_at p c.0 c.1) (child_in j (row_at s slot.first_child)) [])
          → option_map_or all_node (place_in k (j ∷ p) f) [] ≡ option_map_or (λ (c : Standing × Trees). all_at (j ∷ p) c.0 c.1) (child_in k f) []
      of None e more =
          ap (λ z. option_map_or all_node z []) ((find_lacks f k h.sound e).place (j ∷ p))
          ∙ sym (ap (λ z. option_map_or (λ (c : Standing × Trees). all_at (j ∷ p) c.0 c.1) z []) (child_lacks f k h.sound e))
      of (Some n) e more =
          let d = find_found s o parent previous f k n h e in
          ap (λ z. option_map_or all_node z []) (d.goes j p)
          ∙ more n d.slot d.at
          ∙ sym (ap (λ z. option_map_or (λ (c : Standing × Trees). all_at (j ∷ p) c.0 c.1) z []) (child_found s o parent previous f k n d.slot h e d.there))

module _ (a : Forms) (h : IsForms a) (k : Key) (p : Path) where
  found : option_map_or (all_node a.nodes) (place_in k p (row_at a.nodes a.first)) [] ≡ all_under a (k ∷ p)
  found = found_all a.nodes p a.first None None (row_at a.nodes a.first) k h.row

  pub under_none : place_in k p (row_at a.nodes a.first) ≡ None → [] ≡ all_under a (k ∷ p)
  under_none none = sym (ap (λ o. option_map_or (all_node a.nodes) o []) none) ∙ found

  pub under_lost : (n : ℕ) → place_in k p (row_at a.nodes a.first) ≡ Some n → get a.nodes n ≡ None → [] ≡ all_under a (k ∷ p)
  under_lost n some none =
      sym (ap (λ o. option_map_or (all_node a.nodes) o []) some
      ∙ ap (λ o. option_map_or (λ (slot : Slot Standing). all_own slot.value ++ all_in (row_at a.nodes slot.first_child)) o []) none) ∙ found

  pub under_some : (n : ℕ) (slot : Slot Standing) → place_in k p (row_at a.nodes a.first) ≡ Some n → get a.nodes n ≡ Some slot
      → all_own slot.value ++ all_in (row_at a.nodes slot.first_child) ≡ all_under a (k ∷ p)
  under_some n slot some there =
      sym (ap (λ o. option_map_or (all_node a.nodes) o []) some
      ∙ ap (λ o. option_map_or (λ (slot : Slot Standing). all_own slot.value ++ all_in (row_at a.nodes slot.first_child)) o []) there) ∙ found

pub node_place : (a : Forms) → IsForms a → (n : ℕ) (slot : Slot Standing) → get a.nodes n ≡ Some slot → IsPlace a.nodes slot.first_child
node_place a h n slot there = (at_place a.nodes n slot (place_in_store a.nodes a.first None None (row_at a.nodes a.first) h.row n (h.once n) slot there) there).below

pub first_place : (a : Forms) → IsForms a → IsPlace a.nodes a.first
first_place a h = place_of a.nodes a.first None None (row_at a.nodes a.first) h.row

-- ---- what that says of the forms
pub under_each : (a : Forms) (p : Path) (q : Query) (t : ℕ → Bool) → is_at_or_above p q.path ≡ true → list_any t (numbers a q) ≡ true → list_any t (all_under a p) ≡ true
under_each a p q t above heard = of (strip p q.path) refl above
  where
    of : (o : Option Path) → strip p q.path ≡ o → is_some o ≡ true → list_any t (all_under a p) ≡ true
    of None e some = cc
    of (Some s) e some =
        each_at t q p s a.top (row_at a.nodes a.first)
        (ap (λ z. list_any t (seen q z a.top (row_at a.nodes a.first))) (sym (strip-some p q.path s e)) ∙ heard)

pub under_only : (a : Forms) → IsForms a → (p : Path) (t : ℕ → Bool) → list_any t (all_under a p) ≡ true → IsHeardUnder a p t
under_only a h p t e =
    let x = only_at t [] p a.top (row_at a.nodes a.first) h.top h.good (h.row).sound e in
    record {
      query = x.query;
      is_form = x.is_form;
      under = ap (is_at_or_above p) x.at ∙ ap is_some (strip-append p x.rest);
      heard = ap (λ z. list_any t (seen x.query z a.top (row_at a.nodes a.first))) x.at ∙ x.heard;
    }
