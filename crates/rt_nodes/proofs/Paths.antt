-- Where keys and paths lead.
use Rattle.std.proofs.Common.{◌≡◌, ◌≤◌, ◌<◌, ◌⊎◌, inl, inr, ℕ, ◌+◌, [], ◌∷◌, Option, Some, None, true, false, is_some, length, refl, sym, ap, subst, ◌∙◌, arith}
use Rattle.std.specs.Prelude.{nat_eq}
use Rattle.std.specs.declared.cmp.Ordering.{Ordering}
use Rattle.std.specs.declared.cmp.Ordering.TheVariants.{Less, Equal, Greater}
use Rattle.std.specs.Option.{option_map_or}
use Rattle.std.specs.FinMap.Entries.{by_order}
use Rattle.slab.specs.Slab.{Slab, get}
use Rattle.rt_tree.specs.PathTree.{Key, Path}
use Rattle.rt_order.specs.KeyOrder.{key_cmp}
use Rattle.rt_nodes.specs.Forest.{Forest, bare, node, one_if, first, size, times, Sound, IsRow, row_at}
use Rattle.rt_nodes.specs.Walks.{IsPlace, spot_in, index_in, place_in}
use Rattle.rt_nodes.specs.Changes.{InRow}
use Rattle.rt_nodes.specs.declared.nodes.SeekResult.{SeekResult}
use Rattle.rt_nodes.specs.declared.nodes.SeekResult.TheVariants.{Here, Gap}
use Rattle.rt_nodes.specs.declared.nodes.Slot.{Slot}
use Rattle.rt_nodes.proofs.Reached.{same_some, IsAt, at_place, not_nowhere, row_at-none, row_at_is, place_of, below_row, behind_row}
use Rattle.rt_nodes.proofs.Joining.{in_row_times}

-- the node of a spot
abbrev pub here : SeekResult → Option ℕ
here (Here n) = Some n
here (Gap previous next) = None

module _ {X : Type 0} where
  -- ---- one step along a row
  at_link : (s : Slab (Slot X)) (o : Option ℕ) (n : ℕ) (slot : Slot X) → o ≡ Some n → IsPlace s o → get s n ≡ Some slot → IsAt s n slot
  at_link s o n slot is h there = at_place s n slot (subst (IsPlace s) is h) there

  pub spotted_by : (s : Slab (Slot X)) (o previous : Option ℕ) (n : ℕ) (slot : Slot X) (k : Key) → o ≡ Some n → IsPlace s o → get s n ≡ Some slot
      → (r : Ordering) → key_cmp k slot.key ≡ r → spot_in k previous (row_at s o) ≡ by_order r (Gap previous (Some n)) (Here n) (spot_in k (Some n) (row_at s slot.next))
  spotted_by s o previous n slot k is h there r order =
      ap (λ l. spot_in k previous (row_at s l)) is ∙ ap (spot_in k previous) (at_link s o n slot is h there).is
      ∙ ap (λ c. by_order c (Gap previous (Some n)) (Here n) (spot_in k (Some n) (row_at s slot.next))) order

  pub is_there : (s : Slab (Slot X)) (o : Option ℕ) (n : ℕ) → o ≡ Some n → IsPlace s o → get s n ≡ None → ⊥
  is_there s o n is h none = not_nowhere s n (subst (IsPlace s) is h) none

  pub fewer : (s : Slab (Slot X)) (o : Option ℕ) (n : ℕ) (slot : Slot X) → o ≡ Some n → IsPlace s o → get s n ≡ Some slot → size (row_at s slot.next) < size (row_at s o)
  fewer s o n slot is h there =
      let whole : size (row_at s o) ≡ size (node n slot.key slot.value (row_at s slot.first_child) (row_at s slot.next)) =
      ap (λ l. size (row_at s l)) is ∙ ap size (at_link s o n slot is h there).is in
      omega (arith, whole)

  pub next_place : (s : Slab (Slot X)) (o : Option ℕ) (n : ℕ) (slot : Slot X) → o ≡ Some n → IsPlace s o → get s n ≡ Some slot → IsPlace s slot.next
  next_place s o n slot is h there = (at_link s o n slot is h there).behind

  pub missing : (s : Slab (Slot X)) (o previous : Option ℕ) (k : Key) → o ≡ None → spot_in k previous (row_at s o) ≡ Gap previous None
  missing s o previous k is = ap (λ l. spot_in k previous (row_at s l)) is ∙ ap (spot_in k previous) (row_at-none s)

  pub index_spot : (k : Key) (previous : Option ℕ) (f : Forest X) → index_in k f ≡ here (spot_in k previous f)
  index_spot k previous bare = refl
  index_spot k previous (node n key value below behind) =
      elim (key_cmp k key) as (λ o. by_order o None (Some n) (index_in k behind) ≡ here (by_order o (Gap previous (Some n)) (Here n) (spot_in k (Some n) behind))) [
        | Less ↦ refl
        | Equal ↦ refl
        | Greater ↦ index_spot k (Some n) behind
      ]

  -- ---- what a key finds in a row
  pub record Found (s : Slab (Slot X)) (k : Key) (f : Forest X) (n : ℕ) : Type 0 where
    pub slot : Slot X
    pub there : get s n ≡ Some slot
    pub at : IsAt s n slot
    pub ends : place_in k [] f ≡ Some n
    pub goes : (j : Key) (p : Path) → place_in k (j ∷ p) f ≡ place_in j p (row_at s slot.first_child)

  pub find_found : (s : Slab (Slot X)) (o parent previous : Option ℕ) (f : Forest X) (k : Key) (n : ℕ) → IsRow s o parent previous f → index_in k f ≡ Some n → Found s k f n
  find_found s o parent previous bare k n h e = cc
  find_found s o parent previous (node m key value below behind) k n h e =
      elim (key_cmp k key) as (λ r. key_cmp k key ≡ r → by_order r None (Some m) (index_in k behind) ≡ Some n → Found s k (node m key value below behind) n) [
        | Less ↦ λ order g. cc
        | Equal ↦ λ order g.
            let slot : Slot X = record { key = key; parent = parent; first_child = first below; previous = previous; next = first behind; value = value } in
            let whole : IsRow s (Some m) parent previous (node m key value below behind) = record { links = h.links; sound = h.sound; starts = refl; fits = h.fits } in
            let b : row_at s (first below) ≡ below = row_at_is s (first below) (Some m) None below (below_row s o parent previous m key value below behind h) in
            let found : Found s k (node m key value below behind) m = record {
              slot = slot;
              there = h.links.0;
              at = at_place s m slot (place_of s (Some m) parent previous (node m key value below behind) whole) h.links.0;
              ends = ap (λ r. by_order r None (Some m) (place_in k [] behind)) order;
              goes = λ j p. ap (λ r. by_order r None (place_in j p below) (place_in k (j ∷ p) behind)) order ∙ ap (place_in j p) (sym b);
            } in
            subst (Found s k (node m key value below behind)) (same_some m n g) found
        | Greater ↦ λ order g.
            let rest = find_found s (first behind) parent (Some m) behind k n (behind_row s o parent previous m key value below behind h) g in record {
              slot = rest.slot;
              there = rest.there;
              at = rest.at;
              ends = ap (λ r. by_order r None (Some m) (place_in k [] behind)) order ∙ rest.ends;
              goes = λ j p. ap (λ r. by_order r None (place_in j p below) (place_in k (j ∷ p) behind)) order ∙ rest.goes j p;
            }
      ] refl e

  pub record Lacks (k : Key) (f : Forest X) : Type 0 where
    pub place : (p : Path) → place_in k p f ≡ None

  place_none : (k : Key) (p : Path) (n : ℕ) (key : Key) (value : X) (below behind : Forest X) → key_cmp k key ≡ Less → place_in k p (node n key value below behind) ≡ None
  place_none k [] n key value below behind order = ap (λ r. by_order r None (Some n) (place_in k [] behind)) order
  place_none k (j ∷ p) n key value below behind order = ap (λ r. by_order r None (place_in j p below) (place_in k (j ∷ p) behind)) order

  place_later : (k : Key) (p : Path) (n : ℕ) (key : Key) (value : X) (below behind : Forest X) → key_cmp k key ≡ Greater → place_in k p (node n key value below behind) ≡ place_in k p behind
  place_later k [] n key value below behind order = ap (λ r. by_order r None (Some n) (place_in k [] behind)) order
  place_later k (j ∷ p) n key value below behind order = ap (λ r. by_order r None (place_in j p below) (place_in k (j ∷ p) behind)) order

  pub find_lacks : (f : Forest X) (k : Key) → Sound f → index_in k f ≡ None → Lacks k f
  find_lacks bare k h e = record { place = none }
    where
      none : (p : Path) → place_in {X = X} k p bare ≡ None
      none [] = refl
      none (j ∷ p) = refl
  find_lacks (node m key value below behind) k h e =
      elim (key_cmp k key) as (λ r. key_cmp k key ≡ r → by_order r None (Some m) (index_in k behind) ≡ None → Lacks k (node m key value below behind)) [
        | Less ↦ λ order g. record {
          place = λ p. place_none k p m key value below behind order;
        }
        | Equal ↦ λ order g. cc
        | Greater ↦ λ order g.
            let rest = find_lacks behind k h.2 g in record {
              place = λ p. place_later k p m key value below behind order ∙ rest.place p;
            }
      ] refl e

  -- ---- the steps of `descend`
  pub ends_none : (s : Slab (Slot X)) (o : Option ℕ) (k : Key) (p : Path) → IsPlace s o → index_in k (row_at s o) ≡ None → place_in k p (row_at s o) ≡ None
  ends_none s o k p h e = (find_lacks (row_at s o) k h.2.sound e).place p

  pub ends_here : (s : Slab (Slot X)) (o : Option ℕ) (k : Key) (p : Path) (n : ℕ) → IsPlace s o → index_in k (row_at s o) ≡ Some n → length p ≡ 0 → place_in k p (row_at s o) ≡ Some n
  ends_here s o k [] n h e short = (find_found s o h.0 h.1 (row_at s o) k n h.2 e).ends
  ends_here s o k (j ∷ p) n h e short = absurd (omega (arith, short))

  same_slot : (s : Slab (Slot X)) (n : ℕ) (x y : Slot X) → get s n ≡ Some x → get s n ≡ Some y → x ≡ y
  same_slot s n x y e f = ap (λ o. option_map_or (λ z. z) o x) (sym e ∙ f)

  pub goes_below : (s : Slab (Slot X)) (o : Option ℕ) (k j : Key) (p : Path) (n : ℕ) (slot : Slot X) → IsPlace s o → index_in k (row_at s o) ≡ Some n → get s n ≡ Some slot
      → place_in k (j ∷ p) (row_at s o) ≡ place_in j p (row_at s slot.first_child)
  goes_below s o k j p n slot h e there =
      let d = find_found s o h.0 h.1 (row_at s o) k n h.2 e in
      d.goes j p ∙ ap (λ (x : Slot X). place_in j p (row_at s x.first_child)) (same_slot s n d.slot slot d.there there)

  pub lost : (s : Slab (Slot X)) (o : Option ℕ) (k : Key) (n : ℕ) → IsPlace s o → index_in k (row_at s o) ≡ Some n → get s n ≡ None → ⊥
  lost s o k n h e none =
      let d = find_found s o h.0 h.1 (row_at s o) k n h.2 e in
      cc (ap is_some (sym d.there ∙ none))

  -- a key is found at a sibling
  pub found_in_row : (k : Key) (n : ℕ) (f : Forest X) → index_in k f ≡ Some n → InRow n f
  found_in_row k n bare e = cc
  found_in_row k n (node m key value below behind) e =
      elim (key_cmp k key) as (λ o. by_order o None (Some m) (index_in k behind) ≡ Some n → (n ≡ m) ⊎ InRow n behind) [
        | Less ↦ λ g. cc
        | Equal ↦ λ g. inl (sym (same_some m n g))
        | Greater ↦ λ g. inr (found_in_row k n behind g)
      ] e

  -- the node in front of it has another number
  pub other_number : (n m : ℕ) (key : Key) (value : X) (below behind : Forest X) → InRow n behind → times n (node m key value below behind) ≤ 1 → nat_eq n m ≡ false
  other_number n m key value below behind is once =
      elim (nat_eq n m) as (λ b. one_if b + (times n below + times n behind) ≤ 1 → b ≡ false) [
        | true ↦ λ h. absurd (omega (arith, h, in_row_times n behind is))
        | false ↦ λ h. refl
      ] once
