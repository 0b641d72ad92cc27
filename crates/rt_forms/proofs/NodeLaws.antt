-- Nodes that are made and changed for a listener.
use Rattle.std.proofs.Common.{◌≡◌, ◌≢◌, ◌≤◌, ◌<◌, ℕ, zero, suc, ◌+◌, ◌^◌, [], ◌∷◌, ◌++◌, Option, Some, None, true, false, refl, sym, ap, subst, ◌∙◌, arith, append_assoc}
use Rattle.std.specs.Prelude.{nat_eq}
use Rattle.std.specs.Option.{option_map, option_map_or}
use Rattle.std.proofs.lemmas.Bool.{eqb-true, eq-eqb}
use Rattle.slab.specs.Slab.{get, slab_len, Updates}
use Rattle.rt_tree.specs.PathTree.{Key, Path}
use Rattle.rt_query.specs.Queries.{Query}
use Rattle.rt_nodes.specs.Forest.{bare, node, times, IsRow, row_at}
use Rattle.rt_nodes.specs.Nodes.{Inserted}
use Rattle.rt_nodes.specs.Walks.{spot_in, index_in}
use Rattle.rt_nodes.specs.Changes.{Same, Changed, Grown, InRow, below_of, linked_in, with_below, with_content}
use Rattle.rt_nodes.specs.declared.nodes.Slot.{Slot}
use Rattle.rt_nodes.specs.declared.nodes.SeekResult.TheVariants.{Here, Gap}
use Rattle.rt_nodes.proofs.Reached.{same_some, row_at_is, row_at-none}
use Rattle.rt_nodes.proofs.Paths.{here, index_spot, found_in_row, Found, find_found}
use Rattle.rt_nodes.proofs.Felling.{one_of}
use Rattle.rt_nodes.proofs.Taking.{below_is, below_row, below_once, times_without}
use Rattle.rt_nodes.proofs.Replacing.{with_row, with_changed}
use Rattle.rt_nodes.proofs.Planting.{planted_row, planted_changed}
use Rattle.rt_nodes.proofs.Growing.{grown_none, one_grown, one_is, same_changed}
use Rattle.rt_forms.specs.inside.Trees.{Standing, Trees, Nodes, seen_in, seen, total, child_in, IsStanding, Good, Gained, Adds, AddsIn, Made, IsAdded, empty, passed, Gains, MayPass, Passes}
use Rattle.rt_forms.proofs.RowLaws.{child_found, good_child, count_child}
use Rattle.rt_forms.proofs.AddLaws.{adds_here, adds_below, adds_planted, adds_with_below}

-- ---- a node that is made
-- alone: s before, u with it
module _ (s u : Nodes) (n : ℕ) (key : Key) (parent : Option ℕ) (x : Standing) (put_in : Inserted s u n key parent x) where
  is_written : get u n ≡ option_map (with_content x None) (get u n)
  is_written = put_in.updates.changed ∙ sym (ap (option_map (with_content x None)) put_in.updates.changed)

  nothing : Grown u u None (Some n)
  nothing = grown_none u (Some n)

  pub alone_grown : Grown s u (Some n) parent
  alone_grown = one_grown s u n key parent x put_in.vacant put_in.updates put_in.len u u x None (row_at u None) nothing.row nothing.changed is_written (λ m other. refl) refl

  alone_is : row_at u (Some n) ≡ node n key x bare bare
  alone_is =
      one_is s u n key parent x put_in.vacant put_in.updates put_in.len u u x None (row_at u None) nothing.row nothing.changed is_written (λ m other. refl) refl
      ∙ ap (λ b. node n key x b bare) (row_at-none u)

  pub alone_made : (r : Query) (m : ℕ) → Gained empty x r m → Made (row_at u (Some n)) n key [] r m
  alone_made r m g = record { value = x; below = bare; is = alone_is; adds = adds_here empty x bare r m g }

-- with what was made below it: s before, u with the node, t with what stands below it, v with both linked
module _ (s u : Nodes) (n : ℕ) (key : Key) (parent : Option ℕ) (put_in : Inserted s u n key parent empty)
    (t v : Nodes) (i : ℕ) (grown : Grown u t (Some i) (Some n))
    (written : get v n ≡ option_map (with_content (passed empty) (Some i)) (get t n)) (others : (m : ℕ) → m ≢ n → get v m ≡ get t m) (len : slab_len v ≡ slab_len t) where
  pub under_grown : Grown s v (Some n) parent
  under_grown = one_grown s u n key parent empty put_in.vacant put_in.updates put_in.len t v (passed empty) (Some i) (row_at t (Some i)) grown.row grown.changed written others len

  under_is : row_at v (Some n) ≡ node n key (passed empty) (row_at t (Some i)) bare
  under_is = one_is s u n key parent empty put_in.vacant put_in.updates put_in.len t v (passed empty) (Some i) (row_at t (Some i)) grown.row grown.changed written others len

  pub under_made : (j : Key) (p : Path) (r : Query) (m : ℕ) → Made (row_at t (Some i)) i j p r m → Made (row_at v (Some n)) n key (j ∷ p) r m
  under_made j p r m made = record {
    value = passed empty;
    below = row_at t (Some i);
    is = under_is;
    adds = adds_below empty bare (row_at t (Some i)) j p r m (subst (λ g. AddsIn bare g j p r m) (sym made.is) (adds_planted i j made.value made.below bare None None None p r m tt refl made.adds));
  }

-- a node that was made is taken out again: s before, u with the node, t after what didn't get on, w without it
pub taken_back : (s u t w : Nodes) (n : ℕ) (key : Key) (parent : Option ℕ) (x : Standing) → Inserted s u n key parent x → Same u t
    → Updates t w n None → (get t n ≢ None → slab_len w + 1 ≡ slab_len t) → Same s w
taken_back s u t w n key parent x put_in same taken less = record {
  kept = λ m. elim (nat_eq m n) as (λ b. nat_eq m n ≡ b → get w m ≡ get s m) [
    | true ↦ λ e. let is : m ≡ n = eqb-true m n e in ap (get w) is ∙ taken.changed ∙ sym (ap (get s) is ∙ put_in.vacant)
    | false ↦ λ e. let other : m ≢ n = λ is. cc (e, eq-eqb m n is) in taken.others m other ∙ same.kept m ∙ put_in.updates.others m other
  ] refl;
  len = omega (arith, less (λ none. cc (sym none ∙ same.kept n ∙ put_in.updates.changed)), same.len, put_in.len);
}

-- ---- a row with a listener more
pub is_added : (s u : Nodes) (o r parent : Option ℕ) (g : Trees) (k : Key) (p : Path) (q : Query) (m : ℕ) → IsRow u r parent None g → Changed s u (row_at s o) g
    → AddsIn (row_at s o) g k p q m → IsAdded s u o r parent k p q m
is_added s u o r parent g k p q m row changed adds =
    let same : g ≡ row_at u r = sym (row_at_is u r parent None g row) in record {
      row = subst (IsRow u r parent None) same row;
      changed = subst (Changed s u (row_at s o)) same changed;
      adds = subst (λ x. AddsIn (row_at s o) x k p q m) same adds;
    }

-- by a node that is new: s before, t with the node, u with it linked
pub added_new : (s t u : Nodes) (o r parent previous next : Option ℕ) (n : ℕ) (k : Key) (p : Path) (q : Query) (m : ℕ)
    → IsRow s o parent None (row_at s o) → ((i : ℕ) → times i (row_at s o) ≤ 1) → spot_in k None (row_at s o) ≡ Gap previous next
    → Grown s t (Some n) parent → Made (row_at t (Some n)) n k p q m
    → ((i : ℕ) → get u i ≡ option_map (linked_in previous n next i) (get t i)) → slab_len u ≡ slab_len t
    → (previous ≡ None → r ≡ Some n) → ((x : ℕ) → previous ≡ Some x → r ≡ o) → IsAdded s u o r parent k p q m
added_new s t u o r parent previous next n k p q m row once spot grown made each len front later =
    let f = row_at s o in
    let new = subst (IsRow t (Some n) parent None) made.is grown.row in
    let more = subst (Changed s t bare) made.is grown.changed in
    is_added s u o r parent _ k p q m
    (planted_row s t u o parent previous next f n k made.value made.below row once spot new more each len r front later)
    (planted_changed s t u o parent previous next f n k made.value made.below row once spot new more each len)
    (adds_planted n k made.value made.below f None previous next p q m row.sound spot made.adds)

-- ---- a node that is there
pub there_at : (s : Nodes) (o parent : Option ℕ) (k : Key) (n : ℕ) → IsRow s o parent None (row_at s o) → spot_in k None (row_at s o) ≡ Here n → Found s k (row_at s o) n
there_at s o parent k n row spot = find_found s o parent None (row_at s o) k n row (index_spot k None (row_at s o) ∙ ap here spot)

module _ (s : Nodes) (o parent : Option ℕ) (k : Key) (n : ℕ) (slot : Slot Standing)
    (row : IsRow s o parent None (row_at s o)) (once : (i : ℕ) → times i (row_at s o) ≤ 1) (spot : spot_in k None (row_at s o) ≡ Here n) (there : get s n ≡ Some slot) where
  at : index_in k (row_at s o) ≡ Some n
  at = index_spot k None (row_at s o) ∙ ap here spot

  is : InRow n (row_at s o)
  is = found_in_row k n (row_at s o) at

  child : child_in k (row_at s o) ≡ Some (slot.value, row_at s slot.first_child)
  child = child_found s o parent None (row_at s o) k n slot row at there

  pub at_row : IsRow s slot.first_child (Some n) None (row_at s slot.first_child)
  at_row = below_row s o parent n slot row is there

  pub at_once : (i : ℕ) → times i (row_at s slot.first_child) ≤ 1
  at_once = below_once s o parent n slot row is there once

  -- what stands at the path there
  pub at_numbers : (q : Query) (p : Path) → seen_in q k p (row_at s o) ≡ seen q p slot.value (row_at s slot.first_child)
  at_numbers q p = ap (λ z. option_map_or (λ (e : Standing × Trees). seen q p e.0 e.1) z []) child

  pub at_good : (d p : Path) (q : Query) → q.path ≡ d ++ (k ∷ p) → Good d (row_at s o)
      → (q.path ≡ (d ++ k ∷ []) ++ p) × IsStanding (d ++ k ∷ []) slot.value (row_at s slot.first_child) × Good (d ++ k ∷ []) (row_at s slot.first_child)
  at_good d p q path h =
      let known = good_child d k (row_at s o) slot.value (row_at s slot.first_child) h child in
      (path ∙ sym (append_assoc d (k ∷ []) p), known.1, known.2)

  pub at_count : slot.value.count ≤ total (row_at s o)
  at_count = count_child k (row_at s o) slot.value (row_at s slot.first_child) child

  pub at_total : (d : Path) → Good d (row_at s o) → total (row_at s slot.first_child) ≤ total (row_at s o)
  at_total d h =
      let known = good_child d k (row_at s o) slot.value (row_at s slot.first_child) h child in
      let sum = (known.1).count in let le = at_count in omega (arith, sum, le)

  -- the node and what stands below it became others: t after what changed below it, u after the node did
  module _ (t u : Nodes) (link : Option ℕ) (y : Standing) (c : Trees) (p : Path) (q : Query) (m : ℕ) (adds : Adds slot.value (row_at s slot.first_child) y c p q m)
      (below : IsRow t link (Some n) None c) (changed : Changed s t (row_at s slot.first_child) c)
      (written : get u n ≡ option_map (with_content y link) (get t n)) (others : (i : ℕ) → i ≢ n → get u i ≡ get t i) (len : slab_len u ≡ slab_len t) where
    more : Changed s t (below_of n (row_at s o)) c
    more = subst (λ d. Changed s t d c) (below_is s o parent n slot row is there) changed

    pub replaced : IsAdded s u o o parent k p q m
    replaced =
        is_added s u o o parent (with_below n y c (row_at s o)) k p q m
        (with_row s t u o parent link y (row_at s o) c n row once is below more written others len)
        (with_changed s t u o parent link y (row_at s o) c n row once is below more written others len)
        (adds_with_below n k slot.value y (row_at s slot.first_child) c (row_at s o) p q m at once child adds)

  -- at the node
  pub added_here : (u : Nodes) (q : Query) (m : ℕ) → Gains s u n q m → IsAdded s u o o parent k [] q m
  added_here u q m g =
      let same : g.0 ≡ slot = same_some g.0 slot (sym g.2 ∙ there) in
      let gained = subst (λ (z : Slot Standing). Gained z.value g.1 q m) same g.3 in
      let now : get u n ≡ Some (with_content g.1 slot.first_child slot) = g.4 ∙ ap (λ (z : Slot Standing). Some (with_content g.1 z.first_child z)) same in
      replaced s u slot.first_child g.1 (row_at s slot.first_child) [] q m (adds_here slot.value g.1 (row_at s slot.first_child) q m gained)
      at_row (same_changed s (row_at s slot.first_child) at_once)
      (now ∙ sym (ap (option_map (with_content g.1 slot.first_child)) there)) g.5.0 g.5.1

  -- below it: t after what was done there
  module _ (t : Nodes) (link : Option ℕ) (j : Key) (p : Path) (q : Query) (m : ℕ) (inside : IsAdded s t slot.first_child link (Some n) j p q m) where
    none_below : times n (row_at s slot.first_child) ≡ 0
    none_below = omega (arith, ap (times n) (below_is s o parent n slot row is there), times_without n (row_at s o) is n, one_of n, once n)

    none_now : (i : ℕ) → times n (row_at t link) ≡ i → i ≡ 0
    none_now zero e = refl
    none_now (suc i) e = cc (there, inside.changed.fresh n (omega (arith, e)) none_below)

    still : get t n ≡ Some slot
    still = inside.changed.kept n none_below (none_now (times n (row_at t link)) refl) ∙ there

    pub may_pass : slot.value.count + 1 < 2 ^ 64 → MayPass t n
    may_pass room = (slot, still, room)

    pub added_below : (u : Nodes) → Passes t u n link → IsAdded s u o o parent k (j ∷ p) q m
    added_below u g =
        let same : g.0 ≡ slot = same_some g.0 slot (sym g.1 ∙ still) in
        let now : get u n ≡ Some (with_content (passed slot.value) link slot) = g.2 ∙ ap (λ (z : Slot Standing). Some (with_content (passed z.value) link z)) same in
        replaced t u link (passed slot.value) (row_at t link) (j ∷ p) q m (adds_below slot.value (row_at s slot.first_child) (row_at t link) j p q m inside.adds)
        inside.row inside.changed
        (now ∙ sym (ap (option_map (with_content (passed slot.value) link)) still)) g.3.0 g.3.1
