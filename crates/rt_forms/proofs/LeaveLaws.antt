-- Nodes that change where a listener ends.
use Rattle.std.proofs.Common.{◌≡◌, ◌≢◌, ◌≤◌, ◌<◌, ℕ, zero, suc, [], ◌∷◌, ◌++◌, Option, Some, None, Bool, true, false, cond, nat_lt, ◌==◌, inl, inr, refl, sym, ap, subst, ◌∙◌, arith}
use mathlib.Core.Bool.{true≢false}
use Rattle.std.specs.Prelude.{nat_eq}
use Rattle.std.specs.List.{list_any}
use Rattle.std.specs.Option.{option_map, option_map_or}
use Rattle.std.proofs.lemmas.Bool.{eqb-true}
use Rattle.slab.specs.Slab.{Slab, get, slab_len}
use Rattle.rt_tree.specs.PathTree.{Key, Path}
use Rattle.rt_query.specs.Queries.{Query}
use Rattle.rt_nodes.specs.Forest.{Forest, bare, node, times, Links, IsRow, row_at}
use Rattle.rt_nodes.specs.Walks.{spot_in, index_in}
use Rattle.rt_nodes.specs.Changes.{Changed, InRow, IsHead, below_of, with_below, with_content, without}
use Rattle.rt_nodes.specs.declared.nodes.Slot.{Slot}
use Rattle.rt_nodes.specs.declared.nodes.SeekResult.TheVariants.{Here, Gap}
use Rattle.rt_nodes.proofs.Reached.{same_some, row_at_is}
use Rattle.rt_nodes.proofs.Joining.{slots_same}
use Rattle.rt_nodes.proofs.Paths.{here, index_spot, found_in_row}
use Rattle.rt_nodes.proofs.Felling.{one_of}
use Rattle.rt_nodes.proofs.Taking.{below_is, times_without, later_of}
use Rattle.rt_nodes.proofs.Replacing.{with_row, with_changed}
use Rattle.rt_nodes.proofs.Growing.{same_changed}
use Rattle.rt_forms.specs.inside.Trees.{Standing, Trees, Nodes, seen, seen_in, child_in, IsStanding, Good, Ends, Takes, TakesIn, IsTaken, pruned, Loses, MayLeave, Leaves}
use Rattle.rt_forms.proofs.RowLaws.{child_found, child_lacks, good_child}
use Rattle.rt_forms.proofs.NodeLaws.{at_row, at_once}
use Rattle.rt_forms.proofs.TakeLaws.{takes_here, takes_below, takes_pruned}

-- one change after another
module _ {X : Type 0} (s u w : Slab (Slot X)) (f g h : Forest X) (a : Changed s u f g) (b : Changed u w g h) where
  kept_twice : (n : ℕ) → times n f ≡ 0 → times n h ≡ 0 → (c : ℕ) → times n g ≡ c → get w n ≡ get s n
  kept_twice n nof none zero e = b.kept n e none ∙ a.kept n nof e
  kept_twice n nof none (suc c) e = b.gone n (omega (arith, e)) none ∙ sym (a.fresh n (omega (arith, e)) nof)

  gone_twice : (n : ℕ) → 0 < times n f → times n h ≡ 0 → (c : ℕ) → times n g ≡ c → get w n ≡ None
  gone_twice n some none zero e = b.kept n e none ∙ a.gone n some e
  gone_twice n some none (suc c) e = b.gone n (omega (arith, e)) none

  fresh_twice : (n : ℕ) → 0 < times n h → times n f ≡ 0 → (c : ℕ) → times n g ≡ c → get s n ≡ None
  fresh_twice n some none zero e = sym (a.kept n none e) ∙ b.fresh n some e
  fresh_twice n some none (suc c) e = a.fresh n (omega (arith, e)) none

  pub changed_twice : Changed s w f h
  changed_twice = record {
    kept = λ n nof none. kept_twice n nof none (times n g) refl;
    gone = λ n some none. gone_twice n some none (times n g) refl;
    fresh = λ n some none. fresh_twice n some none (times n g) refl;
    once = b.once;
    len = let c = a.len in let d = b.len in omega (arith, c, d);
  }

in_with_below : {X : Type 0} (k : ℕ) (l : X) (b f : Forest X) → InRow k f → InRow k (with_below k l b f)
in_with_below k l b bare is = absurd is
in_with_below k l b (node n key value below behind) is =
    elim (nat_eq k n) as (λ t. nat_eq k n ≡ t → InRow k (cond t (node n key l b behind) (node n key value below (with_below k l b behind)))) [
      | true ↦ λ e. inl (eqb-true k n e)
      | false ↦ λ e. inr (in_with_below k l b behind (later_of k n behind is e))
    ] refl

-- ---- a node that is pruned
pub none_true : (n : ℕ) → n ≡ 0 → nat_lt 0 n ≡ false
none_true n e = ap (nat_lt 0) e

pub prune_cases : (s : Nodes) (parent previous : Option ℕ) (f : Trees) (k : ℕ) (slot : Slot Standing) → Links s parent previous f → InRow k f → get s k ≡ Some slot
    → pruned k f ≡ cond (nat_lt 0 slot.value.count) f (without k f)
prune_cases s parent previous bare k slot h is there = absurd is
prune_cases s parent previous (node n key x below behind) k slot h is there =
    elim (nat_eq k n) as (λ t. nat_eq k n ≡ t → cond t (cond (nat_lt 0 x.count) (node n key x below behind) behind) (node n key x below (pruned k behind))
    ≡ cond (nat_lt 0 slot.value.count) (node n key x below behind) (cond t behind (node n key x below (without k behind)))) [
      | true ↦ λ e.
          ap (λ (y : Slot Standing). cond (nat_lt 0 y.value.count) (node n key x below behind) behind)
          (slots_same s n _ slot h.0 (ap (get s) (sym (eqb-true k n e)) ∙ there))
      | false ↦ λ e.
          ap (node n key x below) (prune_cases s parent (Some n) behind k slot h.2 (later_of k n behind is e) there)
          ∙ either (nat_lt 0 slot.value.count) n key x below behind (without k behind)
    ] refl
  where
    either : (b : Bool) (i : ℕ) (j : Key) (y : Standing) (z g g2 : Trees) → node i j y z (cond b g g2) ≡ cond b (node i j y z g) (node i j y z g2)
    either true i j y z g g2 = refl
    either false i j y z g g2 = refl

-- ---- a key that isn't there
pub nothing_there : (s : Nodes) (o parent : Option ℕ) (k : Key) (p q : Option ℕ) → IsRow s o parent None (row_at s o) → spot_in k None (row_at s o) ≡ Gap p q
    → (r : Query) (d : Path) (m : ℕ) → list_any (λ i. i == m) (seen_in r k d (row_at s o)) ≡ true → ⊥
nothing_there s o parent k p q row spot r d m there =
    let none : child_in k (row_at s o) ≡ None = child_lacks (row_at s o) k row.sound (index_spot k None (row_at s o) ∙ ap here spot) in
    true≢false (sym there ∙ ap (λ z. list_any (λ i. i == m) (option_map_or (λ (e : Standing × Trees). seen r d e.0 e.1) z [])) none)

-- ---- a row with a listener less
is_taken : (s u : Nodes) (o r parent : Option ℕ) (g : Trees) (k : Key) (p : Path) (q : Query) (m : ℕ) → IsRow u r parent None g → Changed s u (row_at s o) g
    → TakesIn (row_at s o) g k p q m → IsTaken s u o r parent k p q m
is_taken s u o r parent g k p q m row changed takes =
    let same : g ≡ row_at u r = sym (row_at_is u r parent None g row) in record {
      row = subst (IsRow u r parent None) same row;
      changed = subst (Changed s u (row_at s o)) same changed;
      takes = subst (λ x. TakesIn (row_at s o) x k p q m) same takes;
    }

module _ (s : Nodes) (o parent : Option ℕ) (k : Key) (n : ℕ) (slot : Slot Standing)
    (row : IsRow s o parent None (row_at s o)) (once : (i : ℕ) → times i (row_at s o) ≤ 1) (spot : spot_in k None (row_at s o) ≡ Here n) (there : get s n ≡ Some slot)
    (d : Path) (good : Good d (row_at s o)) where
  at : index_in k (row_at s o) ≡ Some n
  at = index_spot k None (row_at s o) ∙ ap here spot

  is : InRow n (row_at s o)
  is = found_in_row k n (row_at s o) at

  child : child_in k (row_at s o) ≡ Some (slot.value, row_at s slot.first_child)
  child = child_found s o parent None (row_at s o) k n slot row at there

  known : (0 < slot.value.count) × IsStanding (d ++ k ∷ []) slot.value (row_at s slot.first_child) × Good (d ++ k ∷ []) (row_at s slot.first_child)
  known = good_child d k (row_at s o) slot.value (row_at s slot.first_child) good child

  pub leave_good : Good (d ++ k ∷ []) (row_at s slot.first_child)
  leave_good = known.2

  pub leave_some : 0 < slot.value.count
  leave_some = known.0

  -- the node and what stands below it became others: t after what changed below it, u after the node did
  module _ (t u : Nodes) (link : Option ℕ) (y : Standing) (c : Trees) (p : Path) (q : Query) (m : ℕ) (takes : Takes slot.value (row_at s slot.first_child) y c p q m)
      (below : IsRow t link (Some n) None c) (changed : Changed s t (row_at s slot.first_child) c)
      (written : get u n ≡ option_map (with_content y link) (get t n)) (others : (i : ℕ) → i ≢ n → get u i ≡ get t i) (len : slab_len u ≡ slab_len t) where
    more : Changed s t (below_of n (row_at s o)) c
    more = subst (λ e. Changed s t e c) (below_is s o parent n slot row is there) changed

    turned_row : IsRow u o parent None (with_below n y c (row_at s o))
    turned_row = with_row s t u o parent link y (row_at s o) c n row once is below more written others len

    turned_changed : Changed s u (row_at s o) (with_below n y c (row_at s o))
    turned_changed = with_changed s t u o parent link y (row_at s o) c n row once is below more written others len

    turned_is : row_at u o ≡ with_below n y c (row_at s o)
    turned_is = row_at_is u o parent None (with_below n y c (row_at s o)) turned_row

    left_row : IsRow u o parent None (row_at u o)
    left_row = subst (IsRow u o parent None) (sym turned_is) turned_row

    left_once : (i : ℕ) → times i (row_at u o) ≤ 1
    left_once i = let e = ap (times i) turned_is in let f = turned_changed.once i in omega (arith, e, f)

    left_there : InRow n (row_at u o)
    left_there = subst (InRow n) (sym turned_is) (in_with_below n y c (row_at s o) is)

    pub to_prune : IsHead u o × ((i : ℕ) → times i (row_at u o) ≤ 1) × InRow n (row_at u o)
    to_prune = ((parent, left_row), left_once, left_there)

    -- and was pruned
    pub taken : (w : Nodes) (r : Option ℕ) → ((above : Option ℕ) → IsRow u o above None (row_at u o) → IsRow w r above None (pruned n (row_at u o)))
        → Changed u w (row_at u o) (pruned n (row_at u o)) → IsTaken s w o r parent k p q m
    taken w r after changes =
        is_taken s w o r parent (pruned n (with_below n y c (row_at s o))) k p q m
        (subst (λ f. IsRow w r parent None (pruned n f)) turned_is (after parent left_row))
        (changed_twice s u w (row_at s o) (with_below n y c (row_at s o)) (pruned n (with_below n y c (row_at s o))) turned_changed
        (subst (λ f. Changed u w f (pruned n f)) turned_is changes))
        (takes_pruned n k slot.value y (row_at s slot.first_child) c (row_at s o) p q m at once row.sound child d good takes)

  -- at the node
  module _ (u : Nodes) (q : Query) (m : ℕ) (g : Loses s u n q m) where
    same_here : g.0 ≡ slot
    same_here = same_some g.0 slot (sym g.2 ∙ there)

    lost_here : Takes slot.value (row_at s slot.first_child) g.1 (row_at s slot.first_child) [] q m
    lost_here =
        takes_here slot.value g.1 (row_at s slot.first_child) q m
        ((subst (λ (z : Slot Standing). Ends z.value g.1 q m) same_here g.3).by_path (d ++ k ∷ []) (known.1).at)

    now_here : get u n ≡ option_map (with_content g.1 slot.first_child) (get s n)
    now_here =
        g.4 ∙ ap (λ (z : Slot Standing). Some (with_content g.1 z.first_child z)) same_here ∙ sym (ap (option_map (with_content g.1 slot.first_child)) there)

    below_here : IsRow s slot.first_child (Some n) None (row_at s slot.first_child)
    below_here = at_row s o parent k n slot row once spot there

    still_here : Changed s s (row_at s slot.first_child) (row_at s slot.first_child)
    still_here = same_changed s (row_at s slot.first_child) (at_once s o parent k n slot row once spot there)

    pub prune_here : IsHead u o × ((i : ℕ) → times i (row_at u o) ≤ 1) × InRow n (row_at u o)
    prune_here = to_prune s u slot.first_child g.1 (row_at s slot.first_child) [] q m lost_here below_here still_here now_here g.5.0 g.5.1

    pub taken_here : (w : Nodes) (r : Option ℕ) → ((above : Option ℕ) → IsRow u o above None (row_at u o) → IsRow w r above None (pruned n (row_at u o)))
        → Changed u w (row_at u o) (pruned n (row_at u o)) → IsTaken s w o r parent k [] q m
    taken_here = taken s u slot.first_child g.1 (row_at s slot.first_child) [] q m lost_here below_here still_here now_here g.5.0 g.5.1

  -- below it: t after what was done there
  module _ (t : Nodes) (link : Option ℕ) (j : Key) (p : Path) (q : Query) (m : ℕ) (inside : IsTaken s t slot.first_child link (Some n) j p q m) where
    none_below : times n (row_at s slot.first_child) ≡ 0
    none_below = omega (arith, ap (times n) (below_is s o parent n slot row is there), times_without n (row_at s o) is n, one_of n, once n)

    none_now : (i : ℕ) → times n (row_at t link) ≡ i → i ≡ 0
    none_now zero e = refl
    none_now (suc i) e = cc (there, inside.changed.fresh n (omega (arith, e)) none_below)

    still : get t n ≡ Some slot
    still = inside.changed.kept n none_below (none_now (times n (row_at t link)) refl) ∙ there

    pub may_leave : MayLeave t n
    may_leave = (slot, still, known.0)

    module _ (u : Nodes) (g : Leaves t u n link) where
      same_below : g.0 ≡ slot
      same_below = same_some g.0 slot (sym g.2 ∙ still)

      fell_below : Takes slot.value (row_at s slot.first_child) g.1 (row_at t link) (j ∷ p) q m
      fell_below = takes_below slot.value g.1 (row_at s slot.first_child) (row_at t link) j p q m (ap (λ (z : Slot Standing). z.value) (sym same_below) ∙ g.3) inside.takes

      now_below : get u n ≡ option_map (with_content g.1 link) (get t n)
      now_below = g.4 ∙ ap (λ (z : Slot Standing). Some (with_content g.1 link z)) same_below ∙ sym (ap (option_map (with_content g.1 link)) still)

      pub prune_below : IsHead u o × ((i : ℕ) → times i (row_at u o) ≤ 1) × InRow n (row_at u o)
      prune_below = to_prune t u link g.1 (row_at t link) (j ∷ p) q m fell_below inside.row inside.changed now_below g.5.0 g.5.1

      pub taken_below : (w : Nodes) (r : Option ℕ) → ((above : Option ℕ) → IsRow u o above None (row_at u o) → IsRow w r above None (pruned n (row_at u o)))
          → Changed u w (row_at u o) (pruned n (row_at u o)) → IsTaken s w o r parent k (j ∷ p) q m
      taken_below = taken t u link g.1 (row_at t link) (j ∷ p) q m fell_below inside.row inside.changed now_below g.5.0 g.5.1
