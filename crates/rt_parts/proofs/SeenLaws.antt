-- One child that a query sees.
use Rattle.std.proofs.Common.{◌≡◌, Bool, true, false, cond, not, ◌&&◌, ◌||◌, [], ◌∷◌, ◌++◌, List, length, length-append, ◌+◌, ◌≤◌, arith, refl, sym, ap, subst, ◌∙◌, Option, Some, None}
use mathlib.Core.Bool.{true≢false}
use Rattle.std.specs.Prelude.{IfSome}
use Rattle.std.specs.Option.{option_map}
use Rattle.rt_tree.specs.PathTree.{Key, Path, PathTree, child, is_null, leaf_at-null, leaf_at-sub, levels, null, null_of_is_null, same_tree, with_children}
use Rattle.rt_tree.specs.Parts.{child-with_children}
use Rattle.rt_query.specs.Queries.{Query, is_filtered}
use Rattle.rt_writes.specs.Writes.{Write, overlay}
use Rattle.rt_writes.specs.laws.Overlay.{OverlayOfChild}
use Rattle.rt_cache.specs.Brought.{child_base}
use Rattle.rt_cache.specs.declared.brought.Base.{Base}
use Rattle.rt_world.specs.Views.{base_tree, is_base_whole, is_child_known, seen_over}

-- null has no children
no_child : (k : Key) → null ≡ child null k
no_child k = same_tree null (child null k) (λ q. leaf_at-null q ∙ sym (leaf_at-null (k ∷ q)) ∙ sym (leaf_at-sub null (k ∷ []) q))

-- what is brought of one child
pub tree_child : (o : Option Base) (k : Key) → base_tree (option_map (child_base k) o) ≡ child (base_tree o) k
tree_child None k = no_child k
tree_child (Some x) k = refl

pub whole_child : (o : Option Base) (k : Key) → is_base_whole (option_map (child_base k) o) ≡ is_base_whole o
whole_child None k = refl
whole_child (Some x) k = refl

-- a child has fewer levels than its path may have keys
pub few_levels : (o : Option Base) (p : Path) (k : Key) → IfSome o (λ (b : Base). length (p ++ k ∷ []) + levels b.tree ≤ 33) → IfSome o (λ (b : Base). levels b.tree ≤ 32)
few_levels None p k h = tt
few_levels (Some b) p k h = omega (arith, h, length-append p (k ∷ []))

module _ (law : OverlayOfChild) (q : Query) (o : Option Base) (ws : List Write) (k : Key) where
  abbrev over : PathTree
  over = overlay (q.path ++ k ∷ []) (child (base_tree o) k) ws

  abbrev partial : Bool
  partial = is_filtered q && not (is_base_whole o)

  child_seen : child (seen_over o ws q) k ≡ cond partial (cond (is_child_known (base_tree o) ws q.path k) over null) over
  child_seen = elim partial as (λ b. child (cond b (with_children (is_child_known (base_tree o) ws q.path) (overlay q.path (base_tree o) ws)) (overlay q.path (base_tree o) ws)) k ≡ cond b (cond (is_child_known (base_tree o) ws q.path k) over null) over) [
    | true ↦ child-with_children (is_child_known (base_tree o) ws q.path) (overlay q.path (base_tree o) ws) k
        ∙ ap (λ u. cond (is_child_known (base_tree o) ws q.path k) u null) (law q.path (base_tree o) ws k)
    | false ↦ law q.path (base_tree o) ws k
  ]

  hidden_by : (p b : Bool) → (p && not b) ≡ true → null ≡ cond p (cond b over null) over
  hidden_by true true e = absurd (true≢false (sym e))
  hidden_by true false e = refl
  hidden_by false b e = absurd (true≢false (sym e))

  shown_by : (p b : Bool) → (p && not b) ≡ false → over ≡ cond p (cond b over null) over
  shown_by true true e = refl
  shown_by true false e = absurd (true≢false e)
  shown_by false b e = refl

  pub hidden_child : (partial && not (is_child_known (base_tree o) ws q.path k)) ≡ true → null ≡ child (seen_over o ws q) k
  hidden_child e = hidden_by partial (is_child_known (base_tree o) ws q.path k) e ∙ sym child_seen

  pub shown_child : (partial && not (is_child_known (base_tree o) ws q.path k)) ≡ false → over ≡ child (seen_over o ws q) k
  shown_child e = shown_by partial (is_child_known (base_tree o) ws q.path k) e ∙ sym child_seen

-- a child that is there is known, and another is null
bare_by : (partial : Bool) (t : PathTree) (b : Bool) → is_null t ≡ b → t ≡ cond partial (cond (not (is_null t) || false) t null) t
bare_by true t true e = null_of_is_null t e ∙ sym (ap (λ b. cond (not b || false) t null) e)
bare_by true t false e = sym (ap (λ b. cond (not b || false) t null) e)
bare_by false t b e = refl

-- where nothing is pending it is what is brought of it
pub bare_child : (law : OverlayOfChild) (q : Query) (o : Option Base) (ws : List Write) (k : Key) → ws ≡ [] → child (base_tree o) k ≡ child (seen_over o ws q) k
bare_child law q o ws k none =
    subst (λ vs. child (base_tree o) k ≡ child (seen_over o vs q) k) (sym none)
    (bare_by (is_filtered q && not (is_base_whole o)) (child (base_tree o) k) (is_null (child (base_tree o) k)) refl ∙ sym (child_seen law q o [] k))
