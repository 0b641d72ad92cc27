-- What a walk meets.
use Rattle.std.proofs.Common.{◌≡◌, [], ◌∷◌, Some, None, true, false, cond, refl, sym, ap, ◌∙◌}
use Rattle.std.specs.Prelude.{T}
use Rattle.std.specs.declared.cmp.Ordering.TheVariants.{Less}
use Rattle.std.specs.Ordering.{is_lt}
use Rattle.std.specs.Option.{option_map_or}
use Rattle.std.specs.List.{AllByRecursion}
use Rattle.std.specs.List.Sorted.{IsStrictlySortedBy}
use Rattle.std.specs.Map.{keys_of}
use Rattle.std.specs.FinMap.Entries.{is_sorted, below_all}
use Rattle.rt_tree.specs.PathTree.{Key, Path, PathTree, key_eq, null, is_null, null_of_is_null, sub, child, child_of, child_or_null, non_null, first, second}
use Rattle.rt_tree.specs.Children.{children_of, child_of-children_of}
use Rattle.rt_tree.specs.Parts.{sub-sub}
use Rattle.rt_tree.proofs.Trees.{sub-root}
use Rattle.rt_order.specs.KeyOrder.{key_cmp}
use Rattle.rt_store.specs.Rows.{Row, row, from_key, from_path}
use Rattle.rt_store.specs.Stored.{first_tree}
use Rattle.rt_store.proofs.Orders.{sorted-in_key_order, first_of_root}
use Rattle.rt_store.proofs.Falling.{less, child_of-in_key_order}

all_behind : (k : Key) (es : Row) → T (below_all key_cmp k es) → AllByRecursion (λ j. key_cmp k j ≡ Less) (keys_of es)
all_behind k [] h = tt
all_behind k (e ∷ es) h = (less (key_cmp k e.0) (first _ _ h), all_behind k es (second (is_lt (key_cmp k e.0)) _ h))

rising : (es : Row) → T (is_sorted key_cmp es) → IsStrictlySortedBy key_cmp (keys_of es)
unfolding IsStrictlySortedBy
rising [] h = tt
rising (e ∷ es) h = (all_behind e.0 es (first _ _ h), rising es (second (below_all key_cmp e.0 es) _ h))

pub row_rises : (t : PathTree) → IsStrictlySortedBy key_cmp (keys_of (row t))
row_rises t = rising (row t) (sorted-in_key_order (children_of t))

pub row_has_children : (t : PathTree) (k : Key) → child_of (row t) k ≡ non_null (child t k)
row_has_children t k = child_of-in_key_order (children_of t) k ∙ child_of-children_of t k

first-from_key : (k : Key) (es : Row) → first_tree (from_key k es) ≡ child_or_null es k
first-from_key k [] = refl
first-from_key k (e ∷ es) =
    elim (key_eq k e.0) as (λ b. first_tree (cond b (e ∷ es) (from_key k es)) ≡ option_map_or (λ t. t) (cond b (Some e.1) (child_of es k)) null) [
      | true ↦ refl
      | false ↦ first-from_key k es
    ]

or_null : (t : PathTree) → option_map_or (λ u. u) (non_null t) null ≡ t
or_null t = elim (is_null t) as (λ b. is_null t ≡ b → option_map_or (λ u. u) (cond b None (Some t)) null ≡ t) [
  | true ↦ λ n. sym (null_of_is_null t n)
  | false ↦ λ n. refl
] refl

pub path_leads : (t : PathTree) (p : Path) → first_tree (from_path t p) ≡ sub t p
path_leads t [] = first_of_root t ∙ sym (sub-root t)
path_leads t (k ∷ []) = first-from_key k (row t) ∙ ap (λ o. option_map_or (λ u. u) o null) (row_has_children t k) ∙ or_null (child t k)
path_leads t (k ∷ j ∷ p) = path_leads (child t k) (j ∷ p) ∙ sub-sub t (k ∷ []) (j ∷ p)
