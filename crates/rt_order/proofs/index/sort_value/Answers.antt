-- Where the tree has no part at the path, that part is null.
use Rattle.std.proofs.Common.{◌≡◌, true, false, cond, Some, None, refl, sym, ap, ◌∙◌}
use Rattle.std.specs.Option.{option_map_or}
use Rattle.std.specs.Prelude.{if◌then◌else◌, []}
use Rattle.rt_tree.specs.PathTree.{PathTree, sub, null, is_null, non_null, null_of_is_null, leaf_at-null, is_null-null}
use Rattle.rt_order.specs.Values.{Null, Plain, Object}
use Rattle.rt_order.specs.Entries.{own_sort_value, sort_value}
use Rattle.rt_order.proofs.index.sort_value.Goals as goal

null_alone : Null ≡ own_sort_value null
null_alone = sym (ap (λ o. option_map_or Plain o (if is_null null then Null else Object)) (leaf_at-null []) ∙ ap (λ b. if b then Null else Object) is_null-null)

null_of_none : (t : PathTree) → None ≡ non_null t → Null ≡ own_sort_value t
null_of_none t e =
    elim (is_null t) as (λ b. is_null t ≡ b → None ≡ cond b None (Some t) → Null ≡ own_sort_value t) [
      | true ↦ λ is h. null_alone ∙ sym (ap own_sort_value (null_of_is_null t is))
      | false ↦ λ is h. cc
    ] refl e

pub returns-in-None : goal.returns-in-None
returns-in-None c =
    null_of_none (sub c.args.tree.now c.in-Child.path) (c.in-None.ensures) ∙ sym (ap (λ i. sort_value i c.args.tree.now) c.in-Child.is)
