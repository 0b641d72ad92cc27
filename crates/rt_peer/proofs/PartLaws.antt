-- Parts of trees that are null.
use Rattle.std.proofs.Common.{◌≡◌, true, false, cond, Some, None, refl, sym}
use Rattle.rt_tree.specs.PathTree.{PathTree, null, is_null, non_null, null_of_is_null}

pub part-none : (t : PathTree) → None ≡ non_null t → null ≡ t
part-none t e =
    elim (is_null t) as (λ b. is_null t ≡ b → None ≡ cond b None (Some t) → null ≡ t) [
      | true ↦ λ n x. sym (null_of_is_null t n)
      | false ↦ λ n x. cc
    ] refl e
