-- What follows a path, and parts that are not there.
use Rattle.std.proofs.Common.{◌≡◌, ◌≤◌, true, false, cond, [], ◌∷◌, ◌++◌, length, drop, refl, sym, ap, ◌∙◌, arith, Option, Some, None, is_some}
use Rattle.rt_tree.specs.PathTree.{Key, Path, PathTree, strip, strip-some, length-strip, null, is_null, null_of_is_null, non_null, leaf_at-null, leaf_at-sub, same_tree, child}

pub some_of : {X : Type 0} (o : Option X) → is_some o ≡ true → (x : X) × (o ≡ Some x)
some_of None e = cc
some_of (Some x) e = (x, refl)

drop_front : (p r : Path) → drop (length p) (p ++ r) ≡ r
drop_front [] r = refl
drop_front (k ∷ p) r = drop_front p r

-- what follows is what is left after as many keys
pub strip_drop : (p q : Path) → is_some (strip p q) ≡ true → Some (drop (length p) q) ≡ strip p q
strip_drop p q e =
    let r = some_of (strip p q) e in
    ap (λ x. Some (drop (length p) x)) (strip-some p q r.0 r.1) ∙ ap Some (drop_front p r.0) ∙ sym r.1

pub strip_fits : (p q : Path) → is_some (strip p q) ≡ true → length p ≤ length q
strip_fits p q e = let r = some_of (strip p q) e in omega (arith, length-strip p q r.0 r.1)

-- no part is null
pub non_null-none : (t : PathTree) → non_null t ≡ None → null ≡ t
non_null-none t e =
    elim (is_null t) as (λ b. is_null t ≡ b → cond b None (Some t) ≡ None → null ≡ t) [
      | true ↦ λ n x. sym (null_of_is_null t n)
      | false ↦ λ n x. cc
    ] refl e

-- a part that is there is the tree's
pub non_null-some : (t u : PathTree) → Some u ≡ non_null t → u ≡ t
non_null-some t u e =
    elim (is_null t) as (λ b. Some u ≡ cond b None (Some t) → u ≡ t) [
      | true ↦ λ x. cc
      | false ↦ λ x. cc
    ] e

-- nothing has no children
pub no_child : (t : PathTree) (k : Key) → null ≡ t → null ≡ child t k
no_child t k e =
    same_tree null (child null k) (λ q. leaf_at-null q ∙ sym (leaf_at-null (k ∷ q)) ∙ sym (leaf_at-sub null (k ∷ []) q))
    ∙ ap (λ x. child x k) e
