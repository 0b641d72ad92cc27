-- What follows a path, and parts of parts.
use Rattle.std.proofs.Common.{◌≡◌, ◌≤◌, true, false, cond, [], ◌∷◌, ◌++◌, length, drop, refl, sym, ap, ◌∙◌, arith, Option, Some, None, is_some}
use Rattle.std.specs.Option.{option_and_then}
use Rattle.rt_tree.specs.PathTree.{Key, Path, PathTree, strip, strip-some, length-strip, same_tree, leaf_at-null, leaf_at-sub, null, is_null, is_null-null, null_of_is_null, non_null, child_of, sub}
use Rattle.rt_tree.specs.Parts.{sub_root, sub-sub}
use Rattle.rt_tree.specs.Children.{children_of, child_of-children_of}

pub none_of_not : {X : Type 0} (o : Option X) → is_some o ≡ false → o ≡ None
none_of_not None e = refl
none_of_not (Some x) e = cc

pub some_of : {X : Type 0} (o : Option X) → is_some o ≡ true → (x : X) × (o ≡ Some x)
some_of None e = cc
some_of (Some x) e = (x, refl)

drop_front : (p r : Path) → drop (length p) (p ++ r) ≡ r
drop_front [] r = refl
drop_front (k ∷ p) r = drop_front p r

-- what follows is what is left after as many keys
pub strip_drop : (p q : Path) → is_some (strip p q) ≡ true → Some (drop (length p) q) ≡ strip p q
strip_drop p q e =
    let r = some_of (strip p q) e in
    ap (λ x. Some (drop (length p) x)) (strip-some p q r.0 r.1) ∙ ap Some (drop_front p r.0) ∙ sym r.1

pub strip_fits : (p q : Path) → is_some (strip p q) ≡ true → length p ≤ length q
strip_fits p q e = let r = some_of (strip p q) e in omega (arith, length-strip p q r.0 r.1)

-- ---- parts
sub-null : (p : Path) → sub null p ≡ null
sub-null p = same_tree _ _ (λ q. leaf_at-sub null p q ∙ leaf_at-null (p ++ q) ∙ sym (leaf_at-null q))

non_null-null : non_null null ≡ None
non_null-null = ap (λ b. cond b None (Some null)) is_null-null

-- no key follows
pub part-root : (t : PathTree) (p : Path) → length p ≡ 0 → non_null (sub t p) ≡ non_null t
part-root t [] e = ap non_null (sub_root t)
part-root t (k ∷ p) e = absurd (omega arith)

part-part : (t : PathTree) (p : Path) → option_and_then (λ u. non_null (sub u p)) (non_null t) ≡ non_null (sub t p)
part-part t p =
    elim (is_null t) as (λ b. is_null t ≡ b → option_and_then (λ u. non_null (sub u p)) (cond b None (Some t)) ≡ non_null (sub t p)) [
      | true ↦ λ e. sym (ap (λ u. non_null (sub u p)) (null_of_is_null t e) ∙ ap non_null (sub-null p) ∙ non_null-null)
      | false ↦ λ e. refl
    ] refl

-- the part of a child
pub part-child : (t : PathTree) (k : Key) (p : Path) → option_and_then (λ u. non_null (sub u p)) (child_of (children_of t) k) ≡ non_null (sub t (k ∷ p))
part-child t k p =
    ap (option_and_then (λ u. non_null (sub u p))) (child_of-children_of t k)
    ∙ part-part (sub t (k ∷ [])) p ∙ ap non_null (sub-sub t (k ∷ []) p)

-- the part that is there, or null
pub part-some : (t u : PathTree) → Some u ≡ non_null t → u ≡ t
part-some t u e =
    elim (is_null t) as (λ b. Some u ≡ cond b None (Some t) → u ≡ t) [
      | true ↦ λ x. cc
      | false ↦ λ x. cc
    ] e

pub part-none : (t : PathTree) → None ≡ non_null t → null ≡ t
part-none t e =
    elim (is_null t) as (λ b. is_null t ≡ b → None ≡ cond b None (Some t) → null ≡ t) [
      | true ↦ λ n x. sym (null_of_is_null t n)
      | false ↦ λ n x. cc
    ] refl e
