-- What stands at and below a path stands together, in the order of paths.
use Rattle.std.proofs.Common.{◌≡◌, true, false, cond, [], ◌∷◌, None, refl, sym, ap, subst, ◌∙◌, is_some, append-nil}
use mathlib.Core.Bool.{true≢false}
use Rattle.std.specs.Ordering.{is_lt, is_eq, ordering_then, ordering_reverse}
use Rattle.std.specs.declared.cmp.Ordering.TheVariants.{Less, Equal, Greater}
use Rattle.rt_tree.specs.PathTree.{Path, path_cmp, path_eq, path_eq-is, paths_total, exact_paths, key_cmp, key_eq, key_eq-is, key_eq-symm, strip, strip-append}
use Rattle.rt_tree.specs.Assignments.{is_at_or_above}

pub above_itself : (p : Path) → is_at_or_above p p ≡ true
above_itself p = ap (λ q. is_some (strip p q)) (sym (append-nil p)) ∙ ap is_some (strip-append p [])

-- what is at or above a path is not behind it
pub above_first : (r p : Path) → is_at_or_above r p ≡ true → is_lt (path_cmp p r) ≡ false
above_first [] [] e = refl
above_first [] (j ∷ p) e = refl
above_first (k ∷ r) [] e = absurd (true≢false (sym e))
above_first (k ∷ r) (j ∷ p) e =
    elim (key_eq k j) as (λ b. key_eq k j ≡ b → is_some (cond b (strip r p) None) ≡ true → is_lt (path_cmp (j ∷ p) (k ∷ r)) ≡ false) [
      | true ↦ λ t f. elim (key_cmp j k) as (λ o. is_eq o ≡ true → is_lt (ordering_then o (path_cmp p r)) ≡ false) [
        | Less ↦ λ x. absurd (true≢false (sym x))
        | Equal ↦ λ x. above_first r p f
        | Greater ↦ λ x. refl
      ] (key_eq-symm j k ∙ t)
      | false ↦ λ t f. absurd (true≢false (sym f))
    ] refl e

-- what stands between a path and one below it is below it too
under_between : (r s p : Path) → is_at_or_above r p ≡ true → is_lt (path_cmp r s) ≡ true → is_lt (path_cmp p s) ≡ false → is_at_or_above r s ≡ true
under_between [] s p a b c = refl
under_between (k ∷ r) s [] a b c = absurd (true≢false (sym a))
under_between (k ∷ r) [] (j ∷ p) a b c = absurd (true≢false (sym b))
under_between (k ∷ r) (i ∷ s) (j ∷ p) a b c =
    elim (key_eq k j) as (λ t. key_eq k j ≡ t → is_some (cond t (strip r p) None) ≡ true → is_at_or_above (k ∷ r) (i ∷ s) ≡ true) [
      | true ↦ λ t under. elim (key_cmp k i) as (λ o. key_cmp k i ≡ o → is_lt (ordering_then o (path_cmp r s)) ≡ true → is_lt (ordering_then o (path_cmp p s)) ≡ false → is_at_or_above (k ∷ r) (i ∷ s) ≡ true) [
        | Less ↦ λ q x y. absurd (true≢false y)
        | Equal ↦ λ q x y. ap (λ o. is_some (cond (is_eq o) (strip r s) None)) q ∙ under_between r s p under x y
        | Greater ↦ λ q x y. absurd (true≢false (sym x))
      ] refl b (subst (λ x. is_lt (ordering_then (key_cmp x i) (path_cmp p s)) ≡ false) (sym (key_eq-is k j t)) c)
      | false ↦ λ t under. absurd (true≢false (sym under))
    ] refl a

-- or at it
pub under_from : (r s p : Path) → is_at_or_above r p ≡ true → is_lt (path_cmp s r) ≡ false → is_lt (path_cmp p s) ≡ false → is_at_or_above r s ≡ true
under_from r s p a b c =
    elim (path_cmp r s) as (λ o. path_cmp r s ≡ o → is_at_or_above r s ≡ true) [
      | Less ↦ λ e. under_between r s p a (ap is_lt e) c
      | Equal ↦ λ e. subst (λ z. is_at_or_above r z ≡ true) (exact_paths r s e) (above_itself r)
      | Greater ↦ λ e. absurd (true≢false (sym (ap is_lt (paths_total.antisymm s r ∙ ap ordering_reverse e)) ∙ b))
    ] refl

-- and so does what stands at a path
pub same_from : (r s p : Path) → path_eq r p ≡ true → is_lt (path_cmp s r) ≡ false → is_lt (path_cmp p s) ≡ false → path_eq r s ≡ true
same_from r s p a b c =
    elim (path_cmp r s) as (λ o. path_cmp r s ≡ o → is_eq o ≡ true) [
      | Less ↦ λ e. absurd (true≢false (sym (ap is_lt e) ∙ subst (λ z. is_lt (path_cmp z s) ≡ false) (sym (path_eq-is r p a)) c))
      | Equal ↦ λ e. refl
      | Greater ↦ λ e. absurd (true≢false (sym (ap is_lt (paths_total.antisymm s r ∙ ap ordering_reverse e)) ∙ b))
    ] refl
