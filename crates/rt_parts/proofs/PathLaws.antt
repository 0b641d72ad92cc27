-- Paths at, above and under a path, among those in order.
use Rattle.std.proofs.Common.{◌≡◌, true, false, cond, [], ◌∷◌, refl, sym, ap, subst, ◌∙◌, None, is_some}
use mathlib.Core.Bool.{true≢false}
use Rattle.std.specs.Ordering.{is_lt, is_eq, ordering_then, ordering_reverse}
use Rattle.std.specs.declared.cmp.Ordering.TheVariants.{Less, Equal, Greater}
use Rattle.rt_tree.specs.PathTree.{Path, path_cmp, paths_total, exact_paths, key_cmp, key_eq, key_eq-is, key_eq-symm, strip}
use Rattle.rt_tree.specs.Assignments.{is_at_or_above}
use Rattle.rt_cover.specs.laws.Paths.{is_at_or_above-same}

-- what is at or above a path is not behind it
pub above_first : (r p : Path) → is_at_or_above r p ≡ true → is_lt (path_cmp p r) ≡ false
above_first [] [] e = refl
above_first [] (j ∷ p) e = refl
above_first (k ∷ r) [] e = absurd (true≢false (sym e))
above_first (k ∷ r) (j ∷ p) e =
    elim (key_eq k j) as (λ b. key_eq k j ≡ b → is_some (cond b (strip r p) None) ≡ true → is_lt (path_cmp (j ∷ p) (k ∷ r)) ≡ false) [
      | true ↦ λ t f. elim (key_cmp j k) as (λ o. is_eq o ≡ true → is_lt (ordering_then o (path_cmp p r)) ≡ false) [
        | Less ↦ λ x. absurd (true≢false (sym x))
        | Equal ↦ λ x. above_first r p f
        | Greater ↦ λ x. refl
      ] (key_eq-symm j k ∙ t)
      | false ↦ λ t f. absurd (true≢false (sym f))
    ] refl e

-- what stands between a path and one under it is under it too
under_between : (r s p : Path) → is_at_or_above r p ≡ true → is_lt (path_cmp r s) ≡ true → is_lt (path_cmp p s) ≡ false → is_at_or_above r s ≡ true
under_between [] s p a b c = refl
under_between (k ∷ r) s [] a b c = absurd (true≢false (sym a))
under_between (k ∷ r) [] (j ∷ p) a b c = absurd (true≢false (sym b))
under_between (k ∷ r) (i ∷ s) (j ∷ p) a b c =
    elim (key_eq k j) as (λ t. key_eq k j ≡ t → is_some (cond t (strip r p) None) ≡ true → is_at_or_above (k ∷ r) (i ∷ s) ≡ true) [
      | true ↦ λ t under. elim (key_cmp k i) as (λ o. key_cmp k i ≡ o → is_lt (ordering_then o (path_cmp r s)) ≡ true → is_lt (ordering_then o (path_cmp p s)) ≡ false → is_at_or_above (k ∷ r) (i ∷ s) ≡ true) [
        | Less ↦ λ q x y. absurd (true≢false y)
        | Equal ↦ λ q x y. ap (λ o. is_some (cond (is_eq o) (strip r s) None)) q ∙ under_between r s p under x y
        | Greater ↦ λ q x y. absurd (true≢false (sym x))
      ] refl b (subst (λ x. is_lt (ordering_then (key_cmp x i) (path_cmp p s)) ≡ false) (sym (key_eq-is k j t)) c)
      | false ↦ λ t under. absurd (true≢false (sym under))
    ] refl a

-- or at it
pub under_from : (r s p : Path) → is_at_or_above r p ≡ true → is_lt (path_cmp s r) ≡ false → is_lt (path_cmp p s) ≡ false → is_at_or_above r s ≡ true
under_from r s p a b c =
    elim (path_cmp r s) as (λ o. path_cmp r s ≡ o → is_at_or_above r s ≡ true) [
      | Less ↦ λ e. under_between r s p a (ap is_lt e) c
      | Equal ↦ λ e. subst (λ z. is_at_or_above r z ≡ true) (exact_paths r s e) (is_at_or_above-same r)
      | Greater ↦ λ e. absurd (true≢false (sym (ap is_lt (paths_total.antisymm s r ∙ ap ordering_reverse e)) ∙ b))
    ] refl
