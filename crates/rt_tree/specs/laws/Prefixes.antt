-- Laws of the orders of keys and paths, and of prefixes.
use Rattle.std.specs.Prelude.{◌≡◌, suc, ◌+◌, true, false, cond, [], ◌∷◌, ◌++◌, length, Some, None}
use Rattle.std.specs.Prelude.{is_some, refl}
use Rattle.std.proofs.Common.{sym, ap, ◌∙◌, arith}
use Rattle.std.specs.declared.cmp.Ordering.TheVariants.{Less, Equal, Greater}
use Rattle.std.specs.Ordering.{is_eq, ordering_then}
use Rattle.std.specs.Option.{option_map_or, option_and_then, unwrap_or}
use Rattle.std.specs.Cmp.{IsTotalOrder, tied_itself, eq_by_cmp_equiv, Equal-is}
use Rattle.std.specs.Cmp.Lexicographic.{nat_list_cmp_total, lists_total}
use Rattle.std.specs.FinMap.{IsAntisymmetric, nat_cmp-IsAntisymmetric, slice_cmp-IsAntisymmetric}
use Rattle.rt_tree.specs.Leaves.{Key, Path, key_cmp, path_cmp, key_eq, path_eq, strip}

pub paths_total : IsTotalOrder path_cmp
paths_total = lists_total nat_list_cmp_total

pub exact_keys : IsAntisymmetric key_cmp
exact_keys = slice_cmp-IsAntisymmetric nat_cmp-IsAntisymmetric

pub exact_paths : IsAntisymmetric path_cmp
exact_paths = slice_cmp-IsAntisymmetric exact_keys

-- two tests at once
pub path_eq-append : (p q x : Path) → path_eq (p ++ q) x ≡ option_map_or (path_eq q) (strip p x) false
path_eq-append [] q x = refl
path_eq-append (k ∷ p) q [] = refl
path_eq-append (k ∷ p) q (j ∷ x) =
    elim (key_cmp k j) as (λ o. is_eq (ordering_then o (path_cmp (p ++ q) x))
    ≡ option_map_or (path_eq q) (cond (is_eq o) (strip p x) None) false) [
      | Less ↦ refl
      | Equal ↦ path_eq-append p q x
      | Greater ↦ refl
    ]

pub path_eq-same : (p : Path) → path_eq p p ≡ true
path_eq-same p = ap is_eq (tied_itself paths_total p)

pub path_eq-symm : (p q : Path) → path_eq p q ≡ path_eq q p
path_eq-symm p q = (eq_by_cmp_equiv paths_total).symm p q

pub path_eq-is : (p q : Path) → path_eq p q ≡ true → p ≡ q
path_eq-is p q e = exact_paths p q ((Equal-is (path_cmp p q)).0 e)

pub key_eq-same : (k : Key) → key_eq k k ≡ true
key_eq-same k = ap is_eq (tied_itself nat_list_cmp_total k)

pub key_eq-is : (j k : Key) → key_eq j k ≡ true → j ≡ k
key_eq-is j k e = exact_keys j k ((Equal-is (key_cmp j k)).0 e)

pub key_eq-symm : (j k : Key) → key_eq j k ≡ key_eq k j
key_eq-symm j k = (eq_by_cmp_equiv nat_list_cmp_total).symm j k

pub strip-append : (p q : Path) → strip p (p ++ q) ≡ Some q
strip-append [] q = refl
strip-append (k ∷ p) q = ap (λ b. cond b (strip p (p ++ q)) None) (key_eq-same k) ∙ strip-append p q

pub length-strip : (p q r : Path) → strip p q ≡ Some r → length q ≡ length p + length r
length-strip [] q r e = omega (arith, ap (λ o. length (unwrap_or o [])) e)
length-strip (k ∷ p) [] r e = cc
length-strip (k ∷ p) (j ∷ q) r e =
    elim (key_eq k j) as (λ b. cond b (strip p q) None ≡ Some r
    → suc (length q) ≡ suc (length p) + length r) [
      | true ↦ λ h. omega (arith, length-strip p q r h)
      | false ↦ λ h. cc
    ] e

-- below a place at or under p
pub strip-more : (p q r s : Path) → strip p q ≡ Some r → strip p (q ++ s) ≡ Some (r ++ s)
strip-more [] q r s e = ap (λ o. Some (unwrap_or o [] ++ s)) e
strip-more (k ∷ p) [] r s e = cc
strip-more (k ∷ p) (j ∷ q) r s e =
    elim (key_eq k j) as (λ b. cond b (strip p q) None ≡ Some r
    → cond b (strip p (q ++ s)) None ≡ Some (r ++ s)) [
      | true ↦ λ h. strip-more p q r s h
      | false ↦ λ h. cc
    ] e

-- q is not under p, and what is under q is: then p is under q
pub strip-crossed : (p q r s : Path) → strip p q ≡ None → strip p (q ++ s) ≡ Some r
    → is_some (strip q p) ≡ true
strip-crossed [] q r s e f = cc
strip-crossed (k ∷ p) [] r s e f = refl
strip-crossed (k ∷ p) (j ∷ q) r s e f =
    elim (key_eq k j) as (λ b. key_eq k j ≡ b → cond b (strip p q) None ≡ None
    → cond b (strip p (q ++ s)) None ≡ Some r
    → is_some (cond (key_eq j k) (strip q p) None) ≡ true) [
      | true ↦ λ h g i. ap (λ b. is_some (cond b (strip q p) None)) (key_eq-symm j k ∙ h)
          ∙ strip-crossed p q r s g i
      | false ↦ λ h g i. cc
    ] refl e f

pub strip-some : (p q r : Path) → strip p q ≡ Some r → q ≡ p ++ r
strip-some [] q r e = ap (λ o. unwrap_or o []) e
strip-some (k ∷ p) [] r e = cc
strip-some (k ∷ p) (j ∷ q) r e =
    elim (key_eq k j) as (λ b. key_eq k j ≡ b → cond b (strip p q) None ≡ Some r → j ∷ q ≡ k ∷ p ++ r) [
      | true ↦ λ t f i. sym (key_eq-is k j t) i ∷ strip-some p q r f i
      | false ↦ λ t f. cc
    ] refl e

-- below p and then below q
pub strip-under : (p q x : Path) → strip (p ++ q) x ≡ option_and_then (strip q) (strip p x)
strip-under [] q x = refl
strip-under (k ∷ p) q [] = refl
strip-under (k ∷ p) q (j ∷ x) =
    elim (key_eq k j) as (λ b. cond b (strip (p ++ q) x) None
    ≡ option_and_then (strip q) (cond b (strip p x) None)) [
      | true ↦ strip-under p q x
      | false ↦ refl
    ]

-- under one path
pub strip-both : (p q x : Path) → strip (p ++ q) (p ++ x) ≡ strip q x
strip-both p q x = strip-under p q (p ++ x) ∙ ap (option_and_then (strip q)) (strip-append p x)

-- q and p are apart, so what is under q is not under p
pub strip-apart : (p q s : Path) → strip p q ≡ None → strip q p ≡ None → strip p (q ++ s) ≡ None
strip-apart p q s e f =
    elim (strip p (q ++ s)) as (λ o. strip p (q ++ s) ≡ o → o ≡ None) [
      | None ↦ λ g. refl
      | Some r ↦ λ g. cc (strip-crossed p q r s e g)
    ] refl
