-- Paths at or above a child's path.
use Rattle.std.proofs.Common.{◌≡◌, true, false, cond, List, [], ◌∷◌, ◌++◌, refl, sym, ap, ◌∙◌, None, is_some, nat_eq, length, length-append, arith}
use Rattle.std.specs.Cmp.{unsigned_ties}
use Rattle.std.specs.Cmp.Lexicographic.{pointwise, lists_ties}
use Rattle.std.specs.Ordering.{nat_cmp}
use Rattle.rt_tree.specs.PathTree.{Key, Path, strip, strip-append, key_eq, key_eq-is, key_eq-same, path_eq, path_eq-is, path_eq-same}
use Rattle.rt_tree.specs.Assignments.{is_at_or_above}

-- a path is at or above itself
pub at_itself : (p q : Path) → p ≡ q → true ≡ is_at_or_above p q
at_itself p q e = sym (ap (λ x. is_some (strip p x)) (sym e ∙ sym (end p)) ∙ ap is_some (strip-append p []))
  where
    end : (r : Path) → r ++ [] ≡ r
    end [] = refl
    end (k ∷ r) = ap (λ x. k ∷ x) (end r)

-- a path that isn't the child's is at or above the child's where it is at or above the path
pub at_other : (a p : Path) (k : Key) → (a ≡ p ++ k ∷ [] → ⊥) → is_some (strip a p) ≡ is_at_or_above a (p ++ k ∷ [])
at_other [] p k h = refl
at_other (j ∷ a) [] k h =
    elim (key_eq j k) as (λ b. key_eq j k ≡ b → false ≡ is_some (cond b (strip a []) None)) [
      | true ↦ λ e. beyond a (λ nil. h ((λ i. key_eq-is j k e i ∷ nil i)))
      | false ↦ λ e. refl
    ] refl
  where
    beyond : (b : Path) → (b ≡ [] → ⊥) → false ≡ is_some (strip b [])
    beyond [] g = absurd (g refl)
    beyond (i ∷ b) g = refl
at_other (j ∷ a) (i ∷ p) k h =
    elim (key_eq j i) as (λ b. key_eq j i ≡ b → is_some (cond b (strip a p) None) ≡ is_some (cond b (strip a (p ++ k ∷ [])) None)) [
      | true ↦ λ e. at_other a p k (λ same. h (λ x. key_eq-is j i e x ∷ same x))
      | false ↦ λ e. refl
    ] refl

-- two lists with the same last element
pub last_same : {X : Type 0} (xs ys : List X) (x y : X) → xs ++ x ∷ [] ≡ ys ++ y ∷ [] → (xs ≡ ys) × (x ≡ y)
last_same [] [] x y e = (refl, cc)
last_same [] (b ∷ []) x y e = cc
last_same [] (b ∷ c ∷ ys) x y e = cc
last_same (a ∷ []) [] x y e = cc
last_same (a ∷ c ∷ xs) [] x y e = cc
last_same (a ∷ xs) (b ∷ ys) x y e =
    let more = last_same xs ys x y (let tail : xs ++ x ∷ [] ≡ ys ++ y ∷ [] = cc in tail) in
    let head : a ≡ b = cc in
    (λ i. head i ∷ more.0 i, more.1)

-- what the tests of keys and of paths tell
keys_test : (j k : Key) → pointwise nat_eq j k ≡ key_eq j k
keys_test j k = lists_ties nat_cmp unsigned_ties j k

paths_test : (p q : Path) → pointwise (pointwise nat_eq) p q ≡ path_eq p q
paths_test p q = lists_ties _ keys_test p q

pub keys_same : (j k : Key) → true ≡ pointwise nat_eq j k → j ≡ k
keys_same j k e = key_eq-is j k (sym (e ∙ keys_test j k))

pub paths_same : (p q : Path) → true ≡ pointwise (pointwise nat_eq) p q → p ≡ q
paths_same p q e = path_eq-is p q (sym (e ∙ paths_test p q))

pub keys_other : (j k : Key) → false ≡ pointwise nat_eq j k → j ≡ k → ⊥
keys_other j k e same = cc (e ∙ keys_test j k ∙ ap (key_eq j) (sym same) ∙ key_eq-same j)

pub paths_other : (p q : Path) → false ≡ pointwise (pointwise nat_eq) p q → p ≡ q → ⊥
paths_other p q e same = cc (e ∙ paths_test p q ∙ ap (path_eq p) (sym same) ∙ path_eq-same p)

-- no path ends in a key and is empty
pub not_empty : (a p : Path) (k : Key) → length a ≡ 0 → a ≡ p ++ k ∷ [] → ⊥
not_empty a p k e same = omega (arith, ap length same, length-append p (k ∷ []))
