-- Children that are all named are no more than the names.
use Rattle.std.proofs.Common.{◌≡◌, ◌+◌, ◌≤◌, Bool, true, false, cond, ◌||◌, List, [], ◌∷◌, length, refl, sym, ap, ◌∙◌, arith, Some, None, is_some}
use mathlib.Core.Bool.{true≢false}
use Rattle.std.specs.Ordering.{is_eq}
use Rattle.std.specs.List.{list_any}
use Rattle.std.specs.List.Sorted.{IsStrictlySortedBy}
use Rattle.std.specs.BTreeMap.{is_at}
use Rattle.std.specs.Map.{keys_of}
use Rattle.std.proofs.lemmas.List.Elements.{All-contains}
use Rattle.std.proofs.lemmas.List.Folds.{Any-from_list_any}
use Rattle.std.proofs.lemmas.Map.Entries.{length-keys_of}
use Rattle.std.proofs.lemmas.Map.Made.{is_some-lookup}
use Rattle.std.proofs.lemmas.Map.Views.{All-after_first}
use Rattle.std.specs.declared.cmp.Ordering.TheVariants.{Less}
use Rattle.rt_tree.specs.PathTree.{Key, PathTree, key_cmp, key_eq, key_eq-is, key_eq-same, key_eq-symm, null, non_null, is_null-null, child}
use Rattle.rt_tree.specs.Children.{children_of, children_sorted, child_of-children_of}

-- ---- keys

-- without the first that is k
abbrev without_one : Key → List Key → List Key
without_one k [] = []
without_one k (j ∷ ks) = cond (key_eq k j) ks (j ∷ without_one k ks)

one_less : (k : Key) (ks : List Key) → list_any (key_eq k) ks ≡ true → length ks ≡ length (without_one k ks) + 1
one_less k [] e = absurd (true≢false (sym e))
one_less k (j ∷ ks) e =
    elim (key_eq k j) as (λ b. (b || list_any (key_eq k) ks) ≡ true → length (j ∷ ks) ≡ length (cond b ks (j ∷ without_one k ks)) + 1) [
      | true ↦ λ f. omega arith
      | false ↦ λ f. let rest = one_less k ks f in omega (arith, rest)
    ] e

or_yes : (a b : Bool) → b ≡ true → (a || b) ≡ true
or_yes true b e = refl
or_yes false b e = e

other_stays : (k z : Key) (ks : List Key) → key_eq k z ≡ false → list_any (key_eq z) ks ≡ true → list_any (key_eq z) (without_one k ks) ≡ true
other_stays k z [] apart e = e
other_stays k z (j ∷ ks) apart e =
    elim (key_eq k j) as (λ b. key_eq k j ≡ b → list_any (key_eq z) (cond b ks (j ∷ without_one k ks)) ≡ true) [
      | true ↦ λ f.
          let other : key_eq z j ≡ false = ap (key_eq z) (sym (key_eq-is k j f)) ∙ key_eq-symm z k ∙ apart in
          ap (λ b. b || list_any (key_eq z) ks) (sym other) ∙ e
      | false ↦ λ f. elim (key_eq z j) as (λ b. (b || list_any (key_eq z) ks) ≡ true → (b || list_any (key_eq z) (without_one k ks)) ≡ true) [
        | true ↦ λ g. refl
        | false ↦ λ g. other_stays k z ks apart g
      ] e
    ] refl

-- rising keys that are all among others are no more
no_more : (xs ys : List Key) → IsStrictlySortedBy key_cmp xs → ((k : Key) → list_any (key_eq k) xs ≡ true → list_any (key_eq k) ys ≡ true) → length xs ≤ length ys
unfolding IsStrictlySortedBy
no_more [] ys h among = omega arith
no_more (x ∷ xs) ys h among =
    let here : list_any (key_eq x) ys ≡ true = among x (ap (λ b. b || list_any (key_eq x) xs) (key_eq-same x)) in
    let rest = no_more xs (without_one x ys) h.1 (λ k m. other_stays x k ys (apart k m) (among k (or_yes (key_eq k x) _ m))) in
    omega (arith, rest, one_less x ys here)
  where
    apart : (k : Key) → list_any (key_eq k) xs ≡ true → key_eq x k ≡ false
    apart k m =
        let a = Any-from_list_any (key_eq k) xs m in
        let less : key_cmp x a.1 ≡ Less = All-contains (λ q. key_cmp x q ≡ Less) xs a.1 (All-after_first key_cmp x xs h) (a.0, a.2, a.3) in
        ap (key_eq x) (key_eq-is k a.1 a.4) ∙ ap is_eq less

-- ---- children

-- the children of a tree, of which each is named
pub no_more_children : (t : PathTree) (names : List Key) → ((k : Key) → list_any (key_eq k) names ≡ false → child t k ≡ null) → length (children_of t) ≤ length names
no_more_children t names h =
    let fits = no_more (keys_of (children_of t)) names (children_sorted t) (λ k m. among k m (list_any (key_eq k) names) refl) in
    omega (arith, fits, length-keys_of (children_of t))
  where
    among : (k : Key) → list_any (key_eq k) (keys_of (children_of t)) ≡ true → (b : Bool) → list_any (key_eq k) names ≡ b → list_any (key_eq k) names ≡ true
    among k m true e = e
    among k m false e =
        let gone : non_null (child t k) ≡ None = ap non_null (h k e) ∙ ap (λ b. cond b None (Some null)) is_null-null in
        absurd (true≢false (sym m ∙ sym (is_some-lookup (is_at (key_cmp k)) (children_of t)) ∙ ap is_some (child_of-children_of t k ∙ gone)))
