-- A tree without the children that are not known has the known ones alone.
use Rattle.std.proofs.Common.{◌≡◌, Bool, true, false, cond, not, ◌&&◌, ◌||◌, List, [], ◌∷◌, refl, sym, ap, ◌∙◌, Option, Some, None, is_some}
use Rattle.std.specs.List.{list_any}
use Rattle.std.specs.Map.{keys_of}
use Rattle.rt_tree.specs.Leaf.{LeafValue}
use Rattle.rt_tree.specs.PathTree.{Key, Path, PathTree, key_eq, key_eq-is, key_eq-symm, strip, after_put, child_of, child}
use Rattle.rt_tree.specs.PathTree.{leaf_at, leaf_at-null, leaf_at-put, leaf_at-sub, leaf_at-with_children, same_tree}
use Rattle.rt_tree.specs.PathTree.{null, is_null, is_null-null, null_of_is_null, with_children}
use Rattle.rt_tree.specs.Children.{children_of, child_of-children_of}
use Rattle.rt_parts.specs.inside.Unknown.{unknown_keys, without_child, without_children}

-- null hides nothing above it
hides_nothing : (b : Bool) (o : Option LeafValue) → cond (not (is_null null) && b) None o ≡ o
hides_nothing b o = ap (λ n. cond (not n && b) None o) is_null-null

-- the leaf at the root stays
root_stays : (t : PathTree) (keys : List Key) → leaf_at (without_children t keys) [] ≡ leaf_at t []
root_stays t [] = refl
root_stays t (j ∷ keys) =
    root_stays (without_child t j) keys ∙ leaf_at-put t (j ∷ []) null [] ∙ hides_nothing true (leaf_at t [])

-- the leaves under a key that is taken out go
leaf_taken : (t : PathTree) (j k : Key) (q : Path) → leaf_at (without_child t j) (k ∷ q) ≡ cond (key_eq j k) None (leaf_at t (k ∷ q))
leaf_taken t j k q =
    leaf_at-put t (j ∷ []) null (k ∷ q)
    ∙ elim (key_eq j k) as (λ b. after_put (cond b (Some q) None) (leaf_at null) (not (is_null null) && is_some (strip (k ∷ q) (j ∷ []))) (leaf_at t (k ∷ q)) ≡ cond b None (leaf_at t (k ∷ q))) [
      | true ↦ leaf_at-null q
      | false ↦ hides_nothing (is_some (strip (k ∷ q) (j ∷ []))) (leaf_at t (k ∷ q))
    ]

either : (a b : Bool) (o : Option LeafValue) → cond a None (cond b None o) ≡ cond (b || a) None o
either true true o = refl
either true false o = refl
either false true o = refl
either false false o = refl

leaves_taken : (t : PathTree) (keys : List Key) (k : Key) (q : Path)
    → leaf_at (without_children t keys) (k ∷ q) ≡ cond (list_any (λ j. key_eq j k) keys) None (leaf_at t (k ∷ q))
leaves_taken t [] k q = refl
leaves_taken t (j ∷ keys) k q =
    leaves_taken (without_child t j) keys k q ∙ ap (cond (list_any (λ i. key_eq i k) keys) None) (leaf_taken t j k q)
    ∙ either (list_any (λ i. key_eq i k) keys) (key_eq j k) (leaf_at t (k ∷ q))

-- a key is among the unknown ones where it is among all and not known
among_unknown : (test : Key → Bool) (keys : List Key) (k : Key)
    → list_any (λ j. key_eq j k) (unknown_keys test keys) ≡ (not (test k) && list_any (λ j. key_eq j k) keys)
among_unknown test [] k = elim (test k) as (λ b. false ≡ (not b && false)) [ true ↦ refl | false ↦ refl ]
among_unknown test (j ∷ keys) k =
    elim (key_eq j k) as (λ b. key_eq j k ≡ b
    → list_any (λ i. key_eq i k) (cond (not (test j)) (j ∷ unknown_keys test keys) (unknown_keys test keys)) ≡ (not (test k) && (b || list_any (λ i. key_eq i k) keys))) [
      | true ↦ λ e.
          let same : test j ≡ test k = ap test (key_eq-is j k e) in
          elim (test k) as (λ b. test j ≡ b → (list_any (λ i. key_eq i k) (unknown_keys test keys) ≡ (not b && list_any (λ i. key_eq i k) keys))
          → list_any (λ i. key_eq i k) (cond (not (test j)) (j ∷ unknown_keys test keys) (unknown_keys test keys)) ≡ (not b && true)) [
            | true ↦ λ s r. ap (λ b. list_any (λ i. key_eq i k) (cond (not b) (j ∷ unknown_keys test keys) (unknown_keys test keys))) s ∙ r
            | false ↦ λ s r. ap (λ b. list_any (λ i. key_eq i k) (cond (not b) (j ∷ unknown_keys test keys) (unknown_keys test keys))) s
                ∙ ap (λ b. b || list_any (λ i. key_eq i k) (unknown_keys test keys)) e
          ] same (among_unknown test keys k)
      | false ↦ λ e.
          elim (test j) as (λ b. list_any (λ i. key_eq i k) (cond (not b) (j ∷ unknown_keys test keys) (unknown_keys test keys)) ≡ (not (test k) && list_any (λ i. key_eq i k) keys)) [
            | true ↦ among_unknown test keys k
            | false ↦ ap (λ b. b || list_any (λ i. key_eq i k) (unknown_keys test keys)) e ∙ among_unknown test keys k
          ]
    ] refl

-- a key is among those of some children where one stands at it
among_children : (es : List (Key × PathTree)) (k : Key) → list_any (λ j. key_eq j k) (keys_of es) ≡ is_some (child_of es k)
among_children [] k = refl
among_children (e ∷ es) k =
    ap (λ b. b || list_any (λ j. key_eq j k) (keys_of es)) (key_eq-symm e.0 k)
    ∙ elim (key_eq k e.0) as (λ b. (b || list_any (λ j. key_eq j k) (keys_of es)) ≡ is_some (cond b (Some e.1) (child_of es k))) [
      | true ↦ refl
      | false ↦ among_children es k
    ]

some_full : (t : PathTree) (b : Bool) → is_some (cond b None (Some t)) ≡ not b
some_full t true = refl
some_full t false = refl

-- a tree has a child of a key where the part at it is not null
pub has_child : (t : PathTree) (k : Key) → is_some (child_of (children_of t) k) ≡ not (is_null (child t k))
has_child t k = ap is_some (child_of-children_of t k) ∙ some_full (child t k) (is_null (child t k))

-- below one key
known_below : (test : Key → Bool) (t : PathTree) (k : Key) (q : Path)
    → cond (not (test k) && not (is_null (child t k))) None (leaf_at t (k ∷ q)) ≡ cond (test k) (leaf_at t (k ∷ q)) None
known_below test t k q =
    elim (is_null (child t k)) as (λ n. is_null (child t k) ≡ n → cond (not (test k) && not n) None (leaf_at t (k ∷ q)) ≡ cond (test k) (leaf_at t (k ∷ q)) None) [
      | true ↦ λ e.
          let none : leaf_at t (k ∷ q) ≡ None = sym (leaf_at-sub t (k ∷ []) q) ∙ ap (λ u. leaf_at u q) (null_of_is_null (child t k) e) ∙ leaf_at-null q in
          elim (test k) as (λ b. cond (not b && false) None (leaf_at t (k ∷ q)) ≡ cond b (leaf_at t (k ∷ q)) None) [ true ↦ refl | false ↦ none ]
      | false ↦ λ e. elim (test k) as (λ b. cond (not b && true) None (leaf_at t (k ∷ q)) ≡ cond b (leaf_at t (k ∷ q)) None) [ true ↦ refl | false ↦ refl ]
    ] refl

pub known_left : (test : Key → Bool) (t : PathTree) → without_children t (unknown_keys test (keys_of (children_of t))) ≡ with_children test t
known_left test t = same_tree _ _ at
  where
    at : (q : Path) → leaf_at (without_children t (unknown_keys test (keys_of (children_of t)))) q ≡ leaf_at (with_children test t) q
    at [] = root_stays t (unknown_keys test (keys_of (children_of t))) ∙ sym (leaf_at-with_children test t [])
    at (k ∷ q) =
        leaves_taken t (unknown_keys test (keys_of (children_of t))) k q
        ∙ ap (λ b. cond b None (leaf_at t (k ∷ q)))
        (among_unknown test (keys_of (children_of t)) k ∙ ap (λ b. not (test k) && b) (among_children (children_of t) k ∙ has_child t k))
        ∙ known_below test t k q ∙ sym (leaf_at-with_children test t (k ∷ q))
