-- The keys that entries name, and the children of these: in the order of keys as in any other.
use Rattle.std.proofs.Common.{◌≡◌, ◌+◌, ◌≤◌, Bool, true, false, cond, not, ◌&&◌, ◌||◌, List, [], ◌∷◌, length, refl, sym, ap, ◌∙◌, arith, Option, Some, None, is_some}
use mathlib.Core.Bool.{true≢false}
use Rattle.std.specs.Prelude.{◌==◌}
use Rattle.std.specs.Ordering.{is_eq}
use Rattle.std.specs.declared.cmp.Ordering.TheVariants.{Less}
use Rattle.std.specs.Cmp.Lexicographic.{nat_list_eq_equiv, pointwise, texts_ties}
use Rattle.std.specs.List.{AllByRecursion, Contains, dedup, filter, filter_map, list_any}
use Rattle.std.specs.List.Sorted.{IsStrictlySortedBy}
use Rattle.std.specs.Map.{keys_of}
use Rattle.std.proofs.lemmas.List.{length-map}
use Rattle.std.proofs.lemmas.List.Folds.{Any-from_list_any, list_any_at}
use Rattle.std.proofs.lemmas.List.Kept.{Contains-dedup, Contains-from_dedup}
use Rattle.std.proofs.lemmas.Map.Entries.{length-keys_of}
use Rattle.rt_tree.specs.Leaf.{LeafValue}
use Rattle.rt_tree.specs.PathTree.{Key, Path, PathTree, key_cmp, key_eq, key_eq-is, key_eq-same, key_eq-symm, leaf_at, leaf_at-put, leaf_at-sub, leaf_of, is_null, put, same_tree, child}
use Rattle.rt_tree.specs.Children.{children_of}
use Rattle.rt_tree.specs.Parts.{child-put, child-put_other}
use Rattle.rt_tree.specs.Assignments.{Assignment}
use Rattle.rt_query.specs.Queries.{Query}
use Rattle.rt_writes.specs.Writes.{Write}
use Rattle.rt_cache.specs.Brought.{Brought, base}
use Rattle.rt_cover.specs.Cover.{distinct}
use Rattle.rt_view.specs.Views.{View, leaves_child, stays_object, touched, turned, with_named}
use Rattle.rt_world.specs.Touched.{children_at, children_named, named_by}
use Rattle.rt_world.specs.Views.{seen_over}
use Rattle.rt_parts.specs.Refreshed.{named_children}
use Rattle.rt_parts.specs.inside.Named.{AreNamed}

-- ---- tests of keys

-- whether two keys are the same, as their type says it
abbrev pub same_key : Key → Key → Bool
same_key = pointwise ◌==◌

same_tests : (a b : Bool) → (a ≡ true → b ≡ true) → (b ≡ true → a ≡ true) → a ≡ b
same_tests true b f g = sym (f refl)
same_tests false true f g = g refl
same_tests false false f g = refl

any_with : (p : Key → Bool) (ks : List Key) (k : Key) → Contains ks k → p k ≡ true → list_any p ks ≡ true
any_with p ks k m e = list_any_at p ks m.0 k m.1 (ap p m.2 ∙ e)

-- keys each once pass a test as all do
pub once_same : (ks : List Key) (p : Key → Bool) → list_any p (dedup same_key ks) ≡ list_any p ks
once_same ks p = same_tests (list_any p (dedup same_key ks)) (list_any p ks)
    (λ e. let a = Any-from_list_any p (dedup same_key ks) e in any_with p ks a.1 (Contains-from_dedup same_key ks a.1 (a.0, a.2, a.3)) a.4)
    (λ e. let a = Any-from_list_any p ks e in any_with p (dedup same_key ks) a.1 (Contains-dedup nat_list_eq_equiv (λ j k h. key_eq-is j k (sym (texts_ties j k) ∙ h)) ks a.1 (a.0, a.2, a.3)) a.4)

-- so do those in order of arrival
pub any_once : (p : Key → Bool) (keys : List Key) → list_any p (distinct key_eq keys) ≡ list_any p keys
any_once p [] = refl
any_once p (j ∷ keys) =
    elim (p j) as (λ b. p j ≡ b → (b || list_any p (filter (λ x. not (key_eq j x)) (distinct key_eq keys))) ≡ (b || list_any p keys)) [
      | true ↦ λ e. refl
      | false ↦ λ e. left e (distinct key_eq keys) ∙ any_once p keys
    ] refl
  where
    left : p j ≡ false → (xs : List Key) → list_any p (filter (λ x. not (key_eq j x)) xs) ≡ list_any p xs
    left e [] = refl
    left e (x ∷ xs) =
        elim (key_eq j x) as (λ b. key_eq j x ≡ b → list_any p (cond (not b) (x ∷ filter (λ y. not (key_eq j y)) xs) (filter (λ y. not (key_eq j y)) xs)) ≡ (p x || list_any p xs)) [
          | true ↦ λ f.
              let other : p x ≡ false = ap p (sym (key_eq-is j x f)) ∙ e in
              left e xs ∙ ap (λ b. b || list_any p xs) (sym other)
          | false ↦ λ f. ap (λ b. p x || b) (left e xs)
        ] refl

-- ---- how many there are

-- no key stands twice
abbrev AreOnce : List Key → Type 0
AreOnce [] = Unit {0}
AreOnce (k ∷ ks) = (list_any (key_eq k) ks ≡ false) × AreOnce ks

or_left : (a b : Bool) → (a || b) ≡ false → a ≡ false
or_left true b e = absurd (true≢false e)
or_left false b e = refl

or_right : (a b : Bool) → (a || b) ≡ false → b ≡ false
or_right true b e = absurd (true≢false e)
or_right false b e = e

or_yes : (a b : Bool) → b ≡ true → (a || b) ≡ true
or_yes true b e = refl
or_yes false b e = e

once_sorted : (ks : List Key) → IsStrictlySortedBy key_cmp ks → AreOnce ks
unfolding IsStrictlySortedBy
once_sorted [] h = tt
once_sorted (k ∷ ks) h = (none ks h.0, once_sorted ks h.1)
  where
    none : (js : List Key) → AllByRecursion (λ j. key_cmp k j ≡ Less) js → list_any (key_eq k) js ≡ false
    none [] g = refl
    none (j ∷ js) g = λ i. is_eq (g.0 i) || none js g.1 i

once_distinct : (ks : List Key) → AreOnce (distinct key_eq ks)
once_distinct [] = tt
once_distinct (k ∷ ks) = (gone (distinct key_eq ks), left (distinct key_eq ks) (once_distinct ks))
  where
    gone : (xs : List Key) → list_any (key_eq k) (filter (λ x. not (key_eq k x)) xs) ≡ false
    gone [] = refl
    gone (x ∷ xs) =
        elim (key_eq k x) as (λ b. key_eq k x ≡ b → list_any (key_eq k) (cond (not b) (x ∷ filter (λ y. not (key_eq k y)) xs) (filter (λ y. not (key_eq k y)) xs)) ≡ false) [
          | true ↦ λ e. gone xs
          | false ↦ λ e. ap (λ b. b || list_any (key_eq k) (filter (λ y. not (key_eq k y)) xs)) e ∙ gone xs
        ] refl

    still : (j : Key) (xs : List Key) → list_any (key_eq j) xs ≡ false → list_any (key_eq j) (filter (λ x. not (key_eq k x)) xs) ≡ false
    still j [] e = refl
    still j (x ∷ xs) e =
        elim (key_eq k x) as (λ b. list_any (key_eq j) (cond (not b) (x ∷ filter (λ y. not (key_eq k y)) xs) (filter (λ y. not (key_eq k y)) xs)) ≡ false) [
          | true ↦ still j xs (or_right (key_eq j x) (list_any (key_eq j) xs) e)
          | false ↦ ap (λ b. b || list_any (key_eq j) (filter (λ y. not (key_eq k y)) xs)) (or_left (key_eq j x) (list_any (key_eq j) xs) e)
              ∙ still j xs (or_right (key_eq j x) (list_any (key_eq j) xs) e)
        ]

    left : (xs : List Key) → AreOnce xs → AreOnce (filter (λ x. not (key_eq k x)) xs)
    left [] h = tt
    left (x ∷ xs) h =
        elim (key_eq k x) as (λ b. AreOnce (cond (not b) (x ∷ filter (λ y. not (key_eq k y)) xs) (filter (λ y. not (key_eq k y)) xs))) [
          | true ↦ left xs h.1
          | false ↦ (still x xs h.0, left xs h.1)
        ]

-- without the first that is k
abbrev without_one : Key → List Key → List Key
without_one k [] = []
without_one k (j ∷ ks) = cond (key_eq k j) ks (j ∷ without_one k ks)

one_less : (k : Key) (ks : List Key) → list_any (key_eq k) ks ≡ true → length ks ≡ length (without_one k ks) + 1
one_less k [] e = absurd (true≢false (sym e))
one_less k (j ∷ ks) e =
    elim (key_eq k j) as (λ b. (b || list_any (key_eq k) ks) ≡ true → length (j ∷ ks) ≡ length (cond b ks (j ∷ without_one k ks)) + 1) [
      | true ↦ λ f. omega arith
      | false ↦ λ f. let rest = one_less k ks f in omega (arith, rest)
    ] e

other_stays : (k z : Key) (ks : List Key) → key_eq k z ≡ false → list_any (key_eq z) ks ≡ true → list_any (key_eq z) (without_one k ks) ≡ true
other_stays k z [] apart e = e
other_stays k z (j ∷ ks) apart e =
    elim (key_eq k j) as (λ b. key_eq k j ≡ b → list_any (key_eq z) (cond b ks (j ∷ without_one k ks)) ≡ true) [
      | true ↦ λ f.
          let other : key_eq z j ≡ false = ap (key_eq z) (sym (key_eq-is k j f)) ∙ key_eq-symm z k ∙ apart in
          ap (λ b. b || list_any (key_eq z) ks) (sym other) ∙ e
      | false ↦ λ f. elim (key_eq z j) as (λ b. (b || list_any (key_eq z) ks) ≡ true → (b || list_any (key_eq z) (without_one k ks)) ≡ true) [
        | true ↦ λ g. refl
        | false ↦ λ g. other_stays k z ks apart g
      ] e
    ] refl

-- keys each once that are all among others are no more
no_more : (xs ys : List Key) → AreOnce xs → ((k : Key) → list_any (key_eq k) xs ≡ true → list_any (key_eq k) ys ≡ true) → length xs ≤ length ys
no_more [] ys h among = omega arith
no_more (x ∷ xs) ys h among =
    let here : list_any (key_eq x) ys ≡ true = among x (ap (λ b. b || list_any (key_eq x) xs) (key_eq-same x)) in
    let rest = no_more xs (without_one x ys) h.1 (λ k m. other_stays x k ys (apart k m) (among k (or_yes (key_eq k x) _ m))) in
    omega (arith, rest, one_less x ys here)
  where
    apart : (k : Key) → list_any (key_eq k) xs ≡ true → key_eq x k ≡ false
    apart k m =
        elim (key_eq x k) as (λ b. key_eq x k ≡ b → b ≡ false) [
          | true ↦ λ e. absurd (true≢false (sym m ∙ ap (λ z. list_any (key_eq z) xs) (sym (key_eq-is x k e)) ∙ h.0))
          | false ↦ λ e. refl
        ] refl

-- ---- the children of such keys

abbrev SameKeys : List Key → List Key → Type 0
SameKeys ks js = (test : Key → Bool) → list_any test ks ≡ list_any test js

any_children : (test : Key × PathTree → Bool) (from : PathTree) (ks : List Key) → list_any test (children_at from ks) ≡ list_any (λ k. test (k, child from k)) ks
any_children test from [] = refl
any_children test from (k ∷ ks) = ap (λ b. test (k, child from k) || b) (any_children test from ks)

same_any : (from : PathTree) (ks js : List Key) → SameKeys ks js → (test : Key × PathTree → Bool) → list_any test (children_at from ks) ≡ list_any test (children_at from js)
same_any from ks js same test = any_children test from ks ∙ same (λ k. test (k, child from k)) ∙ sym (any_children test from js)

same_stays : (from t : PathTree) (ks js : List Key) → SameKeys ks js → stays_object t (children_at from ks) ≡ stays_object t (children_at from js)
same_stays from t ks js same =
    λ i. not (is_some (leaf_of t)) && (same_any from ks js same (λ (c : Key × PathTree). not (is_null c.1)) i
    || list_any (λ (c : Key × PathTree). not (same_any from ks js same (λ (d : Key × PathTree). key_eq d.0 c.0) i)) (children_of t))

same_by_children : (t u : PathTree) → leaf_of t ≡ leaf_of u → ((k : Key) → child t k ≡ child u k) → t ≡ u
same_by_children t u e h = same_tree t u at
  where
    at : (q : Path) → leaf_at t q ≡ leaf_at u q
    at [] = e
    at (k ∷ q) = sym (leaf_at-sub t (k ∷ []) q) ∙ ap (λ x. leaf_at x q) (h k) ∙ leaf_at-sub u (k ∷ []) q

child_touched : (from t : PathTree) (keys : List Key) (k : Key) → child (with_named t (children_at from keys)) k ≡ cond (list_any (key_eq k) keys) (child from k) (child t k)
child_touched from t [] k = refl
child_touched from t (j ∷ keys) k =
    child_touched from (put t (j ∷ []) (child from j)) keys k
    ∙ elim (key_eq k j) as (λ b. key_eq k j ≡ b → cond (list_any (key_eq k) keys) (child from k) (child (put t (j ∷ []) (child from j)) k) ≡ cond (b || list_any (key_eq k) keys) (child from k) (child t k)) [
      | true ↦ λ e.
          let same : k ≡ j = key_eq-is k j e in
          ap (cond (list_any (key_eq k) keys) (child from k)) (ap (λ z. child (put t (j ∷ []) (child from j)) z) same ∙ child-put t j (child from j) ∙ ap (child from) (sym same))
          ∙ either (list_any (key_eq k) keys) (child from k)
      | false ↦ λ e. ap (cond (list_any (key_eq k) keys) (child from k)) (child-put_other t j k (child from j) (key_eq-symm j k ∙ e))
    ] refl
  where
    either : (b : Bool) (x : PathTree) → cond b x x ≡ x
    either true x = refl
    either false x = refl

-- no leaf
abbrev no_leaf : Option LeafValue
no_leaf = None

leaf_put : (t : PathTree) (k : Key) (u : PathTree) → leaf_of t ≡ None → leaf_of (put t (k ∷ []) u) ≡ None
leaf_put t k u none = leaf_at-put t (k ∷ []) u [] ∙ ap (λ o. cond (not (is_null u) && true) None o) none ∙ gone (not (is_null u) && true)
  where
    gone : (b : Bool) → cond b no_leaf None ≡ None
    gone true = refl
    gone false = refl

none_touched : (t : PathTree) (named : List (Key × PathTree)) → leaf_of t ≡ None → leaf_of (with_named t named) ≡ None
none_touched t [] none = none
none_touched t (c ∷ cs) none = none_touched (put t (c.0 ∷ []) c.1) cs (leaf_put t c.0 c.1 none)

same_put : (from t : PathTree) (ks js : List Key) → SameKeys ks js → leaf_of t ≡ None → with_named t (children_at from ks) ≡ with_named t (children_at from js)
same_put from t ks js same none =
    same_by_children (with_named t (children_at from ks)) (with_named t (children_at from js))
    (none_touched t (children_at from ks) none ∙ sym (none_touched t (children_at from js) none))
    (λ k. child_touched from t ks k ∙ ap (λ b. cond b (child from k) (child t k)) (same (key_eq k)) ∙ sym (child_touched from t js k))

object_of : (t : PathTree) (b : Bool) → (not (is_some (leaf_of t)) && b) ≡ true → leaf_of t ≡ None
object_of t b e = at (leaf_of t) e
  where
    at : (o : Option LeafValue) → (not (is_some o) && b) ≡ true → o ≡ None
    at None f = refl
    at (Some l) f = absurd (true≢false (sym f))

-- ---- named children

pub keys_at : (from : PathTree) (ks : List Key) → keys_of (children_at from ks) ≡ ks
keys_at from [] = refl
keys_at from (k ∷ ks) = ap (λ js. k ∷ js) (keys_at from ks)

module _ (entries : List Assignment) (b : Brought) (ws : List Write) (q : Query) (named : List (Key × PathTree)) (h : AreNamed entries b ws q named) where
  abbrev from : PathTree
  from = seen_over (base b q) ws q

  abbrev names : List Key
  names = children_named q.path entries

  -- a view that is asked about them stays an object, or not
  pub stays_named : (t : PathTree) → stays_object t named ≡ stays_object t (named_children entries b ws q)
  stays_named t = ap (stays_object t) h.seen ∙ same_stays from t (keys_of named) names h.keys.same

  count_named : length named ≡ length (named_children entries b ws q)
  count_named =
      let up = no_more (keys_of named) names (once_sorted (keys_of named) h.keys.rise) (λ k m. sym (h.keys.same (key_eq k)) ∙ m) in
      let down = no_more names (keys_of named) (once_distinct (filter_map (named_by q.path) entries)) (λ k m. h.keys.same (key_eq k) ∙ m) in
      let as_many : length (named_children entries b ws q) ≡ length names = length-map names (λ k. (k, child from k)) in
      omega (arith, up, down, length-keys_of named, as_many)

  -- and comes to be the same
  pub touched_named : (v : View) → stays_object v.tree named ≡ true → touched v named ≡ touched v (named_children entries b ws q)
  touched_named v e =
      let none = object_of v.tree (leaves_child v.tree named) e in
      let tree : with_named v.tree named ≡ with_named v.tree (named_children entries b ws q) = ap (with_named v.tree) h.seen ∙ same_put from v.tree (keys_of named) names h.keys.same none in
      λ i. turned v (tree i) (count_named i)
