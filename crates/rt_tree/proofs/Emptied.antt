-- What null that comes at a path leaves of a tree.
use Rattle.std.proofs.Common.{◌≡◌, ◌<◌, true, false, cond, List, [], ◌∷◌, length, Some, None, refl, sym, ap, ◌∙◌, arith, subst}
use Rattle.std.specs.Map.{keys_of, set_value}
use Rattle.std.specs.BTreeMap.{is_at}
use Rattle.std.specs.List.Sorted.{IsStrictlySortedBy}
use Rattle.std.specs.Option.{option_map_or}
use Rattle.std.specs.Prelude.{is_some}
use Rattle.std.specs.Ordering.{is_eq}
use Rattle.std.specs.Cmp.{eq_by_cmp_equiv}
use Rattle.std.specs.Cmp.Lexicographic.{nat_list_cmp_total}
use Rattle.std.proofs.lemmas.Map.{lookup-set_value, keys-set_value}
use Rattle.std.proofs.lemmas.Map.Keys.{sorted_head}
use Rattle.rt_tree.specs.Leaf.{LeafValue}
use Rattle.rt_tree.specs.Leaves.{Key, Path, key_cmp, key_eq, strip}
use Rattle.rt_tree.specs.Trees.{PathTree, null, is_null, of_leaf, sub, put, object, child_of, non_null}
use Rattle.rt_tree.specs.laws.Prefixes.{key_eq-same, key_eq-is, key_eq-symm}
use Rattle.rt_tree.specs.laws.PathTree.{is_null-null, null_of_is_null}
use Rattle.rt_tree.specs.laws.Parts.{sub-put_under, sub-put_other}
use Rattle.rt_tree.specs.inside.Puts.{child_or_null, PutsBelow}
use Rattle.rt_tree.specs.inside.TreeView.{IsObject}
use Rattle.rt_tree.proofs.Trees.{is_null-of_leaf, is_null-object, is_null-put, sub-root, sub-null, sub-object, put-root, put-null-null, put-of_leaf-null, put-object, puts_nothing, puts_one}

-- ---- at the root, in null, in a leaf, where no child is
pub emptied-root : (t : PathTree) (p : Path) → length p ≡ 0 → is_null (put t p null) ≡ true
emptied-root t [] e = ap is_null (put-root t null) ∙ is_null-null
emptied-root t (k ∷ p) e = absurd (omega arith)

pub emptied-null : (p : Path) → is_null (put null p null) ≡ true
emptied-null p = ap is_null (put-null-null p) ∙ is_null-null

pub emptied-leaf : (l : LeafValue) (k : Key) (p : Path) → is_null (put (of_leaf l) (k ∷ p) null) ≡ false
emptied-leaf l k p = ap is_null (put-of_leaf-null l k p) ∙ is_null-of_leaf l

pub emptied-none : (es : List (Key × PathTree)) (k : Key) (p : Path) → IsObject es → child_of es k ≡ None → is_null (put (object es) (k ∷ p) null) ≡ false
emptied-none es k p h none = ap is_null (put-object es es k p null (puts_nothing es k p null none is_null-null)) ∙ is_null-object es h

-- ---- in an object
-- the parts of null are null
null_parts : (t : PathTree) (p : Path) → is_null t ≡ true → is_null (sub t p) ≡ true
null_parts t p n = ap (λ u. is_null (sub u p)) (null_of_is_null t n) ∙ ap is_null (sub-null p) ∙ is_null-null

-- a part that isn't null is of no null
full_whole : (t : PathTree) (p : Path) → is_null (sub t p) ≡ false → is_null t ≡ false
full_whole t p full =
    elim (is_null t) as (λ b. is_null t ≡ b → b ≡ false) [
      | true ↦ λ n. cc (null_parts t p n, full)
      | false ↦ λ n. refl
    ] refl

part_of_child : (es : List (Key × PathTree)) (k : Key) (t : PathTree) → child_of es k ≡ Some t → sub (object es) (k ∷ []) ≡ t
part_of_child es k t is = sub-object es k [] ∙ ap (λ o. option_map_or (λ u. sub u []) o null) is ∙ sub-root t

-- a child under another key
record Another (es : List (Key × PathTree)) (k : Key) : Type 0 where
  key : Key
  tree : PathTree
  is : child_of es key ≡ Some tree
  other : key_eq k key ≡ false

another : (es : List (Key × PathTree)) (k : Key) → IsStrictlySortedBy key_cmp (keys_of es) → 1 < length es → Another es k
another [] k sorted more = absurd (omega arith)
another (e ∷ []) k sorted more = absurd (omega arith)
another (e ∷ f ∷ es) k sorted more =
    elim (key_eq k e.0) as (λ b. key_eq k e.0 ≡ b → Another (e ∷ f ∷ es) k) [
      | false ↦ λ other. record {
        key = e.0;
        tree = e.1;
        is = ap (λ b. cond b (Some e.1) (child_of (f ∷ es) e.0)) (key_eq-same e.0);
        other = other;
      }
      | true ↦ λ same.
          let less = sorted_head key_cmp e.0 (keys_of (f ∷ es)) sorted in
          let apart : key_eq e.0 f.0 ≡ false = ap is_eq less.0 in record {
            key = f.0;
            tree = f.1;
            is = ap (λ b. cond b (Some e.1) (child_of (f ∷ es) f.0)) (key_eq-symm f.0 e.0 ∙ apart) ∙ ap (λ b. cond b (Some f.1) (child_of es f.0)) (key_eq-same f.0);
            other = ap (λ j. key_eq j f.0) (key_eq-is k e.0 same) ∙ apart;
          }
    ] refl

-- of several children one stays
pub emptied-several : (es : List (Key × PathTree)) (k : Key) (p : Path) → IsObject es → 1 < length es → is_null (put (object es) (k ∷ p) null) ≡ false
emptied-several es k p h more =
    let o = another es k h.ordered more in
    let part : sub (put (object es) (k ∷ p) null) (o.key ∷ []) ≡ o.tree =
    sub-put_other (object es) (k ∷ p) (o.key ∷ []) null (ap (λ b. cond b (strip p []) None) o.other) (ap (λ b. cond b (strip [] p) None) (key_eq-symm o.key k ∙ o.other))
    ∙ part_of_child es o.key o.tree o.is in
    full_whole (put (object es) (k ∷ p) null) (o.key ∷ []) (ap is_null part ∙ h.full o.key o.tree o.is)

-- of an only child what stays of it
pub emptied-one : (es : List (Key × PathTree)) (k : Key) (p : Path) (t : PathTree) → length es ≡ 1 → child_of es k ≡ Some t → is_null (put t p null) ≡ is_null (put (object es) (k ∷ p) null)
emptied-one [] k p t one is = absurd (omega arith)
emptied-one (e ∷ f ∷ es) k p t one is = absurd (omega arith)
emptied-one (e ∷ []) k p t one is =
    let T = object (e ∷ []) in
    let here : key_eq k e.0 ≡ true = elim (key_eq k e.0) as (λ b. cond b (Some e.1) None ≡ Some t → b ≡ true) [ true ↦ λ g. refl | false ↦ λ g. cc ] is in
    elim (is_null (put t p null)) as (λ b. is_null (put t p null) ≡ b → b ≡ is_null (put T (k ∷ p) null)) [
      | false ↦ λ n.
          let part : sub (put T (k ∷ p) null) (k ∷ []) ≡ put t p null = sub-put_under T (k ∷ []) p null ∙ ap (λ u. put u p null) (part_of_child (e ∷ []) k t is) in
          sym (full_whole (put T (k ∷ p) null) (k ∷ []) (ap is_null part ∙ n))
      | true ↦ λ n.
          let gone : PutsBelow (e ∷ []) [] k p null = λ j.
          elim (key_eq k j) as (λ b. key_eq k j ≡ b → None ≡ cond b (non_null (put (child_or_null (e ∷ []) k) p null)) (child_of (e ∷ []) j)) [
            | true ↦ λ s. sym (ap (λ o. non_null (put (option_map_or (λ u. u) o null) p null)) is ∙ ap (λ b. cond b None (Some (put t p null))) n)
            | false ↦ λ s. ap (λ b. cond b (Some e.1) None) (sym (key_eq-symm j e.0 ∙ ap (λ i. key_eq i j) (sym (key_eq-is k e.0 here)) ∙ s))
          ] refl in
          sym (ap is_null (put-object (e ∷ []) [] k p null gone) ∙ is_null-null)
    ] refl

-- an only child stays where something is left of the object
pub only_child_stays : (es : List (Key × PathTree)) (k : Key) (p : Path) (u t : PathTree) → length es ≡ 1 → child_of es k ≡ Some t → is_null (put (object es) (k ∷ p) u) ≡ false → is_null (put t p u) ≡ false
only_child_stays es k p u t one is left =
    elim (is_null u) as (λ b. is_null u ≡ b → is_null (put t p u) ≡ false) [
      | true ↦ λ n.
          ap (λ v. is_null (put t p v)) (null_of_is_null u n) ∙ emptied-one es k p t one is
          ∙ ap (λ v. is_null (put (object es) (k ∷ p) v)) (sym (null_of_is_null u n)) ∙ left
      | false ↦ λ full. is_null-put t p u full
    ] refl

-- what a put leaves something of has children left
pub children_left : (es fs : List (Key × PathTree)) (k : Key) (p : Path) (u : PathTree) → PutsBelow es fs k p u → is_null (put (object es) (k ∷ p) u) ≡ false → 0 < length fs
children_left es [] k p u puts left = cc (ap is_null (put-object es [] k p u puts), left, is_null-null)
children_left es (f ∷ fs) k p u puts left = omega arith

-- ---- what a step of `put` does to the children
-- the child went, of which nothing was left
pub puts_gone : (es fs : List (Key × PathTree)) (k : Key) (p : Path) (u t : PathTree) → child_of es k ≡ Some t → is_null (put t p u) ≡ true
    → ((j : Key) → child_of fs j ≡ cond (key_eq k j) None (child_of es j)) → PutsBelow es fs k p u
puts_gone es fs k p u t is gone sets j =
    sets j
    ∙ ap (λ o. cond (key_eq k j) o (child_of es j))
    (sym (ap (λ o. non_null (put (option_map_or (λ v. v) o null) p u)) is ∙ ap (λ b. cond b None (Some (put t p u))) gone))

-- the child was changed where it stands
pub puts_written : (es : List (Key × PathTree)) (k : Key) (p : Path) (u t w : PathTree) → child_of es k ≡ Some t → w ≡ put t p u → is_null w ≡ false
    → PutsBelow es (set_value (is_at (key_cmp k)) es w) k p u
puts_written es k p u t w is made full =
    puts_one es es (set_value (is_at (key_cmp k)) es w) k k p u w refl refl (made ∙ ap (λ o. put (option_map_or (λ v. v) o null) p u) (sym is)) full
    (λ j. lookup-set_value (eq_by_cmp_equiv nat_list_cmp_total) (is_at (key_cmp k)) (λ x y s. ap (λ i. key_eq i y) (key_eq-is k x s)) j w es (ap is_some is))

pub ordered_written : (es : List (Key × PathTree)) (k : Key) (w : PathTree) → IsStrictlySortedBy key_cmp (keys_of es) → IsStrictlySortedBy key_cmp (keys_of (set_value (is_at (key_cmp k)) es w))
ordered_written es k w = subst (IsStrictlySortedBy key_cmp) (sym (keys-set_value (is_at (key_cmp k)) es w))
