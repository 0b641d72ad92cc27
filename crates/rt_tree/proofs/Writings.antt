-- The data that a tree is written as.
use Rattle.std.proofs.Common.{rules, ◌≡◌, ℕ, zero, suc, ◌+◌, ◌^◌, ◌<◌, ◌≤◌, false, ◌||◌, ℤ, pos, negsuc, List, [], ◌∷◌, ◌++◌, length, Some, None, Less, refl, sym, ap, ◌∙◌, arith, subst, append_assoc, append-nil, decimal}
use Rattle.std.specs.Ordering.{ordering_reverse, match_ordering}
use Rattle.std.specs.Cmp.Lexicographic.{nat_list_cmp_total}
use Rattle.std.specs.List.{AllByRecursion}
use Rattle.std.specs.List.Sorted.{IsStrictlySortedBy}
use Rattle.std.specs.Map.{keys_of, values_of}
use Rattle.std.specs.Option.{option_and_then}
use Rattle.std.proofs.lemmas.Grind.{common_steps}
use Rattle.std.proofs.lemmas.Map.Keys.{sorted_head, sorted_tail}
use Rattle.json.specs.Token.{Token}
use Rattle.json.specs.Lex.{tokens}
use Rattle.json.specs.Print.{print}
use Rattle.serde_json.specs.Data.{Data, Members, no_members, member, put, depth, members_depth, unsigned, negative}
use Rattle.serde_json.specs.Data as json
use Rattle.serde_json.specs.Find.{as_i64, of_integer, is_float}
use Rattle.serde_json.specs.Read.{read, max_depth, number_of, of_json}
use Rattle.serde_json.specs.Written.{has_float, members_have_float, compact_text, number_text, unless_float, WritesValue}
use Rattle.serde_json.proofs.Numbers.{number_of-decimal, number_of-negative}
use Rattle.serde_json.proofs.Texts.{unless_float-number_of, tokens_from_order, print-outline}
use Rattle.json.specs.Json as grammar
use Rattle.json.proofs.Printed.Trees.{value-json_tokens}
use Rattle.std.specs.Fmt.{signed_decimal}
use Rattle.serde_json.specs.View.{view}
use Rattle.serde_json.specs.declared.value.Value.{Null, the_lemmas}
use denote.Param.Weighed.{most}
use Rattle.rt_tree.specs.Leaf.{LeafValue, truth, number, text, IsInRange}
use Rattle.rt_tree.specs.Leaves.{Key, Path, key_cmp}
use Rattle.rt_tree.specs.Trees.{PathTree, leaf_at, null, of_leaf, object, levels, sub, children_of}
use Rattle.rt_tree.specs.laws.PathTree.{leaf_at-null, leaf_at-sub, same_tree, leaf_at-of_leaf, leaf_at-object-root, leaf_at-object, null_of_levels, child_levels}
use Rattle.rt_tree.specs.laws.Children.{children_sorted, child_of-children_of}
use Rattle.rt_tree.specs.Reading.{tree_of_data, number_tree, member_trees}
use Rattle.rt_tree.specs.Writing.{leaf_data, members_with, object_data, leaf_or, data_at, data_of}
use Rattle.rt_tree.specs.inside.TreeView.{IsObject}
use Rattle.rt_tree.specs.inside.TreeFalls.{most_le}
use Rattle.rt_tree.proofs.Depths.{levels-of_leaf, levels-object, most_levels}
use Rattle.rt_tree.proofs.Trees.{leaf_at-non_null, full_of_non_null, children_of-none, children_of-object, is_object-null}

-- ---- a tree by its children
pub object-children_of : (t : PathTree) → leaf_at t [] ≡ None → object (children_of t) ≡ t
object-children_of t e = same_tree _ _ at
  where
    at : (q : Path) → leaf_at (object (children_of t)) q ≡ leaf_at t q
    at [] = leaf_at-object-root (children_of t) ∙ sym e
    at (k ∷ q) =
        leaf_at-object (children_of t) k q ∙ ap (option_and_then (λ u. leaf_at u q)) (child_of-children_of t k)
        ∙ leaf_at-non_null (sub t (k ∷ [])) q ∙ leaf_at-sub t (k ∷ []) q

children_below : (t : PathTree) → leaf_at t [] ≡ None → most (λ u. levels u + 1) (values_of (children_of t)) ≤ levels t
children_below t e = most_le (children_of t) (levels t) (children_sorted t) (λ k u is.
    omega (arith, child_levels (children_of t) k u is (full_of_non_null (sub t (k ∷ [])) u (sym (child_of-children_of t k) ∙ is)), ap levels (object-children_of t e)))

-- ---- the bound on the levels does not matter
data_at-null : (n : ℕ) → data_at n null ≡ json.null
data_at-null zero = refl
data_at-null (suc n) = λ i. leaf_or (leaf_at-null [] i) (members_with (data_at n) (children_of-none null is_object-null i))

data_at-no_levels : (n : ℕ) (t : PathTree) → levels t ≤ 0 → data_at n t ≡ json.null
data_at-no_levels n t h = ap (data_at n) (null_of_levels t (omega arith)) ∙ data_at-null n

agree_all : (m n : ℕ) → ((t : PathTree) → levels t ≤ m → levels t ≤ n → data_at m t ≡ data_at n t)
    → (es : List (Key × PathTree)) → most (λ u. levels u + 1) (values_of es) ≤ suc m → most (λ u. levels u + 1) (values_of es) ≤ suc n
    → members_with (data_at m) es ≡ members_with (data_at n) es
agree_all m n h [] a b = refl
agree_all m n h (e ∷ es) a b = λ i. member e.0 (h e.1 (omega arith) (omega arith) i) (agree_all m n h es (omega arith) (omega arith) i)

agree : (m n : ℕ) (t : PathTree) → levels t ≤ m → levels t ≤ n → data_at m t ≡ data_at n t
agree zero n t a b = sym (data_at-no_levels n t a)
agree (suc m) zero t a b = data_at-no_levels (suc m) t b
agree (suc m) (suc n) t a b =
    elim (leaf_at t []) as (λ o. leaf_at t [] ≡ o → leaf_or o (members_with (data_at m) (children_of t)) ≡ leaf_or o (members_with (data_at n) (children_of t))) [
      | Some l ↦ λ e. refl
      | None ↦ λ e. ap object_data (agree_all m n (agree m n) (children_of t) (omega (arith, a, children_below t e)) (omega (arith, b, children_below t e)))
    ] refl

pub data_at-enough : (n : ℕ) (t : PathTree) → levels t ≤ n → data_at n t ≡ data_of t
unfolding data_of
data_at-enough n t h = agree n (levels t) t h (omega arith)

-- ---- the data at each kind of node
pub view-Null : view Null ≡ json.null
view-Null = search (rules, the_lemmas)

pub data_of-null : data_of null ≡ json.null
unfolding data_of
data_of-null = data_at-null (levels null)

pub data_of-of_leaf : (l : LeafValue) → data_of (of_leaf l) ≡ leaf_data l
data_of-of_leaf l = sym (data_at-enough 1 (of_leaf l) (omega (arith, levels-of_leaf l))) ∙ ap (λ o. leaf_or o (members_with (data_at 0) (children_of (of_leaf l)))) (leaf_at-of_leaf l [])

by_enough : (n : ℕ) (es : List (Key × PathTree)) → most_levels (values_of es) ≤ n → members_with (data_at n) es ≡ members_with data_of es
by_enough n [] h = refl
by_enough n (e ∷ es) h = λ i. member e.0 (data_at-enough n e.1 (omega arith) i) (by_enough n es (omega arith) i)

some_members : (es : List (Key × PathTree)) → 0 < length es → object_data (members_with data_of es) ≡ json.object (members_with data_of es)
some_members [] h = absurd (omega arith)
some_members (e ∷ es) h = refl

pub data_of-object : (es : List (Key × PathTree)) → IsObject es → data_of (object es) ≡ json.object (members_with data_of es)
data_of-object es h =
    sym (data_at-enough (suc (most_levels (values_of es))) (object es) (omega (arith, levels-object es h)))
    ∙ (λ i. leaf_or (leaf_at-object-root es i) (members_with (data_at (most_levels (values_of es))) (sym (children_of-object es h) i)))
    ∙ ap object_data (by_enough (most_levels (values_of es)) es (omega arith))
    ∙ some_members es h.not_empty

-- ---- members that are put in the order of their names
-- `ms` are the members of the children `es` before `rest`
pub record Writing (es : List (Key × PathTree)) (ms : Members) (rest : List (Key × PathTree)) : Type 0 where
  pub done : List (Key × PathTree)
  pub all : done ++ rest ≡ es
  pub are : ms ≡ members_with data_of done
  pub back : member_trees ms ≡ done
  pub sorted : IsStrictlySortedBy key_cmp (keys_of es)

middle : (k : Key) (es rest : List (Key × PathTree)) (j : Key) (t : PathTree) → AllByRecursion (λ y. key_cmp k y ≡ Less) (keys_of (es ++ (j, t) ∷ rest)) → key_cmp k j ≡ Less
middle k [] rest j t h = h.0
middle k (e ∷ es) rest j t h = middle k es rest j t h.1

-- a name above all others goes to the end
pub put-last : (es rest : List (Key × PathTree)) (k : Key) (t : PathTree) → IsStrictlySortedBy key_cmp (keys_of (es ++ (k, t) ∷ rest)) → put k (data_of t) (members_with data_of es) ≡ members_with data_of (es ++ (k, t) ∷ [])
put-last [] rest k t h = refl
put-last (e ∷ es) rest k t h =
    let below = middle e.0 es rest k t (sorted_head key_cmp e.0 (keys_of (es ++ (k, t) ∷ rest)) h) in
    ap (λ o. match_ordering o (member k (data_of t) (member e.0 (data_of e.1) (members_with data_of es))) (member e.0 (data_of t) (members_with data_of es)) (member e.0 (data_of e.1) (put k (data_of t) (members_with data_of es)))) (nat_list_cmp_total.antisymm k e.0 ∙ ap ordering_reverse below)
    ∙ ap (member e.0 (data_of e.1)) (put-last es rest k t (sorted_tail key_cmp e.0 (keys_of (es ++ (k, t) ∷ rest)) h))

trees_last : (es : List (Key × PathTree)) (k : Key) (t : PathTree) → member_trees (members_with data_of es) ≡ es → tree_of_data (data_of t) ≡ t → member_trees (members_with data_of (es ++ (k, t) ∷ [])) ≡ es ++ (k, t) ∷ []
trees_last es k t h e = at es k t e ∙ ap (λ fs. fs ++ (k, t) ∷ []) h
  where
    at : (es : List (Key × PathTree)) (k : Key) (t : PathTree) → tree_of_data (data_of t) ≡ t → member_trees (members_with data_of (es ++ (k, t) ∷ [])) ≡ member_trees (members_with data_of es) ++ (k, t) ∷ []
    at [] k t e = λ i. (k, e i) ∷ []
    at (f ∷ es) k t e = ap (λ fs. (f.0, tree_of_data (data_of f.1)) ∷ fs) (at es k t e)

pub writing_begins : (es : List (Key × PathTree)) → IsStrictlySortedBy key_cmp (keys_of es) → Writing es no_members es
writing_begins es h = record { done = []; all = refl; are = refl; back = refl; sorted = h }

pub writing_goes_on : (es : List (Key × PathTree)) (ms new : Members) (rest : List (Key × PathTree)) (k : Key) (t : PathTree) → Writing es ms ((k, t) ∷ rest)
    → new ≡ put k (data_of t) ms → tree_of_data (data_of t) ≡ t → Writing es new rest
writing_goes_on es ms new rest k t h is same =
    let puts : new ≡ members_with data_of (h.done ++ (k, t) ∷ []) =
    is ∙ ap (put k (data_of t)) h.are ∙ put-last h.done rest k t (subst (λ fs. IsStrictlySortedBy key_cmp (keys_of fs)) (sym h.all) h.sorted) in
    record {
      done = h.done ++ (k, t) ∷ [];
      all = append_assoc h.done ((k, t) ∷ []) rest ∙ h.all;
      are = puts;
      back = ap member_trees puts ∙ trees_last h.done k t (ap member_trees (sym h.are) ∙ h.back) same;
      sorted = h.sorted;
    }

all_done : (es done : List (Key × PathTree)) → done ++ [] ≡ es → done ≡ es
all_done es done e = sym (append-nil done) ∙ e

pub writing_ends : (es : List (Key × PathTree)) (ms : Members) → Writing es ms [] → (ms ≡ members_with data_of es) × (member_trees ms ≡ es)
writing_ends es ms h = (h.are ∙ ap (members_with data_of) (all_done es h.done h.all), h.back ∙ all_done es h.done h.all)

-- ---- what is written of it
no_float : (z : ℤ) → is_float (of_integer z) ≡ false
no_float (pos n) = refl
no_float (negsuc n) = refl

leaf_has_no_float : (l : LeafValue) → has_float (leaf_data l) ≡ false
leaf_has_no_float (truth b) = refl
leaf_has_no_float (number z) = no_float z
leaf_has_no_float (text s) = refl

members_have_no_float : (f : PathTree → Data) → ((t : PathTree) → has_float (f t) ≡ false) → (es : List (Key × PathTree)) → members_have_float (members_with f es) ≡ false
members_have_no_float f h [] = refl
members_have_no_float f h (e ∷ es) = λ i. h e.1 i || members_have_no_float f h es i

object_has_no_float : (ms : Members) → members_have_float ms ≡ false → has_float (object_data ms) ≡ false
object_has_no_float no_members h = refl
object_has_no_float (member k d ms) h = h

has_float-data_at : (n : ℕ) (t : PathTree) → has_float (data_at n t) ≡ false
has_float-data_at zero t = refl
has_float-data_at (suc n) t =
    elim (leaf_at t []) as (λ o. has_float (leaf_or o (members_with (data_at n) (children_of t))) ≡ false) [
      | Some l ↦ leaf_has_no_float l
      | None ↦ object_has_no_float (members_with (data_at n) (children_of t)) (members_have_no_float (data_at n) (has_float-data_at n) (children_of t))
    ]

pub has_float-data_of : (t : PathTree) → has_float (data_of t) ≡ false
unfolding data_of
has_float-data_of t = has_float-data_at (levels t) t

leaf_depth : (l : LeafValue) → depth (leaf_data l) ≡ 0
leaf_depth (truth b) = refl
leaf_depth (number z) = refl
leaf_depth (text s) = refl

members_depth_le : (f : PathTree → Data) (n : ℕ) → ((t : PathTree) → depth (f t) ≤ n) → (es : List (Key × PathTree)) → members_depth (members_with f es) ≤ n
members_depth_le f n h [] = omega arith
members_depth_le f n h (e ∷ es) = omega (arith, h e.1, members_depth_le f n h es)

object_depth_le : (ms : Members) (n : ℕ) → members_depth ms ≤ n → depth (object_data ms) ≤ suc n
object_depth_le no_members n h = omega arith
object_depth_le (member k d ms) n h = omega (arith, h)

depth-data_at : (n : ℕ) (t : PathTree) → depth (data_at n t) ≤ n
depth-data_at zero t = omega arith
depth-data_at (suc n) t =
    elim (leaf_at t []) as (λ o. depth (leaf_or o (members_with (data_at n) (children_of t))) ≤ suc n) [
      | Some l ↦ omega (arith, leaf_depth l)
      | None ↦ object_depth_le (members_with (data_at n) (children_of t)) n (members_depth_le (data_at n) n (depth-data_at n) (children_of t))
    ]

pub depth-data_of : (t : PathTree) → depth (data_of t) ≤ levels t
unfolding data_of
depth-data_of t = depth-data_at (levels t) t

-- ---- what is written is read
pub integer_reads : (z : ℤ) → IsInRange (number z) → (number_of (signed_decimal z) ≡ Some (of_integer z)) × (unless_float (signed_decimal z) ≡ number_text (of_integer z))
integer_reads (pos n) h =
    let small : n < 2 ^ 64 = grind (arith, common_steps) in
    let read = number_of-decimal n small in (read, unless_float-number_of (decimal n) (unsigned n) read)
integer_reads (negsuc n) h =
    let small : n < 2 ^ 63 = grind (arith, common_steps) in
    let read = number_of-negative n small in (read, unless_float-number_of (signed_decimal (negsuc n)) (negative (negsuc n)) read)

module _ (d : Data) (ts : List Token) (bytes : List ℕ) (writes : WritesValue d [] ts) (is : bytes ≡ print ts) (reads : tokens (print ts) ≡ ts) where
  same_tokens : tokens bytes ≡ ts
  same_tokens = ap tokens is ∙ reads

  pub written_text : has_float d ≡ false → bytes ≡ compact_text d
  written_text h = is ∙ ap print (sym same_tokens ∙ tokens_from_order bytes d (writes.0, same_tokens ∙ writes.1, writes.4) h) ∙ print-outline d

  pub written_reads : depth d ≤ max_depth → read bytes ≡ Some d
  written_reads h =
      ap (λ o. option_and_then of_json (option_and_then (λ p. grammar.if_last p.0 p.1) o))
      (ap (grammar.value max_depth) (same_tokens ∙ writes.1 ∙ sym (append-nil _)) ∙ value-json_tokens writes.0 max_depth [] (omega (arith, h, writes.3)))
      ∙ writes.2

-- ---- a leaf is read back
pub integer_back : (z : ℤ) → IsInRange (number z) → as_i64 (of_integer z) ≡ Some z
integer_back (pos n) h = grind (arith, common_steps)
integer_back (negsuc n) h = refl

pub leaf_back : (l : LeafValue) → IsInRange l → tree_of_data (leaf_data l) ≡ of_leaf l
leaf_back (truth b) h = refl
leaf_back (number z) h = ap number_tree (integer_back z h)
leaf_back (text s) h = refl
