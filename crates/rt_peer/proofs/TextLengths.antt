-- How long texts are, and what a change below one key does to the length of an object's text.
use Rattle.std.proofs.Common.{◌≡◌, ◌≤◌, ◌<◌, ◌+◌, ◌-◌, ◌/◌, ◌%◌, ◌^◌, ℕ, suc, drop, get_or, ℤ, pos, negsuc, Bool, true, false, cond, not, ◌&&◌, List, [], ◌∷◌, ◌++◌, length}
use Rattle.std.proofs.Common.{Option, Some, None, is_some, refl, sym, ap, subst, ◌∙◌, arith, decimal}
use Rattle.std.specs.Cmp.{eq_by_cmp_equiv}
use Rattle.std.specs.Cmp.Lexicographic.{nat_list_cmp_total}
use Rattle.std.specs.BTreeMap.{is_at}
use Rattle.std.specs.Map.{keys_of, values_of, remove_entry}
use Rattle.std.specs.Fmt.{signed_decimal}
use Rattle.std.proofs.lemmas.List.{length-append, drop_more}
use Rattle.std.proofs.lemmas.Fmt.{decimal_step}
use Rattle.std.proofs.lemmas.Grind.{common_steps}
use Rattle.std.proofs.lemmas.Map.{lookup-remove_entry}
use Rattle.std.proofs.lemmas.Map.Keys.{IsDistinct-from_sorted}
use denote.Param.Weighed.{most}
use Rattle.json.specs.Print.{escape_byte, escape, quoted}
use Rattle.serde_json.specs.Written.{compact_text, members_text}
use Rattle.rt_map.proofs.Order.{sorted_remove}
use Rattle.rt_tree.specs.Key.{IsKey}
use Rattle.rt_tree.specs.Leaf.{LeafValue, number}
use Rattle.rt_tree.specs.Allowed.{IsAllowed}
use Rattle.rt_tree.specs.PathTree.{Key, Path, PathTree, key_cmp, key_eq, key_eq-is, key_eq-symm, strip, leaf_at, null, is_null, is_null-null, null_of_is_null, of_leaf, sub, child, put, object, child_of, child_levels, non_null, levels}
use Rattle.rt_tree.specs.Children.{is_object, children_of, children_sorted, children_of-unique, child_of-children_of}
use Rattle.rt_tree.specs.Parts.{sub-sub, sub-put_under, sub-put_other, child-put, child-put_other}
use Rattle.rt_tree.specs.TreeEq.{both_first, both_second}
use Rattle.rt_tree.specs.Writing.{leaf_data, members_with, data_of}
use Rattle.rt_tree.specs.inside.TreeFalls.{most_le}
use Rattle.rt_tree.specs.inside.TreeView.{IsObject}
use Rattle.rt_tree.proofs.Trees.{full_of_non_null, non_null-null, sub-put}
use Rattle.rt_tree.proofs.Writings.{data_of-null, data_of-of_leaf, data_of-object, object-children_of}
use Rattle.rt_peer.specs.Lengths.{text_length, capped}
use Rattle.rt_peer.specs.inside.Lengths.{entry_length, entries_length, child_length}

-- ---- numbers and keys
pub length-decimal-step : (n : ℕ) → 10 ≤ n → n < 2 ^ 64 → length (decimal n) ≡ suc (length (decimal (n / 10)))
length-decimal-step n some small = omega (arith, ap length (decimal_step n some small), length-append (decimal (n / 10)) ((48 + n % 10) ∷ []))

-- the next byte of a text
pub next_escaped : (bs : List ℕ) (i : ℕ) → i < length bs → length (escape (drop i bs)) ≡ length (escape_byte (get_or bs i 0)) + length (escape (drop (i + 1) bs))
next_escaped bs i within =
    ap (λ ys. length (escape ys)) (drop_more bs i 0 within) ∙ length-append (escape_byte (get_or bs i 0)) (escape (drop (i + 1) bs))

pub key_short : (bytes : List ℕ) → IsKey bytes → length bytes ≤ 768
key_short bytes h = grind (arith, common_steps, h)

pub length-number : (z : ℤ) → length (compact_text (leaf_data (number z))) ≡ length (signed_decimal z)
length-number (pos n) = refl
length-number (negsuc n) = refl

-- ---- the text at each kind of node
pub text_length-null : text_length null ≡ 4
text_length-null = ap (λ d. length (compact_text d)) data_of-null

pub text_length-of_leaf : (l : LeafValue) → text_length (of_leaf l) ≡ length (compact_text (leaf_data l))
text_length-of_leaf l = ap (λ d. length (compact_text d)) (data_of-of_leaf l)

member_length : (e : Key × PathTree) (rest : List ℕ) → length (quoted e.0 ++ 58 ∷ (compact_text (data_of e.1) ++ rest)) + 1 ≡ entry_length e + length rest
member_length e rest = omega (arith, length-append (quoted e.0) (58 ∷ (compact_text (data_of e.1) ++ rest)), length-append (compact_text (data_of e.1)) rest)

later_length : (es : List (Key × PathTree)) → length (members_text true (members_with data_of es)) ≡ entries_length es + 1
later_length [] = refl
later_length (e ∷ es) = omega (arith, member_length e (members_text true (members_with data_of es)), later_length es)

first_length : (es : List (Key × PathTree)) → 0 < length es → length (members_text false (members_with data_of es)) ≡ entries_length es
first_length [] some = absurd (omega arith)
first_length (e ∷ es) some = omega (arith, member_length e (members_text true (members_with data_of es)), later_length es)

text_length-object : (es : List (Key × PathTree)) → IsObject es → text_length (object es) ≡ suc (entries_length es)
text_length-object es h = ap (λ d. length (compact_text d)) (data_of-object es h) ∙ ap suc (first_length es h.not_empty)

-- ---- a tree with children
not_some : (o : Option LeafValue) → not (is_some o) ≡ true → o ≡ None
not_some None e = refl
not_some (Some l) e = cc

not_null : (b : Bool) → not b ≡ true → b ≡ false
not_null true e = cc
not_null false e = refl

leaf_none : (t : PathTree) → is_object t ≡ true → leaf_at t [] ≡ None
leaf_none t e = not_some (leaf_at t []) (both_second (not (is_null t)) (not (is_some (leaf_at t []))) e)

some_children : (t : PathTree) → is_object t ≡ true → 0 < length (children_of t)
some_children t e =
    elim (children_of t) as (λ es. children_of t ≡ es → 0 < length es) [
      | [] ↦ λ none. cc (
        not_null (is_null t) (both_first (not (is_null t)) (not (is_some (leaf_at t []))) e),
        ap is_null (sym (object-children_of t (leaf_none t e)) ∙ ap object none) ∙ is_null-null,
      )
      | c ∷ cs ↦ λ some. omega arith
    ] refl

child_full : (t : PathTree) (k : Key) (u : PathTree) → child_of (children_of t) k ≡ Some u → is_null u ≡ false
child_full t k u is = full_of_non_null (child t k) u (sym (child_of-children_of t k) ∙ is)

made : (t : PathTree) → is_object t ≡ true → IsAllowed t → IsObject (children_of t)
made t e allowed = record {
  not_empty = some_children t e;
  ordered = children_sorted t;
  full = child_full t;
  allowed = subst IsAllowed (sym (object-children_of t (leaf_none t e))) allowed;
}

-- its text
pub text_length-children : (t : PathTree) → is_object t ≡ true → IsAllowed t → text_length t ≡ suc (entries_length (children_of t))
text_length-children t e allowed =
    ap text_length (sym (object-children_of t (leaf_none t e))) ∙ text_length-object (children_of t) (made t e allowed)

-- each child has fewer levels
pub children_below : (t : PathTree) → is_object t ≡ true → most (λ u. levels u + 1) (values_of (children_of t)) ≤ levels t
children_below t e =
    most_le (children_of t) (levels t) (children_sorted t) (λ k u is.
    omega (arith, child_levels (children_of t) k u is (child_full t k u is), ap levels (object-children_of t (leaf_none t e))))

-- a tree that is no leaf and has no children
pub text_length-none : (t : PathTree) → leaf_at t [] ≡ None → is_object t ≡ false → text_length t ≡ 4
text_length-none t leaf e =
    elim (is_null t) as (λ b. is_null t ≡ b → (not b && not (is_some (leaf_at t []))) ≡ false → text_length t ≡ 4) [
      | true ↦ λ n h. ap text_length (null_of_is_null t n) ∙ text_length-null
      | false ↦ λ n h. cc (h, ap (λ o. not (is_some o)) leaf)
    ] refl e

-- ---- the children but one

parted : (k : Key) (es : List (Key × PathTree)) → entries_length es ≡ entries_length (remove_entry (is_at (key_cmp k)) es) + child_length k (child_of es k)
parted k [] = refl
parted k (e ∷ es) =
    elim (key_eq k e.0) as (λ b. key_eq k e.0 ≡ b
    → entries_length (e ∷ es) ≡ entries_length (cond b es (e ∷ remove_entry (is_at (key_cmp k)) es)) + child_length k (cond b (Some e.1) (child_of es k))) [
      | true ↦ λ s. omega (arith, ap (λ j. length (quoted j)) (key_eq-is k e.0 s))
      | false ↦ λ s. omega (arith, parted k es)
    ] refl

-- they are the children of the tree without that one
left : (t u : PathTree) (k : Key) → ((j : Key) → key_eq k j ≡ false → child u j ≡ child t j)
    → remove_entry (is_at (key_cmp k)) (children_of u) ≡ children_of (put t (k ∷ []) null)
left t u k apart =
    children_of-unique (put t (k ∷ []) null) (remove_entry (is_at (key_cmp k)) (children_of u))
    (sorted_remove nat_list_cmp_total k (children_of u) (children_sorted u)) at
  where
    at : (j : Key) → child_of (remove_entry (is_at (key_cmp k)) (children_of u)) j ≡ non_null (child (put t (k ∷ []) null) j)
    at j =
        lookup-remove_entry (eq_by_cmp_equiv nat_list_cmp_total) (key_eq k) ((eq_by_cmp_equiv nat_list_cmp_total).congr k) j (children_of u)
        (IsDistinct-from_sorted key_cmp (keys_of (children_of u)) (children_sorted u))
        ∙ elim (key_eq k j) as (λ b. key_eq k j ≡ b
        → cond b None (child_of (children_of u) j) ≡ non_null (child (put t (k ∷ []) null) j)) [
          | true ↦ λ e. sym (ap non_null (ap (child (put t (k ∷ []) null)) (sym (key_eq-is k j e)) ∙ child-put t k null) ∙ non_null-null)
          | false ↦ λ e. child_of-children_of u j ∙ ap non_null (apart j e ∙ sym (child-put_other t k j null e))
        ] refl

-- ---- a write below a key
-- u is t with something else there
abbrev pub DiffersAt : PathTree → PathTree → Path → Type 0
DiffersAt t u p = u ≡ put t p (sub u p)

pub differs-put : (t u : PathTree) (p : Path) (v : PathTree) → u ≡ put t p v → DiffersAt t u p
differs-put t u p v is = is ∙ ap (put t p) (sym (ap (λ x. sub x p) is ∙ sub-put t p v))

apart : (t u : PathTree) (k : Key) (p : Path) → DiffersAt t u (k ∷ p) → (j : Key) → key_eq k j ≡ false → child u j ≡ child t j
apart t u k p is j e =
    ap (λ x. child x j) is
    ∙ sub-put_other t (k ∷ p) (j ∷ []) (sub u (k ∷ p)) (ap (λ b. cond b (strip p []) None) e)
    (ap (λ b. cond b (strip [] p) None) (key_eq-symm j k ∙ e))

-- what the child at the key adds goes, or comes, or is another
moved : (t u : PathTree) (k : Key) (p : Path) → is_object t ≡ true → is_object u ≡ true → IsAllowed t → IsAllowed u
    → DiffersAt t u (k ∷ p)
    → text_length u + child_length k (child_of (children_of t) k) ≡ text_length t + child_length k (child_of (children_of u) k)
moved t u k p a b c d is =
    let others = left t u k (apart t u k p is) ∙ sym (left t t k (λ j e. refl)) in
    omega (
      arith,
      parted k (children_of t),
      parted k (children_of u),
      ap entries_length others,
      text_length-children t a c,
      text_length-children u b d,
    )

-- a child is shorter
child_shorter : (t : PathTree) (k : Key) → is_object t ≡ true → IsAllowed t → child_length k (child_of (children_of t) k) < text_length t
child_shorter t k a c = omega (arith, parted k (children_of t), text_length-children t a c)

child_is : (t : PathTree) (k : Key) (x : PathTree) → child_of (children_of t) k ≡ Some x → child t k ≡ x
child_is t k x e =
    elim (is_null (child t k)) as (λ b. cond b None (Some (child t k)) ≡ Some x → child t k ≡ x) [
      | true ↦ λ h. cc
      | false ↦ λ h. cc
    ] (sym (child_of-children_of t k) ∙ e)

-- the child differs below the other keys
pub below : (t u : PathTree) (k : Key) (p : Path) (x y : PathTree) → DiffersAt t u (k ∷ p) → child_of (children_of t) k ≡ Some x
    → child_of (children_of u) k ≡ Some y → DiffersAt x y p
below t u k p x y is old new =
    let was = child_is t k x old in
    let now = child_is u k y new in
    sym now ∙ ap (λ z. child z k) is ∙ sub-put_under t (k ∷ []) p (sub u (k ∷ p))
    ∙ (λ i. put (was i) p (sym (sub-sub u (k ∷ []) p) i)) ∙ ap (λ z. put x p (sub z p)) now

-- ---- how long the whole is then
-- two trees with children, of which one is the other with something else below a key
pub record AreAt (t u : PathTree) (k : Key) (p : Path) : Type 0 where
  pub was : is_object t ≡ true
  pub is : is_object u ≡ true
  pub was_allowed : IsAllowed t
  pub is_allowed : IsAllowed u
  pub differs : DiffersAt t u (k ∷ p)

pub are_at : (t u : PathTree) (keys : Path) (k : Key) (p : Path) → true ≡ is_object t → true ≡ is_object u → IsAllowed t → IsAllowed u
    → keys ≡ k ∷ p → DiffersAt t u keys → AreAt t u k p
are_at t u keys k p was is was_allowed is_allowed parts differs = record {
  was = sym was;
  is = sym is;
  was_allowed = was_allowed;
  is_allowed = is_allowed;
  differs = subst (DiffersAt t u) parts differs;
}

-- what a map of the children has at a key
pub child_there : (t : PathTree) (k : Key) (es : List (Key × PathTree)) (o : Option PathTree) → es ≡ children_of t → o ≡ child_of es k
    → child_of (children_of t) k ≡ o
child_there t k es o are found = sym (found ∙ ap (λ xs. child_of xs k) are)

together : (t u : PathTree) (k : Key) (p : Path) → AreAt t u k p
    → text_length u + child_length k (child_of (children_of t) k) ≡ text_length t + child_length k (child_of (children_of u) k)
together t u k p h = moved t u k p h.was h.is h.was_allowed h.is_allowed h.differs

pub child_fits : (t u : PathTree) (k : Key) (p : Path) (whole : ℕ) (x : PathTree) → AreAt t u k p → text_length t ≤ whole
    → child_of (children_of t) k ≡ Some x → length (quoted k) + 2 + text_length x ≤ whole
child_fits t u k p whole x h fits old =
    omega (arith, fits, child_shorter t k h.was h.was_allowed, ap (child_length k) old)

-- the child is another one
pub whole-both : (t u : PathTree) (k : Key) (p : Path) (whole : ℕ) (x y : PathTree) → AreAt t u k p → text_length t ≤ whole
    → child_of (children_of t) k ≡ Some x → child_of (children_of u) k ≡ Some y
    → whole - text_length x + text_length y ≡ whole - text_length t + text_length u
whole-both t u k p whole x y h fits old new =
    omega (
      arith,
      fits,
      together t u k p h,
      child_shorter t k h.was h.was_allowed,
      ap (child_length k) old,
      ap (child_length k) new,
    )

-- the child went
pub whole-gone : (t u : PathTree) (k : Key) (p : Path) (whole : ℕ) (x : PathTree) → AreAt t u k p → text_length t ≤ whole
    → child_of (children_of t) k ≡ Some x → child_of (children_of u) k ≡ None
    → whole - (length (quoted k) + 2 + text_length x) ≡ whole - text_length t + text_length u
whole-gone t u k p whole x h fits old new =
    omega (
      arith,
      fits,
      together t u k p h,
      child_shorter t k h.was h.was_allowed,
      ap (child_length k) old,
      ap (child_length k) new,
    )

-- a child came
pub whole-came : (t u : PathTree) (k : Key) (p : Path) (whole : ℕ) (y : PathTree) → AreAt t u k p → text_length t ≤ whole
    → child_of (children_of t) k ≡ None → child_of (children_of u) k ≡ Some y
    → whole + (length (quoted k) + 2 + text_length y) ≡ whole - text_length t + text_length u
whole-came t u k p whole y h fits old new =
    omega (arith, fits, together t u k p h, ap (child_length k) old, ap (child_length k) new)

-- there is none before and after
pub whole-none : (t u : PathTree) (k : Key) (p : Path) (whole : ℕ) → AreAt t u k p → text_length t ≤ whole
    → child_of (children_of t) k ≡ None → child_of (children_of u) k ≡ None
    → whole ≡ whole - text_length t + text_length u
whole-none t u k p whole h fits old new =
    omega (arith, fits, together t u k p h, ap (child_length k) old, ap (child_length k) new)

-- ---- a walk over the children
-- one more child is counted
pub counting_goes_on : (m : ℕ) (es rest : List (Key × PathTree)) (k : Key) (t : PathTree) (n child more : ℕ) → es ≡ (k, t) ∷ rest
    → capped (n + entries_length es) ≡ m → child ≡ capped (text_length t) → more ≡ capped (length (quoted k) + 2 + child)
    → capped (capped (n + more) + entries_length rest) ≡ m
counting_goes_on m es rest k t n child more is so c w = omega (arith, ap entries_length is, so, c, w)
