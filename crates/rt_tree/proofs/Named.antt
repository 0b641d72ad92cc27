-- Children and parts that are found by names, and children that are put at names.
use Rattle.std.proofs.Common.{◌≡◌, ℕ, zero, suc, ◌+◌, ◌<◌, ◌≤◌, drop, true, false, cond, nat_eq, List, [], ◌∷◌, ◌++◌, length, Option, Some, None, refl, sym, ap, ◌∙◌, arith, append-nil, get_or, nat_lt}
use Rattle.std.specs.Option.{option_and_then, option_or}
use Rattle.std.specs.List.{All}
use Rattle.std.specs.Borrow.{Bor}
use Rattle.std.specs.Cmp.Lexicographic.{pointwise, texts_ties}
use Rattle.std.proofs.lemmas.Bool.{ltb-false, lt-ltb, le-ltb}
use Rattle.std.proofs.lemmas.List.{drop_more}
use Rattle.rt_tree.specs.Key.{IsKey, key_fault}
use Rattle.rt_tree.specs.Leaf.{LeafValue}
use Rattle.rt_tree.specs.Leaves.{Key, Path, key_eq}
use Rattle.rt_tree.specs.Trees.{PathTree, leaf_at, null, is_null, sub, child, child_of, non_null, levels}
use Rattle.rt_tree.specs.Named.{by_name, depth_fault, children_fault}
use Rattle.rt_tree.specs.declared.error.TreeError.{TreeError}
use Rattle.rt_tree.specs.declared.error.TreeError.TheVariants.{TooDeep}
use Rattle.rt_tree.specs.laws.Prefixes.{key_eq-symm}
use Rattle.rt_tree.specs.laws.PathTree.{leaf_at-null, null_of_is_null}
use Rattle.rt_tree.specs.laws.Parts.{sub-sub}
use Rattle.rt_tree.proofs.Trees.{sub-null, sub-root, non_null-null, leaf_at-found, some_non_null}

-- ---- children one by one
-- the child has the name
pub name_here : (es rest : List (Key × PathTree)) (k j : Key) (t : PathTree) → es ≡ (k, t) ∷ rest → pointwise nat_eq k j ≡ true → Some t ≡ child_of es j
name_here es rest k j t is same =
    sym (ap (λ fs. child_of fs j) is ∙ ap (λ b. cond b (Some t) (child_of rest j)) (key_eq-symm j k ∙ sym (texts_ties k j) ∙ same))

-- the child has another name
pub name_later : (es rest : List (Key × PathTree)) (k j : Key) (t : PathTree) → es ≡ (k, t) ∷ rest → pointwise nat_eq k j ≡ false → child_of es j ≡ child_of rest j
name_later es rest k j t is other =
    ap (λ fs. child_of fs j) is ∙ ap (λ b. cond b (Some t) (child_of rest j)) (key_eq-symm j k ∙ sym (texts_ties k j) ∙ other)

-- ---- parts by the names that are left
-- a tree that is what some tree stands for, where it isn't null
some_part : (t u : PathTree) → Some u ≡ non_null t → t ≡ u
some_part t u is =
    elim (is_null t) as (λ b. Some u ≡ cond b None (Some t) → t ≡ u) [ true ↦ λ e. cc | false ↦ λ e. cc ] is

no_part : (t : PathTree) → None ≡ non_null t → t ≡ null
no_part t is =
    elim (is_null t) as (λ b. is_null t ≡ b → None ≡ cond b None (Some t) → t ≡ null) [
      | true ↦ λ n e. null_of_is_null t n
      | false ↦ λ n e. cc
    ] refl is

-- the child of the next name is there
pub part_goes_on : (t u : PathTree) (k : Key) (p : Path) → Some u ≡ non_null (child t k) → sub t (k ∷ p) ≡ sub u p
part_goes_on t u k p is = sym (sub-sub t (k ∷ []) p) ∙ ap (λ v. sub v p) (some_part (child t k) u is)

-- it isn't
pub part_ends : (t : PathTree) (k : Key) (p : Path) → None ≡ non_null (child t k) → None ≡ non_null (sub t (k ∷ p))
part_ends t k p is =
    sym (ap non_null (sym (sub-sub t (k ∷ []) p) ∙ ap (λ v. sub v p) (no_part (child t k) is) ∙ sub-null p) ∙ non_null-null)

-- no name is left
pub part_found : (t : PathTree) (p : Path) → p ≡ [] → sub t p ≡ t
part_found t p e = ap (sub t) e ∙ sub-root t

-- ---- leaves
-- the leaf of what is found at p
pub leaf_found : (t u : PathTree) (p : Path) → Some u ≡ non_null (sub t p) → leaf_at u [] ≡ leaf_at t p
leaf_found t u p is = ap (option_and_then (λ v. leaf_at v [])) is ∙ leaf_at-found t p [] ∙ ap (leaf_at t) (append-nil p)

pub no_leaf_found : (t : PathTree) (p : Path) → None ≡ non_null (sub t p) → None ≡ leaf_at t p
no_leaf_found t p is = ap (option_and_then (λ v. leaf_at v [])) is ∙ leaf_at-found t p [] ∙ ap (leaf_at t) (append-nil p)

-- ---- children that are put at names
-- the name is no key
pub fault_of_name : (k : Key) (t : PathTree) (es : List (Key × PathTree)) (e : TreeError) → key_fault k ≡ Some e → children_fault ((k, t) ∷ es) ≡ Some e
fault_of_name k t es e is = ap (λ o. option_or (option_or o (depth_fault t)) (children_fault es)) is

-- the name is a key
pub fault_of_child : (k : Key) (t : PathTree) (es : List (Key × PathTree)) → key_fault k ≡ None → children_fault ((k, t) ∷ es) ≡ option_or (depth_fault t) (children_fault es)
fault_of_child k t es is = ap (λ o. option_or (option_or o (depth_fault t)) (children_fault es)) is

none_first : (o p : Option TreeError) → option_or o p ≡ None → (o ≡ None) × (p ≡ None)
none_first None p h = (refl, h)
none_first (Some e) p h = cc

fault_first : (k : Key) (t : PathTree) (es : List (Key × PathTree)) → children_fault ((k, t) ∷ es) ≡ None → (key_fault k ≡ None) × (depth_fault t ≡ None) × (children_fault es ≡ None)
fault_first k t es h =
    let a = none_first (option_or (key_fault k) (depth_fault t)) (children_fault es) h in
    let b = none_first (key_fault k) (depth_fault t) a.0 in (b.0, b.1, a.1)

pub fine_first : (es rest : List (Key × PathTree)) (k : Key) (t : PathTree) → es ≡ (k, t) ∷ rest → children_fault es ≡ None → IsKey k
fine_first es rest k t is h = (fault_first k t rest (sym (ap children_fault is) ∙ h)).0

pub fine_rest : (es rest : List (Key × PathTree)) (k : Key) (t : PathTree) → es ≡ (k, t) ∷ rest → children_fault es ≡ None → children_fault rest ≡ None
fine_rest es rest k t is h = (fault_first k t rest (sym (ap children_fault is) ∙ h)).2

shallow : (t : PathTree) → depth_fault t ≡ None → levels t < 33
shallow t h =
    elim (nat_lt 33 (suc (levels t))) as (λ b. nat_lt 33 (suc (levels t)) ≡ b → cond b (Some TooDeep) None ≡ None → levels t < 33) [
      | true ↦ λ e g. cc
      | false ↦ λ e g. omega (arith, ltb-false 33 (suc (levels t)) e)
    ] refl h

pub all_shallow : (es : List (Key × PathTree)) → children_fault es ≡ None → All (λ e. levels e.1 < 33) es
all_shallow [] h k d within = absurd (omega arith)
all_shallow (e ∷ es) h zero d within = shallow e.1 (fault_first e.0 e.1 es h).1
all_shallow (e ∷ es) h (suc k) d within = all_shallow es (fault_first e.0 e.1 es h).2 k d (omega arith)

-- a child that is too deep, and one that isn't
pub deep_child : (t : PathTree) (es : List (Key × PathTree)) → 33 ≤ levels t → option_or (depth_fault t) (children_fault es) ≡ Some TooDeep
deep_child t es deep = ap (λ b. option_or (cond b (Some TooDeep) None) (children_fault es)) (lt-ltb 33 (suc (levels t)) (omega arith))

pub shallow_child : (t : PathTree) (es : List (Key × PathTree)) → levels t < 33 → option_or (depth_fault t) (children_fault es) ≡ children_fault es
shallow_child t es fits = ap (λ b. option_or (cond b (Some TooDeep) None) (children_fault es)) (le-ltb 33 (suc (levels t)) (omega arith))

-- the next child of a list
pub next_named : (es : List (Bor (List ℕ) × PathTree)) (i : ℕ) (x : Bor (List ℕ) × PathTree) → i < length es → x ≡ get_or es i x
    → children_fault (by_name (drop i es)) ≡ children_fault ((x.0.now, x.1) ∷ by_name (drop (i + 1) es))
next_named es i x within is =
    ap (λ ys. children_fault (by_name ys)) (drop_more es i x within)
    ∙ ap (λ (y : Bor (List ℕ) × PathTree). children_fault ((y.0.now, y.1) ∷ by_name (drop (i + 1) es))) (sym is)
