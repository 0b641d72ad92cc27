-- The tests of equality tell exactly the equal ones.
use Rattle.std.proofs.Common.{◌≡◌, ℕ, true, ◌&&◌, refl, sym, ap, subst, ◌==◌}
use lib.Dec.{T, eqb→eq}
use lib.Pointwise.{pointwise_decides}
use Rattle.std.specs.Option.{option_eq}
use Rattle.std.specs.Cmp.{nat_eq_equiv}
use Rattle.rt_tree.specs.PathTree.{key_eq, key_eq-is, key_eq-same, path_eq, path_eq-is, path_eq-same}
use Rattle.rt_tree.specs.TreeEq.{Tells, tells, both_first, both_second, both, leaf_eq}
use Rattle.rt_tree.specs.TreeEq.{leaf_eq_tells, tree_eq_tells}
use Rattle.rt_order.specs.Equality.{index_eq, range_eq}
use Rattle.rt_order.specs.laws.Equality.{index_eq_tells, range_eq_tells, option_eq_tells}
use Rattle.rt_query.specs.declared.query.Limit.{Limit}
use Rattle.rt_query.specs.declared.query.Limit.TheVariants.{First, Last}
use Rattle.rt_query.specs.QueryEq.{limit_eq, query_eq, row_eq, shown_eq}

same_number : (m n : ℕ) → (m == n) ≡ true → m ≡ n
same_number m n e = eqb→eq m n (subst (λ b. T b) (sym e) tt)

same_limit : (x y : Limit) → limit_eq x y ≡ true → x ≡ y
same_limit (First m) (First n) e = ap First (same_number m n e)
same_limit (Last m) (Last n) e = ap Last (same_number m n e)
same_limit (First m) (Last n) e = cc
same_limit (Last m) (First n) e = cc

own_limit : (x : Limit) → limit_eq x x ≡ true
own_limit (First n) = nat_eq_equiv.refl n
own_limit (Last n) = nat_eq_equiv.refl n

pub limit_eq_tells : Tells limit_eq
limit_eq_tells = tells same_limit own_limit

pub query_eq_tells : Tells query_eq
query_eq_tells = tells
    (λ q r e.
    let a = path_eq q.path r.path in
    let b = index_eq q.index r.index in
    let c = range_eq q.range r.range in
    let d = option_eq limit_eq q.limit r.limit in
    let abc : (a && b && c) ≡ true = both_first (a && b && c) d e in
    let ab : (a && b) ≡ true = both_first (a && b) c abc in
    let paths = path_eq-is q.path r.path (both_first a b ab) in
    let indices = (index_eq_tells q.index r.index).0 (both_second a b ab) in
    let ranges = (range_eq_tells q.range r.range).0 (both_second (a && b) c abc) in
    let limits = (option_eq_tells limit_eq_tells q.limit r.limit).0 (both_second (a && b && c) d e) in
    λ i. record { path = paths i; index = indices i; range = ranges i; limit = limits i })
    (λ q. both _ _
    (both _ _ (both _ _ (path_eq-same q.path) ((index_eq_tells q.index q.index).1 refl))
    ((range_eq_tells q.range q.range).1 refl))
    ((option_eq_tells limit_eq_tells q.limit q.limit).1 refl))

-- ---- what is shown

pub row_eq_tells : Tells row_eq
row_eq_tells = tells
    (λ a b h i. record {
      key = key_eq-is a.key b.key (both_first _ _ h) i;
      value = (tree_eq_tells a.value b.value).0 (both_second (key_eq a.key b.key) _ h) i;
    })
    (λ a. both _ _ (key_eq-same a.key) ((tree_eq_tells a.value a.value).1 refl))

pub shown_eq_tells : Tells shown_eq
shown_eq_tells = tells
    (λ a b h i. record {
      leaf = (option_eq_tells leaf_eq_tells a.leaf b.leaf).0 (both_first _ _ h) i;
      rows =
          (pointwise_decides row_eq_tells a.rows b.rows).0
          (both_second (option_eq leaf_eq a.leaf b.leaf) _ h) i;
    })
    (λ a. both _ _ ((option_eq_tells leaf_eq_tells a.leaf a.leaf).1 refl)
    ((pointwise_decides row_eq_tells a.rows a.rows).1 refl))

-- the tests of equality tell exactly the equal ones
abbrev pub EqualityTells : Type 0
EqualityTells = Tells query_eq × Tells shown_eq
