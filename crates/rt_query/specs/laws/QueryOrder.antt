-- The order of queries is total, and only equal queries tie. Of two, the one that takes in the other begins and ends no nearer.
use Rattle.std.proofs.Common.{◌≡◌, ℕ, Bool, true, false, refl, sym, ap, ◌∙◌, ◌&&◌, ◌⊎◌, inl, inr, Option, Some, None, not, is_some}
use mathlib.Core.Bool.{true≢false}
use Rattle.std.specs.declared.cmp.Ordering.{Ordering}
use Rattle.std.specs.declared.cmp.Ordering.TheVariants.{Less, Equal, Greater}
use Rattle.std.specs.Ordering.{ordering_then, nat_cmp, flip_args, is_eq, is_le, is_gt, eq_by_cmp, ordering_reverse}
use Rattle.std.specs.Option.{option_cmp}
use Rattle.std.specs.Cmp.{IsTotalOrder, on_total, then_total, back_total, nat_cmp_total, tied_itself, upto, Equal-is}
use Rattle.std.specs.Cmp.Lexicographic.{options_total}
use Rattle.std.specs.FinMap.{IsAntisymmetric, nat_cmp-IsAntisymmetric}
use Rattle.rt_tree.specs.PathTree.{path_cmp, paths_total, exact_paths}
use Rattle.rt_order.specs.declared.index.Index.{Index}
use Rattle.rt_order.specs.declared.index.Index.TheVariants.{Key, Child, Value}
use Rattle.rt_order.specs.declared.cut.Cut.{Cut}
use Rattle.rt_order.specs.declared.cut.Range.{Range}
use Rattle.rt_order.specs.CutOrder.{cut_cmp}
use Rattle.rt_order.specs.Equality.{index_eq}
use Rattle.rt_order.specs.laws.KeyOrder.{first_tied, second_tied}
use Rattle.rt_order.specs.laws.CutOrder.{cut_cmp_total, cut_cmp-IsAntisymmetric}
use Rattle.rt_query.specs.declared.query.Limit.{Limit}
use Rattle.rt_query.specs.declared.query.Limit.TheVariants.{First, Last}
use Rattle.rt_query.specs.Queries.{Query, is_filtered, most_rows}
use Rattle.rt_query.specs.QueryEq.{query_eq}
use Rattle.rt_query.specs.QueryOrder.{index_rank, index_path, index_cmp, limit_rank, limit_cmp, range_cmp, query_cmp, unlimited}
use Rattle.rt_query.specs.Ranges.{is_lower_within, is_upper_within, takes_in}
use Rattle.rt_query.specs.laws.QueryEq.{query_eq_tells}
use Rattle.rt_query.specs.laws.RangeLaws.{IsTakenIn, taken_in, takes_in-when, no_limit}

-- ---- total

pub index_cmp_total : IsTotalOrder index_cmp
index_cmp_total = then_total (on_total index_rank nat_cmp_total) (on_total index_path paths_total)

limit_cmp_total : IsTotalOrder limit_cmp
limit_cmp_total = then_total (on_total limit_rank nat_cmp_total) (on_total most_rows nat_cmp_total)

range_cmp_total : IsTotalOrder range_cmp
range_cmp_total = then_total (on_total (λ (r : Range). r.lower) (options_total cut_cmp_total))
    (on_total (λ (r : Range). r.upper) (options_total (back_total cut_cmp_total)))

pub queries_total : IsTotalOrder query_cmp
queries_total = then_total (on_total (λ (q : Query). q.path) paths_total)
    (then_total (on_total (λ (q : Query). q.index) index_cmp_total)
    (then_total (on_total (λ (q : Query). q.limit) (options_total limit_cmp_total))
    (on_total (λ (q : Query). q.range) range_cmp_total)))

-- ---- exact

exact_options : {K : Type 0} {R : K → K → Ordering} → IsAntisymmetric R → IsAntisymmetric (option_cmp R)
exact_options exact None None e = refl
exact_options exact None (Some y) e = cc
exact_options exact (Some x) None e = cc
exact_options exact (Some x) (Some y) e = ap Some (exact x y e)

exact_index : IsAntisymmetric index_cmp
exact_index Key Key e = refl
exact_index Key (Child p) e = cc
exact_index Key Value e = cc
exact_index (Child p) Key e = cc
exact_index (Child p) (Child q) e = ap Child (exact_paths p q e)
exact_index (Child p) Value e = cc
exact_index Value Key e = cc
exact_index Value (Child p) e = cc
exact_index Value Value e = refl

exact_limit : IsAntisymmetric limit_cmp
exact_limit (First m) (First n) e = ap First (nat_cmp-IsAntisymmetric m n e)
exact_limit (First m) (Last n) e = cc
exact_limit (Last m) (First n) e = cc
exact_limit (Last m) (Last n) e = ap Last (nat_cmp-IsAntisymmetric m n e)

exact_range : IsAntisymmetric range_cmp
exact_range r s e =
    let lowers = option_cmp cut_cmp r.lower s.lower in
    let uppers = option_cmp (flip_args cut_cmp) r.upper s.upper in
    let lower = exact_options cut_cmp-IsAntisymmetric r.lower s.lower (first_tied lowers uppers e) in
    let upper = exact_options (λ c d h. sym (cut_cmp-IsAntisymmetric d c h)) r.upper s.upper (second_tied lowers uppers e) in
    λ i. record { lower = lower i; upper = upper i }

pub exact_queries : IsAntisymmetric query_cmp
exact_queries q r e =
    let ranges = range_cmp q.range r.range in
    let limits = option_cmp limit_cmp q.limit r.limit in
    let indexes = index_cmp q.index r.index in
    let paths = path_cmp q.path r.path in
    let beside = second_tied paths (ordering_then indexes (ordering_then limits ranges)) e in
    let behind = second_tied indexes (ordering_then limits ranges) beside in
    let path = exact_paths q.path r.path (first_tied paths (ordering_then indexes (ordering_then limits ranges)) e) in
    let index = exact_index q.index r.index (first_tied indexes (ordering_then limits ranges) beside) in
    let limit = exact_options exact_limit q.limit r.limit (first_tied limits ranges behind) in
    let range = exact_range q.range r.range (second_tied limits ranges behind) in
    λ i. record { path = path i; index = index i; range = range i; limit = limit i }

-- to tie is to be equal
pub tie_is_eq : (q r : Query) → eq_by_cmp query_cmp q r ≡ query_eq q r
tie_is_eq q r = at (query_eq q r) refl
  where
    at : (b : Bool) → query_eq q r ≡ b → eq_by_cmp query_cmp q r ≡ query_eq q r
    at true e =
        let same : q ≡ r = (query_eq_tells q r).0 e in
        ap (λ x. is_eq (query_cmp q x)) (sym same) ∙ ap is_eq (tied_itself queries_total q) ∙ sym e
    at false e = elim (eq_by_cmp query_cmp q r) as (λ b. eq_by_cmp query_cmp q r ≡ b → b ≡ query_eq q r) [
      | true ↦ λ t. sym ((query_eq_tells q r).1 (exact_queries q r ((Equal-is (query_cmp q r)).0 t)))
      | false ↦ λ t. sym e
    ] refl

-- ---- what takes in another

pub lower_within-order : (b c : Option Cut) → is_lower_within b c ≡ is_le (option_cmp cut_cmp b c)
lower_within-order None None = refl
lower_within-order None (Some c) = refl
lower_within-order (Some b) None = refl
lower_within-order (Some b) (Some c) = refl

pub upper_within-order : (b c : Option Cut) → is_upper_within b c ≡ is_le (option_cmp (flip_args cut_cmp) b c)
upper_within-order None None = refl
upper_within-order None (Some c) = refl
upper_within-order (Some b) None = refl
upper_within-order (Some b) (Some c) = refl

not_gt_first : (o rest : Ordering) → is_gt (ordering_then o rest) ≡ false → is_gt o ≡ false
not_gt_first Less rest e = refl
not_gt_first Equal rest e = refl
not_gt_first Greater rest e = e

not_gt_second : (o rest : Ordering) → o ≡ Equal → is_gt (ordering_then o rest) ≡ false → is_gt rest ≡ false
not_gt_second o rest t e = sym (ap (λ x. is_gt (ordering_then x rest)) t) ∙ e

neither_gt : (o rest : Ordering) → is_gt o ≡ false → is_gt rest ≡ false → is_gt (ordering_then o rest) ≡ false
neither_gt Less rest e f = refl
neither_gt Equal rest e f = f
neither_gt Greater rest e f = e

is_le-not_gt : (o : Ordering) → is_gt o ≡ false → is_le o ≡ true
is_le-not_gt Less e = refl
is_le-not_gt Equal e = refl
is_le-not_gt Greater e = absurd (true≢false e)

is_gt-le : (o : Ordering) → is_le o ≡ true → is_gt o ≡ false
is_gt-le Less e = refl
is_gt-le Equal e = refl
is_gt-le Greater e = absurd (true≢false (sym e))

turned_not_gt : (o : Ordering) → is_le o ≡ false → is_gt (ordering_reverse o) ≡ false
turned_not_gt Less e = absurd (true≢false e)
turned_not_gt Equal e = absurd (true≢false e)
turned_not_gt Greater e = refl

-- equal ones tie, and what is up to another, which is up to it, is that one
module _ {K : Type 0} {R : K → K → Ordering} (o : IsTotalOrder R) where
  same_tied : (x y : K) → x ≡ y → R x y ≡ Equal
  same_tied x y e = ap (R x) (sym e) ∙ tied_itself o x

  squeezed : IsAntisymmetric R → (x y : K) → is_gt (R x y) ≡ false → is_gt (R y x) ≡ false → x ≡ y
  squeezed exact x y a b = exact x y (at (R x y) a (sym (ap is_gt (o.antisymm y x)) ∙ b))
    where
      at : (r : Ordering) → is_gt r ≡ false → is_gt (ordering_reverse r) ≡ false → r ≡ Equal
      at Less p q = absurd (true≢false q)
      at Equal p q = refl
      at Greater p q = absurd (true≢false p)

limits_total : IsTotalOrder (option_cmp limit_cmp)
limits_total = options_total limit_cmp_total

uppers_total : IsTotalOrder (option_cmp (flip_args cut_cmp))
uppers_total = options_total (back_total cut_cmp_total)

-- a range stands no further than one that it takes in would without its limit
pub takes_in_front : (q r : Query) → takes_in q r ≡ true → is_gt (query_cmp q (unlimited r)) ≡ false
takes_in_front q r e =
    let t : IsTakenIn q r = taken_in q r e in
    neither_gt (path_cmp q.path r.path) _ (ap is_gt (same_tied paths_total q.path r.path t.paths))
    (neither_gt (index_cmp q.index r.index) _ (ap is_gt (same_tied index_cmp_total q.index r.index t.orders))
    (neither_gt (option_cmp limit_cmp q.limit None) _ (ap is_gt (same_tied limits_total q.limit None (no_limit q.limit t.unlimited)))
    (neither_gt (option_cmp cut_cmp q.range.lower r.range.lower) _
    (is_gt-le (option_cmp cut_cmp q.range.lower r.range.lower) (sym (lower_within-order q.range.lower r.range.lower) ∙ t.lowers))
    (is_gt-le (option_cmp (flip_args cut_cmp) q.range.upper r.range.upper) (sym (upper_within-order q.range.upper r.range.upper) ∙ t.uppers)))))

-- nor further than that one
without_limit_front : (o : Option Limit) → is_gt (option_cmp limit_cmp None o) ≡ false
without_limit_front None = refl
without_limit_front (Some l) = refl

pub unlimited_front : (q : Query) → is_gt (query_cmp (unlimited q) q) ≡ false
unlimited_front q =
    neither_gt (path_cmp q.path q.path) _ (ap is_gt (tied_itself paths_total q.path))
    (neither_gt (index_cmp q.index q.index) _ (ap is_gt (tied_itself index_cmp_total q.index))
    (neither_gt (option_cmp limit_cmp None q.limit) _ (without_limit_front q.limit) (ap is_gt (tied_itself range_cmp_total q.range))))

pub takes_in_up_to : (q r : Query) → takes_in q r ≡ true → is_gt (query_cmp q r) ≡ false
takes_in_up_to q r e = upto queries_total q (unlimited r) r (takes_in_front q r e) (unlimited_front r)

-- what stands behind a range, and no further than one that the range takes in would without its limit: the range takes it in, or it takes in that one
pub taken_between : (q m r : Query) → takes_in q r ≡ true → is_filtered m ≡ true
    → is_gt (query_cmp q m) ≡ false → is_gt (query_cmp m (unlimited r)) ≡ false
    → (takes_in q m ≡ true) ⊎ (takes_in m r ≡ true)
taken_between q m r e filtered a b =
    let t : IsTakenIn q r = taken_in q r e in
    let path : q.path ≡ m.path = squeezed paths_total exact_paths q.path m.path (not_gt_first (path_cmp q.path m.path) _ a)
    (ap (λ p. is_gt (path_cmp m.path p)) t.paths ∙ not_gt_first (path_cmp m.path r.path) _ b) in
    let a1 = not_gt_second (path_cmp q.path m.path) _ (same_tied paths_total q.path m.path path) a in
    let b1 = not_gt_second (path_cmp m.path r.path) _ (same_tied paths_total m.path r.path (sym path ∙ t.paths)) b in
    let index : q.index ≡ m.index = squeezed index_cmp_total exact_index q.index m.index (not_gt_first (index_cmp q.index m.index) _ a1)
    (ap (λ p. is_gt (index_cmp m.index p)) t.orders ∙ not_gt_first (index_cmp m.index r.index) _ b1) in
    let a2 = not_gt_second (index_cmp q.index m.index) _ (same_tied index_cmp_total q.index m.index index) a1 in
    let b2 = not_gt_second (index_cmp m.index r.index) _ (same_tied index_cmp_total m.index r.index (sym index ∙ t.orders)) b1 in
    let none : q.limit ≡ None = no_limit q.limit t.unlimited in
    let limit : q.limit ≡ m.limit = squeezed limits_total (exact_options exact_limit) q.limit m.limit (not_gt_first (option_cmp limit_cmp q.limit m.limit) _ a2)
    (ap (λ l. is_gt (option_cmp limit_cmp m.limit l)) none ∙ not_gt_first (option_cmp limit_cmp m.limit None) _ b2) in
    let a3 : is_gt (range_cmp q.range m.range) ≡ false = not_gt_second (option_cmp limit_cmp q.limit m.limit) _ (same_tied limits_total q.limit m.limit limit) a2 in
    let b3 : is_gt (range_cmp m.range r.range) ≡ false = not_gt_second (option_cmp limit_cmp m.limit None) _ (same_tied limits_total m.limit None (sym limit ∙ none)) b2 in
    let lower_front : is_lower_within q.range.lower m.range.lower ≡ true = lower_within-order q.range.lower m.range.lower
    ∙ is_le-not_gt (option_cmp cut_cmp q.range.lower m.range.lower) (not_gt_first (option_cmp cut_cmp q.range.lower m.range.lower) _ a3) in
    let lower_behind : is_lower_within m.range.lower r.range.lower ≡ true = lower_within-order m.range.lower r.range.lower
    ∙ is_le-not_gt (option_cmp cut_cmp m.range.lower r.range.lower) (not_gt_first (option_cmp cut_cmp m.range.lower r.range.lower) _ b3) in
    elim (is_upper_within m.range.upper r.range.upper) as (λ c. is_upper_within m.range.upper r.range.upper ≡ c → (takes_in q m ≡ true) ⊎ (takes_in m r ≡ true)) [
      | true ↦ λ u. inr (takes_in-when m r (record {
        inner = t.inner;
        outer = filtered;
        paths = sym path ∙ t.paths;
        orders = sym index ∙ t.orders;
        unlimited = ap is_some (sym limit ∙ none);
        lowers = lower_behind;
        uppers = u;
      }))
      | false ↦ λ u. inl (takes_in-when q m (record {
        inner = filtered;
        outer = t.outer;
        paths = path;
        orders = index;
        unlimited = t.unlimited;
        lowers = lower_front;
        uppers = upper_within-order q.range.upper m.range.upper ∙ is_le-not_gt (option_cmp (flip_args cut_cmp) q.range.upper m.range.upper)
            (upto uppers_total q.range.upper r.range.upper m.range.upper
            (is_gt-le (option_cmp (flip_args cut_cmp) q.range.upper r.range.upper) (sym (upper_within-order q.range.upper r.range.upper) ∙ t.uppers))
            (ap is_gt (uppers_total.antisymm r.range.upper m.range.upper) ∙ turned_not_gt (option_cmp (flip_args cut_cmp) m.range.upper r.range.upper) (sym (upper_within-order m.range.upper r.range.upper) ∙ u)));
      }))
    ] refl

-- the order of queries is total, and ties only equal ones
abbrev pub QueriesAreOrdered : Type 0
QueriesAreOrdered = IsTotalOrder query_cmp × IsAntisymmetric query_cmp

pub queries_are_ordered : QueriesAreOrdered
queries_are_ordered = (queries_total, exact_queries)
