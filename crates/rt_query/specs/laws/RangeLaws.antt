-- Ranges that take in others.
use Rattle.std.proofs.Common.{◌≡◌, Bool, true, false, not, ◌&&◌, refl, sym, ap, ◌∙◌, Option, Some, None, is_some}
use mathlib.Core.Bool.{true≢false}
use Rattle.std.specs.Option.{option_map_or}
use Rattle.std.specs.declared.cmp.Ordering.{Ordering}
use Rattle.std.specs.declared.cmp.Ordering.TheVariants.{Less, Equal, Greater}
use Rattle.std.specs.Ordering.{ordering_reverse, is_le}
use Rattle.rt_tree.specs.PathTree.{path_eq}
use Rattle.rt_tree.specs.TreeEq.{both_first, both_second, both, path_eq_tells}
use Rattle.rt_order.specs.declared.cut.Cut.{Cut}
use Rattle.rt_order.specs.Entries.{Entry}
use Rattle.rt_order.specs.Cuts.{is_after}
use Rattle.rt_order.specs.CutOrder.{cut_cmp}
use Rattle.rt_order.specs.Equality.{index_eq}
use Rattle.rt_order.specs.laws.Equality.{index_eq_tells}
use Rattle.rt_order.specs.laws.CutOrder.{cut_cmp_total, cut_cmp-IsAntisymmetric, cut_le-trans, earlier_cuts_have_more}
use Rattle.rt_query.specs.declared.query.Limit.{Limit}
use Rattle.rt_query.specs.Queries.{Query, is_filtered}
use Rattle.rt_query.specs.Ranges.{is_lower_within, is_upper_within, takes_in}
use Rattle.rt_query.specs.laws.Ranges.{WiderHasAll, TakesInOnward, TakesInOneWay}

-- ---- bounds

both_le : (o : Ordering) → is_le o ≡ true → is_le (ordering_reverse o) ≡ true → o ≡ Equal
both_le Less p q = absurd (true≢false (sym q))
both_le Equal p q = refl
both_le Greater p q = absurd (true≢false (sym p))

le-antisymm : (b c : Cut) → is_le (cut_cmp b c) ≡ true → is_le (cut_cmp c b) ≡ true → b ≡ c
le-antisymm b c p q = cut_cmp-IsAntisymmetric b c
    (both_le (cut_cmp b c) p (sym (ap is_le (cut_cmp_total.antisymm c b)) ∙ q))

lower-trans : (b c d : Option Cut) → is_lower_within b c ≡ true → is_lower_within c d ≡ true → is_lower_within b d ≡ true
lower-trans None c d p q = refl
lower-trans (Some b) None d p q = absurd (true≢false (sym p))
lower-trans (Some b) (Some c) None p q = absurd (true≢false (sym q))
lower-trans (Some b) (Some c) (Some d) p q = cut_le-trans b c d p q

upper-trans : (b c d : Option Cut) → is_upper_within b c ≡ true → is_upper_within c d ≡ true → is_upper_within b d ≡ true
upper-trans None c d p q = refl
upper-trans (Some b) None d p q = absurd (true≢false (sym p))
upper-trans (Some b) (Some c) None p q = absurd (true≢false (sym q))
upper-trans (Some b) (Some c) (Some d) p q = cut_le-trans d c b q p

lower-antisymm : (b c : Option Cut) → is_lower_within b c ≡ true → is_lower_within c b ≡ true → b ≡ c
lower-antisymm None None p q = refl
lower-antisymm None (Some c) p q = absurd (true≢false (sym q))
lower-antisymm (Some b) None p q = absurd (true≢false (sym p))
lower-antisymm (Some b) (Some c) p q = ap Some (le-antisymm b c p q)

upper-antisymm : (b c : Option Cut) → is_upper_within b c ≡ true → is_upper_within c b ≡ true → b ≡ c
upper-antisymm None None p q = refl
upper-antisymm None (Some c) p q = absurd (true≢false (sym q))
upper-antisymm (Some b) None p q = absurd (true≢false (sym p))
upper-antisymm (Some b) (Some c) p q = ap Some (le-antisymm b c q p)

-- ---- ranges

-- what it says that q takes in r
pub record IsTakenIn (q r : Query) : Type 0 where
  pub inner : is_filtered r ≡ true
  pub outer : is_filtered q ≡ true
  pub paths : q.path ≡ r.path
  pub orders : q.index ≡ r.index
  pub unlimited : is_some q.limit ≡ false
  pub lowers : is_lower_within q.range.lower r.range.lower ≡ true
  pub uppers : is_upper_within q.range.upper r.range.upper ≡ true

not_so : (b : Bool) → not b ≡ true → b ≡ false
not_so true e = absurd (true≢false (sym e))
not_so false e = refl

pub taken_in : (q r : Query) → takes_in q r ≡ true → IsTakenIn q r
taken_in q r t =
    let a = is_filtered q in
    let b = is_filtered r in
    let c = path_eq q.path r.path in
    let d = index_eq q.index r.index in
    let e = not (is_some q.limit) in
    let f = is_lower_within q.range.lower r.range.lower in
    let g = is_upper_within q.range.upper r.range.upper in
    let t6 : (a && b && c && d && e && f) ≡ true = both_first (a && b && c && d && e && f) g t in
    let t5 : (a && b && c && d && e) ≡ true = both_first (a && b && c && d && e) f t6 in
    let t4 : (a && b && c && d) ≡ true = both_first (a && b && c && d) e t5 in
    let t3 : (a && b && c) ≡ true = both_first (a && b && c) d t4 in
    let t2 : (a && b) ≡ true = both_first (a && b) c t3 in
    record {
      inner = both_second a b t2;
      outer = both_first a b t2;
      paths = (path_eq_tells q.path r.path).0 (both_second (a && b) c t3);
      orders = (index_eq_tells q.index r.index).0 (both_second (a && b && c) d t4);
      unlimited = not_so (is_some q.limit) (both_second (a && b && c && d) e t5);
      lowers = both_second (a && b && c && d && e) f t6;
      uppers = both_second (a && b && c && d && e && f) g t;
    }

pub takes_in-when : (q r : Query) → IsTakenIn q r → takes_in q r ≡ true
takes_in-when q r h =
    both _ _ (both _ _ (both _ _ (both _ _ (both _ _ (both _ _ h.outer h.inner) ((path_eq_tells q.path r.path).1 h.paths)) ((index_eq_tells q.index r.index).1 h.orders)) (ap not h.unlimited)) h.lowers) h.uppers

pub takes_in-trans : TakesInOnward
takes_in-trans q r s t u =
    let a = taken_in q r t in
    let b = taken_in r s u in
    takes_in-when q s (record {
      inner = b.inner;
      outer = a.outer;
      paths = a.paths ∙ b.paths;
      orders = a.orders ∙ b.orders;
      unlimited = a.unlimited;
      lowers = lower-trans q.range.lower r.range.lower s.range.lower a.lowers b.lowers;
      uppers = upper-trans q.range.upper r.range.upper s.range.upper a.uppers b.uppers;
    })

pub no_limit : (o : Option Limit) → is_some o ≡ false → o ≡ None
no_limit None e = refl
no_limit (Some l) e = absurd (true≢false e)

pub takes_in-antisymm : TakesInOneWay
takes_in-antisymm q r t u =
    let a = taken_in q r t in
    let b = taken_in r q u in
    let lowers = lower-antisymm q.range.lower r.range.lower a.lowers b.lowers in
    let uppers = upper-antisymm q.range.upper r.range.upper a.uppers b.uppers in
    let limits : q.limit ≡ r.limit = no_limit q.limit a.unlimited ∙ sym (no_limit r.limit b.unlimited) in
    λ i. record { path = a.paths i; index = a.orders i; range = record { lower = lowers i; upper = uppers i }; limit = limits i }

-- ---- entries

not-after : (b c : Cut) (e : Entry) → is_le (cut_cmp b c) ≡ true → not (is_after b e) ≡ true → not (is_after c e) ≡ true
not-after b c e p q =
    elim (is_after c e) as (λ x. is_after c e ≡ x → not x ≡ true) [
      | true ↦ λ h. absurd (true≢false (sym q ∙ ap not (earlier_cuts_have_more b c e p h)))
      | false ↦ λ h. refl
    ] refl

lower-has : (b c : Option Cut) (e : Entry) → is_lower_within b c ≡ true → option_map_or (λ cut. is_after cut e) c true ≡ true → option_map_or (λ cut. is_after cut e) b true ≡ true
lower-has None c e p q = refl
lower-has (Some b) None e p q = absurd (true≢false (sym p))
lower-has (Some b) (Some c) e p q = earlier_cuts_have_more b c e p q

upper-has : (b c : Option Cut) (e : Entry) → is_upper_within b c ≡ true → option_map_or (λ cut. not (is_after cut e)) c true ≡ true → option_map_or (λ cut. not (is_after cut e)) b true ≡ true
upper-has None c e p q = refl
upper-has (Some b) None e p q = absurd (true≢false (sym p))
upper-has (Some b) (Some c) e p q = not-after c b e p q

pub wider_has_all : WiderHasAll
wider_has_all q r e t h =
    let a = taken_in q r t in
    both _ _
    (lower-has q.range.lower r.range.lower e a.lowers (both_first _ (option_map_or (λ cut. not (is_after cut e)) r.range.upper true) h))
    (upper-has q.range.upper r.range.upper e a.uppers (both_second (option_map_or (λ cut. is_after cut e) r.range.lower true) _ h))
