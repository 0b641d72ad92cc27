-- Forms of a path that none takes in which is left: whoever begins has one of these.
use Rattle.std.proofs.Common.{◌≡◌, ℕ, ◌<◌, ◌&&◌, ◌||◌, Bool, true, false, not, List, [], ◌∷◌, length, get_or, Option, Some, None, refl, sym, ap, ◌∙◌, arith, cond}
use mathlib.Core.Bool.{true≢false}
use Rattle.std.specs.Prelude.{IfSome, nat_lt}
use Rattle.std.specs.List.{list_any, Contains}
use Rattle.std.proofs.lemmas.List.{get_or_default}
use Rattle.std.proofs.lemmas.List.Folds.{Any-from_list_any}
use Rattle.rt_tree.specs.PathTree.{Path, path_eq}
use Rattle.rt_tree.specs.TreeEq.{both, both_first, both_second}
use Rattle.rt_query.specs.Queries.{Query, is_filtered}
use Rattle.rt_query.specs.QueryEq.{query_eq}
use Rattle.rt_query.specs.Ranges.{takes_in}
use Rattle.rt_query.specs.Supply.{does_supply}
use Rattle.rt_query.specs.laws.QueryEq.{query_eq_tells}
use Rattle.rt_query.specs.laws.SupplyLaws.{supplies_as_range}
use Rattle.rt_cover.specs.Cover.{Registered}
use Rattle.rt_cover.specs.inside.Endings.{by_number, comes_before, is_replaced, begins_at, IsOfBeginners}
use Rattle.rt_cover.specs.inside.Widest.{Entry, has_left, leads, IsAmong, IsOfTops}
use Rattle.rt_cover.proofs.HeldLaws.{Rise, begins_one}
use Rattle.rt_cover.proofs.ListenLaws.{fails}
use Rattle.rt_cover.proofs.StartLaws.{list_any_with}

no_true : (b : Bool) → not b ≡ true → b ≡ false
no_true true e = absurd (true≢false (sym e))
no_true false e = refl

-- ---- a form that is passed over

pub none_of_it : (ended : ℕ → Bool) (es : List Entry) (n : ℕ) → n < length es → (d : Entry) (o : Option ℕ) → IsAmong n o → IfSome o (λ w. has_left ended (get_or es w d) ≡ true)
    → leads ended es d n o ≡ false → (t : ℕ → Bool) → IsOfTops ended es t → list_any t (get_or es n d).1 ≡ false
none_of_it ended es n lt d o among left stays t tops = fails (list_any t here.1) (λ e.
    let own = tops here (n, lt, get_or_default es n here d lt) e in
    by o among left stays own.0 own.1)
  where
    here : Entry
    here = get_or es n d

    by : (o : Option ℕ) → IsAmong n o → IfSome o (λ w. has_left ended (get_or es w d) ≡ true) → leads ended es d n o ≡ false → has_left ended here ≡ true
        → ((f : Entry) → Contains es f → has_left ended f ≡ true → (takes_in f.0 here.0 && not (query_eq f.0 here.0)) ≡ false) → ⊥
    by None among left stays own only = true≢false (sym own ∙ stays)
    by (Some w) among left stays own only =
        let within : w < length es = omega (arith, among, lt) in
        let narrow : (takes_in (get_or es w d).0 here.0 && not (query_eq (get_or es w d).0 here.0)) ≡ false =
        only (get_or es w d) (w, within, get_or_default es w (get_or es w d) d within) left in
        true≢false (sym (λ i. not (narrow i) && own i) ∙ stays)

-- one of them
pub an_entry : (es : List Entry) (n : ℕ) → n < length es → Entry
an_entry [] n lt = absurd (omega (arith, lt))
an_entry (e ∷ es) n lt = e

-- it is told of as it is
pub told_without : (a l s c : Bool) → (l && s) ≡ false → (l ≡ false → c ≡ false) → a ≡ (a || (s && c))
told_without true l s c e h = refl
told_without false l false c e h = refl
told_without false false true c e h = sym (h refl)
told_without false true true c e h = absurd (true≢false e)

-- ---- whoever begins has one of the others

module _ (ended : ℕ → Bool) (ls : List Registered) (p : Path) (es : List Entry) (t : ℕ → Bool)
    (are : (s : Query → Bool) (u : ℕ → Bool) → list_any (λ (e : Entry). s e.0 && list_any u e.1) es
    ≡ list_any (λ (l : Registered). (is_filtered l.1 && path_eq (l.1).path p) && (s l.1 && u l.0)) ls)
    (only : IsOfBeginners ended ls t) where
  -- a listener of a form, whose number passes a test
  abbrev IsListener : Query → (ℕ → Bool) → Type 0
  IsListener f u = (l : Registered) × Contains ls l × (l.1 ≡ f) × (u l.0 ≡ true)

  listener : (e : Entry) (u : ℕ → Bool) → Contains es e → list_any u e.1 ≡ true → IsListener e.0 u
  listener e u m some =
      let a = Any-from_list_any (λ (l : Registered). (is_filtered l.1 && path_eq (l.1).path p) && (query_eq l.1 e.0 && u l.0)) ls
      (sym (are (λ f. query_eq f e.0) u)
      ∙ list_any_with (λ (x : Entry). query_eq x.0 e.0 && list_any u x.1) es e m (both (query_eq e.0 e.0) (list_any u e.1) ((query_eq_tells e.0 e.0).1 refl) some)) in
      let l : Registered = a.1 in
      let rest : (query_eq l.1 e.0 && u l.0) ≡ true = both_second (is_filtered l.1 && path_eq (l.1).path p) (query_eq l.1 e.0 && u l.0) a.4 in
      (l, (a.0, a.2, a.3), (query_eq_tells l.1 e.0).0 (both_first (query_eq l.1 e.0) (u l.0) rest), both_second (query_eq l.1 e.0) (u l.0) rest)

  one_left : (e : Entry) → Contains es e → list_any t e.1 ≡ true → has_left ended e ≡ true
  one_left e m some =
      let a = Any-from_list_any t e.1 some in
      at a.1 (a.0, a.2, a.3) a.4 (ended a.1) refl
    where
      at : (n : ℕ) → Contains e.1 n → t n ≡ true → (b : Bool) → ended n ≡ b → has_left ended e ≡ true
      at n has holds false g = list_any_with (λ k. not (ended k)) e.1 n has (ap not g)
      at n has holds true g =
          let u : ℕ → Bool = λ k. t k && ended k in
          let l = listener e u m (list_any_with u e.1 n has (both (t n) (ended n) holds g)) in
          let begins = only l.0 l.1 (both_first (t (l.0).0) (ended (l.0).0) l.3) in
          absurd (true≢false (sym (both_second (t (l.0).0) (ended (l.0).0) l.3) ∙ begins.0))

  none_wider : (e : Entry) → Contains es e → list_any t e.1 ≡ true → (f : Entry) → Contains es f → has_left ended f ≡ true → (takes_in f.0 e.0 && not (query_eq f.0 e.0)) ≡ false
  none_wider e m some f has left = fails (takes_in f.0 e.0 && not (query_eq f.0 e.0)) (λ wide.
      let l = listener e t m some in
      let k = listener f (λ n. not (ended n)) has left in
      let begins = only l.0 l.1 l.3 in
      let other : query_eq (k.0).1 (l.0).1 ≡ false =
      (λ i. query_eq (k.2 i) (l.2 i)) ∙ no_true (query_eq f.0 e.0) (both_second (takes_in f.0 e.0) (not (query_eq f.0 e.0)) wide) in
      let supplies : does_supply (k.0).1 (l.0).1 ≡ true =
      (λ i. does_supply (k.2 i) (l.2 i)) ∙ supplies_as_range f.0 e.0 (both_first (takes_in f.0 e.0) (not (query_eq f.0 e.0)) wide) in
      let before : comes_before k.0 l.0 ≡ true =
      ap (λ b. cond b (nat_lt (k.0).0 (l.0).0) (does_supply (k.0).1 (l.0).1)) other ∙ supplies in
      true≢false (sym (list_any_with (λ (x : Registered). not (ended x.0) && comes_before x l.0) ls k.0 k.1 (both (not (ended (k.0).0)) (comes_before k.0 l.0) k.3 before)) ∙ begins.1))

  pub tops_of : IsOfTops ended es t
  tops_of e m some = (one_left e m some, none_wider e m some)

-- the test for whom a listen starts is of such
pub of_beginners : (ended : ℕ → Bool) (ls : List Registered) → Rise ls → (p : ℕ → Bool) → IsOfBeginners ended ls (begins_at (by_number ended) ls p)
of_beginners ended ls rise p l m e =
    let told : ((not (ended l.0) && not (is_replaced (by_number ended) ls l)) && p l.0) ≡ true = sym (begins_one (by_number ended) ls rise p l m) ∙ e in
    let first : (not (ended l.0) && not (is_replaced (by_number ended) ls l)) ≡ true = both_first (not (ended l.0) && not (is_replaced (by_number ended) ls l)) (p l.0) told in (
      no_true (ended l.0) (both_first (not (ended l.0)) (not (is_replaced (by_number ended) ls l)) first),
      no_true (is_replaced (by_number ended) ls l) (both_second (not (ended l.0)) (not (is_replaced (by_number ended) ls l)) first),
    )
