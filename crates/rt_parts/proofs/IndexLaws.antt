-- The places of listeners, as these come and go.
use Rattle.std.proofs.Common.{◌≡◌, ℕ, zero, suc, ◌<◌, Bool, true, false, cond, not, ◌||◌, ◌&&◌, nat_lt, List, [], ◌∷◌, ◌++◌, length, get_or, map, refl, sym, ap, subst, ◌∙◌, arith, Some, eqb-true}
use mathlib.Core.Bool.{true≢false}
use Rattle.std.specs.Prelude.{◌==◌}
use Rattle.std.specs.Cmp.{nat_eq_equiv}
use Rattle.std.specs.List.{All, AllPairs, filter, list_any, position}
use Rattle.std.specs.Ordering.{is_eq, nat_cmp, ordering_then}
use Rattle.std.specs.declared.cmp.Ordering.{Ordering}
use Rattle.std.specs.declared.cmp.Ordering.TheVariants.{Less, Equal, Greater}
use Rattle.std.proofs.lemmas.Bool.{lt-ltb, le-ltb}
use Rattle.std.proofs.lemmas.List.Kept.{AllPairs-filter}
use Rattle.rt_tree.specs.PathTree.{Path, path_cmp, path_eq, path_eq-same}
use Rattle.rt_query.specs.Queries.{Query, is_filtered, plain}
use Rattle.rt_query.specs.QueryEq.{query_eq}
use Rattle.rt_query.specs.Supply.{form}
use Rattle.rt_query.specs.laws.QueryEq.{query_eq_tells}
use Rattle.rt_writes.specs.laws.Places.{any_found, found_at, stands}
use Rattle.rt_parts.specs.declared.listeners.HeldListener.{HeldListener}
use Rattle.rt_parts.specs.declared.places.ListenerPlace.{ListenerPlace}
use Rattle.rt_parts.specs.inside.Placed.{AreInOrder, HaveNumbers, IsIndex, placed, stand_cmp, stand_of}
use Rattle.rt_parts.proofs.Numbered.{only_there}
use Rattle.rt_parts.proofs.SameLaws.{same_filter, same_known, same_known_back, same_more, same_read}

-- those that pass
pub index_filter : (q : ListenerPlace → Bool) (r : HeldListener → Bool) (held : List HeldListener) (places : List ListenerPlace) → All (λ h. q (placed h) ≡ r h) held → IsIndex held places → IsIndex (filter r held) (filter q places)
index_filter q r held places agree is = record {
  order = AllPairs-filter (λ (x y : ListenerPlace). stand_cmp (stand_of x) (stand_of y) ≡ Less) q places is.order;
  same = same_filter placed q r places held agree is.same;
}

-- one more
pub index_more : (held : List HeldListener) (places new : List ListenerPlace) (h : HeldListener) → IsIndex held places → AreInOrder new → ((p : ListenerPlace → Bool) → list_any p new ≡ (p (placed h) || list_any p places)) → IsIndex (held ++ h ∷ []) new
index_more held places new h is order more = record { order = order; same = same_more placed places new held h is.same more }

-- where the listeners stay where they are
pub index_read : (held new : List HeldListener) (places : List ListenerPlace) → map placed new ≡ map placed held → IsIndex held places → IsIndex new places
index_read held new places e is = record { order = is.order; same = same_read placed places held new e is.same }

-- ---- places of other numbers

apart : (o s : Ordering) → is_eq s ≡ false → is_eq (ordering_then o s) ≡ false
apart Less s e = refl
apart Equal s e = e
apart Greater s e = refl

other_cmp : (m n : ℕ) → (m == n) ≡ false → is_eq (nat_cmp m n) ≡ false
other_cmp m n e = elim (nat_lt m n) as (λ b. is_eq (cond b Less (cond (m == n) Equal Greater)) ≡ false) [
  | true ↦ refl
  | false ↦ ap (λ b. is_eq (cond b Equal Greater)) e
]

pub other_stand : (x y : Path × ℕ) → (x.1 == y.1) ≡ false → is_eq (stand_cmp x y) ≡ false
other_stand x y e = apart (path_cmp x.0 y.0) (nat_cmp x.1 y.1) (other_cmp x.1 y.1 e)

equal : (o : Ordering) → is_eq o ≡ true → o ≡ Equal
equal Less e = absurd (true≢false (sym e))
equal Equal e = refl
equal Greater e = absurd (true≢false (sym e))

pub same_stand : (x : Path × ℕ) → is_eq (stand_cmp x x) ≡ true
same_stand x =
    ap (λ o. is_eq (ordering_then o (nat_cmp x.1 x.1))) (equal (path_cmp x.0 x.0) (path_eq-same x.0))
    ∙ ap (λ b. is_eq (cond b Less (cond (x.1 == x.1) Equal Greater))) (le-ltb x.1 x.1 (omega arith))
    ∙ ap (λ b. is_eq (cond b Equal Greater)) (nat_eq_equiv.refl x.1)

-- a place for a number above all is free
pub free_above : (number : ℕ) (path : Path) (held : List HeldListener) (places : List ListenerPlace) → IsIndex held places → All (λ (h : HeldListener). h.number < number) held
    → All (λ x. is_eq (stand_cmp (stand_of x) (path, number)) ≡ false) places
free_above number path held places is above k d lt =
    let low : All (λ (x : ListenerPlace). nat_lt x.number number ≡ true) places =
    same_known_back placed (λ (x : ListenerPlace). nat_lt x.number number) places held is.same (λ j e l. lt-ltb (get_or held j e).number number (above j e l)) in
    other_stand (stand_of (get_or places k d)) (path, number) (less_other (get_or places k d).number number (low k d lt))
  where
    less_other : (m n : ℕ) → nat_lt m n ≡ true → (m == n) ≡ false
    less_other m n e = elim (m == n) as (λ b. (m == n) ≡ b → b ≡ false) [
      | true ↦ λ f.
          let same : m ≡ n = eqb-true m n f in
          absurd (true≢false (sym e ∙ le-ltb m n (omega (arith, same))))
      | false ↦ λ f. refl
    ] refl

-- ---- those that stay without one

-- a place is another than that of a listener where the number is
pub removed_agree : (held : List HeldListener) (number at : ℕ) (path : Path) (d : HeldListener) → AllPairs (λ (l m : HeldListener). l.number < m.number) held → position (λ (h : HeldListener). h.number == number) held ≡ Some at → at < length held
    → path ≡ (get_or held at d).query.path
    → All (λ h. not (is_eq (stand_cmp (stand_of (placed h)) (path, number))) ≡ not (h.number == number)) held
removed_agree held number at path d up found within is k e lt =
    elim ((get_or held k e).number == number) as (λ b. ((get_or held k e).number == number) ≡ b → not (is_eq (stand_cmp (stand_of (placed (get_or held k e))) (path, number))) ≡ not b) [
      | false ↦ λ f. ap not (other_stand (stand_of (placed (get_or held k e))) (path, number) f)
      | true ↦ λ f. elim (k == at) as (λ b. (k == at) ≡ b → not (is_eq (stand_cmp (stand_of (placed (get_or held k e))) (path, number))) ≡ false) [
        | true ↦ λ g.
            let here : k ≡ at = eqb-true k at g in
            let there : (get_or held k e) ≡ get_or held at d = ap (λ n. get_or held n e) here ∙ any_default held at e d within in
            let p : (get_or held k e).query.path ≡ path = ap (λ (h : HeldListener). h.query.path) there ∙ sym is in
            let n : (get_or held k e).number ≡ number = eqb-true (get_or held k e).number number f in
            ap not ((λ i. is_eq (stand_cmp (p i, n i) (path, number))) ∙ same_stand (path, number))
        | false ↦ λ g. absurd (true≢false (sym f ∙ only_there (λ (h : HeldListener). h.number) held number at up found k e lt (λ z. absurd (true≢false (sym (ap (λ m. m == at) z ∙ nat_eq_equiv.refl at) ∙ g)))))
      ] refl
    ] refl
  where
    any_default : (xs : List HeldListener) (i : ℕ) (a b : HeldListener) → i < length xs → get_or xs i a ≡ get_or xs i b
    any_default [] i a b l = absurd (omega arith)
    any_default (x ∷ xs) zero a b l = refl
    any_default (x ∷ xs) (suc i) a b l = any_default xs i a b (omega arith)

-- ---- those that stay without a form

pub form_path : (q f : Query) → query_eq (form q) f ≡ true → path_eq q.path f.path ≡ true
form_path q f e = subst (λ (g : Query). path_eq q.path g.path ≡ true) ((query_eq_tells (form q) f).0 e) (here q)
  where
    here : (q : Query) → path_eq q.path (form q).path ≡ true
    here q = elim (is_filtered q) as (λ b. path_eq q.path (cond b q (plain q.path)).path ≡ true) [
      | true ↦ path_eq-same q.path
      | false ↦ path_eq-same q.path
    ]

-- of the listeners of one's number one passes, if it does
pub own_test : (held : List HeldListener) (test : HeldListener → Bool) → AllPairs (λ (l m : HeldListener). l.number < m.number) held
    → All (λ h. list_any (λ (l : HeldListener). l.number == h.number && test l) held ≡ test h) held
own_test held test up k d lt =
    let h : HeldListener = get_or held k d in
    any_found (λ (l : HeldListener). l.number) test held h.number h up
    (found_at (λ (l : HeldListener). l.number == h.number) held k d (stands (λ (l : HeldListener). l.number) held k h.number d up lt refl))

pub only_at_path : (a b : Bool) → (b ≡ true → a ≡ true) → (a && b) ≡ b
only_at_path true b g = refl
only_at_path false true g = g refl
only_at_path false false g = refl

pub form_agree : (held : List HeldListener) (f : Query) → AllPairs (λ (l m : HeldListener). l.number < m.number) held
    → All (λ h. not (path_eq (placed h).path f.path && list_any (λ (l : HeldListener). l.number == (placed h).number && query_eq (form l.query) f) held) ≡ not (query_eq (form h.query) f)) held
form_agree held f up k d lt =
    let h : HeldListener = get_or held k d in
    ap not (ap (λ b. path_eq h.query.path f.path && b) (own_test held (λ (l : HeldListener). query_eq (form l.query) f) up k d lt) ∙ only_at_path (path_eq h.query.path f.path) (query_eq (form h.query) f) (form_path h.query f))

-- ---- what is known of the listeners

pub have_due : (test : ListenerPlace → Bool) (numbers : List ℕ) (held : List HeldListener) (places : List ListenerPlace) → IsIndex held places → HaveNumbers test numbers places
    → All (λ h. test (placed h) ≡ true → list_any (λ n. h.number == n) numbers ≡ true) held
have_due test numbers held places is all = same_known placed test (λ (x : ListenerPlace). list_any (λ n. x.number == n) numbers) places held is.same all
