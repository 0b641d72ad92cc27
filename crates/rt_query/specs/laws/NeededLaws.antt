-- The needed forms are the fewest that supply all.
use Rattle.std.proofs.Common.{◌≡◌, ℕ, zero, suc, ◌<◌, ◌≤◌, Bool, true, false, cond, not, ◌&&◌}
use Rattle.std.proofs.Common.{◌⊎◌, inl, inr, List, [], ◌∷◌, ◌++◌, length, refl, sym, ap, subst, ◌∙◌}
use Rattle.std.proofs.Common.{slice_index_or, arith, length-append, append-nil}
use mathlib.Core.Bool.{true≢false}
use Rattle.std.specs.List.{filter, list_any, All, Any, Contains}
use Rattle.std.proofs.lemmas.List.Elements.{All-head, All-tail, All-contains, All-contains_itself}
use Rattle.std.proofs.lemmas.List.Elements.{All-filter, Contains-get_or, filter_passes}
use Rattle.std.proofs.lemmas.List.Folds.{Any-from_list_any, list_any_at}
use Rattle.rt_tree.specs.PathTree.{Path}
use Rattle.rt_tree.specs.Assignments.{is_at_or_above}
use Rattle.rt_query.specs.Queries.{Query, plain, is_filtered}
use Rattle.rt_query.specs.QueryEq.{query_eq}
use Rattle.rt_query.specs.Supply.{form, does_supply}
use Rattle.rt_query.specs.Needed.{Supplies, Supplying, IsFewest, needed}
use Rattle.rt_tree.specs.TreeEq.{both_first, both_second, both}
use Rattle.rt_query.specs.laws.QueryEq.{query_eq_tells}
use Rattle.rt_tree.specs.PathTree.{strip-some}
use Rattle.rt_query.specs.laws.Paths.{rest_of_above, is_at_or_above-trans}
use Rattle.rt_query.specs.laws.RangeLaws.{taken_in, takes_in-trans, takes_in-antisymm}
use Rattle.rt_query.specs.laws.SupplyLaws.{form_filtered, form_unfiltered, supplies_cases}
use Rattle.rt_query.specs.laws.SupplyLaws.{supplies_as_form, supplies_as_plain, supplies_as_range}

-- ---- lists

-- what passes the test stays in the filtered list
pub Contains-filter : {X : Type 0} (p : X → Bool) (xs : List X) (x : X) → Contains xs x → p x ≡ true
    → Contains (filter p xs) x
Contains-filter p xs x m h = at p xs x m.0 m.1 m.2 h
  where
    at : {X : Type 0} (p : X → Bool) (xs : List X) (x : X) (k : ℕ) → k < length xs
        → slice_index_or xs k x ≡ x → p x ≡ true → Contains (filter p xs) x
    at p [] x k l e h = absurd (omega arith)
    at p (y ∷ ys) x zero l e h = subst (λ b. Contains (cond b (y ∷ filter p ys) (filter p ys)) x)
        (sym (ap p e ∙ h)) (0, omega arith, e)
    at p (y ∷ ys) x (suc k) l e h =
        let m = at p ys x k (omega arith) e h in
        elim (p y) as (λ b. Contains (cond b (y ∷ filter p ys) (filter p ys)) x) [
          | true ↦ (suc m.0, omega (arith, m.1), m.2)
          | false ↦ m
        ]

-- what the filtered list has is in the list
pub Contains-from_filter : {X : Type 0} (p : X → Bool) (xs : List X) (x : X)
    → Contains (filter p xs) x → Contains xs x
Contains-from_filter p xs x m = All-contains (Contains xs) (filter p xs) x
    (All-filter p (Contains xs) xs (All-contains_itself xs)) m

-- and passes the test
pub passes-from_filter : {X : Type 0} (p : X → Bool) (xs : List X) (x : X)
    → Contains (filter p xs) x → p x ≡ true
passes-from_filter p xs x m = All-contains (λ y. p y ≡ true) (filter p xs) x (filter_passes p xs) m

not_true : (b : Bool) → not b ≡ true → b ≡ false
not_true true e = absurd (true≢false (sym e))
not_true false e = refl

-- ---- supply

-- a form is its own listening form
abbrev pub IsForm : Query → Type 0
IsForm f = form f ≡ f

pub supplies_itself : (f : Query) → IsForm f → Supplies f f
supplies_itself f is = supplies_as_form f f (sym is)

-- what supplies the form of a query supplies the query
supplies-form : (s r : Query) → Supplies s (form r) → Supplies s r
supplies-form s r a = of (is_filtered r) refl
  where
    of_plain : Supplies s (plain r.path) → is_filtered r ≡ false → Supplies s r
    of_plain h e = elim (supplies_cases s (plain r.path) h) [
      | inl f ↦ supplies_as_form s r (f ∙ sym (form_unfiltered r e))
      | inr x ↦ elim x [
        | inl f ↦ supplies_as_plain s r f.0 f.1
        | inr t ↦ absurd (true≢false (sym (taken_in s (plain r.path) t).inner))
      ]
    ]

    of : (b : Bool) → is_filtered r ≡ b → Supplies s r
    of true e = subst (Supplies s) (form_filtered r e) a
    of false e = of_plain (subst (Supplies s) (form_unfiltered r e) a) e

-- what supplies a form that supplies another query supplies that
pub supplies_trans : (s g r : Query) → IsForm g → Supplies s g → Supplies g r → Supplies s r
supplies_trans s g r is a b =
    elim (supplies_cases g r b) [
      | inl e ↦ supplies-form s r (subst (Supplies s) e a)
      | inr x ↦ elim (supplies_cases s g a) [
        | inl f ↦ subst (λ q. Supplies q r) (sym (f ∙ is)) b
        | inr y ↦ elim x [
          | inl e ↦ elim y [
            | inl f ↦ supplies_as_plain s r f.0 (is_at_or_above-trans s.path g.path r.path f.1 e.1)
            | inr t ↦ absurd (true≢false (sym (taken_in s g t).inner ∙ e.0))
          ]
          | inr t ↦ elim y [
            | inl f ↦ supplies_as_plain s r f.0
                (subst (λ p. is_at_or_above s.path p ≡ true) (taken_in g r t).paths f.1)
            | inr u ↦ supplies_as_range s r (takes_in-trans s g r u t)
          ]
        ]
      ]
    ]

-- ---- going up

-- an unfiltered form is the plain query of its path
plain_form : (q : Query) → is_filtered q ≡ false → IsForm q → q ≡ plain q.path
plain_form q e is = sym is ∙ ap (λ b. cond b q (plain q.path)) e

-- a list that goes on is the same or longer
same_or_longer : (p r : Path) → (r ≡ []) ⊎ (length p < length (p ++ r))
same_or_longer p [] = inl refl
same_or_longer p (k ∷ r) = inr (omega (arith, length-append p (k ∷ r)))

-- paths above each other are equal
above_antisymm : (p q : Path) → is_at_or_above p q ≡ true → is_at_or_above q p ≡ true → p ≡ q
above_antisymm p q a b =
    let x = rest_of_above p q a in
    let y = rest_of_above q p b in
    let r : Path = x.0 in
    let s : Path = y.0 in
    let down : q ≡ p ++ r = strip-some p q r x.1 in
    let up : p ≡ q ++ s = strip-some q p s y.1 in
    elim (same_or_longer p r) [
      | inl nil ↦ sym (down ∙ ap (λ z. p ++ z) nil ∙ append-nil p)
      | inr longer ↦ absurd (omega (arith, longer, ap length down, ap length up, length-append q s))
    ]

-- no two different forms supply each other
pub supplies_antisymm : (g r : Query) → IsForm g → IsForm r → Supplies g r → Supplies r g → g ≡ r
supplies_antisymm g r own is a b =
    elim (supplies_cases g r a) [
      | inl e ↦ e ∙ is
      | inr x ↦ elim (supplies_cases r g b) [
        | inl f ↦ sym (f ∙ own)
        | inr y ↦ elim x [
          | inl e ↦ elim y [
            | inl f ↦ plain_form g e.0 own ∙ ap plain (above_antisymm g.path r.path e.1 f.1)
                ∙ sym (plain_form r f.0 is)
            | inr u ↦ absurd (true≢false (sym (taken_in r g u).inner ∙ e.0))
          ]
          | inr t ↦ elim y [
            | inl f ↦ absurd (true≢false (sym (taken_in g r t).inner ∙ f.0))
            | inr u ↦ takes_in-antisymm g r t u
          ]
        ]
      ]
    ]

-- how many of these pass
count : {X : Type 0} → (X → Bool) → List X → ℕ
count p xs = length (filter p xs)

-- fewer pass the stronger test
count_le : {X : Type 0} (p q : X → Bool) (xs : List X) → All (λ x. p x ≡ true → q x ≡ true) xs
    → count p xs ≤ count q xs
unfolding count
count_le p q [] h = omega arith
count_le p q (x ∷ xs) h =
    let rest = count_le p q xs (All-tail (λ y. p y ≡ true → q y ≡ true) x xs h) in
    elim (p x) as (λ a. p x ≡ a → length (cond a (x ∷ filter p xs) (filter p xs))
    ≤ length (cond (q x) (x ∷ filter q xs) (filter q xs))) [
      | true ↦ λ e. subst (λ b. length (x ∷ filter p xs)
          ≤ length (cond b (x ∷ filter q xs) (filter q xs)))
          (sym (All-head (λ y. p y ≡ true → q y ≡ true) x xs h e)) (omega (arith, rest))
      | false ↦ λ e. elim (q x) as (λ b. length (filter p xs)
          ≤ length (cond b (x ∷ filter q xs) (filter q xs))) [
            | true ↦ omega (arith, rest)
            | false ↦ rest
          ]
    ] refl

-- strictly fewer, where one passes the weaker test alone
count_lt : {X : Type 0} (p q : X → Bool) (xs : List X) (k : ℕ) (z : X) → k < length xs
    → slice_index_or xs k z ≡ z → All (λ x. p x ≡ true → q x ≡ true) xs → p z ≡ false → q z ≡ true
    → count p xs < count q xs
unfolding count
count_lt p q [] k z l e h fails passes = absurd (omega arith)
count_lt p q (x ∷ xs) zero z l e h fails passes =
    let rest = count_le p q xs (All-tail (λ y. p y ≡ true → q y ≡ true) x xs h) in
    subst (λ a. length (cond a (x ∷ filter p xs) (filter p xs))
    < length (cond (q x) (x ∷ filter q xs) (filter q xs))) (sym (ap p e ∙ fails))
    (subst (λ b. length (filter p xs) < length (cond b (x ∷ filter q xs) (filter q xs)))
    (sym (ap q e ∙ passes)) (omega (arith, rest)))
count_lt p q (x ∷ xs) (suc k) z l e h fails passes =
    let rest = count_lt p q xs k z (omega arith) e (All-tail (λ y. p y ≡ true → q y ≡ true) x xs h)
    fails passes in
    elim (p x) as (λ a. p x ≡ a → length (cond a (x ∷ filter p xs) (filter p xs))
    < length (cond (q x) (x ∷ filter q xs) (filter q xs))) [
      | true ↦ λ f. subst (λ b. length (x ∷ filter p xs)
          < length (cond b (x ∷ filter q xs) (filter q xs)))
          (sym (All-head (λ y. p y ≡ true → q y ≡ true) x xs h f)) (omega (arith, rest))
      | false ↦ λ f. elim (q x) as (λ b. length (filter p xs)
          < length (cond b (x ∷ filter q xs) (filter q xs))) [
            | true ↦ omega (arith, rest)
            | false ↦ rest
          ]
    ] refl

-- how many registered forms supply f
suppliers : List Query → Query → ℕ
suppliers registered f = count (λ s. does_supply s f) registered

-- of another form that supplies r fewer are suppliers
suppliers_fewer : (registered : List Query) → All IsForm registered → (g r : Query)
    → Contains registered g → Contains registered r → Supplies g r → query_eq g r ≡ false
    → suppliers registered g < suppliers registered r
unfolding suppliers
suppliers_fewer registered are g r in_g in_r h other =
    let own = All-contains IsForm registered g are in_g in
    let is = All-contains IsForm registered r are in_r in
    count_lt (λ s. does_supply s g) (λ s. does_supply s r) registered in_r.0 r in_r.1 in_r.2
    (λ k d l a. supplies_trans (slice_index_or registered k d) g r own a h)
    (back own is (does_supply r g) refl) (supplies_itself r is)
  where
    back : IsForm g → IsForm r → (b : Bool) → does_supply r g ≡ b → does_supply r g ≡ false
    back own is true e = absurd
        (true≢false (sym ((query_eq_tells g r).1 (supplies_antisymm g r own is h e)) ∙ other))
    back own is false e = e

-- whether another form supplies f
abbrev pub is_covered : List Query → Query → Bool
is_covered registered f = list_any (λ g. not (query_eq g f) && does_supply g f) registered

-- each form is supplied by a needed one: go up while it is covered
supplied : (registered : List Query) → All IsForm registered → (n : ℕ) (r : Query)
    → suppliers registered r < n → Contains registered r
    → Any (λ s. Supplies s r) (needed registered)
supplied registered are zero r l m = absurd (omega arith)
supplied registered are (suc n) r l m =
    elim (is_covered registered r) as (λ b. is_covered registered r ≡ b
    → Any (λ s. Supplies s r) (needed registered)) [
      | false ↦ λ e.
          let k = Contains-filter (λ f. not (is_covered registered f)) registered r m (ap not e) in
          (k.0, r, k.1, k.2, supplies_itself r (All-contains IsForm registered r are m))
      | true ↦ λ e.
          let h = Any-from_list_any (λ g. not (query_eq g r) && does_supply g r) registered e in
          let g : Query = h.1 in
          let there : Contains registered g = (h.0, h.2, h.3) in
          let other : query_eq g r ≡ false = not_true (query_eq g r) (both_first _ _ h.4) in
          let sup : Supplies g r = both_second (not (query_eq g r)) _ h.4 in
          let smaller : suppliers registered g < n =
          omega (arith, suppliers_fewer registered are g r there m sup other) in
          let s = supplied registered are n g smaller there in (
            s.0,
            s.1,
            s.2,
            s.3,
            supplies_trans s.1 g r (All-contains IsForm registered g are there)
                s.4 sup,
          )
    ] refl

-- a needed form is in every list that supplies all
pub needed_in : (registered others : List Query) → Supplying others registered → (f : Query)
    → Contains (needed registered) f → Contains others f
needed_in registered others all f m =
    let here = Contains-from_filter (λ g. not (is_covered registered g)) registered f m in
    let free : is_covered registered f ≡ false =
    not_true _ (passes-from_filter (λ g. not (is_covered registered g)) registered f m) in
    let by = All-contains (λ r. Any (λ s. Supplies s r) others) registered f all.each here in
    let s : Query = by.1 in
    let there : Contains others s = (by.0, by.2, by.3) in
    let at = All-contains (Contains registered) others s all.part there in
    elim (query_eq s f) as (λ b. query_eq s f ≡ b → Contains others f) [
      | true ↦ λ e. subst (Contains others) ((query_eq_tells s f).0 e) there
      | false ↦ λ e. absurd
          (true≢false (sym (list_any_at (λ g. not (query_eq g f)
          && does_supply g f) registered at.0 s at.1
          (ap (λ g. not (query_eq g f) && does_supply g f) at.2 ∙ both _ _ (ap not e) by.4)) ∙ free))
    ] refl

pub needed_fewest : (registered : List Query) → All IsForm registered
    → IsFewest (needed registered) registered
needed_fewest registered are = record {
  supplying = record {
    part = All-filter (λ f. not (is_covered registered f)) (Contains registered) registered
        (All-contains_itself registered);
    each = λ k d l. let r = slice_index_or registered k d in
        supplied registered are (suc (suppliers registered r)) r (omega arith)
        (Contains-get_or registered k d l);
  };
  least = λ others all k d l.
      needed_in registered others all _ (Contains-get_or (needed registered) k d l);
}
