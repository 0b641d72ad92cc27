-- A change of the listeners keeps a cover sound, and what it tells is the difference.
use Rattle.std.proofs.Common.{◌≡◌, ◌≢◌, ℕ, ◌+◌, ◌<◌, ◌≤◌, ◌==◌, nat_lt, Bool, true, false, not}
use Rattle.std.proofs.Common.{◌||◌, inl, inr, List, [], ◌∷◌, ◌++◌, map, length, refl, sym, ap}
use Rattle.std.proofs.Common.{subst, ◌∙◌, arith, Option, Some, None, is_some, ltb-true, ltb-false}
use Rattle.std.proofs.Common.{eqb-true, eq-eqb}
use mathlib.Core.Bool.{true≢false}
use Rattle.std.specs.List.{filter, list_any, enumerate_from, All, AllPairs, Contains}
use Rattle.std.specs.Option.{option_map_or}
use Rattle.std.proofs.lemmas.List.Elements.{All-cons, All-contains, All-append, All-filter}
use Rattle.std.proofs.lemmas.List.Elements.{All-weaker, filter-append, filter_passes}
use Rattle.std.proofs.lemmas.List.Folds.{Any-from_list_any, list_any_at, list_any-append, list_any_none}
use Rattle.std.proofs.lemmas.List.Kept.{AllPairs-cons, AllPairs-filter}
use Rattle.rt_query.specs.Queries.{Query}
use Rattle.rt_query.specs.QueryEq.{query_eq}
use Rattle.rt_query.specs.Supply.{form}
use Rattle.rt_query.specs.laws.QueryEq.{query_eq_tells}
use Rattle.rt_cover.specs.declared.change.Delta.{Delta}
use Rattle.rt_cover.specs.declared.error.CoverError.TheVariants.{UnknownTag}
use Rattle.rt_cover.specs.declared.listen.Kept.{Kept}
use Rattle.rt_cover.specs.Cover.{Registered, distinct, forms, first_listener, Tagged, is_kept}
use Rattle.rt_cover.specs.Cover.{started, kept_for}
use Rattle.rt_cover.specs.State.{Cover, empty_cover, needed_forms, shown_with, with_listener}
use Rattle.rt_cover.specs.State.{without_listeners, started_for, with_listeners, lacks_tag, beyond}
use Rattle.rt_cover.specs.State.{difference, without_tag, without_form, left_after, listen_at}
use Rattle.rt_cover.specs.State.{fault_of, revoke_fault}
use Rattle.rt_cover.specs.Shown.{counted, IsTold}
use Rattle.rt_cover.specs.inside.Sound.{IsSound}
use Rattle.rt_cover.specs.laws.CoverLaws.{Contains-filter, Contains-from_filter, passes-from_filter}
use Rattle.rt_cover.specs.laws.CoverLaws.{is_covered}
use Rattle.rt_cover.specs.laws.FormLaws.{same_tests}
use Rattle.rt_cover.specs.laws.KeepLaws.{form_is_form, Contains-map, forms-started, kept_for_needed}
use Rattle.rt_cover.specs.laws.KeepLaws.{needed_kept_for}
use Rattle.rt_cover.specs.laws.Pairs.{Contains-cases, All-from_contained, AllPairs-nil}
use Rattle.rt_cover.specs.laws.Pairs.{AllPairs-append, AllPairs-map, AllPairs-from_map}
use Rattle.rt_cover.specs.laws.Pairs.{AllPairs-three, filter_none, filter_all, filter_agreeing}
use Rattle.rt_cover.specs.laws.ShownLaws.{first_rises}

not_true : (b : Bool) → not b ≡ true → b ≡ false
not_true true e = absurd (true≢false (sym e))
not_true false e = refl

-- ---- forms once

pub distinct_apart : (xs : List Query) → AllPairs (λ x y. x ≢ y) (distinct query_eq xs)
distinct_apart [] = AllPairs-nil (λ x y. x ≢ y)
distinct_apart (x ∷ xs) =
    AllPairs-cons (λ y z. y ≢ z) x (filter (λ y. not (query_eq x y)) (distinct query_eq xs))
    (All-weaker (λ y. not (query_eq x y) ≡ true) (λ y. x ≢ y) (λ y e same.
    true≢false (sym ((query_eq_tells x y).1 same) ∙ not_true _ e))
    (filter (λ y. not (query_eq x y)) (distinct query_eq xs))
    (filter_passes (λ y. not (query_eq x y)) (distinct query_eq xs)))
    (AllPairs-filter (λ y z. y ≢ z) (λ y. not (query_eq x y)) (distinct query_eq xs)
    (distinct_apart xs))

-- ---- numbered forms

-- the forms under the next tags
abbrev numbered : ℕ → List Query → List Tagged
numbered n fs = map (λ (x : ℕ × Query). record { tag = x.0; form = x.1 }) (enumerate_from n fs)

-- the new ones among some forms
abbrev pub new_forms : List Tagged → List Query → List Query
new_forms kept fs = filter (λ f. not (is_kept kept f)) fs

tags_from : (n : ℕ) (fs : List Query) → All (λ (k : Tagged). n ≤ k.tag) (numbered n fs)
tags_from n [] = λ k d lt. absurd (omega arith)
tags_from n (f ∷ fs) =
    All-cons (λ (k : Tagged). n ≤ k.tag) (record { tag = n; form = f }) (numbered (n + 1) fs)
    (omega arith)
    (λ k d lt. let above = tags_from (n + 1) fs k d lt in omega (arith, above))

tags_below : (n : ℕ) (fs : List Query)
    → All (λ (k : Tagged). k.tag < n + length (numbered n fs)) (numbered n fs)
tags_below n [] = λ k d lt. absurd (omega arith)
tags_below n (f ∷ fs) =
    All-cons (λ (k : Tagged). k.tag < n + length (numbered n (f ∷ fs)))
    (record { tag = n; form = f }) (numbered (n + 1) fs) (omega arith)
    (λ k d lt. let above = tags_below (n + 1) fs k d lt in omega (arith, above))

tags_rise : (n : ℕ) (fs : List Query) → AllPairs (λ (j k : Tagged). j.tag < k.tag) (numbered n fs)
tags_rise n [] = AllPairs-nil (λ (j k : Tagged). j.tag < k.tag)
tags_rise n (f ∷ fs) =
    AllPairs-cons (λ (j k : Tagged). j.tag < k.tag) (record { tag = n; form = f }) (numbered (n + 1) fs)
    (λ k d lt. let above = tags_from (n + 1) fs k d lt in omega (arith, above))
    (tags_rise (n + 1) fs)

tags_counted : (ls : List Registered) (n : ℕ) (fs : List Query)
    → map (λ (k : Kept). k.tag) (map (shown_with ls) (numbered n fs))
    ≡ counted n (length (map (shown_with ls) (numbered n fs)))
tags_counted ls n [] = refl
tags_counted ls n (f ∷ fs) = ap (λ z. n ∷ z) (tags_counted ls (n + 1) fs)

form_of_numbered : (n : ℕ) (fs : List Query) (k : Tagged) → Contains (numbered n fs) k
    → Contains fs k.form
form_of_numbered n fs k m = subst (λ z. Contains z k.form) (forms-started n fs)
    (Contains-map (λ (x : Tagged). x.form) (numbered n fs) m.0 k m.1 m.2)

-- ---- soundness

-- a listener is registered with a form
abbrev pub HasForm : Registered → Type 0
HasForm l = form l.1 ≡ l.1

sound_tags : (c : Cover) (fs : List Query) → IsSound c
    → AllPairs (λ (j k : Tagged). j.tag < k.tag) (kept_for c.next_tag c.kept fs)
sound_tags c fs s =
    AllPairs-append (λ (j k : Tagged). j.tag < k.tag)
    (filter (λ (k : Tagged). list_any (query_eq k.form) fs) c.kept)
    (started c.next_tag c.kept fs)
    (AllPairs-filter (λ (j k : Tagged). j.tag < k.tag) (λ (k : Tagged).
    list_any (query_eq k.form) fs) c.kept s.tags)
    (tags_rise c.next_tag (new_forms c.kept fs))
    (λ j k mj mk.
    let low : j.tag < c.next_tag =
    All-contains (λ (x : Tagged). x.tag < c.next_tag) c.kept j s.below
    (Contains-from_filter (λ (x : Tagged). list_any (query_eq x.form) fs) c.kept j mj) in
    let high : c.next_tag ≤ k.tag = All-contains (λ (x : Tagged). c.next_tag ≤ x.tag)
    (started c.next_tag c.kept fs) k (tags_from c.next_tag (new_forms c.kept fs)) mk in
    omega (arith, low, high))

-- each form is kept once, as it was before
pub once_after : (n : ℕ) (kept : List Tagged) (ls : List Registered)
    → AllPairs (λ (j k : Tagged). j.form ≢ k.form) kept
    → AllPairs (λ (j k : Tagged). j.form ≢ k.form) (kept_for n kept (needed_forms ls))
once_after n kept ls once =
    AllPairs-append (λ (j k : Tagged). j.form ≢ k.form)
    (filter (λ (k : Tagged). list_any (query_eq k.form) fs) kept)
    (started n kept fs)
    (AllPairs-filter (λ (j k : Tagged). j.form ≢ k.form) (λ (k : Tagged).
    list_any (query_eq k.form) fs) kept once)
    (AllPairs-from_map (λ (k : Tagged). k.form) (λ f g. f ≢ g) (started n kept fs)
    (subst (AllPairs (λ f g. f ≢ g)) (sym (forms-started n (new_forms kept fs)))
    (AllPairs-filter (λ f g. f ≢ g) (λ f. not (is_kept kept f)) fs
    (AllPairs-filter (λ f g. f ≢ g) (λ f. not (is_covered (forms ls) f)) (forms ls)
    (distinct_apart (map (λ (l : Registered). l.1) ls))))))
    (λ j k mj mk same.
    let m = Contains-from_filter (λ (x : Tagged). list_any (query_eq x.form) fs) kept j mj in
    let new = not_true (is_kept kept k.form)
    (passes-from_filter (λ f. not (is_kept kept f)) fs k.form
    (form_of_numbered n (new_forms kept fs) k mk)) in
    true≢false (sym (list_any_at (λ (x : Tagged). query_eq x.form k.form) kept m.0 j m.1
    (ap (λ (x : Tagged). query_eq x.form k.form) m.2 ∙ (query_eq_tells j.form k.form).1 same))
    ∙ new))
  where
    fs : List Query
    fs = needed_forms ls

pub sound_after : (c : Cover) (ls : List Registered) → IsSound c
    → AllPairs (λ (l m : Registered). l.0 < m.0) ls → All HasForm ls → lacks_tag c ls ≡ false
    → IsSound (with_listeners c ls)
sound_after c ls s rise are room = record {
  listeners = rise;
  forms = are;
  tags = sound_tags c (needed_forms ls) s;
  below = All-append (λ (k : Tagged). k.tag < c.next_tag + length (started_for c ls))
      (filter (λ (k : Tagged). list_any (query_eq k.form) (needed_forms ls)) c.kept)
      (started_for c ls)
      (All-filter (λ (k : Tagged). list_any (query_eq k.form) (needed_forms ls)) (λ (k : Tagged).
      k.tag < c.next_tag + length (started_for c ls)) c.kept
      (All-weaker (λ (k : Tagged). k.tag < c.next_tag) (λ (k : Tagged). k.tag
      < c.next_tag + length (started_for c ls)) (λ k lt. omega (arith, lt)) c.kept s.below))
      (tags_below c.next_tag (new_forms c.kept (needed_forms ls)));
  next = ltb-false (c.last_tag + 1) (c.next_tag + length (started_for c ls)) room;
  only = kept_for_needed c.next_tag c.kept (needed_forms ls);
  all = needed_kept_for c.next_tag c.kept (needed_forms ls);
  once = once_after c.next_tag c.kept ls s.once;
}

pub sound_empty : (last : ℕ) → IsSound (empty_cover last)
sound_empty last = record {
  listeners = AllPairs-nil (λ (l m : Registered). l.0 < m.0);
  forms = λ k d lt. absurd (omega arith);
  tags = AllPairs-nil (λ (j k : Tagged). j.tag < k.tag);
  below = λ k d lt. absurd (omega arith);
  next = omega arith;
  only = λ k d lt. absurd (omega arith);
  all = λ k d lt. absurd (omega arith);
  once = AllPairs-nil (λ (j k : Tagged). j.form ≢ k.form);
}

-- a new listener comes in its place
pub with_listener_rises : (ls : List Registered) (n : ℕ) (q : Query)
    → AllPairs (λ (l m : Registered). l.0 < m.0) ls
    → AllPairs (λ (l m : Registered). l.0 < m.0) (with_listener ls n q)
with_listener_rises ls n q h =
    AllPairs-append R (filter (λ (l : Registered). nat_lt l.0 n) ls)
    ((n, q) ∷ filter (λ (l : Registered). nat_lt n l.0) ls)
    (AllPairs-filter R (λ (l : Registered). nat_lt l.0 n) ls h)
    (AllPairs-cons R (n, q) (filter (λ (l : Registered). nat_lt n l.0) ls)
    (All-from_contained (R (n, q)) (filter (λ (l : Registered). nat_lt n l.0) ls) high)
    (AllPairs-filter R (λ (l : Registered). nat_lt n l.0) ls h))
    (λ l m ml mm. elim (Contains-cases (n, q) (filter (λ (x : Registered). nat_lt n x.0) ls) m mm) [
      | inl e ↦ subst (λ (x : Registered). l.0 < x.0) e (low l ml)
      | inr k ↦ omega (arith, low l ml, high m k)
    ])
  where
    R : Registered → Registered → Type 0
    R l m = l.0 < m.0

    low : (l : Registered) → Contains (filter (λ (x : Registered). nat_lt x.0 n) ls) l → l.0 < n
    low l m = ltb-true l.0 n (passes-from_filter (λ (x : Registered). nat_lt x.0 n) ls l m)

    high : (l : Registered) → Contains (filter (λ (x : Registered). nat_lt n x.0) ls) l → n < l.0
    high l m = ltb-true n l.0 (passes-from_filter (λ (x : Registered). nat_lt n x.0) ls l m)

-- it has the form of its query
pub with_listener_forms : (ls : List Registered) (n : ℕ) (q : Query) → All HasForm ls
    → All HasForm (with_listener ls n (form q))
with_listener_forms ls n q h =
    All-append HasForm (filter (λ (l : Registered). nat_lt l.0 n) ls)
    ((n, form q) ∷ filter (λ (l : Registered). nat_lt n l.0) ls)
    (All-filter (λ (l : Registered). nat_lt l.0 n) HasForm ls h)
    (All-cons HasForm (n, form q) (filter (λ (l : Registered). nat_lt n l.0) ls) (form_is_form q)
    (All-filter (λ (l : Registered). nat_lt n l.0) HasForm ls h))

-- those that are left stay in order
pub without_listeners_rise : (ls : List Registered) (numbers : List ℕ)
    → AllPairs (λ (l m : Registered). l.0 < m.0) ls
    → AllPairs (λ (l m : Registered). l.0 < m.0) (without_listeners ls numbers)
without_listeners_rise ls numbers h = AllPairs-filter (λ (l m : Registered). l.0 < m.0)
    (λ (l : Registered). not (list_any (λ n. n == l.0) numbers)) ls h

pub without_listeners_forms : (ls : List Registered) (numbers : List ℕ) → All HasForm ls
    → All HasForm (without_listeners ls numbers)
without_listeners_forms ls numbers h =
    All-filter (λ (l : Registered). not (list_any (λ n. n == l.0) numbers)) HasForm ls h

pub left_after_forms : (c : Cover) (tag : ℕ) → All HasForm c.listeners → All HasForm (left_after c tag)
left_after_forms c tag h = by (listen_at c tag)
  where
    by : (o : Option Tagged)
        → All HasForm (option_map_or (λ (k : Tagged).
        without_form c.listeners k.form) o c.listeners)
    by None = h
    by (Some k) = All-filter (λ (l : Registered). not (query_eq l.1 k.form)) HasForm c.listeners h

pub left_after_rise : (c : Cover) (tag : ℕ) → AllPairs (λ (l m : Registered). l.0 < m.0) c.listeners
    → AllPairs (λ (l m : Registered). l.0 < m.0) (left_after c tag)
left_after_rise c tag h = by (listen_at c tag)
  where
    by : (o : Option Tagged)
        → AllPairs (λ (l m : Registered). l.0 < m.0)
        (option_map_or (λ (k : Tagged). without_form c.listeners k.form) o c.listeners)
    by None = h
    by (Some k) = AllPairs-filter (λ (l m : Registered). l.0 < m.0) (λ (l : Registered).
        not (query_eq l.1 k.form)) c.listeners h

-- the refusal of a revocation, where the tag is kept
pub revoke_known : (c : Cover) (tag : ℕ) → is_some (listen_at c tag) ≡ true → revoke_fault c tag
    ≡ fault_of c (left_after c tag)
revoke_known c tag h = by (listen_at c tag) h
  where
    by : (o : Option Tagged) → is_some o ≡ true
        → option_map_or (λ (_ : Tagged). fault_of c (left_after c tag)) o (Some UnknownTag)
        ≡ fault_of c (left_after c tag)
    by None h = absurd (true≢false (sym h))
    by (Some k) h = refl

-- ---- what is told

-- a tag that is not below the next one is not kept
none_of_tag : (c : Cover) → IsSound c → (n : ℕ) → c.next_tag ≤ n
    → list_any (λ (j : Tagged). j.tag == n) c.kept ≡ false
none_of_tag c s n h = list_any_none (λ (j : Tagged). j.tag == n) c.kept
    (All-weaker (λ (j : Tagged). j.tag < c.next_tag) (λ (j : Tagged). (j.tag == n) ≡ false) (λ j lt.
    differs j.tag lt) c.kept s.below)
  where
    differs : (t : ℕ) → t < c.next_tag → (t == n) ≡ false
    differs t lt = elim (t == n) as (λ b. (t == n) ≡ b → b ≡ false) [
      | true ↦ λ e.
          absurd (omega (arith, eqb-true t n e))
      | false ↦ λ _. refl
    ] refl

-- a kept listen is of its tag
any_of_tag : (kept : List Tagged) (k : Tagged) → Contains kept k
    → list_any (λ (j : Tagged). j.tag == k.tag) kept ≡ true
any_of_tag kept k m = list_any_at (λ (j : Tagged). j.tag == k.tag) kept m.0 k m.1
    (ap (λ (j : Tagged). j.tag == k.tag) m.2 ∙ eq-eqb k.tag k.tag refl)

pub starts : (c : Cover) (ls : List Registered) → IsSound c
    → beyond (with_listeners c ls).kept c.kept ≡ started_for c ls
starts c ls s =
    filter-append p old (started_for c ls)
    ∙ ap (λ z. z ++ filter p (started_for c ls))
    (filter_none p old (All-from_contained (λ (k : Tagged). p k ≡ false) old (λ k m.
    ap not (any_of_tag c.kept k
    (Contains-from_filter (λ (x : Tagged). list_any (query_eq x.form) (needed_forms ls)) c.kept
    k m)))))
    ∙ filter_all p (started_for c ls) (All-weaker (λ (k : Tagged). c.next_tag ≤ k.tag)
    (λ (k : Tagged). p k ≡ true) (λ k h. ap not (none_of_tag c s k.tag h)) (started_for c ls)
    (tags_from c.next_tag (new_forms c.kept (needed_forms ls))))
  where
    p : Tagged → Bool
    p k = not (list_any (λ (j : Tagged). j.tag == k.tag) c.kept)

    old : List Tagged
    old = filter (λ (k : Tagged). list_any (query_eq k.form) (needed_forms ls)) c.kept

pub stops : (c : Cover) (ls : List Registered) → IsSound c
    → beyond c.kept (with_listeners c ls).kept
    ≡ filter (λ (k : Tagged). not (list_any (query_eq k.form) (needed_forms ls))) c.kept
stops c ls s =
    filter_agreeing (λ (k : Tagged).
    not (list_any (λ (j : Tagged). j.tag == k.tag) (old ++ started_for c ls))) (λ (k : Tagged).
    not (stays k)) c.kept
    (All-from_contained (λ (k : Tagged).
    not (list_any (λ (j : Tagged). j.tag == k.tag) (old ++ started_for c ls))
    ≡ not (stays k)) c.kept (λ k m. ap not (of_old k m)))
  where
    stays : Tagged → Bool
    stays k = list_any (query_eq k.form) (needed_forms ls)

    old : List Tagged
    old = filter stays c.kept

    low : (k : Tagged) → Contains c.kept k → k.tag < c.next_tag
    low k m = All-contains (λ (x : Tagged). x.tag < c.next_tag) c.kept k s.below m

    not_new : (k : Tagged) → Contains c.kept k
        → list_any (λ (j : Tagged). j.tag == k.tag) (started_for c ls) ≡ false
    not_new k m = list_any_none (λ (j : Tagged). j.tag == k.tag) (started_for c ls)
        (All-weaker (λ (j : Tagged). c.next_tag ≤ j.tag) (λ (j : Tagged). (j.tag == k.tag) ≡ false)
        (λ j h. differs j.tag (omega (arith, low k m, h))) (started_for c ls)
        (tags_from c.next_tag (new_forms c.kept (needed_forms ls))))
      where
        differs : (t : ℕ) → k.tag < t → (t == k.tag) ≡ false
        differs t lt = elim (t == k.tag) as (λ b. (t == k.tag) ≡ b → b ≡ false) [
          | true ↦ λ e.
              absurd (omega (arith, eqb-true t k.tag e))
          | false ↦ λ _. refl
        ] refl

    same : (j k : Tagged) → Contains c.kept j → Contains c.kept k → j.tag ≡ k.tag → j ≡ k
    same j k mj mk e = elim (AllPairs-three (λ (x y : Tagged). x.tag < y.tag) c.kept j k s.tags mj mk) [
      | inl lt ↦ absurd (omega (arith, lt, e))
      | inr more ↦ elim more [ inl gt ↦ absurd (omega (arith, gt, e)) | inr eq ↦ eq ]
    ]

    or_false : (a : Bool) → (a || false) ≡ a
    or_false true = refl
    or_false false = refl

    of_old : (k : Tagged) → Contains c.kept k
        → list_any (λ (j : Tagged). j.tag == k.tag) (old ++ started_for c ls) ≡ stays k
    of_old k m =
        list_any-append (λ (j : Tagged). j.tag == k.tag) old (started_for c ls)
        ∙ ap (λ b. list_any (λ (j : Tagged). j.tag == k.tag) old || b) (not_new k m)
        ∙ or_false (list_any (λ (j : Tagged). j.tag == k.tag) old)
        ∙ same_tests (list_any (λ (j : Tagged). j.tag == k.tag) old) (stays k)
        (λ e.
        let a = Any-from_list_any (λ (j : Tagged). j.tag == k.tag) old e in
        let mj : Contains old a.1 = (a.0, a.2, a.3) in
        subst (λ (x : Tagged). stays x ≡ true)
        (same a.1 k (Contains-from_filter stays c.kept a.1 mj) m (eqb-true (a.1).tag k.tag a.4))
        (passes-from_filter stays c.kept a.1 mj))
        (λ e. any_of_tag old k (Contains-filter stays c.kept k m e))

-- what is told of a change
pub told_exactly : (c : Cover) (ls : List Registered) → IsSound c → difference c (with_listeners c ls)
    ≡ record {
      started = map (shown_with ls) (started_for c ls);
      stopped =
          map (λ (k : Tagged). k.tag)
          (filter (λ (k : Tagged). not (list_any (query_eq k.form) (needed_forms ls))) c.kept);
    }
told_exactly c ls s = λ i. record {
  started = map (shown_with ls) (starts c ls s i);
  stopped =
      map (λ (k : Tagged). k.tag) (stops c ls s i);
}

pub is_told : (c : Cover) (ls : List Registered) → IsSound c
    → AllPairs (λ (l m : Registered). l.0 < m.0) ls
    → IsTold c.next_tag (difference c (with_listeners c ls))
is_told c ls s rise = subst (IsTold c.next_tag) (sym (told_exactly c ls s)) (record {
  by_listener = AllPairs-map (shown_with ls) (λ (j k : Kept). j.listener < k.listener)
      (started_for c ls)
      (AllPairs-from_map (λ (k : Tagged). k.form) (λ f g. first_listener ls f < first_listener ls g)
      (started_for c ls)
      (subst (AllPairs (λ f g. first_listener ls f < first_listener ls g))
      (sym (forms-started c.next_tag (new_forms c.kept (needed_forms ls))))
      (AllPairs-filter (λ f g. first_listener ls f < first_listener ls g) (λ f.
      not (is_kept c.kept f)) (needed_forms ls)
      (AllPairs-filter (λ f g. first_listener ls f < first_listener ls g) (λ f.
      not (is_covered (forms ls) f)) (forms ls) (first_rises ls rise)))));
  next_tags = tags_counted ls c.next_tag (new_forms c.kept (needed_forms ls));
  by_tag = AllPairs-map (λ (k : Tagged). k.tag) (λ t u. t < u)
      (filter (λ (k : Tagged). not (list_any (query_eq k.form) (needed_forms ls))) c.kept)
      (AllPairs-filter (λ (j k : Tagged). j.tag < k.tag) (λ (k : Tagged).
      not (list_any (query_eq k.form) (needed_forms ls))) c.kept s.tags);
})

-- also without a tag that was revoked
pub is_told_without : (n tag : ℕ) (d : Delta) → IsTold n d → IsTold n (without_tag tag d)
is_told_without n tag d t = record {
  by_listener = t.by_listener;
  next_tags = t.next_tags;
  by_tag = AllPairs-filter (λ (t u : ℕ). t < u) (λ t. not (t == tag)) d.stopped t.by_tag;
}
