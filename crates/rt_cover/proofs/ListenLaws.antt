-- The listens by path: who supplies a query, and what a new one takes over.
use Rattle.std.proofs.Common.{◌≡◌, ◌≢◌, ℕ, ◌+◌, ◌<◌, ◌≤◌, ◌==◌, nat_lt, Bool, true, false, cond, not, ◌&&◌, ◌⊎◌, inl, inr, ◌||◌, List, [], ◌∷◌, map, length, get_or, take, refl, sym, ap, subst, ◌∙◌, arith, eqb-true, eq-eqb, ltb-true, ltb-false, Option, Some, None, is_some, IfSome, IfNone}
use mathlib.Core.Bool.{true≢false}
use Rattle.std.specs.List.{filter, find, list_any, slice_get, All, AllPairs, Contains}
use Rattle.std.specs.List.Sorted.{IsNonDecreasingBy}
use Rattle.std.specs.Option.{option_map, option_map_or}
use Rattle.std.proofs.lemmas.List.Elements.{All-contains, Contains-get_or}
use Rattle.std.proofs.lemmas.List.Folds.{Any-from_list_any}
use Rattle.std.proofs.lemmas.List.Kept.{AllPairs-filter}
use Rattle.rt_tree.specs.PathTree.{Path, path_eq, path_eq-is, path_eq-same, strip, strip-some, strip-crossed}
use Rattle.rt_tree.specs.Assignments.{is_at_or_above}
use Rattle.rt_tree.specs.TreeEq.{both, both_first, both_second}
use Rattle.rt_tree.specs.laws.Prefixes.{length-strip}
use Rattle.rt_query.specs.Queries.{Query, is_filtered}
use Rattle.rt_query.specs.Supply.{does_supply}
use Rattle.rt_cover.specs.Cover.{Tagged, Supplies, forms}
use Rattle.rt_cover.specs.State.{Cover, supplier}
use Rattle.rt_cover.specs.Shown.{IsLeastSupplier}
use Rattle.rt_cover.specs.inside.Index.{form_of, is_plain_beside, ArePlainsAlone, SameCounts}
use Rattle.rt_cover.specs.inside.Least.{lesser, least_from, IsPlainOrLeast}
use Rattle.rt_cover.specs.inside.Sound.{IsSound}
use Rattle.rt_cover.specs.laws.CoverLaws.{Contains-from_filter, passes-from_filter}
use Rattle.rt_cover.specs.laws.FormLaws.{supply_unfiltered, supplied_is_filtered, supplied_has_path}
use Rattle.rt_cover.specs.laws.Pairs.{Contains-head, AllPairs-map, AllPairs-three, All-from_contained, filter_all, filter_agreeing}
use Rattle.rt_cover.specs.laws.Paths.{rest_of_above, is_at_or_above-same}
use Rattle.rt_cover.specs.laws.ShownLaws.{needed_alone}
use Rattle.rt_cover.proofs.ByPathLaws.{is_plain_above, list_any_agreed, list_any_implied, prefix_at}
use Rattle.rt_cover.proofs.CountLaws.{same_filter, same_map, same_trans, rising_same}
use Rattle.rt_cover.proofs.NewLaws.{kept_needed, kept_registered}
use Rattle.rt_cover.proofs.SeenLaws.{filter_both}
use Rattle.rt_cover.proofs.StartLaws.{list_any_filtered, list_any_with, lt_true, lt_false}
use Rattle.rt_cover.proofs.SupplierLaws.{first_is_least}

abbrev pub is_plain : Tagged → Bool
is_plain k = not (is_filtered k.form)

not_true : (b : Bool) → not b ≡ true → b ≡ false
not_true true e = absurd (true≢false (sym e))
not_true false e = refl

pub fails : (b : Bool) → (b ≡ true → ⊥) → b ≡ false
fails true h = absurd (h refl)
fails false h = refl

-- ---- the first that passes a test

pub if_some : {X : Type 0} (P Q : X → Type 0) (o : Option X) → ((x : X) → P x → Q x) → IfSome o P → IfSome o Q
if_some P Q (Some x) f h = f x h
if_some P Q None f h = h

pub if_none : {X : Type 0} (P Q : Type 0) (o : Option X) → (P → Q) → IfNone o P → IfNone o Q
if_none P Q (Some x) f h = h
if_none P Q None f h = f h

pub found_one : (p : Tagged → Bool) (ks : List Tagged) → IfSome (option_map (λ (k : Tagged). k.tag) (find p ks)) (λ t. list_any (λ k. p k && k.tag == t) ks ≡ true)
found_one p [] = tt
found_one p (k ∷ ks) =
    elim (p k) as (λ b. p k ≡ b → IfSome (option_map (λ (x : Tagged). x.tag) (cond b (Some k) (find p ks))) (λ t. list_any (λ x. p x && x.tag == t) (k ∷ ks) ≡ true)) [
      | true ↦ λ e. list_any_with (λ x. p x && x.tag == k.tag) (k ∷ ks) k (Contains-head k ks) (both (p k) (k.tag == k.tag) e (eq-eqb k.tag k.tag refl))
      | false ↦ λ e. if_some (λ t. list_any (λ x. p x && x.tag == t) ks ≡ true) (λ t. list_any (λ x. p x && x.tag == t) (k ∷ ks) ≡ true) (option_map (λ (x : Tagged). x.tag) (find p ks))
          (λ t h. (λ i. (e i && k.tag == t) || list_any (λ x. p x && x.tag == t) ks) ∙ h) (found_one p ks)
    ] refl

pub found_none : (p : Tagged → Bool) (ks : List Tagged) → IfNone (option_map (λ (k : Tagged). k.tag) (find p ks)) (list_any p ks ≡ false)
found_none p [] = refl
found_none p (k ∷ ks) =
    elim (p k) as (λ b. p k ≡ b → IfNone (option_map (λ (x : Tagged). x.tag) (cond b (Some k) (find p ks))) (list_any p (k ∷ ks) ≡ false)) [
      | true ↦ λ e. tt
      | false ↦ λ e. if_none (list_any p ks ≡ false) (list_any p (k ∷ ks) ≡ false) (option_map (λ (x : Tagged). x.tag) (find p ks))
          (λ h. (λ i. e i || list_any p ks) ∙ h) (found_none p ks)
    ] refl

-- among those of a path
pub found_at : (s p : Tagged → Bool) (ks here : List Tagged) (o : Option ℕ) → here ≡ filter s ks → o ≡ option_map (λ (k : Tagged). k.tag) (find p here)
    → IfSome o (λ t. list_any (λ k. s k && (p k && k.tag == t)) ks ≡ true)
found_at s p ks here o are is = subst (λ r. IfSome r (λ t. list_any (λ k. s k && (p k && k.tag == t)) ks ≡ true)) (sym is)
    (if_some (λ t. list_any (λ k. p k && k.tag == t) here ≡ true) (λ t. list_any (λ k. s k && (p k && k.tag == t)) ks ≡ true) (option_map (λ (k : Tagged). k.tag) (find p here))
    (λ t h. list_any_filtered s (λ k. p k && k.tag == t) ks ∙ ap (list_any (λ k. p k && k.tag == t)) (sym are) ∙ h) (found_one p here))

pub none_at : (s p : Tagged → Bool) (ks here : List Tagged) (o : Option ℕ) → here ≡ filter s ks → o ≡ option_map (λ (k : Tagged). k.tag) (find p here)
    → IfNone o (list_any (λ k. s k && p k) ks ≡ false)
none_at s p ks here o are is = subst (λ r. IfNone r (list_any (λ k. s k && p k) ks ≡ false)) (sym is)
    (if_none (list_any p here ≡ false) (list_any (λ k. s k && p k) ks ≡ false) (option_map (λ (k : Tagged). k.tag) (find p here))
    (λ h. list_any_filtered s p ks ∙ ap (list_any p) (sym are) ∙ h) (found_none p here))

-- ---- a plain one above

-- one at a beginning of the path is above it
pub above_some : (p : Path) (n t : ℕ) (ks : List Tagged) → n ≤ length p
    → list_any (λ k. path_eq (k.form).path (take n p) && (is_plain k && k.tag == t)) ks ≡ true
    → list_any (λ k. is_at_or_above (k.form).path p && (is_plain k && k.tag == t)) ks ≡ true
above_some p n t ks le = list_any_implied (λ k. path_eq (k.form).path (take n p) && (is_plain k && k.tag == t)) (λ k. is_at_or_above (k.form).path p && (is_plain k && k.tag == t))
    (λ k e. both (is_at_or_above (k.form).path p) (is_plain k && k.tag == t)
    (both_first (is_at_or_above (k.form).path p) (length (k.form).path == n) (sym (prefix_at (k.form).path p n le) ∙ both_first (path_eq (k.form).path (take n p)) (is_plain k && k.tag == t) e))
    (both_second (path_eq (k.form).path (take n p)) (is_plain k && k.tag == t) e)) ks

-- what is above a path is no longer
above_short : (p q : Path) → is_at_or_above p q ≡ true → length p ≤ length q
above_short p q e = let r = rest_of_above p q e in omega (arith, length-strip p q r.0 r.1)

-- ---- who supplies a query

pub supplies_plain : (f q : Query) → not (is_filtered f) ≡ true → is_at_or_above f.path q.path ≡ true → does_supply f q ≡ true
supplies_plain f q e above = supply_unfiltered f q (not_true (is_filtered f) e) ∙ above

pub some_above : (q : Query) (t : ℕ) (ks : List Tagged) → list_any (λ k. is_at_or_above (k.form).path q.path && (is_plain k && k.tag == t)) ks ≡ true
    → list_any (λ k. does_supply k.form q && k.tag == t) ks ≡ true
some_above q t ks = list_any_implied (λ k. is_at_or_above (k.form).path q.path && (is_plain k && k.tag == t)) (λ k. does_supply k.form q && k.tag == t)
    (λ k e. let rest = both_second (is_at_or_above (k.form).path q.path) (is_plain k && k.tag == t) e in
    both (does_supply k.form q) (k.tag == t)
    (supplies_plain k.form q (both_first (is_plain k) (k.tag == t) rest) (both_first (is_at_or_above (k.form).path q.path) (is_plain k && k.tag == t) e))
    (both_second (is_plain k) (k.tag == t) rest)) ks

-- and is plain
pub plain_supplies : (q : Query) (t : ℕ) (ks : List Tagged) → list_any (λ k. is_at_or_above (k.form).path q.path && (is_plain k && k.tag == t)) ks ≡ true
    → list_any (λ k. (does_supply k.form q && is_plain k) && k.tag == t) ks ≡ true
plain_supplies q t ks = list_any_implied (λ k. is_at_or_above (k.form).path q.path && (is_plain k && k.tag == t)) (λ k. (does_supply k.form q && is_plain k) && k.tag == t)
    (λ k e. let rest = both_second (is_at_or_above (k.form).path q.path) (is_plain k && k.tag == t) e in
    let flat = both_first (is_plain k) (k.tag == t) rest in
    both (does_supply k.form q && is_plain k) (k.tag == t)
    (both (does_supply k.form q) (is_plain k) (supplies_plain k.form q flat (both_first (is_at_or_above (k.form).path q.path) (is_plain k && k.tag == t) e)) flat)
    (both_second (is_plain k) (k.tag == t) rest)) ks

-- where no plain one stands above a query, what supplies it is filtered
no_plain : (q : Query) (ks : List Tagged) → list_any (is_plain_above form_of q.path (length q.path + 1)) ks ≡ false
    → (k : Tagged) → Contains ks k → does_supply k.form q ≡ true → is_filtered k.form ≡ true
no_plain q ks none k m e = elim (is_filtered k.form) as (λ b. is_filtered k.form ≡ b → b ≡ true) [
  | true ↦ λ _. refl
  | false ↦ λ flat.
      let above : is_at_or_above (k.form).path q.path ≡ true = sym (supply_unfiltered k.form q flat) ∙ e in
      let le = above_short (k.form).path q.path above in
      absurd (true≢false (sym (list_any_with (is_plain_above form_of q.path (length q.path + 1)) ks k m
      (both (is_at_or_above (k.form).path q.path && nat_lt (length (k.form).path) (length q.path + 1)) (is_plain k)
      (both (is_at_or_above (k.form).path q.path) (nat_lt (length (k.form).path) (length q.path + 1)) above (lt_true (length (k.form).path) (length q.path + 1) (omega (arith, le))))
      (ap not flat))) ∙ none))
] refl

-- so none supplies one that isn't
pub none_supplying : (q : Query) (ks : List Tagged) → list_any (is_plain_above form_of q.path (length q.path + 1)) ks ≡ false
    → is_filtered q ≡ false → list_any (λ k. does_supply k.form q) ks ≡ false
none_supplying q ks none flat = fails (list_any (λ k. does_supply k.form q) ks) (λ t.
    let a = Any-from_list_any (λ k. does_supply k.form q) ks t in
    let own = supplied_is_filtered (a.1).form q (no_plain q ks none a.1 (a.0, a.2, a.3) a.4) a.4 in
    true≢false (sym own ∙ flat))

-- and what supplies one that is stands at its path
pub all_there : (q : Query) (ks : List Tagged) → list_any (is_plain_above form_of q.path (length q.path + 1)) ks ≡ false
    → (t : Tagged → Bool) → ((k : Tagged) → t k ≡ true → does_supply k.form q ≡ true)
    → list_any t ks ≡ list_any t (filter (λ (k : Tagged). path_eq (k.form).path q.path) ks)
all_there q ks none t h =
    list_any_agreed t (λ (k : Tagged). at k && t k) ks each
    ∙ list_any_filtered at t ks
  where
    at : Tagged → Bool
    at k = path_eq (k.form).path q.path

    and_yes : (a : Bool) → (a && true) ≡ a
    and_yes true = refl
    and_yes false = refl

    and_no : (a : Bool) → (a && false) ≡ false
    and_no true = refl
    and_no false = refl

    each : (k : Tagged) → Contains ks k → t k ≡ (at k && t k)
    each k m = elim (t k) as (λ b. t k ≡ b → b ≡ (at k && b)) [
      | true ↦ λ e.
          let same : (k.form).path ≡ q.path = supplied_has_path k.form q (no_plain q ks none k m (h k e)) (h k e) in
          sym (and_yes (at k) ∙ subst (λ p. path_eq (k.form).path p ≡ true) same (path_eq-same (k.form).path))
      | false ↦ λ _. sym (and_no (at k))
    ] refl

-- where one stands above, it supplies the query
pub some_plain : (q : Query) (ks : List Tagged) (o : Option ℕ) → is_some o ≡ true
    → IfSome o (λ t. list_any (λ k. is_at_or_above (k.form).path q.path && (is_plain k && k.tag == t)) ks ≡ true)
    → list_any (λ k. does_supply k.form q) ks ≡ true
some_plain q ks None e h = absurd (true≢false (sym e))
some_plain q ks (Some t) e h = list_any_implied (λ k. does_supply k.form q && k.tag == t) (λ k. does_supply k.form q)
    (λ k f. both_first (does_supply k.form q) (k.tag == t) f) ks (some_above q t ks h)

-- where none does, those at the path are ranges
pub ranges_there : (q : Query) (ks : List Tagged) → list_any (is_plain_above form_of q.path (length q.path + 1)) ks ≡ false
    → (p : Path) → p ≡ q.path → All (λ (k : Tagged). is_filtered k.form ≡ true) (filter (λ (k : Tagged). path_eq (k.form).path p) ks)
ranges_there q ks none p is = All-from_contained (λ (k : Tagged). is_filtered k.form ≡ true) (filter at ks) (λ k m.
    let there : (k.form).path ≡ q.path = path_eq-is (k.form).path p (passes-from_filter at ks k m) ∙ is in
    elim (is_filtered k.form) as (λ b. is_filtered k.form ≡ b → b ≡ true) [
      | true ↦ λ _. refl
      | false ↦ λ flat. sym flat ∙ no_plain q ks none k (Contains-from_filter at ks k m)
          (supplies_plain k.form q (ap not flat) (subst (λ z. is_at_or_above (k.form).path z ≡ true) there (is_at_or_above-same (k.form).path)))
    ] refl)
  where
    at : Tagged → Bool
    at k = path_eq (k.form).path p

-- ---- the plain one of a path

nothing : (p : Tagged → Bool) (ks : List Tagged) → list_any p ks ≡ false → find p ks ≡ None
nothing p [] e = refl
nothing p (k ∷ ks) e = elim (p k) as (λ b. (b || list_any p ks) ≡ false → cond b (Some k) (find p ks) ≡ None) [
  | true ↦ λ f. absurd (true≢false f)
  | false ↦ λ f. nothing p ks f
] e

the_first : (k x : Tagged) → Some k ≡ Some x → k ≡ x
the_first k x e = ap (λ o. option_map_or (λ (y : Tagged). y) o k) e

-- of no listens none is
pub plain_of_none : (ks : List Tagged) → None ≡ slice_get ks 0
    → None ≡ option_map (λ (k : Tagged). k.tag) (find (λ (k : Tagged). not (is_filtered k.form)) ks)
plain_of_none [] e = refl
plain_of_none (k ∷ ks) e = absurd (true≢false (sym (ap is_some e)))

-- the first one is
pub plain_of_first : (k : Tagged) (ks : List Tagged) → Some k ≡ slice_get ks 0 → is_filtered k.form ≡ false
    → Some k.tag ≡ option_map (λ (x : Tagged). x.tag) (find (λ (x : Tagged). not (is_filtered x.form)) ks)
plain_of_first k [] e flat = absurd (true≢false (ap is_some e))
plain_of_first k (x ∷ ks) e flat =
    let is : k ≡ x = the_first k x e in
    ap (λ (y : Tagged). Some y.tag) is
    ∙ sym (ap (λ b. option_map (λ (y : Tagged). y.tag) (cond (not b) (Some x) (find (λ (y : Tagged). not (is_filtered y.form)) ks)))
    (ap (λ (y : Tagged). is_filtered y.form) (sym is) ∙ flat))

-- where it is a range, and all are then, none is
pub plain_of_ranges : (k : Tagged) (ks : List Tagged) → Some k ≡ slice_get ks 0 → is_filtered k.form ≡ true
    → ((d : Tagged) → is_filtered (get_or ks 0 d).form ≡ true → list_any (λ (x : Tagged). not (is_filtered x.form)) ks ≡ false)
    → None ≡ option_map (λ (x : Tagged). x.tag) (find (λ (x : Tagged). not (is_filtered x.form)) ks)
plain_of_ranges k [] e own all = refl
plain_of_ranges k (x ∷ ks) e own all =
    sym (ap (option_map (λ (y : Tagged). y.tag)) (nothing (λ (y : Tagged). not (is_filtered y.form)) (x ∷ ks)
    (all k (ap (λ (y : Tagged). is_filtered y.form) (sym (the_first k x e)) ∙ own))))

-- of the listens of a path all are ranges if the first is
pub all_as_first : (p : Path) (ks : List Tagged) → ArePlainsAlone form_of ks → (d : Tagged)
    → is_filtered (get_or (filter (λ (k : Tagged). path_eq (k.form).path p) ks) 0 d).form ≡ true
    → list_any (λ (k : Tagged). not (is_filtered k.form)) (filter (λ (k : Tagged). path_eq (k.form).path p) ks) ≡ false
all_as_first p ks alone d own = fails (list_any (λ (k : Tagged). not (is_filtered k.form)) (filter at ks)) (λ e.
    let a = Any-from_list_any (λ (k : Tagged). not (is_filtered k.form)) (filter at ks) e in
    let there : 0 < length (filter at ks) = omega (arith, a.2) in
    let first : Tagged = get_or (filter at ks) 0 d in
    let m : Contains (filter at ks) first = Contains-get_or (filter at ks) 0 d there in
    let same : path_eq ((a.1).form).path (first.form).path ≡ true =
    subst (λ z. path_eq ((a.1).form).path z ≡ true) (own_path a.1 (a.0, a.2, a.3) ∙ sym (own_path first m)) (path_eq-same ((a.1).form).path) in
    let beside : is_plain_beside (a.1).form first.form ≡ true =
    both (not (is_filtered (a.1).form)) (is_filtered first.form && path_eq ((a.1).form).path (first.form).path) a.4
    (both (is_filtered first.form) (path_eq ((a.1).form).path (first.form).path) own same) in
    true≢false (sym (list_any_with (λ (x : Tagged). list_any (λ (y : Tagged). is_plain_beside x.form y.form) ks) ks a.1 (Contains-from_filter at ks a.1 (a.0, a.2, a.3))
    (list_any_with (λ (y : Tagged). is_plain_beside (a.1).form y.form) ks first (Contains-from_filter at ks first m) beside)) ∙ alone))
  where
    at : Tagged → Bool
    at k = path_eq (k.form).path p

    own_path : (k : Tagged) → Contains (filter at ks) k → (k.form).path ≡ p
    own_path k m = path_eq-is (k.form).path p (passes-from_filter at ks k m)

-- ---- the least of some tags

lesser_is : (least : Option ℕ) (n : ℕ) → (least ≡ Some (lesser least n)) ⊎ (lesser least n ≡ n)
lesser_is None n = inr refl
lesser_is (Some s) n = elim (nat_lt s n) as (λ b. (Some s ≡ Some (cond b s n)) ⊎ (cond b s n ≡ n)) [ true ↦ inl refl | false ↦ inr refl ]

lesser_le : (least : Option ℕ) (n : ℕ) → lesser least n ≤ n
lesser_le None n = omega arith
lesser_le (Some s) n = elim (nat_lt s n) as (λ b. nat_lt s n ≡ b → cond b s n ≤ n) [ true ↦ λ e. omega (arith, ltb-true s n e) | false ↦ λ _. omega arith ] refl

lesser_below : (s n : ℕ) → lesser (Some s) n ≤ s
lesser_below s n = elim (nat_lt s n) as (λ b. nat_lt s n ≡ b → cond b s n ≤ s) [ true ↦ λ _. omega arith | false ↦ λ e. omega (arith, ltb-false s n e) ] refl

same_tag : (s t : ℕ) → Some s ≡ Some t → s ≡ t
same_tag s t e = ap (λ o. option_map_or (λ (n : ℕ). n) o s) e

never_none : (p : Tagged → Bool) (s : ℕ) (ks : List Tagged) → least_from p (Some s) ks ≡ None → ⊥
never_none p s [] e = true≢false (ap is_some e)
never_none p s (k ∷ ks) e = elim (p k) as (λ b. least_from p (cond b (Some (lesser (Some s) k.tag)) (Some s)) ks ≡ None → ⊥) [
  | true ↦ never_none p (lesser (Some s) k.tag) ks
  | false ↦ never_none p s ks
] e

-- none passes where there is none
least_none : (p : Tagged → Bool) (ks : List Tagged) → least_from p None ks ≡ None → list_any p ks ≡ false
least_none p [] e = refl
least_none p (k ∷ ks) e = elim (p k) as (λ b. least_from p (cond b (Some k.tag) None) ks ≡ None → (b || list_any p ks) ≡ false) [
  | true ↦ λ f. absurd (never_none p k.tag ks f)
  | false ↦ least_none p ks
] e

-- it is the tag of one that passes
least_is : (p : Tagged → Bool) (least : Option ℕ) (ks : List Tagged) (t : ℕ) → least_from p least ks ≡ Some t
    → (least ≡ Some t) ⊎ (list_any (λ k. p k && k.tag == t) ks ≡ true)
least_is p least [] t e = inl e
least_is p least (k ∷ ks) t e = elim (p k) as (λ b. p k ≡ b → least_from p (cond b (Some (lesser least k.tag)) least) ks ≡ Some t
    → (least ≡ Some t) ⊎ (list_any (λ x. p x && x.tag == t) (k ∷ ks) ≡ true)) [
      | true ↦ λ h f. elim (least_is p (Some (lesser least k.tag)) ks t f) [
        | inl is ↦ of h (same_tag (lesser least k.tag) t is) (lesser_is least k.tag)
        | inr there ↦ inr (behind there)
      ]
      | false ↦ λ h f. elim (least_is p least ks t f) [
        | inl is ↦ inl is
        | inr there ↦ inr (behind there)
      ]
    ] refl e
  where
    or_right : (a b : Bool) → b ≡ true → (a || b) ≡ true
    or_right true b h = refl
    or_right false b h = h

    behind : list_any (λ x. p x && x.tag == t) ks ≡ true → list_any (λ x. p x && x.tag == t) (k ∷ ks) ≡ true
    behind there = or_right (p k && k.tag == t) (list_any (λ x. p x && x.tag == t) ks) there

    of : p k ≡ true → lesser least k.tag ≡ t → (least ≡ Some (lesser least k.tag)) ⊎ (lesser least k.tag ≡ k.tag)
        → (least ≡ Some t) ⊎ (list_any (λ x. p x && x.tag == t) (k ∷ ks) ≡ true)
    of h same (inl was) = inl (was ∙ ap Some same)
    of h same (inr own) = inr (list_any_with (λ x. p x && x.tag == t) (k ∷ ks) k (Contains-head k ks)
        (both (p k) (k.tag == t) h (eq-eqb k.tag t (sym own ∙ same))))

-- and no other one has a lesser
least_bound : (p : Tagged → Bool) (s : ℕ) (ks : List Tagged) (t : ℕ) → least_from p (Some s) ks ≡ Some t → t ≤ s
least_bound p s [] t e = let same = same_tag s t e in omega (arith, same)
least_bound p s (k ∷ ks) t e = elim (p k) as (λ b. least_from p (cond b (Some (lesser (Some s) k.tag)) (Some s)) ks ≡ Some t → t ≤ s) [
  | true ↦ λ f. omega (arith, least_bound p (lesser (Some s) k.tag) ks t f, lesser_below s k.tag)
  | false ↦ least_bound p s ks t
] e

least_below : (p : Tagged → Bool) (least : Option ℕ) (ks : List Tagged) (t : ℕ) → least_from p least ks ≡ Some t
    → list_any (λ k. p k && nat_lt k.tag t) ks ≡ false
least_below p least [] t e = refl
least_below p least (k ∷ ks) t e = elim (p k) as (λ b. least_from p (cond b (Some (lesser least k.tag)) least) ks ≡ Some t
    → ((b && nat_lt k.tag t) || list_any (λ x. p x && nat_lt x.tag t) ks) ≡ false) [
      | true ↦ λ f.
          let le : t ≤ k.tag = omega (arith, least_bound p (lesser least k.tag) ks t f, lesser_le least k.tag) in
          (λ i. lt_false k.tag t le i || list_any (λ x. p x && nat_lt x.tag t) ks) ∙ least_below p (Some (lesser least k.tag)) ks t f
      | false ↦ λ f. least_below p least ks t f
    ] e

-- what the least tag at the path of a filtered query says of all listens, where no plain one is above it
module _ (q : Query) (ks : List Tagged) (none : list_any (is_plain_above form_of q.path (length q.path + 1)) ks ≡ false) where
  abbrev sup : Tagged → Bool
  sup k = does_supply k.form q

  abbrev here : List Tagged
  here = filter (λ (k : Tagged). path_eq (k.form).path q.path) ks

  pub least_some : (o : Option ℕ) → o ≡ least_from sup None here → IfSome o (λ t. list_any (λ k. does_supply k.form q && k.tag == t) ks ≡ true)
  least_some None e = tt
  least_some (Some t) e = elim (least_is sup None here t (sym e)) [
    | inl was ↦ absurd (true≢false (sym (ap is_some was)))
    | inr there ↦ all_there q ks none (λ k. sup k && k.tag == t) (λ k x. both_first (sup k) (k.tag == t) x) ∙ there
  ]

  pub least_nothing : (o : Option ℕ) → o ≡ least_from sup None here → IfNone o (list_any (λ k. does_supply k.form q) ks ≡ false)
  least_nothing None e = all_there q ks none sup (λ k x. x) ∙ least_none sup here (sym e)
  least_nothing (Some t) e = tt

  pub least_least : (o : Option ℕ) → o ≡ least_from sup None here → IfSome o (IsPlainOrLeast ks q)
  least_least None e = tt
  least_least (Some t) e = inr (all_there q ks none (λ k. sup k && nat_lt k.tag t) (λ k x. both_first (sup k) (nat_lt k.tag t) x) ∙ least_below sup None here t (sym e))

-- ---- the first that supplies a query

-- of two paths above a third one is above the other
comparable : (p q r : Path) → is_at_or_above p r ≡ true → is_at_or_above q r ≡ true → (is_at_or_above p q ≡ true) ⊎ (is_at_or_above q p ≡ true)
comparable p q r a b =
    let x = rest_of_above p r a in
    let y = rest_of_above q r b in
    elim (strip p q) as (λ o. strip p q ≡ o → (is_some o ≡ true) ⊎ (is_at_or_above q p ≡ true)) [
      | Some z ↦ λ _. inl refl
      | None ↦ λ e. inr (strip-crossed p q x.0 y.0 e (subst (λ z. strip p z ≡ Some x.0) (strip-some q r y.0 y.1) x.1))
    ] refl

-- where a kept plain listen supplies a query no other one does
plain_alone : (c : Cover) → IsSound c → (q : Query) (j k : Tagged) → Contains c.kept j → Contains c.kept k → is_filtered j.form ≡ false
    → does_supply j.form q ≡ true → does_supply k.form q ≡ true → j.tag ≡ k.tag
plain_alone c s q j k mj mk flat a b = tags (of (is_filtered k.form) refl)
  where
    above : is_at_or_above (j.form).path q.path ≡ true
    above = sym (supply_unfiltered j.form q flat) ∙ a

    up : is_at_or_above (j.form).path (k.form).path ≡ true → j.form ≡ k.form
    up e = needed_alone (forms c.listeners) k.form j.form (kept_needed c s k mk) (kept_registered c s j mj) (supply_unfiltered j.form k.form flat ∙ e)

    of : (m : Bool) → is_filtered k.form ≡ m → j.form ≡ k.form
    of true e = up (subst (λ p. is_at_or_above (j.form).path p ≡ true) (sym (supplied_has_path k.form q e b)) above)
    of false e = elim (comparable (j.form).path (k.form).path q.path above (sym (supply_unfiltered k.form q e) ∙ b)) [
      | inl there ↦ up there
      | inr back ↦ sym (needed_alone (forms c.listeners) j.form k.form (kept_needed c s j mj) (kept_registered c s k mk) (supply_unfiltered k.form j.form e ∙ back))
    ]

    tags : j.form ≡ k.form → j.tag ≡ k.tag
    tags e = elim (AllPairs-three (λ (x y : Tagged). x.form ≢ y.form) c.kept j k s.once mj mk) [
      | inl n ↦ absurd (n e)
      | inr r ↦ elim r [
        | inl n ↦ absurd (n (sym e))
        | inr is ↦ ap (λ (x : Tagged). x.tag) is
      ]
    ]

-- so a plain one, and the least of others, is the first
pub supplier_is : (c : Cover) → IsSound c → (q : Query) (o : Option ℕ) → IfSome o (λ t. list_any (λ k. does_supply k.form q && k.tag == t) c.kept ≡ true)
    → IfNone o (list_any (λ k. does_supply k.form q) c.kept ≡ false)
    → IfSome o (IsPlainOrLeast c.kept q)
    → o ≡ supplier c q
supplier_is c s q o some none least = both_are o (supplier c q) some none least (first_is_least c.kept q s.tags) (found_none (λ k. does_supply k.form q) c.kept)
  where
    sup : Tagged → Bool
    sup k = does_supply k.form q

    both_are : (x y : Option ℕ) → IfSome x (λ t. list_any (λ k. does_supply k.form q && k.tag == t) c.kept ≡ true) → IfNone x (list_any (λ k. does_supply k.form q) c.kept ≡ false)
        → IfSome x (IsPlainOrLeast c.kept q)
        → IfSome y (IsLeastSupplier c.kept q) → IfNone y (list_any (λ k. does_supply k.form q) c.kept ≡ false) → x ≡ y
    both_are None None a b l d e = refl
    both_are None (Some u) a b l d e = absurd (true≢false (sym (list_any_with sup c.kept d.listen d.is_kept d.supplies) ∙ b))
    both_are (Some t) None a b l d e =
        let x = Any-from_list_any (λ k. sup k && k.tag == t) c.kept a in
        absurd (true≢false (sym (list_any_with sup c.kept x.1 (x.0, x.2, x.3) (both_first (sup x.1) ((x.1).tag == t) x.4)) ∙ e))
    both_are (Some t) (Some u) a b l d e = ap Some (elim l [
      | inl plain ↦
          let x = Any-from_list_any (λ k. (sup k && not (is_filtered k.form)) && k.tag == t) c.kept plain in
          let first = both_first (sup x.1 && not (is_filtered (x.1).form)) ((x.1).tag == t) x.4 in
          let tag : (x.1).tag ≡ t = eqb-true (x.1).tag t (both_second (sup x.1 && not (is_filtered (x.1).form)) ((x.1).tag == t) x.4) in
          sym tag
          ∙ plain_alone c s q x.1 d.listen (x.0, x.2, x.3) d.is_kept (not_true (is_filtered (x.1).form) (both_second (sup x.1) (not (is_filtered (x.1).form)) first))
          (both_first (sup x.1) (not (is_filtered (x.1).form)) first) d.supplies
          ∙ d.of_tag
      | inr below ↦
          let x = Any-from_list_any (λ k. sup k && k.tag == t) c.kept a in
          let tag : (x.1).tag ≡ t = eqb-true (x.1).tag t (both_second (sup x.1) ((x.1).tag == t) x.4) in
          let least : u ≤ (x.1).tag = All-contains (λ (k : Tagged). Supplies k.form q → u ≤ k.tag) c.kept x.1 d.least (x.0, x.2, x.3) (both_first (sup x.1) ((x.1).tag == t) x.4) in
          let other : nat_lt (d.listen).tag t ≡ false = fails (nat_lt (d.listen).tag t) (λ lt.
          true≢false (sym (list_any_with (λ k. sup k && nat_lt k.tag t) c.kept d.listen d.is_kept (both (sup d.listen) (nat_lt (d.listen).tag t) d.supplies lt)) ∙ below)) in
          let le = ltb-false (d.listen).tag t other in
          omega (arith, le, least, tag, d.of_tag)
    ])

-- ---- those that a form supplies

-- those of a filtered one stand at its path
pub at_filtered : (f : Query) (ks : List Tagged) → is_filtered f ≡ true
    → filter (λ (k : Tagged). does_supply f k.form) (filter (λ (k : Tagged). path_eq (k.form).path f.path) ks) ≡ filter (λ (k : Tagged). does_supply f k.form) ks
at_filtered f ks own =
    filter_both (λ (k : Tagged). does_supply f k.form) at (λ (k : Tagged). at k && does_supply f k.form) (λ k. refl) ks
    ∙ filter_agreeing (λ (k : Tagged). at k && does_supply f k.form) (λ (k : Tagged). does_supply f k.form) ks
    (All-from_contained (λ (k : Tagged). (at k && does_supply f k.form) ≡ does_supply f k.form) ks (λ k _. each k))
  where
    at : Tagged → Bool
    at k = path_eq (k.form).path f.path

    and_no : (a : Bool) → (a && false) ≡ false
    and_no true = refl
    and_no false = refl

    each : (k : Tagged) → (at k && does_supply f k.form) ≡ does_supply f k.form
    each k = elim (does_supply f k.form) as (λ b. does_supply f k.form ≡ b → (at k && b) ≡ b) [
      | true ↦ λ e. ap (λ b. b && true) (subst (λ p. path_eq (k.form).path p ≡ true) (sym (supplied_has_path f k.form own e)) (path_eq-same (k.form).path))
      | false ↦ λ _. and_no (at k)
    ] refl

-- a plain one supplies those at or under its path
pub under_plain : (f : Query) (ks : List Tagged) → is_filtered f ≡ false → filter (λ (k : Tagged). is_at_or_above f.path (k.form).path) ks ≡ filter (λ (k : Tagged). does_supply f k.form) ks
under_plain f ks flat = filter_agreeing (λ (k : Tagged). is_at_or_above f.path (k.form).path) (λ (k : Tagged). does_supply f k.form) ks (λ i d lt. sym (supply_unfiltered f _ flat))

-- tags sorted
pub tags_rise : (ts : List ℕ) → IsNonDecreasingBy (λ t. t) ts → AllPairs (λ s t. s ≤ t) ts
tags_rise ts h i j d lt within = h i j d (omega (arith, lt)) within

-- tags in order are those of the list by tag
pub tags_are : (s : Tagged → Bool) (tags : List ℕ) (by_path by_tag : List Tagged) → SameCounts by_path by_tag → AllPairs (λ (j k : Tagged). j.tag < k.tag) by_tag
    → SameCounts tags (map (λ (k : Tagged). k.tag) (filter s by_path)) → AllPairs (λ a b. a ≤ b) tags → tags ≡ map (λ (k : Tagged). k.tag) (filter s by_tag)
tags_are s tags by_path by_tag same rise counts up = rising_same tags (map (λ (k : Tagged). k.tag) (filter s by_tag)) up
    (AllPairs-map (λ (k : Tagged). k.tag) (λ a b. a < b) (filter s by_tag) (AllPairs-filter (λ (j k : Tagged). j.tag < k.tag) s by_tag rise))
    (same_trans tags (map (λ (k : Tagged). k.tag) (filter s by_path)) (map (λ (k : Tagged). k.tag) (filter s by_tag)) counts
    (same_map (λ (k : Tagged). k.tag) (filter s by_path) (filter s by_tag) (same_filter s by_path by_tag same)))

-- where none of a list passes, the others are all
pub none_taken : (s : Tagged → Bool) (ks : List Tagged) → list_any s ks ≡ false → filter (λ k. not (s k)) ks ≡ ks
none_taken s [] e = refl
none_taken s (k ∷ ks) e =
    elim (s k) as (λ b. (b || list_any s ks) ≡ false → cond (not b) (k ∷ filter (λ x. not (s x)) ks) (filter (λ x. not (s x)) ks) ≡ k ∷ ks) [
      | true ↦ λ f. absurd (true≢false f)
      | false ↦ λ f. ap (λ xs. k ∷ xs) (none_taken s ks f)
    ] e

pub none_lost : (lost ks : List Tagged) → length lost ≡ 0 → filter (λ (k : Tagged). not (list_any (λ (j : Tagged). j.tag == k.tag) lost)) ks ≡ ks
none_lost [] ks e = filter_all (λ (k : Tagged). true) ks (λ i d lt. refl)
none_lost (k ∷ lost) ks e = absurd (omega (arith, e))
