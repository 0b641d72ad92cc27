-- Whom listens supply, and lists of ranges of which none takes in another.
use Rattle.std.proofs.Common.{◌≡◌, ℕ, ◌+◌, ◌<◌, ◌≤◌, Bool, true, false, not, ◌&&◌, ◌||◌, nat_lt, ltb-true, ltb-false, List, [], ◌∷◌, length, take, drop, get_or, refl, sym, ap, subst, ◌∙◌, arith}
use mathlib.Core.Bool.{true≢false}
use Rattle.std.specs.List.{filter, list_any, All, Contains}
use Rattle.std.specs.List.Sorted.{IsSorted}
use Rattle.std.specs.Ordering.{is_lt}
use Rattle.std.proofs.lemmas.List.{get_or_default, get_or-take, get_or-drop, length-take-le, length-drop, take-append-drop}
use Rattle.std.proofs.lemmas.List.Elements.{All-contains}
use Rattle.std.proofs.lemmas.List.Folds.{Any-from_list_any, list_any-append}
use Rattle.rt_tree.specs.PathTree.{Path, path_eq, path_eq-is, path_eq-same}
use Rattle.rt_tree.specs.Assignments.{is_at_or_above}
use Rattle.rt_tree.specs.TreeEq.{both, both_first, both_second}
use Rattle.rt_query.specs.Queries.{Query, is_filtered}
use Rattle.rt_query.specs.QueryEq.{query_eq}
use Rattle.rt_query.specs.QueryOrder.{query_cmp}
use Rattle.rt_query.specs.Ranges.{takes_in}
use Rattle.rt_query.specs.Supply.{does_supply}
use Rattle.rt_query.specs.laws.QueryEq.{query_eq_tells}
use Rattle.rt_query.specs.laws.SupplyLaws.{supplies_as_range}
use Rattle.rt_cover.specs.Cover.{Registered, Tagged, forms}
use Rattle.rt_cover.specs.State.{Cover}
use Rattle.rt_cover.specs.inside.Endings.{has_supplied, is_range_at}
use Rattle.rt_cover.specs.inside.Index.{by_form, form_of, is_plain_beside, is_taker, AreApart, ArePlainsAlone, SameCounts}
use Rattle.rt_cover.specs.inside.Sound.{IsSound}
use Rattle.rt_cover.specs.laws.CoverLaws.{Contains-from_filter}
use Rattle.rt_cover.specs.laws.FormLaws.{supplied_is_filtered, supplied_has_path}
use Rattle.rt_cover.specs.laws.Paths.{is_at_or_above-same}
use Rattle.rt_cover.specs.laws.ShownLaws.{needed_alone}
use Rattle.rt_cover.proofs.ByPathLaws.{list_any_agreed, list_any_implied}
use Rattle.rt_cover.proofs.ChangeLaws.{list_any_beside, list_any_swapped}
use Rattle.rt_cover.proofs.CountLaws.{same_any}
use Rattle.rt_cover.proofs.HeldLaws.{absorbed}
use Rattle.rt_cover.proofs.ListenLaws.{fails, supplies_plain}
use Rattle.rt_cover.proofs.NewLaws.{kept_needed, kept_registered}
use Rattle.rt_cover.proofs.SearchLaws.{are_up}
use Rattle.rt_cover.proofs.StartLaws.{list_any_with}

-- ---- parts of lists

or_yes : (b : Bool) → (b || true) ≡ true
or_yes true = refl
or_yes false = refl

or_no : (b : Bool) → b ≡ (b || false)
or_no true = refl
or_no false = refl

parted : {X : Type 0} (f : X → Bool) (n : ℕ) (xs : List X) → list_any f xs ≡ (list_any f (take n xs) || list_any f (drop n xs))
parted f n xs = sym (ap (list_any f) (take-append-drop n xs)) ∙ list_any-append f (take n xs) (drop n xs)

pub any_take : {X : Type 0} (n : ℕ) (xs : List X) (f : X → Bool) → list_any f (take n xs) ≡ true → list_any f xs ≡ true
any_take n xs f e = parted f n xs ∙ ap (λ b. b || list_any f (drop n xs)) e

pub any_drop : {X : Type 0} (n : ℕ) (xs : List X) (f : X → Bool) → list_any f (drop n xs) ≡ true → list_any f xs ≡ true
any_drop n xs f e = parted f n xs ∙ ap (λ b. list_any f (take n xs) || b) e ∙ or_yes (list_any f (take n xs))

pub any_filter : {X : Type 0} (p : X → Bool) (xs : List X) (f : X → Bool) → list_any f (filter p xs) ≡ true → list_any f xs ≡ true
any_filter p xs f e =
    let a = Any-from_list_any f (filter p xs) e in
    list_any_with f xs a.1 (Contains-from_filter p xs a.1 (a.0, a.2, a.3)) a.4

pub any_same : {X : Type 0} (xs ys : List X) → SameCounts ys xs → (f : X → Bool) → list_any f ys ≡ true → list_any f xs ≡ true
any_same xs ys h f e = sym (same_any f ys xs h) ∙ e

-- ---- apart

-- where no two elements of a list stand in a relation, no two of fewer do
pairs_fewer : {X : Type 0} (r : X → X → Bool) (xs ys : List X) → ((f : X → Bool) → list_any f ys ≡ true → list_any f xs ≡ true)
    → list_any (λ x. list_any (r x) xs) xs ≡ false → list_any (λ x. list_any (r x) ys) ys ≡ false
pairs_fewer r xs ys less none = fails (list_any (λ x. list_any (r x) ys) ys)
    (λ e. true≢false (sym (less (λ x. list_any (r x) xs) (list_any_implied (λ x. list_any (r x) ys) (λ x. list_any (r x) xs) (λ x h. less (r x) h) ys e)) ∙ none))

-- so are fewer
pub apart_fewer : {X : Type 0} (q : X → Query) (xs ys : List X) → ((f : X → Bool) → list_any f ys ≡ true → list_any f xs ≡ true) → AreApart q xs → AreApart q ys
apart_fewer q xs ys less apart = pairs_fewer (λ x y. is_taker (q x) (q y)) xs ys less apart

pub alone_fewer : {X : Type 0} (q : X → Query) (xs ys : List X) → ((f : X → Bool) → list_any f ys ≡ true → list_any f xs ≡ true) → ArePlainsAlone q xs → ArePlainsAlone q ys
alone_fewer q xs ys less alone = pairs_fewer (λ x y. is_plain_beside (q x) (q y)) xs ys less alone

-- the kept listens are
pub kept_ranges_apart : (c : Cover) → IsSound c → AreApart form_of c.kept
kept_ranges_apart c s = fails (list_any taking c.kept) (λ e.
    let a = Any-from_list_any taking c.kept e in
    let b = Any-from_list_any (λ (y : Tagged). is_taker (a.1).form y.form) c.kept a.4 in
    let f : Query = (a.1).form in
    let g : Query = (b.1).form in
    let same : f ≡ g = needed_alone (forms c.listeners) g f (kept_needed c s b.1 (b.0, b.2, b.3)) (kept_registered c s a.1 (a.0, a.2, a.3))
    (supplies_as_range f g (both_second (not (query_eq f g)) (takes_in f g) b.4)) in
    true≢false (sym (both_first (not (query_eq f g)) (takes_in f g) b.4) ∙ ap not ((query_eq_tells f g).1 same)))
  where
    taking : Tagged → Bool
    taking x = list_any (λ (y : Tagged). is_taker x.form y.form) c.kept

-- and no range is kept at the path of a plain one, which supplies it
pub kept_plains_alone : (c : Cover) → IsSound c → ArePlainsAlone form_of c.kept
kept_plains_alone c s = fails (list_any beside c.kept) (λ e.
    let a = Any-from_list_any beside c.kept e in
    let b = Any-from_list_any (λ (y : Tagged). is_plain_beside (a.1).form y.form) c.kept a.4 in
    let f : Query = (a.1).form in
    let g : Query = (b.1).form in
    let plain : not (is_filtered f) ≡ true = both_first (not (is_filtered f)) (is_filtered g && path_eq f.path g.path) b.4 in
    let range : (is_filtered g && path_eq f.path g.path) ≡ true = both_second (not (is_filtered f)) (is_filtered g && path_eq f.path g.path) b.4 in
    let filtered : is_filtered g ≡ true = both_first (is_filtered g) (path_eq f.path g.path) range in
    let there : f.path ≡ g.path = path_eq-is f.path g.path (both_second (is_filtered g) (path_eq f.path g.path) range) in
    let same : f ≡ g = needed_alone (forms c.listeners) g f (kept_needed c s b.1 (b.0, b.2, b.3)) (kept_registered c s a.1 (a.0, a.2, a.3))
    (supplies_plain f g plain (subst (λ p. is_at_or_above f.path p ≡ true) there (is_at_or_above-same f.path))) in
    true≢false (sym plain ∙ ap (λ q. not (is_filtered q)) same ∙ ap not filtered))
  where
    beside : Tagged → Bool
    beside x = list_any (λ (y : Tagged). is_plain_beside x.form y.form) c.kept

-- ---- in order

pub sorted_take : {X : Type 0} (q : X → Query) (n : ℕ) (xs : List X) → n ≤ length xs → IsSorted (by_form q) xs → IsSorted (by_form q) (take n xs)
sorted_take q n xs within up k d low high =
    let less : k + 1 < n = omega (arith, high, length-take-le n xs within) in
    (λ i. is_lt (query_cmp (q (get_or-take n xs (k + 1) d less i)) (q (get_or-take n xs k d (omega (arith, less)) i)))) ∙ up k d low (omega (arith, less, within))

pub sorted_drop : {X : Type 0} (q : X → Query) (n : ℕ) (xs : List X) → n ≤ length xs → IsSorted (by_form q) xs → IsSorted (by_form q) (drop n xs)
sorted_drop q n xs within up k d low high =
    let there : n + (k + 1) < length xs = omega (arith, high, length-drop n xs, within) in
    (λ i. is_lt (query_cmp (q (get_or-drop n xs (k + 1) d i)) (q (get_or-drop n xs k d i)))) ∙ are_up q xs up (n + k) (n + (k + 1)) d (omega arith) there

-- ---- whom they supply

-- the ranges of a path
pub group_supplied : (ls : List Registered) (ks : List Tagged) (p : Path) (t : ℕ → Bool) → All (λ (k : Tagged). is_range_at p k ≡ true) ks
    → list_any (λ (l : Registered). (is_filtered l.1 && path_eq (l.1).path p) && (list_any (λ (k : Tagged). does_supply k.form l.1) ks && t l.0)) ls
    ≡ list_any (has_supplied ls t) ks
group_supplied ls ks p t there =
    list_any_agreed (λ (l : Registered). (is_filtered l.1 && path_eq (l.1).path p) && (some l && t l.0)) (λ (l : Registered). list_any (λ (k : Tagged). does_supply k.form l.1 && t l.0) ks) ls
    (λ l m. absorbed (is_filtered l.1 && path_eq (l.1).path p) (some l) (t l.0) (at l) ∙ sym (list_any_beside (λ (k : Tagged). does_supply k.form l.1) (t l.0) ks))
    ∙ sym (list_any_swapped (λ (k : Tagged) (l : Registered). does_supply k.form l.1 && t l.0) ks ls)
  where
    some : Registered → Bool
    some l = list_any (λ (k : Tagged). does_supply k.form l.1) ks

    at : (l : Registered) → some l ≡ true → (is_filtered l.1 && path_eq (l.1).path p) ≡ true
    at l e =
        let a = Any-from_list_any (λ (k : Tagged). does_supply k.form l.1) ks e in
        let f : Query = (a.1).form in
        let own : is_range_at p a.1 ≡ true = All-contains (λ (k : Tagged). is_range_at p k ≡ true) ks a.1 there (a.0, a.2, a.3) in
        let filtered : is_filtered f ≡ true = both_first (is_filtered f) (path_eq f.path p) own in
        let same : f.path ≡ p = path_eq-is f.path p (both_second (is_filtered f) (path_eq f.path p) own) in
        both (is_filtered l.1) (path_eq (l.1).path p) (supplied_is_filtered f l.1 filtered a.4)
        (subst (λ z. path_eq (l.1).path z ≡ true) (sym (supplied_has_path f l.1 filtered a.4) ∙ same) (path_eq-same (l.1).path))

-- all of them are filtered
pub ranges_filtered : (p : Path) (ks : List Tagged) → All (λ (k : Tagged). is_range_at p k ≡ true) ks → All (λ (k : Tagged). is_filtered k.form ≡ true) ks
ranges_filtered p ks there k d lt = both_first (is_filtered (get_or ks k d).form) (path_eq ((get_or ks k d).form).path p) (there k d lt)

-- one that is no range of its own path is plain
pub no_range : (k : Tagged) (p : Path) → p ≡ (k.form).path → is_range_at p k ≡ false → is_filtered k.form ≡ false
no_range k p is e = elim (is_filtered k.form) as (λ b. is_filtered k.form ≡ b → b ≡ false) [
  | true ↦ λ t. absurd (true≢false (sym (both (is_filtered k.form) (path_eq (k.form).path p) t
      (subst (λ z. path_eq (k.form).path z ≡ true) (sym is) (path_eq-same (k.form).path))) ∙ e))
  | false ↦ λ _. refl
] refl

-- one more of the first ones
pub all_more : {X : Type 0} (P : X → Type 0) (xs : List X) (n : ℕ) (x : X) → n < length xs → x ≡ get_or xs n x → P x → All P (take n xs) → All P (take (n + 1) xs)
all_more P xs n x lt is new old k d less = at (nat_lt k n) refl
  where
    within : k < n + 1
    within = omega (arith, less, length-take-le (n + 1) xs (omega (arith, lt)))

    at : (b : Bool) → nat_lt k n ≡ b → P (get_or (take (n + 1) xs) k d)
    at true t =
        let l : k < n = ltb-true k n t in
        subst P (get_or-take n xs k d l ∙ sym (get_or-take (n + 1) xs k d within)) (old k d (omega (arith, l, length-take-le n xs (omega (arith, lt)))))
    at false t =
        let ge : n ≤ k = ltb-false k n t in
        let same : n ≡ k = omega (arith, ge, within) in
        subst (λ m. P (get_or (take (n + 1) xs) m d)) same (subst P (is ∙ get_or_default xs n x d lt ∙ sym (get_or-take (n + 1) xs n d (omega arith))) new)

-- one alone
pub one_alone : {X : Type 0} (f : X → Bool) (xs : List X) (x : X) → length xs ≡ 1 → x ≡ get_or xs 0 x → f x ≡ list_any f xs
one_alone f [] x one is = absurd (omega (arith, one))
one_alone f (y ∷ []) x one is = ap f is ∙ or_no (f y)
one_alone f (y ∷ z ∷ xs) x one is = absurd (omega (arith, one))
