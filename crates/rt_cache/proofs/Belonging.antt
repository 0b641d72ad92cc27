-- What is brought belongs to registered forms, and stays so.
use Rattle.std.proofs.Common.{◌≡◌, ℕ, zero, suc, ◌<◌, length, slice_index_or, arith, Bool, true, false, cond, not, ◌&&◌, ◌||◌}
use Rattle.std.proofs.Common.{List, [], ◌∷◌, ◌++◌, map, refl, sym, ap, subst, ◌∙◌, Option, Some, None, is_some, OnOk, OnErr}
use mathlib.Core.Bool.{true≢false}
use Rattle.std.specs.Prelude.{IfSome}
use Rattle.std.specs.declared.result.Result.{Result}
use Rattle.std.specs.declared.result.Result.TheVariants.{Ok, Err}
use Rattle.std.specs.List.{filter, list_any, All, AllPairs, Contains}
use Rattle.std.specs.Option.{option_map_or}
use Rattle.std.specs.Ordering.{is_lt}
use Rattle.std.specs.Cmp.{tied_itself}
use lib.Dec.{T}
use Rattle.std.specs.FinMap as map_of
use Rattle.std.specs.FinMap.Entries.{below_all}
use Rattle.std.proofs.lemmas.List.Elements.{All-cons, All-append, All-contains, All-filter, filter_passes, Contains-get_or}
use Rattle.std.proofs.lemmas.List.Kept.{AllPairs-cons, AllPairs-filter}
use Rattle.std.proofs.lemmas.List.Folds.{Any-from_list_any, list_any_at}
use Rattle.rt_tree.specs.PathTree.{Path, PathTree, path_cmp, strip, children_alone}
use Rattle.rt_tree.specs.TreeEq.{both_first, both_second, both}
use Rattle.rt_tree.specs.Assignments.{is_at_or_above, Assignment}
use Rattle.rt_query.specs.Queries.{Query, is_filtered}
use Rattle.rt_query.specs.QueryEq.{query_eq}
use Rattle.rt_query.specs.Supply.{does_supply}
use Rattle.rt_query.specs.laws.Paths.{is_at_or_above-trans}
use Rattle.rt_query.specs.laws.QueryEq.{query_eq_tells}
use Rattle.rt_query.specs.laws.NeededLaws.{Contains-filter, Contains-from_filter, supplies_trans}
use Rattle.rt_query.specs.laws.SupplyLaws.{form_filtered, supplied_has_path, supply_unfiltered}
use Rattle.rt_query.specs.QueryOrder.{query_cmp}
use Rattle.rt_cache.specs.Brought.{Window, Brought, nothing_brought, with_form, is_supplied, may_put, region_part, region_put, window_of, window_pushed, windows_pushed, knows, push_plain, push}
use Rattle.rt_cache.specs.Canonical.{IsCanonical, FitsLevels, Belongs}
use Rattle.rt_cache.specs.Recover.{reaches, regions_kept, in_query_order, is_among, cut, is_lost, heirs, handed_on, recover}
use Rattle.rt_cache.specs.declared.run.BroughtCall.TheVariants.{Put, Recover}
use Rattle.rt_cache.specs.declared.regions.Region.{Region}
use Rattle.rt_cache.specs.declared.windows.Window as inside
use Rattle.rt_cache.specs.inside.Held.{held, entries_of, pairs_of, pushed_windows}
use Rattle.rt_cache.specs.inside.Sources.{HaveForms}
use Rattle.rt_cache.proofs.Among.{any_with}
use Rattle.rt_cache.proofs.Cuts.{any_above, part_any}
use Rattle.rt_cache.proofs.Heirs.{IsHeir, left_forms, handed_heirs}
use Rattle.rt_cache.proofs.Listing.{listed_sorted}
use Rattle.rt_cache.proofs.Places.{or_left, or_right}
use Rattle.rt_cache.proofs.Pushes.{push_of_plain, push_of_filtered}
use Rattle.rt_query.specs.laws.QueryOrder.{queries_total}
use Rattle.rt_cache.proofs.RecoverLaws.{left_reached, left_registered, pushed_reached, pushed_registered, pushed_windows_all, listed_all}
use Rattle.rt_cache.proofs.RunLaws.{never, any_under, step_known}
use Rattle.rt_cache.proofs.Sources.{AreApart, found_there, there_found, apart_at, apart_found, knows_by, knew_by}
use Rattle.rt_cache.proofs.Stays.{Windows, push_stays}

not_so : (b : Bool) → not b ≡ true → b ≡ false
not_so true e = absurd (true≢false (sym e))
not_so false e = refl

-- ---- what is registered

-- the plain form that reaches a path
reacher : (registered : List Query) (p : Path) → reaches registered p ≡ true
    → (g : Query) × Contains registered g × (is_filtered g ≡ false) × (is_at_or_above g.path p ≡ true)
reacher registered p e =
    let h = Any-from_list_any (λ (k : Query). not (is_filtered k) && is_at_or_above k.path p) registered e in (
      h.1,
      (h.0, h.2, h.3),
      not_so (is_filtered h.1) (both_first _ (is_at_or_above (h.1).path p) h.4),
      both_second (not (is_filtered h.1)) _ h.4,
    )

reached_by : (registered : List Query) (g : Query) (p : Path) → Contains registered g → is_filtered g ≡ false
    → is_at_or_above g.path p ≡ true → reaches registered p ≡ true
reached_by registered g p m plain above =
    list_any_at (λ (k : Query). not (is_filtered k) && is_at_or_above k.path p) registered m.0 g m.1
    (ap (λ (k : Query). not (is_filtered k) && is_at_or_above k.path p) m.2 ∙ (λ i. not (plain i) && above i))

-- more forms reach what fewer reach
pub reaches_more : (registered kept : List Query) (p : Path) → All (Contains registered) kept
    → reaches kept p ≡ true → reaches registered p ≡ true
reaches_more registered kept p all e =
    let r = reacher kept p e in
    reached_by registered r.0 p (All-contains (Contains registered) kept r.0 all r.1) r.2 r.3

-- what may be put on is registered
pub put_registered : (b : Brought) (q : Query) → may_put b q ≡ true → Contains b.registered q
put_registered b q e =
    let h = Any-from_list_any (λ (f : Query). query_eq f q) b.registered (both_first _ (not (list_any (λ (f : Query). not (query_eq f q) && does_supply f q) b.registered)) e) in
    subst (Contains b.registered) ((query_eq_tells h.1 q).0 h.4) (h.0, h.2, h.3)

-- where it is filtered, no region is at or above its path
pub put_clear : (b : Brought) (q : Query) → Belongs b → may_put b q ≡ true → is_filtered q ≡ true
    → any_above q.path b.regions ≡ false
put_clear b q h e filtered = never (any_above q.path b.regions) found
  where
    free : not (list_any (λ (f : Query). not (query_eq f q) && does_supply f q) b.registered) ≡ true
    free = both_second (list_any (λ (f : Query). query_eq f q) b.registered) _ e

    other : (g : Query) → is_filtered g ≡ false → query_eq g q ≡ false
    other g plain = never (query_eq g q) (λ t. sym plain ∙ ap is_filtered ((query_eq_tells g q).0 t) ∙ filtered)

    found : any_above q.path b.regions ≡ true → false ≡ true
    found t =
        let r = Any-from_list_any (λ (x : Path × PathTree). is_at_or_above x.0 q.path) b.regions t in
        let reached = All-contains (λ (x : Path × PathTree). reaches b.registered x.0 ≡ true) b.regions r.1 h.regions (r.0, r.2, r.3) in
        let g = reacher b.registered (r.1).0 reached in
        let supplies : does_supply g.0 q ≡ true = supply_unfiltered g.0 q g.2 ∙ is_at_or_above-trans (g.0).path (r.1).0 q.path g.3 r.4 in
        let covered : list_any (λ (f : Query). not (query_eq f q) && does_supply f q) b.registered ≡ true =
        list_any_at (λ (f : Query). not (query_eq f q) && does_supply f q) b.registered (g.1).0 g.0 (g.1).1
        (ap (λ (f : Query). not (query_eq f q) && does_supply f q) (g.1).2 ∙ (λ i. not (other g.0 g.2 i) && supplies i)) in
        sym (ap not covered) ∙ free

-- the windows are of registered filtered forms that are apart
pub have_forms : (b : Brought) → IsCanonical b → Belongs b → HaveForms b.registered b.windows
have_forms b c h = record { registered = h.windows; filtered = c.filtered; apart = h.apart }

-- ---- nothing, and one form more

pub nothing_belongs : Belongs nothing_brought
nothing_belongs = record {
  regions = λ k d lt. absurd (omega arith);
  windows = λ k d lt. absurd (omega arith);
  beside = λ k d lt. absurd (omega arith);
  apart = λ i j d lt within. absurd (omega (arith, within));
}

Contains-front : {X : Type 0} (xs ys : List X) (x : X) → Contains xs x → Contains (xs ++ ys) x
Contains-front xs ys x m = at xs ys x m.0 m.1 m.2
  where
    at : {X : Type 0} (xs ys : List X) (x : X) (k : ℕ) → k < length xs → slice_index_or xs k x ≡ x → Contains (xs ++ ys) x
    at [] ys x k l e = absurd (omega arith)
    at (z ∷ zs) ys x zero l e = (0, omega arith, e)
    at (z ∷ zs) ys x (suc k) l e =
        let m = at zs ys x k (omega arith) e in
        (suc m.0, omega (arith, m.1), m.2)

All-itself : {X : Type 0} (xs ys : List X) → All (Contains (xs ++ ys)) xs
All-itself xs ys = λ k d lt. Contains-front xs ys (slice_index_or xs k d) (k, lt, same xs k d lt)
  where
    same : {X : Type 0} (xs : List X) (k : ℕ) (d : X) → k < length xs → slice_index_or xs k (slice_index_or xs k d) ≡ slice_index_or xs k d
    same [] k d l = absurd (omega arith)
    same (z ∷ zs) zero d l = refl
    same (z ∷ zs) (suc k) d l = same zs k d (omega arith)

pub with_form_belongs : (f : Query) (b : Brought) → Belongs b → Belongs (with_form f b)
with_form_belongs f b h = record {
  regions = λ k d lt. reaches_more (b.registered ++ f ∷ []) b.registered (slice_index_or b.regions k d).0 (All-itself b.registered (f ∷ [])) (h.regions k d lt);
  windows = λ k d lt. Contains-front b.registered (f ∷ []) (slice_index_or b.windows k d).0 (h.windows k d lt);
  beside = h.beside;
  apart = h.apart;
}

-- ---- apart

-- of two keys in order neither is the other
less : (q r : Query) → T (is_lt (query_cmp q r)) → q ≡ r → ⊥
less q r h same = subst (λ o. T (is_lt o)) (tied_itself queries_total q) (subst (λ x. T (is_lt (query_cmp q x))) (sym same) h)

t_both : (a b : Bool) → T (a && b) → T a × T b
t_both true true h = (tt, tt)
t_both true false h = absurd h
t_both false b h = absurd h

below_differs : (q : Query) (w : Window) (ws : Windows) → T (below_all query_cmp q ws) → All (λ (v : Query × Window). q ≡ v.0 → ⊥) ws
below_differs q w [] h = λ k d lt. absurd (omega (arith, lt))
below_differs q w (v ∷ vs) h =
    let both = t_both (is_lt (query_cmp q v.0)) (below_all query_cmp q vs) h in
    All-cons (λ (x : Query × Window). q ≡ x.0 → ⊥) v vs (less q v.0 both.0) (below_differs q w vs both.1)

-- no two windows that are listed are of one query
pub listed_differ : (ws : Windows) → T (map_of.is_sorted query_cmp ws) → AllPairs (λ (v w : Query × Window). v.0 ≡ w.0 → ⊥) ws
listed_differ [] h = λ i j d lt within. absurd (omega (arith, within))
listed_differ (w ∷ ws) h =
    let both = t_both (below_all query_cmp w.0 ws) (map_of.is_sorted query_cmp ws) h in
    AllPairs-cons (λ (v x : Query × Window). v.0 ≡ x.0 → ⊥) w ws (below_differs w.0 w.1 ws both.0) (listed_differ ws both.1)

-- two queries supply each other where they are one
abbrev pub StandApart : Query → Query → Type 0
StandApart f g = (f ≡ g → ⊥) → does_supply f g ≡ false

-- windows in order of which each stands apart from each are apart
pub apart_from : (ws : Windows) → T (map_of.is_sorted query_cmp ws) → All (λ (v : Query × Window). All (λ (w : Query × Window). StandApart v.0 w.0) ws) ws → AllPairs AreApart ws
apart_from ws sorted h i j d lt within =
    let differ : (slice_index_or ws i d).0 ≡ (slice_index_or ws j d).0 → ⊥ = listed_differ ws sorted i j d lt within in (
      h i d (omega (arith, lt, within)) j d within differ,
      h j d within i d (omega (arith, lt, within)) (λ same. differ (sym same)),
    )

-- so they are once they are listed
pub listed_apart : (ws : Windows) → All (λ (v : Query × Window). All (λ (w : Query × Window). StandApart v.0 w.0) ws) ws → AllPairs AreApart (in_query_order ws)
listed_apart ws h = apart_from (in_query_order ws) (listed_sorted ws)
    (listed_all (λ (x : Query × Window). All (λ (y : Query × Window). StandApart x.0 y.0) (in_query_order ws)) ws
    (λ k c l. listed_all (λ (y : Query × Window). StandApart (slice_index_or ws k c).0 y.0) ws (h k c l)))

-- ---- a push

-- the forms stay
pub push_registered : (q : Query) (b : Brought) (a : Assignment) → (push q b a).registered ≡ b.registered
push_registered q b a =
    elim (is_filtered q) as (λ f. (cond f (option_map_or (λ rest. record b { windows = windows_pushed q rest a.1 b.windows }) (strip q.path a.0) b) (push_plain b a)).registered ≡ b.registered) [
      | true ↦ elim (strip q.path a.0) as (λ o. (option_map_or (λ rest. record b { windows = windows_pushed q rest a.1 b.windows }) o b).registered ≡ b.registered) [
        | None ↦ refl
        | Some rest ↦ refl
      ]
      | false ↦ plainly
    ]
  where
    plainly : (push_plain b a).registered ≡ b.registered
    plainly =
        elim (is_some (region_part b.regions a.0)) as (λ c. (cond c (record b { regions = map (region_put a) b.regions }) (record b { regions = map_of.put path_cmp a.0 a.1 (filter (λ r. not (is_at_or_above a.0 r.0)) b.regions); windows = filter (λ w. not (is_at_or_above a.0 (w.0).path)) b.windows })).registered ≡ b.registered) [
          | true ↦ refl
          | false ↦ refl
        ]

-- so a push may be put on as before
pub may_put-push : (q r : Query) (b : Brought) (a : Assignment) → may_put (push q b a) r ≡ may_put b r
may_put-push q r b a = ap (λ fs. list_any (λ (f : Query). query_eq f r) fs && not (list_any (λ (f : Query). not (query_eq f r) && does_supply f r) fs)) (push_registered q b a)

-- no region is at or above the window's path
abbrev IsBeside : List (Path × PathTree) → Query × Window → Type 0
IsBeside rs w = any_above (w.0).path rs ≡ false

or_no : (a b : Bool) → a ≡ false → b ≡ false → (a || b) ≡ false
or_no a b e f = λ i. e i || f i

-- of two windows neither supplies the other
push_apart : (q : Query) (b : Brought) (a : Assignment) → IsCanonical b → may_put b q ≡ true → Belongs b → AllPairs AreApart (push q b a).windows
push_apart q b a c may h = at (is_filtered q) refl
  where
    new : Windows
    new = (push q b a).windows

    plainly : AllPairs AreApart (push_plain b a).windows
    plainly =
        elim (is_some (region_part b.regions a.0)) as (λ t. AllPairs AreApart (cond t (record b { regions = map (region_put a) b.regions }) (record b { regions = map_of.put path_cmp a.0 a.1 (filter (λ r. not (is_at_or_above a.0 r.0)) b.regions); windows = filter (λ w. not (is_at_or_above a.0 (w.0).path)) b.windows })).windows) [
          | true ↦ h.apart
          | false ↦ AllPairs-filter AreApart (λ (w : Query × Window). not (is_at_or_above a.0 (w.0).path)) b.windows h.apart
        ]

    -- no other registered form supplies it
    unsupplied : (v : Query × Window) → Contains b.windows v → StandApart v.0 q
    unsupplied v m differ = never (does_supply v.0 q) (λ t.
        sym (not_so (is_supplied b.registered q) (both_second (list_any (λ (f : Query). query_eq f q) b.registered) _ may))
        ∙ any_with (λ (f : Query). not (query_eq f q) && does_supply f q) b.registered v.0 (All-contains (λ (w : Query × Window). Contains b.registered w.0) b.windows v h.windows m)
        (both (not (query_eq v.0 q)) (does_supply v.0 q) (ap not (never (query_eq v.0 q) (λ e. absurd (differ ((query_eq_tells v.0 q).0 e))))) t))

    any : (P : Query → Type 0) (o : Option Window) → P q → IfSome o (λ w. P q)
    any P None p = tt
    any P (Some w) p = p

    old : All (λ (v : Query × Window). All (λ (w : Query × Window). StandApart v.0 w.0) new) b.windows
    old k d lt =
        let v : Query × Window = slice_index_or b.windows k d in
        let m : Contains b.windows v = Contains-get_or b.windows k d lt in
        pushed_windows_all (λ (w : Query × Window). StandApart v.0 w.0) q b a
        (λ rest e. any (λ x. StandApart v.0 x) (window_pushed rest a.1 (window_of b.windows q)) (unsupplied v m))
        (λ n x l. apart_at b.windows h.apart v (slice_index_or b.windows n x) m (Contains-get_or b.windows n x l))

    at : (f : Bool) → is_filtered q ≡ f → AllPairs AreApart new
    at false f = subst (λ (x : Brought). AllPairs AreApart x.windows) (push_of_plain q b a f) plainly
    at true f = apart_from new (push_stays q b a c).windows
        (pushed_windows_all (λ (v : Query × Window). All (λ (w : Query × Window). StandApart v.0 w.0) new) q b a (λ rest e. own rest (window_of b.windows q) refl e) old)
      where
        -- at its path those that it supplies go
        replaced : strip q.path a.0 ≡ Some [] → All (λ (w : Query × Window). StandApart q w.0) new
        replaced e =
            let left : Windows = map_of.put query_cmp q (record { children = children_alone a.1; is_whole = false }) b.windows in
            let passing : Query × Window → Bool = λ w. query_eq w.0 q || not (does_supply q w.0) in
            let is : filter passing left ≡ new =
            sym (ap (λ o. option_map_or (λ rest. windows_pushed q rest a.1 b.windows) o b.windows) e) ∙ ap (λ (x : Brought). x.windows) (push_of_filtered q b a f) in
            subst (All (λ (w : Query × Window). StandApart q w.0)) is (λ k d lt differ. stands (slice_index_or (filter passing left) k d).0 (filter_passes passing left k d lt) differ)
          where
            stands : (x : Query) → (query_eq x q || not (does_supply q x)) ≡ true → StandApart q x
            stands x e differ = not_so (does_supply q x) (sym (ap (λ t. t || not (does_supply q x)) (never (query_eq x q) (λ t. absurd (differ (sym ((query_eq_tells x q).0 t)))))) ∙ e)

        -- below it, it had a window
        had : is_some (window_of b.windows q) ≡ true → All (λ (w : Query × Window). StandApart q w.0) new
        had s =
            let v = found_there q b.windows s in
            pushed_windows_all (λ (w : Query × Window). StandApart q w.0) q b a (λ rest e. any (λ x. StandApart q x) (window_pushed rest a.1 (window_of b.windows q)) (λ differ. absurd (differ refl)))
            (λ n x l. subst (λ y. StandApart y (slice_index_or b.windows n x).0) v.2 (apart_at b.windows h.apart v.0 (slice_index_or b.windows n x) v.1 (Contains-get_or b.windows n x l)))

        own : (rest : Path) (o : Option Window) → window_of b.windows q ≡ o → strip q.path a.0 ≡ Some rest
            → IfSome (window_pushed rest a.1 o) (λ w. All (λ (x : Query × Window). StandApart q x.0) new)
        own [] o s e = replaced e
        own (k ∷ rest) None s e = tt
        own (k ∷ rest) (Some w) s e = had (ap is_some s)

pub push_belongs : (q : Query) (b : Brought) (a : Assignment) → IsCanonical b → may_put b q ≡ true → is_at_or_above q.path a.0 ≡ true
    → Belongs b → Belongs (push q b a)
push_belongs q b a canonical may under h = record {
  regions = subst (λ fs. All (λ (r : Path × PathTree). reaches fs r.0 ≡ true) (push q b a).regions) (sym (push_registered q b a))
      (pushed_reached b.registered q b a (put_registered b q may) under h.regions);
  windows = subst (λ fs. All (λ (w : Query × Window). Contains fs w.0) (push q b a).windows) (sym (push_registered q b a))
      (pushed_registered b.registered q b a (put_registered b q may) h.windows);
  beside = at (is_filtered q) refl;
  apart = push_apart q b a canonical may h;
}
  where
    step : (p : Path) → any_above p (push q b a).regions ≡ cond (is_filtered q) (any_above p b.regions) (any_above p b.regions || is_at_or_above a.0 p)
    step p = step_known p b (Put q a.0 a.1)

    -- a filtered query changes no region
    windowed : is_filtered q ≡ true → All (IsBeside (push q b a).regions) (push q b a).windows
    windowed f = pushed_windows_all (IsBeside (push q b a).regions) q b a (λ rest e. own (window_pushed rest a.1 (window_of b.windows q)))
        (λ k d lt. same (slice_index_or b.windows k d).0.path ∙ h.beside k d lt)
      where
        same : (p : Path) → any_above p (push q b a).regions ≡ any_above p b.regions
        same p = step p ∙ ap (λ t. cond t (any_above p b.regions) (any_above p b.regions || is_at_or_above a.0 p)) f

        own : (o : Option Window) → IfSome o (λ w. IsBeside (push q b a).regions (q, w))
        own None = tt
        own (Some w) = same q.path ∙ put_clear b q h may f

    -- a region that is there, or begins
    plainly : is_filtered q ≡ false → All (IsBeside (push q b a).regions) (push q b a).windows
    plainly f = subst (λ (x : Brought). All (IsBeside (push q b a).regions) x.windows) (push_of_plain q b a f) (either (is_some (region_part b.regions a.0)) refl)
      where
        beside : (w : Query × Window) → any_above (w.0).path b.regions ≡ false → is_at_or_above a.0 (w.0).path ≡ false → IsBeside (push q b a).regions w
        beside w old apart = step (w.0).path ∙ ap (λ t. cond t (any_above (w.0).path b.regions) (any_above (w.0).path b.regions || is_at_or_above a.0 (w.0).path)) f
            ∙ or_no _ _ old apart

        either : (c : Bool) → is_some (region_part b.regions a.0) ≡ c → All (IsBeside (push q b a).regions)
            (cond c (record b { regions = map (region_put a) b.regions }) (record b { regions = map_of.put path_cmp a.0 a.1 (filter (λ r. not (is_at_or_above a.0 r.0)) b.regions); windows = filter (λ w. not (is_at_or_above a.0 (w.0).path)) b.windows })).windows
        either true e = λ k d lt.
            let w : Query × Window = slice_index_or b.windows k d in
            let old : any_above (w.0).path b.regions ≡ false = h.beside k d lt in
            beside w old (never (is_at_or_above a.0 (w.0).path) (λ t. sym old ∙ any_under a.0 (w.0).path b.regions (sym (part_any a.0 b.regions) ∙ e) t))
        either false e = λ k d lt.
            let left : Windows = filter (λ w. not (is_at_or_above a.0 (w.0).path)) b.windows in
            let w : Query × Window = slice_index_or left k d in
            beside w (All-filter (λ (x : Query × Window). not (is_at_or_above a.0 (x.0).path)) (IsBeside b.regions) b.windows h.beside k d lt)
            (not_so (is_at_or_above a.0 (w.0).path) (filter_passes (λ (x : Query × Window). not (is_at_or_above a.0 (x.0).path)) b.windows k d lt))

    at : (f : Bool) → is_filtered q ≡ f → All (IsBeside (push q b a).regions) (push q b a).windows
    at true f = windowed f
    at false f = plainly f

-- ---- a change of cover

pub recover_belongs : (registered kept : List Query) (b : Brought) → All (Contains registered) kept → Belongs b
    → Belongs (recover registered kept b)
recover_belongs registered kept b all h = record {
  regions = λ k d lt. reaches_more registered kept (slice_index_or new k d).0 all (left_reached registered kept b k d lt);
  windows = left_registered registered kept b;
  beside = listed_all (IsBeside new) (handed ++ left.windows) (All-append (IsBeside new) handed left.windows
      (handed_heirs (λ q. any_above q.path new ≡ false) registered b left (λ q heir. clear q heir))
      (λ k d lt. still (slice_index_or left.windows k d).0 (All-filter (λ (w : Query × Window). is_among registered w.0) (IsBeside b.regions) b.windows h.beside k d lt)));
  apart = listed_apart (handed ++ left.windows) (All-append (λ v. All (λ w. StandApart v.0 w.0) (handed ++ left.windows)) handed left.windows
      (handed_heirs (λ f. All (λ (w : Query × Window). StandApart f w.0) (handed ++ left.windows)) registered b left (λ f heir.
      All-append (λ (w : Query × Window). StandApart f w.0) handed left.windows
      (handed_heirs (λ g. StandApart f g) registered b left (λ g other. heirs_apart f g heir other))
      (λ k d lt. heir_apart f heir (slice_index_or left.windows k d) (Contains-get_or left.windows k d lt))))
      (λ k d lt. All-append (λ (w : Query × Window). StandApart (slice_index_or left.windows k d).0 w.0) handed left.windows
      (handed_heirs (λ g. StandApart (slice_index_or left.windows k d).0 g) registered b left (λ g heir. kept_apart (slice_index_or left.windows k d) g (Contains-get_or left.windows k d lt) heir))
      (λ n c l. stay_apart (slice_index_or left.windows k d) (slice_index_or left.windows n c) (Contains-get_or left.windows k d lt) (Contains-get_or left.windows n c l))));
}
  where
    new : List (Path × PathTree)
    new = regions_kept kept b.regions

    left : Brought
    left = cut registered kept b

    handed : Windows
    handed = handed_on b (heirs registered b left)

    Heir : Query → Type 0
    Heir q = IsHeir registered b left q

    -- where no region was, none is
    still : (q : Query) → any_above q.path b.regions ≡ false → any_above q.path new ≡ false
    still q e = step_known q.path b (Recover registered kept) ∙ ap (λ t. t && reaches kept q.path) e

    tells : (q : Query) → knows left q ≡ (is_some (region_part new q.path) || list_any (λ (w : Query × Window). does_supply w.0 q) left.windows)
    tells q = knows_by left q (left_forms registered kept b)

    -- no region holds an heir's path, nor does a window's form supply it
    clear : (q : Query) → Heir q → any_above q.path new ≡ false
    clear q heir = sym (part_any q.path new) ∙ or_left (is_some (region_part new q.path)) (list_any (λ (w : Query × Window). does_supply w.0 q) left.windows) (sym (tells q) ∙ heir.unknown)

    unsupplied : (q : Query) → Heir q → (w : Query × Window) → Contains left.windows w → does_supply w.0 q ≡ false
    unsupplied q heir w m = never (does_supply w.0 q) (λ t.
        sym (or_right (is_some (region_part new q.path)) _ (sym (tells q) ∙ heir.unknown)) ∙ any_with (λ (x : Query × Window). does_supply x.0 q) left.windows w m t)

    -- a window that stays was one
    was : (w : Query × Window) → Contains left.windows w → Contains b.windows w
    was w m = Contains-from_filter (λ (x : Query × Window). is_among registered x.0) b.windows w m

    heirs_apart : (f g : Query) → Heir f → Heir g → StandApart f g
    heirs_apart f g one other differ = never (does_supply f g) (λ t.
        sym other.alone ∙ any_with (λ x. not (query_eq x g) && does_supply x g) (filter (is_lost b left) registered) f
        (Contains-filter (is_lost b left) registered f one.registered (λ i. one.filtered i && one.knew i && not (one.unknown i)))
        (both (not (query_eq f g)) (does_supply f g) (ap not (never (query_eq f g) (λ e. absurd (differ ((query_eq_tells f g).0 e))))) t))

    kept_apart : (w : Query × Window) (g : Query) → Contains left.windows w → Heir g → StandApart w.0 g
    kept_apart w g m heir differ = unsupplied g heir w m

    stay_apart : (v w : Query × Window) → Contains left.windows v → Contains left.windows w → StandApart v.0 w.0
    stay_apart v w m n = apart_at b.windows h.apart v w (was v m) (was w n)

    -- what an heir had is not of a window that stays
    heir_apart : (f : Query) → Heir f → (w : Query × Window) → Contains left.windows w → StandApart f w.0
    heir_apart f heir w m differ = never (does_supply f w.0) (λ t. at t (is_some (region_part b.regions f.path)) refl)
      where
        at : does_supply f w.0 ≡ true → (r : Bool) → is_some (region_part b.regions f.path) ≡ r → false ≡ true
        at t true e =
            sym (All-contains (IsBeside b.regions) b.windows w h.beside (was w m))
            ∙ ap (λ p. any_above p b.regions) (sym (supplied_has_path f w.0 heir.filtered t)) ∙ sym (part_any f.path b.regions) ∙ e
        at t false e =
            let any : list_any (λ (x : Query × Window). does_supply x.0 f) b.windows ≡ true = sym (ap (λ c. c || list_any (λ (x : Query × Window). does_supply x.0 f) b.windows) e) ∙ knew_by b f heir.knew in
            let a = Any-from_list_any (λ (x : Query × Window). does_supply x.0 f) b.windows any in
            let v : Query × Window = a.1 in
            let there : Contains b.windows v = (a.0, a.2, a.3) in
            let onward : does_supply v.0 w.0 ≡ true = supplies_trans v.0 f w.0 (form_filtered f heir.filtered) a.4 t in
            let same : v.0 ≡ w.0 = apart_found b.windows h.apart v.0 w.0 (there_found v b.windows there) (there_found w b.windows (was w m)) onward in
            sym (unsupplied f heir w m) ∙ ap (λ x. does_supply x f) (sym same) ∙ a.4

-- ---- what is held

-- after a push, or a refusal of it
pub filtered_belongs : {A E : Type 0} (r : Result A E) (fs : List Query) (rs : List Region) (ws xs : List inside.Window) (q : Query) (a : Assignment)
    → is_filtered q ≡ true → may_put (held fs rs ws) q ≡ true → is_at_or_above q.path a.0 ≡ true
    → OnOk r (in_query_order (entries_of xs) ≡ pushed_windows q a (in_query_order (entries_of ws))) → OnErr r (in_query_order (entries_of xs) ≡ in_query_order (entries_of ws))
    → IsCanonical (held fs rs ws) → Belongs (held fs rs ws) → Belongs (held fs rs xs)
filtered_belongs (Ok x) fs rs ws xs q a f may under ok err c h =
    let pushed : held fs rs xs ≡ push q (held fs rs ws) a = (λ i. record { registered = fs; regions = pairs_of rs; windows = ok i }) ∙ push_of_filtered q (held fs rs ws) a f in
    subst Belongs (sym pushed) (push_belongs q (held fs rs ws) a c may under h)
filtered_belongs (Err e) fs rs ws xs q a f may under ok err c h = subst (λ es. Belongs (record { registered = fs; regions = pairs_of rs; windows = es })) (sym err) h

pub plain_belongs : {A E : Type 0} (r : Result A E) (new old : Brought) (q : Query) (a : Assignment) → is_filtered q ≡ false
    → may_put old q ≡ true → is_at_or_above q.path a.0 ≡ true → OnOk r (new ≡ push_plain old a) → OnErr r (new ≡ old)
    → IsCanonical old → Belongs old → Belongs new
plain_belongs (Ok x) new old q a f may under ok err c h = subst Belongs (sym (ok ∙ push_of_plain q old a f)) (push_belongs q old a c may under h)
plain_belongs (Err e) new old q a f may under ok err c h = subst Belongs (sym err) h

-- after a change of cover, or a refusal of it
pub changed_belongs : {A E : Type 0} (r : Result A E) (registered kept : List Query) (old new : Brought)
    → All (Contains registered) kept → OnOk r (new ≡ recover registered kept old) → OnErr r (new ≡ old) → Belongs old → Belongs new
changed_belongs (Ok x) registered kept old new all ok err h = subst Belongs (sym ok) (recover_belongs registered kept old all h)
changed_belongs (Err e) registered kept old new all ok err h = subst Belongs (sym err) h

-- ---- one form more is held

more_stays : (f : Query) (b : Brought) → IsCanonical b → IsCanonical (with_form f b)
more_stays f b h = record { regions = h.regions; apart = h.apart; windows = h.windows; filtered = h.filtered }

more_fits : (f : Query) (b : Brought) → FitsLevels b → FitsLevels (with_form f b)
more_fits f b h = record { regions = h.regions; windows = h.windows }

-- what always holds but for the order of windows
abbrev pub Holds : Brought → Type 0
Holds b = IsCanonical b × FitsLevels b × Belongs b

pub more_holds : (f : Query) (fs gs : List Query) (rs : List Region) (ws : List inside.Window)
    → gs ≡ fs ++ f ∷ [] → Holds (held fs rs ws) → Holds (held gs rs ws)
more_holds f fs gs rs ws e h =
    subst (λ xs. Holds (held xs rs ws)) (sym e)
    (more_stays f (held fs rs ws) h.0, more_fits f (held fs rs ws) h.1, with_form_belongs f (held fs rs ws) h.2)
