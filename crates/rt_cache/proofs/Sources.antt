-- Whose window is brought for a query, and how that is found where windows are kept.
use Rattle.std.proofs.Common.{◌≡◌, nat_lt, ltb-true, ltb-false, get_or, arith, Bool, true, false, cond, ◌&&◌, ◌||◌}
use Rattle.std.proofs.Common.{List, [], ◌∷◌, refl, sym, ap, subst, ◌∙◌, Option, Some, None, is_some}
use mathlib.Core.Bool.{true≢false}
use Rattle.std.specs.Prelude.{IfSome}
use Rattle.std.specs.declared.cmp.Ordering.TheVariants.{Less, Equal, Greater}
use Rattle.std.specs.Ordering.{eq_by_cmp}
use Rattle.std.specs.Option.{option_map, option_or, option_and_then}
use Rattle.std.specs.List.{find, list_any, All, AllPairs, Contains}
use Rattle.std.specs.Cmp.{eq_by_cmp_equiv}
use Rattle.std.specs.FinMap as map_of
use Rattle.std.specs.FinMap.Entries.{by_order}
use Rattle.std.proofs.lemmas.List.{get_or_default}
use Rattle.std.proofs.lemmas.List.Elements.{All-contains}
use Rattle.std.proofs.lemmas.List.Folds.{Any-from_list_any}
use Rattle.rt_tree.specs.PathTree.{PathTree}
use Rattle.rt_tree.specs.TreeEq.{both_first, both_second, both}
use Rattle.rt_query.specs.Queries.{Query, is_filtered}
use Rattle.rt_query.specs.QueryEq.{query_eq}
use Rattle.rt_query.specs.Supply.{does_supply}
use Rattle.rt_query.specs.laws.NeededLaws.{supplies_itself}
use Rattle.rt_query.specs.laws.QueryEq.{query_eq_tells}
use Rattle.rt_query.specs.laws.SupplyLaws.{same_tests, form_filtered}
use Rattle.rt_query.specs.QueryOrder.{query_cmp}
use Rattle.rt_cache.specs.Brought.{Window, Brought, Base, region_part, window_of, source, base, knows}
use Rattle.rt_cache.specs.Recover.{in_query_order}
use Rattle.rt_cache.specs.declared.windows.Window as inside
use Rattle.rt_cache.specs.inside.Held.{entry_of, entries_of}
use Rattle.rt_cache.specs.inside.Sources.{source_among, HaveForms}
use Rattle.rt_cache.proofs.Among.{any_with}
use Rattle.rt_cache.proofs.ByPaths.{any_at, any_map}
use Rattle.rt_cache.proofs.Listing.{Listed, find-listed}
use Rattle.rt_query.specs.laws.QueryOrder.{queries_total, exact_queries, tie_is_eq}

-- ---- lists

some_or : {X : Type 0} (b : Bool) (x : X) (o : Option X) → is_some (cond b (Some x) o) ≡ (b || is_some o)
some_or true x o = refl
some_or false x o = refl

pub is_some-find : {X : Type 0} (p : X → Bool) (xs : List X) → is_some (find p xs) ≡ list_any p xs
is_some-find p [] = refl
is_some-find p (x ∷ xs) = some_or (p x) x (find p xs) ∙ ap (λ b. p x || b) (is_some-find p xs)

pub find_none : {X : Type 0} (p : X → Bool) (xs : List X) → list_any p xs ≡ false → find p xs ≡ None
find_none p xs e = none (find p xs) (is_some-find p xs ∙ e)
  where
    none : {X : Type 0} (o : Option X) → is_some o ≡ false → o ≡ None
    none None f = refl
    none (Some x) f = absurd (true≢false f)

pub find_passes : {X : Type 0} (p : X → Bool) (xs : List X) → IfSome (find p xs) (λ x. p x ≡ true)
find_passes p [] = tt
find_passes p (x ∷ xs) = elim (p x) as (λ b. p x ≡ b → IfSome (cond b (Some x) (find p xs)) (λ y. p y ≡ true)) [
  | true ↦ λ e. e
  | false ↦ λ e. find_passes p xs
] refl

-- where all that pass are one, that is found
pub find_only : {X : Type 0} (p : X → Bool) (xs : List X) (x : X) → list_any p xs ≡ true → ((y : X) → p y ≡ true → y ≡ x) → find p xs ≡ Some x
find_only p [] x e only = absurd (true≢false (sym e))
find_only p (y ∷ ys) x e only =
    elim (p y) as (λ b. p y ≡ b → (b || list_any p ys) ≡ true → cond b (Some y) (find p ys) ≡ Some x) [
      | true ↦ λ t _. ap (λ z. Some z) (only y t)
      | false ↦ λ t u. find_only p ys x u only
    ] refl e

-- ---- windows by their queries

-- one is found where one is of the query
pub any_found : (q : Query) (es : Listed) → is_some (map_of.find query_cmp q es) ≡ list_any (λ e. query_eq e.0 q) es
any_found q [] = refl
any_found q (e ∷ es) =
    some_or (eq_by_cmp query_cmp q e.0) e.1 (map_of.find query_cmp q es)
    ∙ (λ i. ((eq_by_cmp_equiv queries_total).symm q e.0 ∙ tie_is_eq e.0 q) i || any_found q es i)

-- the window that is found is one of them
pub found_there : (q : Query) (es : Listed) → is_some (map_of.find query_cmp q es) ≡ true → (e : Query × Window) × Contains es e × (e.0 ≡ q)
found_there q es s =
    let a = Any-from_list_any (λ (e : Query × Window). query_eq e.0 q) es (sym (any_found q es) ∙ s) in
    (a.1, (a.0, a.2, a.3), (query_eq_tells (a.1).0 q).0 a.4)

-- one of them is found
pub there_found : (e : Query × Window) (es : Listed) → Contains es e → is_some (map_of.find query_cmp e.0 es) ≡ true
there_found e es m = any_found e.0 es ∙ any_with (λ (x : Query × Window). query_eq x.0 e.0) es e m ((query_eq_tells e.0 e.0).1 refl)

-- what all windows' queries have, that of a window which is found has
pub found_all : (P : Query → Type 0) (q : Query) (es : Listed) → All (λ (w : Query × Window). P w.0) es → is_some (map_of.find query_cmp q es) ≡ true → P q
found_all P q es h e =
    let f = found_there q es e in
    subst P f.2 (All-contains (λ (w : Query × Window). P w.0) es f.0 h f.1)

turn : (a b c : Bool) → (a || (b || c)) ≡ (b || (a || c))
turn true true c = refl
turn true false c = refl
turn false b c = refl

twice : (a c : Bool) → (a || c) ≡ (a || (a || c))
twice true c = refl
twice false c = refl

any_put : (P : Query → Bool) (q : Query) (w : Window) (es : Listed) → list_any (λ (e : Query × Window). P e.0) (map_of.put query_cmp q w es) ≡ (P q || list_any (λ (e : Query × Window). P e.0) es)
any_put P q w [] = refl
any_put P q w (e ∷ es) =
    elim (query_cmp q e.0) as (λ o. query_cmp q e.0 ≡ o → list_any (λ (x : Query × Window). P x.0) (by_order o ((q, w) ∷ e ∷ es) ((e.0, w) ∷ es) (e ∷ map_of.put query_cmp q w es)) ≡ (P q || (P e.0 || list_any (λ (x : Query × Window). P x.0) es))) [
      | Less ↦ λ t. refl
      | Equal ↦ λ t. twice (P e.0) (list_any (λ (x : Query × Window). P x.0) es) ∙ ap (λ x. P x || (P e.0 || list_any (λ (x : Query × Window). P x.0) es)) (sym (exact_queries q e.0 t))
      | Greater ↦ λ t. ap (λ b. P e.0 || b) (any_put P q w es) ∙ turn (P e.0) (P q) (list_any (λ (x : Query × Window). P x.0) es)
    ] refl

-- the order changes nothing of what their queries pass
pub any_listed : (P : Query → Bool) (es : Listed) → list_any (λ (e : Query × Window). P e.0) (in_query_order es) ≡ list_any (λ (e : Query × Window). P e.0) es
any_listed P [] = refl
any_listed P (e ∷ es) = any_put P e.0 e.1 (in_query_order es) ∙ ap (λ b. P e.0 || b) (any_listed P es)

pub any_kept : (P : Query → Bool) (ws : List inside.Window) → list_any (λ (e : Query × Window). P e.0) (in_query_order (entries_of ws)) ≡ list_any (λ (w : inside.Window). P w.query) ws
any_kept P ws = any_listed P (entries_of ws) ∙ sym (any_map entry_of (λ (e : Query × Window). P e.0) ws)

-- what the queries of all that are listed have, those of all that are kept have
pub all_kept : (P : Query → Type 0) (ws : List inside.Window) → All (λ (e : Query × Window). P e.0) (in_query_order (entries_of ws)) → All (λ (w : inside.Window). P w.query) ws
all_kept P ws h k d lt =
    let q : Query = (get_or ws k d).query in
    let there : list_any (λ (w : inside.Window). query_eq w.query q) ws ≡ true = any_at (λ (w : inside.Window). query_eq w.query q) ws k d lt ((query_eq_tells q q).1 refl) in
    found_all P q (in_query_order (entries_of ws)) h (any_found q (in_query_order (entries_of ws)) ∙ any_kept (λ x. query_eq x q) ws ∙ there)

-- ---- apart

abbrev pub AreApart : Query × Window → Query × Window → Type 0
AreApart v w = (does_supply v.0 w.0 ≡ false) × (does_supply w.0 v.0 ≡ false)

-- of two windows neither form supplies the other
pub apart_at : (ws : Listed) → AllPairs AreApart ws → (v w : Query × Window) → Contains ws v → Contains ws w → (v.0 ≡ w.0 → ⊥) → does_supply v.0 w.0 ≡ false
apart_at ws h v w m n differ = at (nat_lt m.0 n.0) refl (nat_lt n.0 m.0) refl
  where
    at : (a : Bool) → nat_lt m.0 n.0 ≡ a → (b : Bool) → nat_lt n.0 m.0 ≡ b → does_supply v.0 w.0 ≡ false
    at true e b f =
        let second : get_or ws n.0 v ≡ w = get_or_default ws n.0 v w n.1 ∙ n.2 in
        sym (λ i. does_supply (m.2 i).0 (second i).0) ∙ (h m.0 n.0 v (ltb-true m.0 n.0 e) n.1).0
    at false e true f =
        let second : get_or ws m.0 w ≡ v = get_or_default ws m.0 w v m.1 ∙ m.2 in
        sym (λ i. does_supply (second i).0 (n.2 i).0) ∙ (h n.0 m.0 w (ltb-true n.0 m.0 f) m.1).1
    at false e false f =
        let same : m.0 ≡ n.0 = omega (arith, ltb-false m.0 n.0 e, ltb-false n.0 m.0 f) in
        absurd (differ (ap (λ (x : Query × Window). x.0) (sym m.2 ∙ ap (λ k. get_or ws k v) same ∙ get_or_default ws n.0 v w n.1 ∙ n.2)))

-- two forms that have windows, and of which one supplies the other, are one
pub apart_found : (ws : Listed) → AllPairs AreApart ws → (f g : Query) → is_some (map_of.find query_cmp f ws) ≡ true → is_some (map_of.find query_cmp g ws) ≡ true → does_supply f g ≡ true → f ≡ g
apart_found ws h f g s t e =
    let v = found_there f ws s in
    let w = found_there g ws t in
    at (query_eq f g) refl v w
  where
    at : (b : Bool) → query_eq f g ≡ b → ((x : Query × Window) × Contains ws x × (x.0 ≡ f)) → ((x : Query × Window) × Contains ws x × (x.0 ≡ g)) → f ≡ g
    at true t v w = (query_eq_tells f g).0 t
    at false t v w =
        let differ : (v.0).0 ≡ (w.0).0 → ⊥ = λ same. true≢false (sym ((query_eq_tells f g).1 (sym v.2 ∙ same ∙ w.2)) ∙ t) in
        absurd (true≢false (sym e ∙ sym (λ i. does_supply (v.2 i) (w.2 i)) ∙ apart_at ws h v.0 w.0 v.1 w.1 differ))

-- ---- the source

abbrev pub has_it : Listed → Query → Query → Bool
has_it ws q f = does_supply f q && is_some (map_of.find query_cmp f ws)

-- a form that supplies the query and has a window is a window's
pub supplier_there : (registered : List Query) (ws : Listed) (q : Query) → list_any (has_it ws q) registered ≡ true
    → list_any (λ (w : Query × Window). does_supply w.0 q) ws ≡ true
supplier_there registered ws q e =
    let a = Any-from_list_any (has_it ws q) registered e in
    let f : Query = a.1 in
    let w = found_there f ws (both_second (does_supply f q) (is_some (map_of.find query_cmp f ws)) a.4) in
    any_with (λ (x : Query × Window). does_supply x.0 q) ws w.0 w.1 (ap (λ x. does_supply x q) w.2 ∙ both_first (does_supply f q) (is_some (map_of.find query_cmp f ws)) a.4)

-- some registered form supplies the query and has a window just where a window's form supplies it
pub supplier_found : (registered : List Query) (ws : Listed) (q : Query) → All (λ (w : Query × Window). Contains registered w.0) ws
    → is_some (source_among ws registered q) ≡ list_any (λ (w : Query × Window). does_supply w.0 q) ws
supplier_found registered ws q h =
    is_some-find (has_it ws q) registered
    ∙ same_tests (list_any (has_it ws q) registered) (list_any (λ (w : Query × Window). does_supply w.0 q) ws) (supplier_there registered ws q) back
  where
    back : list_any (λ (w : Query × Window). does_supply w.0 q) ws ≡ true → list_any (has_it ws q) registered ≡ true
    back e =
        let a = Any-from_list_any (λ (w : Query × Window). does_supply w.0 q) ws e in
        let w : Query × Window = a.1 in
        let m : Contains ws w = (a.0, a.2, a.3) in
        any_with (has_it ws q) registered w.0 (All-contains (λ (x : Query × Window). Contains registered x.0) ws w h m) (both (does_supply w.0 q) (is_some (map_of.find query_cmp w.0 ws)) a.4 (there_found w ws m))

-- a form that has a window supplies the query, and no other does
pub only_source : (registered : List Query) (ws : Listed) (q f : Query) → All (λ (w : Query × Window). Contains registered w.0) ws
    → is_some (map_of.find query_cmp f ws) ≡ true → does_supply f q ≡ true
    → ((g : Query) → is_some (map_of.find query_cmp g ws) ≡ true → does_supply g q ≡ true → g ≡ f)
    → source_among ws registered q ≡ Some f
only_source registered ws q f h s e only =
    find_only (has_it ws q) registered f
    (any_with (has_it ws q) registered f (found_all (Contains registered) f ws h s) (both (does_supply f q) (is_some (map_of.find query_cmp f ws)) e s))
    (λ g t. only g (both_second (does_supply g q) (is_some (map_of.find query_cmp g ws)) t) (both_first (does_supply g q) (is_some (map_of.find query_cmp g ws)) t))

-- a query that has a window has it from itself
pub own_source : (registered : List Query) (ws : Listed) (q : Query) → HaveForms registered ws → is_some (map_of.find query_cmp q ws) ≡ true
    → source_among ws registered q ≡ Some q
own_source registered ws q h s =
    let filtered : is_filtered q ≡ true = found_all (λ x. is_filtered x ≡ true) q ws h.filtered s in
    only_source registered ws q q h.registered s (supplies_itself q (form_filtered q filtered)) (λ g t e. apart_found ws h.apart g q t s e)

-- where no window's form supplies the query it has no source
pub no_source : (registered : List Query) (ws : Listed) (q : Query) → All (λ (w : Query × Window). Contains registered w.0) ws
    → list_any (λ (w : Query × Window). does_supply w.0 q) ws ≡ false → source_among ws registered q ≡ None
no_source registered ws q h e = none (source_among ws registered q) (supplier_found registered ws q h ∙ e)
  where
    none : (o : Option Query) → is_some o ≡ false → o ≡ None
    none None f = refl
    none (Some x) f = absurd (true≢false f)

-- the source has a window
pub source_window : (registered : List Query) (ws : Listed) (q : Query) → is_some (option_and_then (window_of ws) (source_among ws registered q)) ≡ is_some (source_among ws registered q)
source_window registered ws q = at (source_among ws registered q) (find_passes (has_it ws q) registered)
  where
    at : (o : Option Query) → IfSome o (λ f. has_it ws q f ≡ true) → is_some (option_and_then (window_of ws) o) ≡ is_some o
    at None h = refl
    at (Some f) h = both_second (does_supply f q) (is_some (map_of.find query_cmp f ws)) h

-- ---- the base

-- a window as a base
abbrev pub of_window : Window → Base
of_window w = record { tree = w.children; whole = w.is_whole }

abbrev pub of_part : PathTree → Base
of_part t = record { tree = t; whole = true }

pub region_base : (b : Brought) (q : Query) (t : PathTree) → region_part b.regions q.path ≡ Some t → base b q ≡ Some (of_part t)
region_base b q t e = λ i. option_or (option_map of_part (e i)) (option_map of_window (option_and_then (window_of b.windows) (source b q)))

pub window_base : (b : Brought) (q : Query) → region_part b.regions q.path ≡ None
    → base b q ≡ option_map of_window (option_and_then (window_of b.windows) (source_among b.windows b.registered q))
window_base b q e = λ i. option_or (option_map of_part (e i)) (option_map of_window (option_and_then (window_of b.windows) (cond (is_some (e i)) None (source_among b.windows b.registered q))))

-- something is brought where a region is at or above the path, or a window's form supplies the query
pub knows_by : (b : Brought) (q : Query) → All (λ (w : Query × Window). Contains b.registered w.0) b.windows
    → knows b q ≡ (is_some (region_part b.regions q.path) || list_any (λ (w : Query × Window). does_supply w.0 q) b.windows)
knows_by b q h = at (region_part b.regions q.path) refl
  where
    mapped : (o : Option Window) → is_some (option_map of_window o) ≡ is_some o
    mapped None = refl
    mapped (Some w) = refl

    at : (o : Option PathTree) → region_part b.regions q.path ≡ o → knows b q ≡ (is_some (region_part b.regions q.path) || list_any (λ (w : Query × Window). does_supply w.0 q) b.windows)
    at (Some t) e = ap is_some (region_base b q t e) ∙ sym (ap (λ o. is_some o || list_any (λ (w : Query × Window). does_supply w.0 q) b.windows) e)
    at None e =
        ap is_some (window_base b q e) ∙ mapped (option_and_then (window_of b.windows) (source_among b.windows b.registered q))
        ∙ source_window b.registered b.windows q ∙ supplier_found b.registered b.windows q h
        ∙ sym (ap (λ o. is_some o || list_any (λ (w : Query × Window). does_supply w.0 q) b.windows) e)

-- what is brought is of a region, or of a window
pub knew_by : (b : Brought) (q : Query) → knows b q ≡ true → (is_some (region_part b.regions q.path) || list_any (λ (w : Query × Window). does_supply w.0 q) b.windows) ≡ true
knew_by b q k = at (region_part b.regions q.path) refl
  where
    mapped : (o : Option Window) → is_some (option_map of_window o) ≡ is_some o
    mapped None = refl
    mapped (Some w) = refl

    at : (o : Option PathTree) → region_part b.regions q.path ≡ o → (is_some (region_part b.regions q.path) || list_any (λ (w : Query × Window). does_supply w.0 q) b.windows) ≡ true
    at (Some t) e = ap (λ o. is_some o || list_any (λ (w : Query × Window). does_supply w.0 q) b.windows) e
    at None e =
        ap (λ o. is_some o || list_any (λ (w : Query × Window). does_supply w.0 q) b.windows) e
        ∙ supplier_there b.registered b.windows q
        (sym (is_some-find (has_it b.windows q) b.registered) ∙ sym (source_window b.registered b.windows q)
        ∙ sym (mapped (option_and_then (window_of b.windows) (source_among b.windows b.registered q))) ∙ sym (ap is_some (window_base b q e)) ∙ k)

-- as windows are kept
pub source_kept : (ws : List inside.Window) (registered : List Query) (q : Query) → source_among (entries_of ws) registered q ≡ source_among (in_query_order (entries_of ws)) registered q
source_kept ws registered q = λ i. find (λ f. does_supply f q && is_some (sym (find-listed f (entries_of ws)) i)) registered
