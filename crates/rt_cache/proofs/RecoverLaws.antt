-- What a change of cover and a push leave of what was brought: nothing is lost that listens reach.
use Rattle.std.proofs.Common.{◌≡◌, Bool, true, false, cond, not, ◌&&◌, ◌||◌, List, [], ◌∷◌, ◌++◌, map, refl}
use mathlib.Core.Bool.{true≢false}
use Rattle.std.proofs.Common.{sym, ap, subst, ◌∙◌, Option, Some, None, is_some, append-nil}
use Rattle.std.specs.declared.cmp.Ordering.{Ordering}
use Rattle.std.specs.declared.cmp.Ordering.TheVariants.{Less, Equal, Greater}
use Rattle.std.specs.Prelude.{IfSome, slice_index_or}
use Rattle.std.proofs.lemmas.List.Elements.{All-weaker}
use Rattle.std.specs.List.{filter, filter_map, flat_map, cons_option, list_any, All, Contains}
use Rattle.std.specs.Option.{option_map, option_map_or}
use Rattle.std.specs.FinMap as map_of
use Rattle.std.specs.FinMap.Entries.{by_order}
use Rattle.std.proofs.lemmas.List.Elements.{All-nil, All-cons, All-head, All-tail, All-append}
use Rattle.std.proofs.lemmas.List.Elements.{All-map, All-filter, All-contains_itself, filter_passes}
use Rattle.std.proofs.lemmas.List.Folds.{list_any_at}
use Rattle.rt_tree.specs.PathTree.{Path, PathTree, path_cmp, exact_paths, strip, strip-append, sub}
use Rattle.rt_tree.specs.Assignments.{is_at_or_above, Assignment}
use Rattle.rt_query.specs.Queries.{Query, is_filtered}
use Rattle.rt_query.specs.Needed.{needed}
use Rattle.rt_query.specs.Supply.{does_supply}
use Rattle.rt_tree.specs.TreeEq.{both_first, both_second}
use Rattle.rt_query.specs.QueryOrder.{query_cmp}
use Rattle.rt_cache.specs.Brought.{Window, Brought, nothing_brought, region_part, region_put}
use Rattle.rt_cache.specs.Brought.{window_of, window_pushed, windows_beside, windows_pushed, push_plain, push, knows}
use Rattle.rt_cache.specs.Canonical.{IsCanonical}
use Rattle.rt_cache.specs.Recover.{reaches, part_for, parts_of, with_regions, regions_kept}
use Rattle.rt_cache.specs.Recover.{is_among, in_query_order, cut, is_lost, heirs, handed_on, recover}
use Rattle.rt_cache.specs.Runs.{IsAllowed, after, after_all}
use Rattle.rt_cache.specs.declared.run.BroughtCall.{BroughtCall}
use Rattle.rt_cache.specs.declared.run.BroughtCall.TheVariants.{Put, Recover}
use Rattle.rt_cache.proofs.Among.{among}
use Rattle.rt_cache.proofs.Changes.{recover_stays}
use Rattle.rt_cache.proofs.Heirs.{left_forms, handed_heirs}
use Rattle.rt_cache.proofs.Listing.{listed_is}
use Rattle.rt_query.specs.laws.QueryOrder.{exact_queries}
use Rattle.rt_cache.proofs.Sources.{knows_by, knew_by}
use Rattle.rt_cache.proofs.Stays.{beside_all, push_stays}

abbrev Regions : Type 0
Regions = List (Path × PathTree)

abbrev Windows : Type 0
Windows = List (Query × Window)

-- a plain listen that is kept reaches the region
abbrev IsReached : List Query → Path × PathTree → Type 0
IsReached kept r = reaches kept r.0 ≡ true

-- the window is of a registered form
abbrev IsRegistered : List Query → Query × Window → Type 0
IsRegistered registered w = Contains registered w.0

-- ---- lists

filter_none : {X : Type 0} (p : X → Bool) (xs : List X) → All (λ x. p x ≡ false) xs → filter p xs ≡ []
filter_none p [] h = refl
filter_none p (x ∷ xs) h = ap (λ b. cond b (x ∷ filter p xs) (filter p xs))
    (All-head (λ y. p y ≡ false) x xs h) ∙ filter_none p xs (All-tail (λ y. p y ≡ false) x xs h)

filter_all : {X : Type 0} (p : X → Bool) (xs : List X) → All (λ x. p x ≡ true) xs → filter p xs ≡ xs
filter_all p [] h = refl
filter_all p (x ∷ xs) h = ap (λ b. cond b (x ∷ filter p xs) (filter p xs))
    (All-head (λ y. p y ≡ true) x xs h)
    ∙ ap (λ ys. x ∷ ys) (filter_all p xs (All-tail (λ y. p y ≡ true) x xs h))

-- what a list's elements give, where each that one gives has it
pub All-filter_map : {X Y : Type 0} (P : Y → Type 0) (f : X → Option Y) (xs : List X)
    → All (λ x. IfSome (f x) P) xs → All P (filter_map f xs)
All-filter_map P f [] h = All-nil P
All-filter_map P f (x ∷ xs) h =
    let rest = All-filter_map P f xs (All-tail (λ y. IfSome (f y) P) x xs h) in
    elim (f x) as (λ o. IfSome o P → All P (cons_option o (filter_map f xs))) [
      | None ↦ λ e. rest
      | Some y ↦ λ e. All-cons P y (filter_map f xs) e rest
    ] (All-head (λ y. IfSome (f y) P) x xs h)

pub All-flat_map : {X Y : Type 0} (P : Y → Type 0) (f : X → List Y) (xs : List X)
    → All (λ x. All P (f x)) xs → All P (flat_map f xs)
All-flat_map P f [] h = All-nil P
All-flat_map P f (x ∷ xs) h =
    All-append P (f x) (flat_map f xs) (All-head (λ y. All P (f y)) x xs h)
    (All-flat_map P f xs (All-tail (λ y. All P (f y)) x xs h))

-- all entries of a map keep what the new one has
pub All-put : {K X : Type 0} (order : K → K → Ordering)
    → ((j k : K) → order j k ≡ Equal → j ≡ k) → (P : K × X → Type 0) (k : K) (x : X) (es : List (K × X))
    → P (k, x) → All P es → All P (map_of.put order k x es)
All-put order exact P k x [] new h = All-cons P (k, x) [] new h
All-put order exact P k x (e ∷ es) new h =
    let head = All-head P e es h in
    let tail = All-tail P e es h in
    elim (order k e.0) as (λ o. order k e.0 ≡ o
    → All P (by_order o ((k, x) ∷ e ∷ es) ((e.0, x) ∷ es) (e ∷ map_of.put order k x es))) [
      | Less ↦ λ f. All-cons P (k, x) (e ∷ es) new h
      | Equal ↦ λ f. All-cons P (e.0, x) es (subst (λ j. P (j, x)) (exact k e.0 f) new) tail
      | Greater ↦ λ f. All-cons P e (map_of.put order k x es) head
          (All-put order exact P k x es new tail)
    ] refl

-- ---- regions

-- where all regions are reached they stay as they are
pub regions_stay : (kept : List Query) (rs : Regions) → All (IsReached kept) rs → regions_kept kept rs ≡ rs
regions_stay kept rs h =
    λ i. with_regions (filter_all (λ (r : Path × PathTree). reaches kept r.0) rs h i)
    (flat_map (parts_of kept) (filter_none (λ (r : Path × PathTree). not (reaches kept r.0)) rs
    (λ k d lt. ap not (h k d lt)) i))

above_itself : (p : Path) → is_at_or_above p p ≡ true
above_itself p = ap is_some (ap (strip p) (sym (append-nil p)) ∙ strip-append p [])

-- a plain listen reaches what is at or under its path
reached_by : (kept : List Query) (q : Query) (p : Path) → Contains kept q → is_filtered q ≡ false
    → is_at_or_above q.path p ≡ true → reaches kept p ≡ true
reached_by kept q p m e under =
    list_any_at (λ k. not (is_filtered k) && is_at_or_above k.path p) kept m.0 q m.1
    (ap (λ (k : Query). not (is_filtered k) && is_at_or_above k.path p) m.2
    ∙ (λ i. not (e i) && under i))

-- a part is at a plain listen that is kept
part_reached : (kept : List Query) (r : Path × PathTree) (k : Query) → Contains kept k
    → IfSome (part_for r k) (IsReached kept)
part_reached kept r k m =
    elim (is_filtered k) as (λ f. is_filtered k ≡ f → IfSome (cond f None
    (option_map (λ rest. (k.path, sub r.1 rest)) (strip r.0 k.path))) (IsReached kept)) [
      | true ↦ λ f. tt
      | false ↦ λ f. elim (strip r.0 k.path) as (λ o. IfSome
          (option_map (λ rest. (k.path, sub r.1 rest)) o) (IsReached kept)) [
            | None ↦ tt
            | Some rest ↦ reached_by kept k k.path m f (above_itself k.path)
          ]
    ] refl

-- what regions have and those that are put beside them
pub with_all : (P : Path × PathTree → Type 0) (rs more : Regions) → All P rs → All P more
    → All P (with_regions rs more)
with_all P rs [] h g = h
with_all P rs (r ∷ more) h g =
    with_all P (map_of.put path_cmp r.0 r.1 rs) more
    (All-put path_cmp exact_paths P r.0 r.1 rs (All-head P r more g) h) (All-tail P r more g)

-- what a change of cover leaves of regions, a plain listen that is kept reaches
pub left_reached : (registered kept : List Query) (b : Brought)
    → All (λ (r : Path × PathTree). reaches kept r.0 ≡ true) (recover registered kept b).regions
left_reached registered kept b =
    let lost : Regions = filter (λ r. not (reaches kept r.0)) b.regions in
    with_all (IsReached kept) (filter (λ r. reaches kept r.0) b.regions)
    (flat_map (parts_of kept) lost)
    (filter_passes (λ (r : Path × PathTree). reaches kept r.0) b.regions)
    (All-flat_map (IsReached kept) (parts_of kept) lost (λ k d lt. parts (slice_index_or lost k d)))
  where
    parts : (r : Path × PathTree) → All (IsReached kept) (parts_of kept r)
    parts r = All-filter_map (IsReached kept) (part_for r) kept
        (All-weaker (Contains kept) (λ k. IfSome (part_for r k) (IsReached kept)) (part_reached kept r)
        kept (All-contains_itself kept))

-- what all regions have and the pushed one, and what a put into a region keeps, all have after a push
pub pushed_all : (P : Path × PathTree → Type 0) (b : Brought) (a : Assignment) → P a
    → ((r : Path × PathTree) → P r → P (region_put a r)) → All P b.regions
    → All P (push_plain b a).regions
pushed_all P b a new keep h =
    elim (is_some (region_part b.regions a.0)) as (λ c.
    All P (cond c (record b { regions = map (region_put a) b.regions }) (record b {
      regions = map_of.put path_cmp a.0 a.1 (filter (λ r. not (is_at_or_above a.0 r.0)) b.regions);
      windows = filter (λ w. not (is_at_or_above a.0 (w.0).path)) b.windows;
    })).regions) [
      | true ↦ All-map P (region_put a) b.regions (λ k d lt.
          keep (slice_index_or b.regions k d) (h k d lt))
      | false ↦ All-put path_cmp exact_paths P a.0 a.1
          (filter (λ r. not (is_at_or_above a.0 r.0)) b.regions) new
          (All-filter (λ (r : Path × PathTree). not (is_at_or_above a.0 r.0)) P b.regions h)
    ]

-- a push on a listen that is kept keeps it so
pub pushed_reached : (kept : List Query) (q : Query) (b : Brought) (a : Assignment) → Contains kept q
    → is_at_or_above q.path a.0 ≡ true
    → All (λ (r : Path × PathTree). reaches kept r.0 ≡ true) b.regions
    → All (λ (r : Path × PathTree). reaches kept r.0 ≡ true) (push q b a).regions
pushed_reached kept q b a m under h = at (is_filtered q) refl
  where
    plainly : is_filtered q ≡ false → All (IsReached kept) (push_plain b a).regions
    plainly f = pushed_all (IsReached kept) b a (reached_by kept q a.0 m f under) (λ r e. e) h

    windowed : (o : Option Path) → All (IsReached kept) (option_map_or (λ rest.
        record b { windows = windows_pushed q rest a.1 b.windows }) o b).regions
    windowed None = h
    windowed (Some rest) = h

    pushed : Bool → Brought
    pushed f = cond f (option_map_or (λ rest.
        record b { windows = windows_pushed q rest a.1 b.windows }) (strip q.path a.0) b) (push_plain b a)

    at : (f : Bool) → is_filtered q ≡ f → All (IsReached kept) (push q b a).regions
    at true f = subst (λ c. All (IsReached kept) (pushed c).regions) (sym f) (windowed (strip q.path a.0))
    at false f = subst (λ c. All (IsReached kept) (pushed c).regions) (sym f) (plainly f)

-- ---- windows

pub listed_all : (P : Query × Window → Type 0) (ws : Windows) → All P ws → All P (in_query_order ws)
listed_all P [] h = h
listed_all P (w ∷ ws) h =
    All-put query_cmp exact_queries P w.0 w.1 (in_query_order ws) (All-head P w ws h)
    (listed_all P ws (All-tail P w ws h))

-- what a change of cover leaves of windows is of registered forms
pub left_registered : (registered kept : List Query) (b : Brought)
    → All (λ (w : Query × Window). Contains registered w.0) (recover registered kept b).windows
left_registered registered kept b =
    listed_all (IsRegistered registered) (handed_on b (heirs registered b left) ++ left.windows)
    (All-append (IsRegistered registered) (handed_on b (heirs registered b left)) left.windows
    (handed_heirs (Contains registered) registered b left (λ q heir. heir.registered))
    (left_forms registered kept b))
  where
    left : Brought
    left = cut registered kept b

-- what all windows have and the query's own new one, all have after a push
pub pushed_windows_all : (P : Query × Window → Type 0) (q : Query) (b : Brought) (a : Assignment)
    → ((rest : Path) → strip q.path a.0 ≡ Some rest
    → IfSome (window_pushed rest a.1 (window_of b.windows q)) (λ w. P (q, w)))
    → All P b.windows → All P (push q b a).windows
pushed_windows_all P q b a new h =
    elim (is_filtered q) as (λ f. All P (cond f (option_map_or (λ rest.
    record b { windows = windows_pushed q rest a.1 b.windows }) (strip q.path a.0) b)
    (push_plain b a)).windows) [
      | true ↦ windowed (strip q.path a.0) refl
      | false ↦ plainly
    ]
  where
    plainly : All P (push_plain b a).windows
    plainly =
        elim (is_some (region_part b.regions a.0)) as (λ c. All P (cond c
        (record b { regions = map (region_put a) b.regions }) (record b {
          regions = map_of.put path_cmp a.0 a.1 (filter (λ r. not (is_at_or_above a.0 r.0)) b.regions);
          windows = filter (λ w. not (is_at_or_above a.0 (w.0).path)) b.windows;
        })).windows) [
          | true ↦ h
          | false ↦ All-filter (λ (w : Query × Window). not (is_at_or_above a.0 (w.0).path)) P
              b.windows h
        ]

    replaced : (rest : Path) (o : Option Window) → IfSome o (λ w. P (q, w)) → All P
        (windows_beside q rest (option_map_or (λ w. map_of.put query_cmp q w b.windows) o b.windows))
    replaced rest None e = beside_all P q rest b.windows h
    replaced rest (Some w) e = beside_all P q rest (map_of.put query_cmp q w b.windows)
        (All-put query_cmp exact_queries P q w b.windows e h)

    windowed : (o : Option Path) → strip q.path a.0 ≡ o → All P (option_map_or (λ rest.
        record b { windows = windows_pushed q rest a.1 b.windows }) o b).windows
    windowed None e = h
    windowed (Some rest) e = replaced rest (window_pushed rest a.1 (window_of b.windows q)) (new rest e)

-- a push on a registered form keeps it so; its own window may be new
pub pushed_registered : (registered : List Query) (q : Query) (b : Brought) (a : Assignment)
    → Contains registered q → All (λ (w : Query × Window). Contains registered w.0) b.windows
    → All (λ (w : Query × Window). Contains registered w.0) (push q b a).windows
pushed_registered registered q b a m h =
    pushed_windows_all (IsRegistered registered) q b a
    (λ rest e. own (window_pushed rest a.1 (window_of b.windows q))) h
  where
    own : (o : Option Window) → IfSome o (λ w. IsRegistered registered (q, w))
    own None = tt
    own (Some w) = m

-- where a plain listen that is kept reaches each region, and each window is of a registered form, a
-- change of cover changes nothing but the registered forms
pub nothing_lost : (registered kept : List Query) (b : Brought) → IsCanonical b
    → All (λ (r : Path × PathTree). reaches kept r.0 ≡ true) b.regions
    → All (λ (w : Query × Window). Contains registered w.0) b.windows
    → recover registered kept b ≡ record b { registered = registered }
nothing_lost registered kept b h reached known =
    (λ i. record { registered = registered; regions = same i; windows = in_query_order (handed_on b (none i) ++ windows i) })
    ∙ (λ i. record { registered = registered; regions = b.regions; windows = listed i })
  where
    same : regions_kept kept b.regions ≡ b.regions
    same = regions_stay kept b.regions reached

    windows : filter (λ w. is_among registered w.0) b.windows ≡ b.windows
    windows = filter_all (λ (w : Query × Window). is_among registered w.0) b.windows (λ k d lt. among registered (slice_index_or b.windows k d).0 (known k d lt))

    listed : in_query_order b.windows ≡ b.windows
    listed = listed_is b.windows b.windows h.windows (λ x. refl)

    left : Brought
    left = cut registered kept b

    supply : Query → List (Query × Window) → Bool
    supply q ws = list_any (λ (w : Query × Window). does_supply w.0 q) ws

    still : (q : Query) → knows left q ≡ (is_some (region_part b.regions q.path) || supply q b.windows)
    still q = knows_by left q (left_forms registered kept b) ∙ (λ i. is_some (region_part (same i) q.path) || supply q (windows i))

    kept_all : (q : Query) → is_lost b left q ≡ false
    kept_all q = at (is_lost b left q) refl
      where
        at : (t : Bool) → is_lost b left q ≡ t → is_lost b left q ≡ false
        at false e = e
        at true e =
            let knew : knows b q ≡ true = both_second (is_filtered q) (knows b q) (both_first (is_filtered q && knows b q) (not (knows left q)) e) in
            let lost : not (knows left q) ≡ true = both_second (is_filtered q && knows b q) (not (knows left q)) e in
            absurd (true≢false (sym lost ∙ ap not (still q ∙ knew_by b q knew)))

    nothing : List Query
    nothing = []

    none : heirs registered b left ≡ nothing
    none = ap needed (filter_none (is_lost b left) registered (λ k d lt. kept_all (slice_index_or registered k d)))

-- ---- runs of calls

kept_canonical : (b : Brought) (calls : List BroughtCall) → All IsAllowed calls → IsCanonical b
    → IsCanonical (after_all b calls)
kept_canonical b [] ok h = h
kept_canonical b (c ∷ calls) ok h =
    kept_canonical (after b c) calls (All-tail IsAllowed c calls ok)
    (one c (All-head IsAllowed c calls ok))
  where
    one : (c : BroughtCall) → IsAllowed c → IsCanonical (after b c)
    one (Put q p t) a = push_stays q b (p, t) h
    one (Recover registered kept) a = recover_stays registered kept b a h

-- what calls leave is in order
pub calls_canonical : (calls : List BroughtCall) → All IsAllowed calls
    → IsCanonical (after_all nothing_brought calls)
calls_canonical calls ok = kept_canonical nothing_brought calls ok (record {
  regions = tt;
  apart = refl;
  windows = tt;
  filtered = All-nil (λ (w : Query × Window). is_filtered w.0 ≡ true);
})
