-- What is brought stays in order, with no region at or above another.
use Rattle.std.proofs.Common.{◌≡◌, Bool, true, false, cond, not, ◌||◌, ◌&&◌, List, [], ◌∷◌, map, refl, sym, ap, subst, ◌∙◌, Some, None, is_some}
use mathlib.Core.Bool.{true≢false}
use lib.Dec.{T}
use Rattle.std.specs.declared.cmp.Ordering.TheVariants.{Less, Equal, Greater}
use Rattle.std.specs.Ordering.{is_lt}
use Rattle.std.specs.Option.{option_map, option_map_or, option_or}
use Rattle.std.specs.List.{filter, list_any, All}
use Rattle.std.specs.FinMap as map_of
use Rattle.std.specs.FinMap.Entries.{by_order, below_all, is_sorted-put, is_sorted-where_key}
use Rattle.std.proofs.lemmas.List.Elements.{All-cons, All-head, All-tail, All-filter}
use Rattle.rt_tree.specs.PathTree.{Path, PathTree, path_cmp, paths_total, strip, sub}
use Rattle.rt_tree.specs.Assignments.{Assignment, is_at_or_above, do_overlap, have_overlap}
use Rattle.rt_query.specs.Queries.{Query, is_filtered}
use Rattle.rt_query.specs.QueryOrder.{query_cmp}
use Rattle.rt_query.specs.QueryEq.{query_eq}
use Rattle.rt_query.specs.Supply.{does_supply}
use Rattle.rt_cache.specs.Brought.{Window, Brought, region_part, region_put, window_of, window_pushed, windows_beside, windows_pushed, push_plain, push}
use Rattle.rt_cache.specs.Canonical.{IsCanonical}
use Rattle.rt_cache.proofs.Places.{or_left, or_right, or_false}
use Rattle.rt_query.specs.laws.QueryOrder.{queries_total}

abbrev pub Regions : Type 0
Regions = List (Path × PathTree)

-- ---- a tree put into regions

below-put : (a : Assignment) (p : Path) (rs : Regions) → below_all path_cmp p (map (region_put a) rs) ≡ below_all path_cmp p rs
below-put a p [] = refl
below-put a p (r ∷ rs) = ap (λ b. is_lt (path_cmp p r.0) && b) (below-put a p rs)

sorted-put : (a : Assignment) (rs : Regions) → map_of.is_sorted path_cmp (map (region_put a) rs) ≡ map_of.is_sorted path_cmp rs
sorted-put a [] = refl
sorted-put a (r ∷ rs) = λ i. below-put a r.0 rs i && sorted-put a rs i

abbrev pub overlaps : Path → Regions → Bool
overlaps p rs = list_any (λ (b : Path × PathTree). do_overlap p b.0) rs

overlaps-put : (a : Assignment) (p : Path) (rs : Regions) → overlaps p (map (region_put a) rs) ≡ overlaps p rs
overlaps-put a p [] = refl
overlaps-put a p (r ∷ rs) = ap (λ b. do_overlap p r.0 || b) (overlaps-put a p rs)

overlap-put : (a : Assignment) (rs : Regions) → have_overlap (map (region_put a) rs) ≡ have_overlap rs
overlap-put a [] = refl
overlap-put a (r ∷ rs) = λ i. overlaps-put a r.0 rs i || overlap-put a rs i

-- ---- a region put in its place, and some taken out

pub overlaps-filter : (test : Path → Bool) (p : Path) (rs : Regions) → overlaps p rs ≡ false → overlaps p (filter (λ r. test r.0) rs) ≡ false
overlaps-filter test p [] e = refl
overlaps-filter test p (r ∷ rs) e =
    let rest = overlaps-filter test p rs (or_right (do_overlap p r.0) _ e) in
    elim (test r.0) as (λ b. overlaps p (cond b (r ∷ filter (λ x. test x.0) rs) (filter (λ x. test x.0) rs)) ≡ false) [
      | true ↦ or_false _ _ (or_left _ (overlaps p rs) e) rest
      | false ↦ rest
    ]

pub overlap-filter : (test : Path → Bool) (rs : Regions) → have_overlap rs ≡ false → have_overlap (filter (λ r. test r.0) rs) ≡ false
overlap-filter test [] e = refl
overlap-filter test (r ∷ rs) e =
    let rest = overlap-filter test rs (or_right (overlaps r.0 rs) _ e) in
    elim (test r.0) as (λ b. have_overlap (cond b (r ∷ filter (λ x. test x.0) rs) (filter (λ x. test x.0) rs)) ≡ false) [
      | true ↦ or_false _ _ (overlaps-filter test r.0 rs (or_left _ (have_overlap rs) e)) rest
      | false ↦ rest
    ]

or_swap : (a b : Bool) → (a || b) ≡ (b || a)
or_swap true true = refl
or_swap true false = refl
or_swap false true = refl
or_swap false false = refl

pub do_overlap-symm : (p q : Path) → do_overlap p q ≡ do_overlap q p
do_overlap-symm p q = or_swap (is_at_or_above p q) (is_at_or_above q p)

pub overlaps-insert : (x p : Path) (u : PathTree) (rs : Regions) → do_overlap x p ≡ false → overlaps x rs ≡ false → overlaps x (map_of.put path_cmp p u rs) ≡ false
overlaps-insert x p u [] e f = or_false _ _ e refl
overlaps-insert x p u (r ∷ rs) e f =
    elim (path_cmp p r.0) as (λ o. overlaps x (by_order o ((p, u) ∷ r ∷ rs) ((r.0, u) ∷ rs) (r ∷ map_of.put path_cmp p u rs)) ≡ false) [
      | Less ↦ or_false _ _ e f
      | Equal ↦ f
      | Greater ↦ or_false _ _ (or_left _ (overlaps x rs) f) (overlaps-insert x p u rs e (or_right (do_overlap x r.0) _ f))
    ]

pub overlap-insert : (p : Path) (u : PathTree) (rs : Regions) → overlaps p rs ≡ false → have_overlap rs ≡ false → have_overlap (map_of.put path_cmp p u rs) ≡ false
overlap-insert p u [] e f = refl
overlap-insert p u (r ∷ rs) e f =
    elim (path_cmp p r.0) as (λ o. have_overlap (by_order o ((p, u) ∷ r ∷ rs) ((r.0, u) ∷ rs) (r ∷ map_of.put path_cmp p u rs)) ≡ false) [
      | Less ↦ or_false _ _ e f
      | Equal ↦ f
      | Greater ↦ or_false _ _ (overlaps-insert r.0 p u rs (do_overlap-symm r.0 p ∙ or_left _ (overlaps p rs) e) (or_left _ (have_overlap rs) f)) (overlap-insert p u rs (or_right (do_overlap p r.0) _ e) (or_right (overlaps r.0 rs) _ f))
    ]

-- ---- a new region

none_seen : (p : Path) (r : Path × PathTree) (rs : Regions) → is_some (region_part (r ∷ rs) p) ≡ false → is_at_or_above r.0 p ≡ false
none_seen p r rs e =
    elim (strip r.0 p) as (λ o. is_some (option_or (option_map (sub r.1) o) (region_part rs p)) ≡ false → is_some o ≡ false) [
      | None ↦ λ f. refl
      | Some x ↦ λ f. f
    ] e

none_seen_behind : (p : Path) (r : Path × PathTree) (rs : Regions) → is_some (region_part (r ∷ rs) p) ≡ false → is_some (region_part rs p) ≡ false
none_seen_behind p r rs e =
    elim (strip r.0 p) as (λ o. is_some (option_or (option_map (sub r.1) o) (region_part rs p)) ≡ false → is_some (region_part rs p) ≡ false) [
      | None ↦ λ f. f
      | Some x ↦ λ f. absurd (true≢false f)
    ] e

-- a region that takes in those under it overlaps with none of the others
alone : (p : Path) (rs : Regions) → is_some (region_part rs p) ≡ false → overlaps p (filter (λ r. not (is_at_or_above p r.0)) rs) ≡ false
alone p [] e = refl
alone p (r ∷ rs) e =
    let rest = alone p rs (none_seen_behind p r rs e) in
    elim (is_at_or_above p r.0) as (λ b. is_at_or_above p r.0 ≡ b → overlaps p (cond (not b) (r ∷ filter (λ x. not (is_at_or_above p x.0)) rs) (filter (λ x. not (is_at_or_above p x.0)) rs)) ≡ false) [
      | true ↦ λ f. rest
      | false ↦ λ f. or_false _ _ (or_false _ _ f (none_seen p r rs e)) rest
    ] refl

-- ---- windows

abbrev pub Windows : Type 0
Windows = List (Query × Window)

abbrev pub AreFiltered : Windows → Type 0
AreFiltered ws = All (λ (w : Query × Window). is_filtered w.0 ≡ true) ws

pub filtered-put : (q : Query) (w : Window) (ws : Windows) → is_filtered q ≡ true → AreFiltered ws → AreFiltered (map_of.put query_cmp q w ws)
filtered-put q w [] e h = All-cons (λ (x : Query × Window). is_filtered x.0 ≡ true) (q, w) [] e h
filtered-put q w (v ∷ vs) e h =
    let P : Query × Window → Type 0 = λ x. is_filtered x.0 ≡ true in
    elim (query_cmp q v.0) as (λ o. AreFiltered (by_order o ((q, w) ∷ v ∷ vs) ((v.0, w) ∷ vs) (v ∷ map_of.put query_cmp q w vs))) [
      | Less ↦ All-cons P (q, w) (v ∷ vs) e h
      | Equal ↦ All-cons P (v.0, w) vs (All-head P v vs h) (All-tail P v vs h)
      | Greater ↦ All-cons P v (map_of.put query_cmp q w vs) (All-head P v vs h) (filtered-put q w vs e (All-tail P v vs h))
    ]

-- ---- pushes

plain_stays : (b : Brought) (a : Assignment) → IsCanonical b → IsCanonical (push_plain b a)
plain_stays b a h = at (is_some (region_part b.regions a.0)) refl
  where
    at : (o : Bool) → is_some (region_part b.regions a.0) ≡ o → IsCanonical (push_plain b a)
    at true e =
        subst (λ c. IsCanonical (cond c (record b { regions = map (region_put a) b.regions }) (record b { regions = map_of.put path_cmp a.0 a.1 (filter (λ r. not (is_at_or_above a.0 r.0)) b.regions); windows = filter (λ w. not (is_at_or_above a.0 (w.0).path)) b.windows }))) (sym e)
        (record {
          regions = subst T (sym (sorted-put a b.regions)) h.regions;
          apart = overlap-put a b.regions ∙ h.apart;
          windows = h.windows;
          filtered = h.filtered;
        })
    at false e =
        subst (λ c. IsCanonical (cond c (record b { regions = map (region_put a) b.regions }) (record b { regions = map_of.put path_cmp a.0 a.1 (filter (λ r. not (is_at_or_above a.0 r.0)) b.regions); windows = filter (λ w. not (is_at_or_above a.0 (w.0).path)) b.windows }))) (sym e)
        (record {
          regions = is_sorted-put path_cmp paths_total a.0 a.1 _ (is_sorted-where_key path_cmp (λ p. not (is_at_or_above a.0 p)) b.regions h.regions);
          apart = overlap-insert a.0 a.1 _ (alone a.0 b.regions e) (overlap-filter (λ p. not (is_at_or_above a.0 p)) b.regions h.apart);
          windows = is_sorted-where_key query_cmp (λ q. not (is_at_or_above a.0 q.path)) b.windows h.windows;
          filtered = All-filter (λ (w : Query × Window). not (is_at_or_above a.0 (w.0).path)) (λ (w : Query × Window). is_filtered w.0 ≡ true) b.windows h.filtered;
        })

-- those that a push leaves beside its query are in order, and have what all have
beside_sorted : (q : Query) (rest : Path) (ws : Windows) → T (map_of.is_sorted query_cmp ws) → T (map_of.is_sorted query_cmp (windows_beside q rest ws))
beside_sorted q [] ws h = is_sorted-where_key query_cmp (λ x. query_eq x q || not (does_supply q x)) ws h
beside_sorted q (k ∷ rest) ws h = h

pub beside_all : (P : Query × Window → Type 0) (q : Query) (rest : Path) (ws : Windows) → All P ws → All P (windows_beside q rest ws)
beside_all P q [] ws h = All-filter (λ (w : Query × Window). query_eq w.0 q || not (does_supply q w.0)) P ws h
beside_all P q (k ∷ rest) ws h = h

-- what is put for a filtered query
pushed_stays : (q : Query) (b : Brought) (rest : Path) (u : PathTree) → is_filtered q ≡ true → IsCanonical b → IsCanonical (record b { windows = windows_pushed q rest u b.windows })
pushed_stays q b rest u f h =
    elim (window_pushed rest u (window_of b.windows q)) as (λ o. IsCanonical (record b { windows = windows_beside q rest (option_map_or (λ w. map_of.put query_cmp q w b.windows) o b.windows) })) [
      | None ↦ left b.windows h.windows h.filtered
      | Some w ↦ left (map_of.put query_cmp q w b.windows) (is_sorted-put query_cmp queries_total q w b.windows h.windows) (filtered-put q w b.windows f h.filtered)
    ]
  where
    left : (ws : Windows) → T (map_of.is_sorted query_cmp ws) → AreFiltered ws → IsCanonical (record b { windows = windows_beside q rest ws })
    left ws sorted filtered = record {
      regions = h.regions;
      apart = h.apart;
      windows = beside_sorted q rest ws sorted;
      filtered = beside_all (λ (w : Query × Window). is_filtered w.0 ≡ true) q rest ws filtered;
    }

pub push_stays : (q : Query) (b : Brought) (a : Assignment) → IsCanonical b → IsCanonical (push q b a)
push_stays q b a h = at (is_filtered q) refl
  where
    at : (f : Bool) → is_filtered q ≡ f → IsCanonical (push q b a)
    at false e = subst (λ f. IsCanonical (cond f (option_map_or (λ rest. record b { windows = windows_pushed q rest a.1 b.windows }) (strip q.path a.0) b) (push_plain b a))) (sym e) (plain_stays b a h)
    at true e =
        subst (λ f. IsCanonical (cond f (option_map_or (λ rest. record b { windows = windows_pushed q rest a.1 b.windows }) (strip q.path a.0) b) (push_plain b a))) (sym e)
        (elim (strip q.path a.0) as (λ o. IsCanonical (option_map_or (λ rest. record b { windows = windows_pushed q rest a.1 b.windows }) o b)) [
          | None ↦ h
          | Some rest ↦ pushed_stays q b rest a.1 e h
        ])
