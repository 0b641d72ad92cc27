-- Pushes on what is held.
use Rattle.std.proofs.Common.{◌≡◌, ℕ, zero, suc, ◌<◌, arith, length, set, get_or, Bool, true, false, cond, not, ◌&&◌, ◌||◌, List, [], ◌∷◌, map, refl, sym, ap, subst, ◌∙◌, Option, Some, None, is_some, OnOk, OnErr}
use Rattle.std.specs.declared.result.Result.{Result}
use Rattle.std.specs.declared.result.Result.TheVariants.{Ok, Err}
use Rattle.std.specs.List.{filter}
use Rattle.std.specs.Option.{option_map, option_map_or}
use Rattle.std.specs.FinMap as map_of
use Rattle.rt_tree.specs.PathTree.{Path, PathTree, path_cmp, path_eq, strip, sub}
use Rattle.rt_tree.specs.Assignments.{Assignment, is_at_or_above, have_overlap}
use Rattle.rt_query.specs.Queries.{Query, is_filtered}
use Rattle.rt_cache.specs.Brought.{Brought, region_part, region_put, windows_pushed, window_of, push_plain, push, is_without_window}
use Rattle.rt_cache.specs.Canonical.{IsCanonical}
use Rattle.rt_cache.specs.Recover.{in_query_order}
use Rattle.rt_cache.specs.declared.regions.Region.{Region}
use Rattle.rt_cache.specs.declared.windows.Window as inside
use Rattle.rt_cache.specs.inside.Held.{pair_of, pairs_of, entries_of, held, pushed_windows, is_taken}
use Rattle.rt_cache.proofs.Places.{put_at, part_is}
use Rattle.rt_cache.proofs.Stays.{push_stays}

-- ---- on a plain listen

pub part_there : (t : PathTree) (o : Option Path) → is_some o ≡ true → is_some (option_map (sub t) o) ≡ true
part_there t None e = e
part_there t (Some x) e = refl

pub plain_inside : (fs : List Query) (rs : List Region) (ws : List inside.Window) (p : Path) (u : PathTree) (n : ℕ) (d new : Region) → have_overlap (pairs_of rs) ≡ false → n < length rs
    → is_at_or_above (get_or rs n d).path p ≡ true → pair_of new ≡ region_put (p, u) (pair_of (get_or rs n d))
    → held fs (set rs n new) ws ≡ push_plain (held fs rs ws) (p, u)
plain_inside fs rs ws p u n d new apart lt above e =
    let there : is_some (region_part (pairs_of rs) p) ≡ true = ap is_some (part_is p rs n d apart lt above) ∙ part_there _ (strip (get_or rs n d).path p) above in
    (λ i. record { registered = fs; regions = put_at p u rs n d new apart lt above e i; windows = in_query_order (entries_of ws) })
    ∙ sym (ap (λ b. cond b (record { registered = fs; regions = map (region_put (p, u)) (pairs_of rs); windows = in_query_order (entries_of ws) })
    (record { registered = fs; regions = map_of.put path_cmp p u (filter (λ r. not (is_at_or_above p r.0)) (pairs_of rs)); windows = filter (λ w. not (is_at_or_above p (w.0).path)) (in_query_order (entries_of ws)) })) there)

pub plain_outside : (fs : List Query) (rs vs : List Region) (ws xs : List inside.Window) (p : Path) (u : PathTree) → region_part (pairs_of rs) p ≡ None
    → pairs_of vs ≡ map_of.put path_cmp p u (filter (λ r. not (is_at_or_above p r.0)) (pairs_of rs))
    → in_query_order (entries_of xs) ≡ filter (λ w. not (is_at_or_above p (w.0).path)) (in_query_order (entries_of ws))
    → held fs vs xs ≡ push_plain (held fs rs ws) (p, u)
plain_outside fs rs vs ws xs p u none e f =
    (λ i. record { registered = fs; regions = e i; windows = f i })
    ∙ sym (ap (λ o. cond (is_some o) (record { registered = fs; regions = map (region_put (p, u)) (pairs_of rs); windows = in_query_order (entries_of ws) })
    (record { registered = fs; regions = map_of.put path_cmp p u (filter (λ r. not (is_at_or_above p r.0)) (pairs_of rs)); windows = filter (λ w. not (is_at_or_above p (w.0).path)) (in_query_order (entries_of ws)) })) none)

-- a region that is seen as before
pub pairs_of-set : (rs : List Region) (n : ℕ) (d new : Region) → n < length rs → pair_of new ≡ pair_of (get_or rs n d) → pairs_of (set rs n new) ≡ pairs_of rs
pairs_of-set [] n d new lt e = absurd (omega arith)
pairs_of-set (r ∷ rs) zero d new lt e = ap (λ x. x ∷ pairs_of rs) e
pairs_of-set (r ∷ rs) (suc n) d new lt e = ap (λ xs. pair_of r ∷ xs) (pairs_of-set rs n d new (omega arith) e)

-- ---- on any

pub push_of_plain : (q : Query) (b : Brought) (a : Assignment) → is_filtered q ≡ false → push_plain b a ≡ push q b a
push_of_plain q b a e = ap (λ f. cond f (option_map_or (λ rest. record b { windows = windows_pushed q rest a.1 b.windows }) (strip q.path a.0) b) (push_plain b a)) (sym e)

pub push_of_filtered : (q : Query) (b : Brought) (a : Assignment) → is_filtered q ≡ true → record b { windows = pushed_windows q a b.windows } ≡ push q b a
push_of_filtered q b a e =
    elim (strip q.path a.0) as (λ o. record b { windows = option_map_or (λ rest. windows_pushed q rest a.1 b.windows) o b.windows } ≡ option_map_or (λ rest. record b { windows = windows_pushed q rest a.1 b.windows }) o b) [
      | None ↦ refl
      | Some rest ↦ refl
    ]
    ∙ ap (λ f. cond f (option_map_or (λ rest. record b { windows = windows_pushed q rest a.1 b.windows }) (strip q.path a.0) b) (push_plain b a)) (sym e)

pub taken_filtered : (q : Query) (b : Brought) (a : Assignment) → is_filtered q ≡ true → is_taken q a.0 b.windows ≡ not (is_without_window b q a)
taken_filtered q b a e =
    both (path_eq q.path a.0) (is_some (window_of b.windows q)) ∙ ap (λ f. not (f && not (path_eq q.path a.0) && not (is_some (window_of b.windows q)))) (sym e)
  where
    both : (x y : Bool) → (x || y) ≡ not (true && not x && not y)
    both true true = refl
    both true false = refl
    both false true = refl
    both false false = refl

pub taken_plain : (q : Query) (b : Brought) (a : Assignment) → is_filtered q ≡ false → true ≡ not (is_without_window b q a)
taken_plain q b a e = ap (λ f. not (f && not (path_eq q.path a.0) && not (is_some (window_of b.windows q)))) (sym e)

-- after a push, or a refusal of it, it is in order as before
pub filtered_stays : {A E : Type 0} (r : Result A E) (fs : List Query) (rs : List Region) (ws xs : List inside.Window) (q : Query) (a : Assignment) → is_filtered q ≡ true
    → OnOk r (in_query_order (entries_of xs) ≡ pushed_windows q a (in_query_order (entries_of ws))) → OnErr r (in_query_order (entries_of xs) ≡ in_query_order (entries_of ws))
    → IsCanonical (held fs rs ws) → IsCanonical (held fs rs xs)
filtered_stays (Ok x) fs rs ws xs q a f ok err h =
    let pushed : held fs rs xs ≡ push q (held fs rs ws) a = (λ i. record { registered = fs; regions = pairs_of rs; windows = ok i }) ∙ push_of_filtered q (held fs rs ws) a f in
    subst IsCanonical (sym pushed) (push_stays q (held fs rs ws) a h)
filtered_stays (Err e) fs rs ws xs q a f ok err h = subst (λ es. IsCanonical (record { registered = fs; regions = pairs_of rs; windows = es })) (sym err) h

pub plain_stays : {A E : Type 0} (r : Result A E) (fs : List Query) (rs vs : List Region) (ws xs : List inside.Window) (q : Query) (a : Assignment) → is_filtered q ≡ false
    → OnOk r (held fs vs xs ≡ push_plain (held fs rs ws) a) → OnErr r (held fs vs xs ≡ held fs rs ws) → IsCanonical (held fs rs ws) → IsCanonical (held fs vs xs)
plain_stays (Ok x) fs rs vs ws xs q a f ok err h = subst IsCanonical (sym (ok ∙ push_of_plain q (held fs rs ws) a f)) (push_stays q (held fs rs ws) a h)
plain_stays (Err e) fs rs vs ws xs q a f ok err h = subst IsCanonical (sym err) h

-- a refused put leaves a region seen as before
pub refused_inside : {A E : Type 0} (r : Result A E) (fs : List Query) (rs : List Region) (ws : List inside.Window) (n : ℕ) (old new : Region) → n < length rs → old ≡ get_or rs n old
    → OnErr r (pair_of new ≡ pair_of old) → OnErr r (held fs (set rs n new) ws ≡ held fs rs ws)
refused_inside (Ok x) fs rs ws n old new lt at err = tt
refused_inside (Err e) fs rs ws n old new lt at err = λ i. record { registered = fs; regions = pairs_of-set rs n old new lt (err ∙ ap pair_of at) i; windows = in_query_order (entries_of ws) }

pub on_ok : {A E : Type 0} (r : Result A E) (P Q : Type 0) → OnOk r P → (P → Q) → OnOk r Q
on_ok (Ok x) P Q p f = f p
on_ok (Err e) P Q p f = tt
