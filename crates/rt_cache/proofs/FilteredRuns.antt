-- What any calls leave for a query, told by the calls alone.
use Rattle.std.proofs.Common.{◌≡◌, ◌⊎◌, inl, inr, slice_index_or, Bool, true, false, cond, not, ◌||◌, ◌&&◌, List, [], ◌∷◌, ◌++◌, append-nil, append_assoc, map, refl, sym, ap, subst, ◌∙◌, Option, Some, None, is_some}
use mathlib.Core.Bool.{true≢false}
use Rattle.std.specs.Cmp.{eq_by_cmp_equiv}
use Rattle.std.specs.List.{All, Contains, filter, find, fold, list_any}
use Rattle.std.specs.Prelude.{IfSome}
use Rattle.std.specs.Option.{option_map, option_map_or, option_or, option_and_then}
use Rattle.std.specs.FinMap as map_of
use Rattle.std.specs.FinMap.Entries.{find-put, find-where_key}
use Rattle.std.proofs.lemmas.List.Elements.{All-cons, All-nil, Contains-get_or}
use Rattle.rt_tree.specs.PathTree.{Path, PathTree, path_cmp, path_eq, strip, sub, put, children_alone}
use Rattle.rt_tree.specs.Assignments.{Assignment, is_at_or_above}
use Rattle.rt_tree.specs.TreeEq.{both_first, both_second}
use Rattle.rt_query.specs.Queries.{Query, is_filtered}
use Rattle.rt_query.specs.QueryEq.{query_eq}
use Rattle.rt_query.specs.Supply.{does_supply}
use Rattle.rt_query.specs.laws.NeededLaws.{supplies_itself}
use Rattle.rt_query.specs.laws.QueryEq.{query_eq_tells}
use Rattle.rt_query.specs.laws.SupplyLaws.{form_filtered, supplied_has_path}
use Rattle.rt_query.specs.laws.QueryOrder.{queries_total, exact_queries, tie_is_eq}
use Rattle.rt_query.specs.QueryOrder.{query_cmp}
use Rattle.rt_cache.specs.Brought.{Window, Brought, Base, nothing_brought, is_supplied, region_part, region_put, window_of, window_pushed, windows_beside, windows_pushed, base, push_plain, push}
use Rattle.rt_cache.specs.Canonical.{IsCanonical, Belongs}
use Rattle.rt_cache.specs.Recover.{reaches, is_among, cut, is_lost, heirs, window_left, handed_on, recover}
use Rattle.rt_cache.specs.Runs.{IsAllowed, AreAllowed, after, after_all}
use Rattle.rt_cache.specs.laws.Runs.{pushed, is_known}
use Rattle.rt_cache.specs.laws.Windows.{Held, with_forms, registered_by, may_show, shown_from, seen, loses, inherits, children_of, begun, ends, with_own, with_all_own, with_pushed, held_after, held_from, held_by, lets_be, BaseIsSeen, SourceIsHolder, HeldSinceBegun, HeldIsBegun, HandedOnIsSeen, SuppliedHasTheSame}
use Rattle.rt_cache.specs.inside.Held.{pushed_windows}
use Rattle.rt_cache.specs.inside.Sources.{source_among}
use Rattle.rt_cache.specs.declared.run.BroughtCall.{BroughtCall}
use Rattle.rt_cache.specs.declared.run.BroughtCall.TheVariants.{Put, Recover}
use Rattle.rt_cache.proofs.Among.{any_with, any_passing, any_agreeing, among, of_among}
use Rattle.rt_cache.proofs.Belonging.{have_forms, nothing_belongs, push_registered, push_belongs, recover_belongs}
use Rattle.rt_cache.proofs.Changes.{recover_stays}
use Rattle.rt_cache.proofs.Cuts.{any_above, part_any}
use Rattle.rt_cache.proofs.Heirs.{left_forms}
use Rattle.rt_cache.proofs.Keeping.{find-both, find-for_each}
use Rattle.rt_cache.proofs.Listing.{find-listed}
use Rattle.rt_cache.proofs.Places.{or_left, or_right, or_true, or_false, unseen}
use Rattle.rt_cache.proofs.Pushes.{push_of_plain, push_of_filtered}
use Rattle.rt_cache.proofs.RunLaws.{never, any_under, run_known, step_known, held_part, nothing_canonical}
use Rattle.rt_cache.proofs.Sources.{knows_by, of_part, of_window, region_base, window_base, own_source, has_it, find_passes, found_all, is_some-find, supplier_found}
use Rattle.rt_cache.proofs.Stays.{Windows, push_stays}
use Rattle.rt_cache.proofs.WindowPushes.{pushed_own, below_path}

-- ---- tests

not_true : (b : Bool) → not b ≡ true → b ≡ false
not_true true e = sym e
not_true false e = refl

not_false : (b : Bool) → not b ≡ false → b ≡ true
not_false true e = refl
not_false false e = sym e

-- ---- one window, behind a call

found_put : (q r : Query) (w : Window) (ws : Windows)
    → window_of (map_of.put query_cmp r w ws) q ≡ cond (query_eq r q) (Some w) (window_of ws q)
found_put q r w ws =
    find-put query_cmp queries_total q r w ws
    ∙ ap (λ b. cond b (Some w) (window_of ws q)) ((eq_by_cmp_equiv queries_total).symm q r ∙ tie_is_eq r q)

found_own : (q : Query) (w : Window) (ws : Windows) → window_of (map_of.put query_cmp q w ws) q ≡ Some w
found_own q w ws = found_put q q w ws ∙ ap (λ b. cond b (Some w) (window_of ws q)) ((query_eq_tells q q).1 refl)

-- what a push leaves beside its query is found as before
pub beside_found : (q r : Query) (rest : Path) (ws : Windows) → (query_eq q r || not (does_supply r q)) ≡ true
    → window_of (windows_beside r rest ws) q ≡ window_of ws q
beside_found q r [] ws e =
    find-where_key query_cmp (λ x. query_eq x r || not (does_supply r x)) q (λ x t. ap (λ y. query_eq y r || not (does_supply r y)) (sym (exact_queries q x t))) ws
    ∙ ap (λ b. cond b (window_of ws q) None) e
beside_found q r (k ∷ rest) ws e = refl

-- a push on another filtered query, that does not supply it
other_pushed : (q r : Query) (p : Path) (u : PathTree) (ws : Windows) → query_eq r q ≡ false → does_supply r q ≡ false
    → window_of (pushed_windows r (p, u) ws) q ≡ window_of ws q
other_pushed q r p u ws e apart = at (strip r.path p)
  where
    one : (rest : Path) (o : Option Window) → window_of (windows_beside r rest (option_map_or (λ w. map_of.put query_cmp r w ws) o ws)) q ≡ window_of ws q
    one rest None = beside_found q r rest ws (or_true (query_eq q r) _ (ap not apart))
    one rest (Some w) = beside_found q r rest (map_of.put query_cmp r w ws) (or_true (query_eq q r) _ (ap not apart)) ∙ found_put q r w ws ∙ ap (λ b. cond b (Some w) (window_of ws q)) e

    at : (o : Option Path) → window_of (option_map_or (λ rest. windows_pushed r rest u ws) o ws) q ≡ window_of ws q
    at None = refl
    at (Some rest) = one rest (window_pushed rest u (window_of ws r))

-- the window with a tree put below it
abbrev put_below : PathTree → Option Path → Window → Window
put_below u o w = record w { children = option_map_or (λ rest. put w.children rest u) o w.children }

same_window : (o : Option Window) → o ≡ option_map (λ (w : Window). w) o
same_window None = refl
same_window (Some w) = refl

-- one on the query itself, at its path and below
own_replaced : (q : Query) (p : Path) (u : PathTree) (ws : Windows) → path_eq p q.path ≡ true
    → window_of (pushed_windows q (p, u) ws) q ≡ Some (record { children = children_alone u; is_whole = false })
own_replaced q p u ws e =
    ap (λ vs. window_of vs q) (pushed_own q p u ws e)
    ∙ beside_found q q [] (map_of.put query_cmp q (record { children = children_alone u; is_whole = false }) ws) (ap (λ b. b || not (does_supply q q)) ((query_eq_tells q q).1 refl))
    ∙ found_own q _ ws

own_below : (q : Query) (p : Path) (u : PathTree) (ws : Windows) → path_eq p q.path ≡ false
    → window_of (pushed_windows q (p, u) ws) q
    ≡ option_map (put_below u (strip q.path p)) (window_of ws q)
own_below q p u ws e = at (strip q.path p) refl
  where
    one : (k : List _) (rest : Path) (o : Option Window) → window_of ws q ≡ o
        → window_of (option_map_or (λ w. map_of.put query_cmp q w ws) (window_pushed (k ∷ rest) u o) ws) q
        ≡ option_map (put_below u (Some (k ∷ rest))) o
    one k rest None f = f
    one k rest (Some w) f = found_own q _ ws

    at : (o : Option Path) → strip q.path p ≡ o
        → window_of (option_map_or (λ rest. windows_pushed q rest u ws) o ws) q
        ≡ option_map (put_below u o) (window_of ws q)
    at None s = same_window (window_of ws q)
    at (Some []) s = absurd (below_path q p e s)
    at (Some (k ∷ rest)) s = one k rest (window_of ws q) refl

-- a push on a plain listen that is not at or above the query's path
plain_kept : (q : Query) (b : Brought) (a : Assignment) → is_at_or_above a.0 q.path ≡ false
    → window_of (push_plain b a).windows q ≡ window_of b.windows q
plain_kept q b a e =
    elim (is_some (region_part b.regions a.0)) as (λ o. window_of (cond o (record b { regions = map (region_put a) b.regions })
    (record b { regions = map_of.put path_cmp a.0 a.1 (filter (λ r. not (is_at_or_above a.0 r.0)) b.regions); windows = filter (λ w. not (is_at_or_above a.0 (w.0).path)) b.windows })).windows q ≡ window_of b.windows q) [
      | true ↦ refl
      | false ↦ find-where_key query_cmp (λ r. not (is_at_or_above a.0 r.path)) q (λ x f. ap (λ r. not (is_at_or_above a.0 r.path)) (sym (exact_queries q x f))) b.windows
          ∙ ap (λ t. cond (not t) (window_of b.windows q) None) e
    ]

-- ---- what a query holds

abbrev own : Brought → Held
own b q = option_map of_window (window_of b.windows q)

some_mapped : {X Y : Type 0} (f : X → Y) (o : Option X) → is_some (option_map f o) ≡ is_some o
some_mapped f None = refl
some_mapped f (Some x) = refl

mapped_same : (o : Option Base) → option_map (λ (y : Base). record y { tree = y.tree }) o ≡ o
mapped_same None = refl
mapped_same (Some y) = refl

-- a plain query holds nothing
plain_holds : (q : Query) (b : Brought) → IsCanonical b → is_filtered q ≡ false → window_of b.windows q ≡ None
plain_holds q b h e = at (window_of b.windows q) refl
  where
    at : (o : Option Window) → window_of b.windows q ≡ o → window_of b.windows q ≡ None
    at None t = t
    at (Some w) t = absurd (true≢false (sym (found_all (λ x. is_filtered x ≡ true) q b.windows h.filtered (ap is_some t)) ∙ e))

-- nor does one under a region
covered_holds : (q : Query) (b : Brought) → Belongs b → any_above q.path b.regions ≡ true → window_of b.windows q ≡ None
covered_holds q b h e = at (window_of b.windows q) refl
  where
    at : (o : Option Window) → window_of b.windows q ≡ o → window_of b.windows q ≡ None
    at None t = t
    at (Some w) t = absurd (true≢false (sym e ∙ found_all (λ x. any_above x.path b.regions ≡ false) q b.windows h.beside (ap is_some t)))

-- ---- a push

-- a plain query is not a filtered one
not_same : (q r : Query) → is_filtered q ≡ true → is_filtered r ≡ false → query_eq r q ≡ false
not_same q r f g = never (query_eq r q) (λ e. sym g ∙ ap is_filtered ((query_eq_tells r q).0 e) ∙ f)

not_back : (q r : Query) → query_eq r q ≡ false → query_eq q r ≡ false
not_back q r e = never (query_eq q r) (λ t. sym e ∙ (query_eq_tells r q).1 (sym ((query_eq_tells q r).0 t)))

-- one on a plain listen at or above its path
plain_gone : (q : Query) (b : Brought) (a : Assignment) → Belongs b → is_at_or_above a.0 q.path ≡ true
    → window_of (push_plain b a).windows q ≡ None
plain_gone q b a h e =
    elim (is_some (region_part b.regions a.0)) as (λ o. is_some (region_part b.regions a.0) ≡ o → window_of (cond o (record b { regions = map (region_put a) b.regions })
    (record b { regions = map_of.put path_cmp a.0 a.1 (filter (λ r. not (is_at_or_above a.0 r.0)) b.regions); windows = filter (λ w. not (is_at_or_above a.0 (w.0).path)) b.windows })).windows q ≡ None) [
      | true ↦ λ t. covered_holds q b h (any_under a.0 q.path b.regions (sym (part_any a.0 b.regions) ∙ t) e)
      | false ↦ λ t. find-where_key query_cmp (λ r. not (is_at_or_above a.0 r.path)) q (λ x f. ap (λ r. not (is_at_or_above a.0 r.path)) (sym (exact_queries q x f))) b.windows
          ∙ ap (λ t. cond (not t) (window_of b.windows q) None) e
    ] refl

-- one at its path on another range that takes it in
other_gone : (q r : Query) (p : Path) (u : PathTree) (ws : Windows) → query_eq r q ≡ false → does_supply r q ≡ true → path_eq p r.path ≡ true
    → window_of (pushed_windows r (p, u) ws) q ≡ None
other_gone q r p u ws e s t =
    ap (λ vs. window_of vs q) (pushed_own r p u ws t)
    ∙ find-where_key query_cmp (λ x. query_eq x r || not (does_supply r x)) q (λ x f. ap (λ y. query_eq y r || not (does_supply r y)) (sym (exact_queries q x f)))
    (map_of.put query_cmp r (record { children = children_alone u; is_whole = false }) ws)
    ∙ (λ i. cond (not_back q r e i || not (s i)) (window_of (map_of.put query_cmp r (record { children = children_alone u; is_whole = false }) ws) q) None)

-- one below another's path
other_below : (q r : Query) (p : Path) (u : PathTree) (ws : Windows) → query_eq r q ≡ false → path_eq p r.path ≡ false
    → window_of (pushed_windows r (p, u) ws) q ≡ window_of ws q
other_below q r p u ws e t = at (strip r.path p) refl
  where
    one : (k : List _) (rest : Path) (o : Option Window)
        → window_of (option_map_or (λ w. map_of.put query_cmp r w ws) (window_pushed (k ∷ rest) u o) ws) q ≡ window_of ws q
    one k rest None = refl
    one k rest (Some w) = found_put q r _ ws ∙ ap (λ b. cond b (Some (record w { children = put w.children (k ∷ rest) u })) (window_of ws q)) e

    at : (o : Option Path) → strip r.path p ≡ o → window_of (option_map_or (λ rest. windows_pushed r rest u ws) o ws) q ≡ window_of ws q
    at None s = refl
    at (Some []) s = absurd (below_path r p t s)
    at (Some (k ∷ rest)) s = one k rest (window_of ws r)

other_kept : (q r : Query) (p : Path) (u : PathTree) (ws : Windows) → query_eq r q ≡ false → (does_supply r q && path_eq p r.path) ≡ false
    → window_of (pushed_windows r (p, u) ws) q ≡ window_of ws q
other_kept q r p u ws e t = at (does_supply r q) refl
  where
    at : (s : Bool) → does_supply r q ≡ s → window_of (pushed_windows r (p, u) ws) q ≡ window_of ws q
    at true s = other_below q r p u ws e (ap (λ x. x && path_eq p r.path) (sym s) ∙ t)
    at false s = other_pushed q r p u ws e s

windows_after : (q r : Query) (b : Brought) (a : Assignment) → is_filtered r ≡ true
    → window_of (push r b a).windows q ≡ window_of (pushed_windows r a b.windows) q
windows_after q r b a f = ap (λ (x : Brought). window_of x.windows q) (sym (push_of_filtered r b a f))

-- ---- what it holds behind a push

module _ (before : List BroughtCall) (b : Brought) (q r : Query) (p : Path) (u : PathTree) (f : is_filtered q ≡ true) where
  -- what the push begins, what it ends, and what is put below
  by : Bool → Bool → Bool → Option Base
  by mine end same =
      option_or (cond mine (Some (record { tree = children_alone u; whole = false })) None)
      (cond end None (option_map (λ (x : Base). record x { tree = cond same (option_map_or (λ rest. put x.tree rest u) (strip q.path p) x.tree) x.tree }) (own b q)))

  told_by : (mine end same : Bool) → (is_filtered q && query_eq r q && path_eq p q.path) ≡ mine
      → cond (is_filtered r) (does_supply r q && path_eq p r.path) (is_at_or_above p q.path) ≡ end → query_eq r q ≡ same
      → by mine end same ≡ held_after before (own b) (Put r p u) q
  unfolding by
  told_by mine end same m e s = λ i. by (sym m i) (sym e i) (sym s i)

  lets : by false false false ≡ own b q
  unfolding by
  lets = mapped_same (own b q)

  -- nothing of another's begins for it
  not_mine : query_eq r q ≡ false → (is_filtered q && query_eq r q && path_eq p q.path) ≡ false
  not_mine e = λ i. f i && e i && path_eq p q.path

  held_plain : Belongs b → is_filtered r ≡ false → own (push r b (p, u)) q ≡ held_after before (own b) (Put r p u) q
  unfolding by
  held_plain h g = at (is_at_or_above p q.path) refl
    where
      other : query_eq r q ≡ false
      other = not_same q r f g

      plainly : own (push r b (p, u)) q ≡ own (push_plain b (p, u)) q
      plainly = ap (λ (x : Brought). own x q) (sym (push_of_plain r b (p, u) g))

      at : (t : Bool) → is_at_or_above p q.path ≡ t → own (push r b (p, u)) q ≡ held_after before (own b) (Put r p u) q
      at true t =
          plainly ∙ ap (option_map of_window) (plain_gone q b (p, u) h t)
          ∙ told_by false true false (not_mine other) (λ i. cond (g i) (does_supply r q && path_eq p r.path) (t i)) other
      at false t =
          plainly ∙ ap (option_map of_window) (plain_kept q b (p, u) t) ∙ sym lets
          ∙ told_by false false false (not_mine other) (λ i. cond (g i) (does_supply r q && path_eq p r.path) (t i)) other

  held_other : is_filtered r ≡ true → query_eq r q ≡ false → own (push r b (p, u)) q ≡ held_after before (own b) (Put r p u) q
  unfolding by
  held_other g other = at (does_supply r q && path_eq p r.path) refl
    where
      at : (t : Bool) → (does_supply r q && path_eq p r.path) ≡ t → own (push r b (p, u)) q ≡ held_after before (own b) (Put r p u) q
      at true t =
          ap (option_map of_window) (windows_after q r b (p, u) g
          ∙ other_gone q r p u b.windows other (both_first (does_supply r q) (path_eq p r.path) t) (both_second (does_supply r q) (path_eq p r.path) t))
          ∙ told_by false true false (not_mine other) (λ i. cond (g i) (t i) (is_at_or_above p q.path)) other
      at false t =
          ap (option_map of_window) (windows_after q r b (p, u) g ∙ other_kept q r p u b.windows other t) ∙ sym lets
          ∙ told_by false false false (not_mine other) (λ i. cond (g i) (t i) (is_at_or_above p q.path)) other

  put_held : (o : Option Window) → option_map of_window (option_map (put_below u (strip q.path p)) o)
      ≡ option_map (λ (x : Base). record x { tree = option_map_or (λ rest. put x.tree rest u) (strip q.path p) x.tree }) (option_map of_window o)
  put_held None = refl
  put_held (Some w) = refl

  held_own : is_filtered r ≡ true → query_eq r q ≡ true → own (push r b (p, u)) q ≡ held_after before (own b) (Put r p u) q
  unfolding by
  held_own g same = at (path_eq p q.path) refl
    where
      m : r ≡ q
      m = (query_eq_tells r q).0 same

      owned : own (push r b (p, u)) q ≡ option_map of_window (window_of (pushed_windows q (p, u) b.windows) q)
      owned = ap (option_map of_window) (windows_after q r b (p, u) g ∙ ap (λ x. window_of (pushed_windows x (p, u) b.windows) q) m)

      none : (x : Bool) → (x && false) ≡ false
      none true = refl
      none false = refl

      at : (t : Bool) → path_eq p q.path ≡ t → own (push r b (p, u)) q ≡ held_after before (own b) (Put r p u) q
      at true t =
          owned ∙ ap (option_map of_window) (own_replaced q p u b.windows t)
          ∙ told_by true _ true (λ i. f i && same i && t i) refl same
      at false t =
          owned ∙ ap (option_map of_window) (own_below q p u b.windows t) ∙ put_held (window_of b.windows q)
          ∙ told_by false false true (λ i. f i && same i && t i)
          ((λ i. cond (g i) (does_supply r q && (ap (λ (x : Query). path_eq p x.path) m ∙ t) i) (is_at_or_above p q.path)) ∙ none (does_supply r q)) same

  held_put : Belongs b → own (push r b (p, u)) q ≡ held_after before (own b) (Put r p u) q
  held_put h = at (is_filtered r) refl (query_eq r q) refl
    where
      at : (g : Bool) → is_filtered r ≡ g → (s : Bool) → query_eq r q ≡ s → own (push r b (p, u)) q ≡ held_after before (own b) (Put r p u) q
      at false g s t = held_plain h g
      at true g true t = held_own g t
      at true g false t = held_other g t

-- ---- calls

-- each call is allowed by itself
pub allowed_each : (b : Brought) (calls : List BroughtCall) → AreAllowed b calls → All IsAllowed calls
allowed_each b [] ok = All-nil IsAllowed
allowed_each b (c ∷ cs) ok = All-cons IsAllowed c cs ok.0 (allowed_each (after b c) cs ok.2)

after_append : (xs ys : List BroughtCall) (b : Brought) → after_all b (xs ++ ys) ≡ after_all (after_all b xs) ys
after_append [] ys b = refl
after_append (x ∷ xs) ys b = after_append xs ys (after b x)

allowed_front : (b : Brought) (xs ys : List BroughtCall) → AreAllowed b (xs ++ ys) → AreAllowed b xs
allowed_front b [] ys ok = tt
allowed_front b (x ∷ xs) ys ok = (ok.0, ok.1, allowed_front (after b x) xs ys ok.2)

-- what holds behind any calls
holds_all : (calls : List BroughtCall) (b : Brought) → AreAllowed b calls → IsCanonical b → Belongs b → IsCanonical (after_all b calls) × Belongs (after_all b calls)
holds_all [] b ok c h = (c, h)
holds_all (Put r p u ∷ cs) b ok c h = holds_all cs (push r b (p, u)) ok.2 (push_stays r b (p, u) c) (push_belongs r b (p, u) c ok.1 (ok.0).0 h)
holds_all (Recover registered kept ∷ cs) b ok c h = holds_all cs (recover registered kept b) ok.2 (recover_stays registered kept b ok.0 c) (recover_belongs registered kept b ok.1 h)

pub calls_hold : (calls : List BroughtCall) → AreAllowed nothing_brought calls → IsCanonical (after_all nothing_brought calls) × Belongs (after_all nothing_brought calls)
calls_hold calls ok = holds_all calls nothing_brought ok nothing_canonical nothing_belongs

-- ---- what is seen

known_is : (q : Query) (calls : List BroughtCall)
    → any_above q.path (after_all nothing_brought calls).regions ≡ is_known calls q.path
known_is q calls = run_known q.path calls nothing_brought

registered_all : (calls : List BroughtCall) (b : Brought) → (after_all b calls).registered ≡ fold with_forms b.registered calls
registered_all [] b = refl
registered_all (Put r p u ∷ cs) b = registered_all cs (push r b (p, u)) ∙ ap (λ fs. fold with_forms fs cs) (push_registered r b (p, u))
registered_all (Recover registered kept ∷ cs) b = registered_all cs (recover registered kept b)

holder_is : (b : Brought) (q : Query) → source_among b.windows b.registered q ≡ shown_from (own b) b.registered q
holder_is b q = λ i. find (λ f. does_supply f q && sym (some_mapped of_window (window_of b.windows f)) i) b.registered

mapped_then : (b : Brought) (o : Option Query) → option_map of_window (option_and_then (window_of b.windows) o) ≡ option_and_then (own b) o
mapped_then b None = refl
mapped_then b (Some f) = refl

seen_is : (calls : List BroughtCall) (q : Query) → All IsAllowed calls
    → base (after_all nothing_brought calls) q ≡ seen calls (own (after_all nothing_brought calls)) q
seen_is calls q ok = at (is_known calls q.path) refl
  where
    b : Brought
    b = after_all nothing_brought calls

    by_known : Bool → Option Base
    by_known k = cond k (Some (of_part (sub (pushed calls) q.path))) (option_and_then (own b) (shown_from (own b) (registered_by calls) q))

    part : region_part b.regions q.path ≡ cond (is_known calls q.path) (Some (sub (pushed calls) q.path)) None
    part = held_part calls q.path ok

    at : (k : Bool) → is_known calls q.path ≡ k → base b q ≡ seen calls (own b) q
    at true e =
        region_base b q (sub (pushed calls) q.path) (part ∙ ap (λ k. cond k (Some (sub (pushed calls) q.path)) None) e)
        ∙ ap by_known (sym e)
    at false e =
        window_base b q (part ∙ ap (λ k. cond k (Some (sub (pushed calls) q.path)) None) e)
        ∙ mapped_then b (source_among b.windows b.registered q)
        ∙ ap (option_and_then (own b)) (holder_is b q ∙ ap (λ fs. shown_from (own b) fs q) (registered_all calls nothing_brought))
        ∙ ap by_known (sym e)

-- of those that are q a test says what it says of q
at_one : (q : Query) (A B : Query → Bool) (xs : List Query)
    → list_any (λ x. query_eq x q && A x && B x) xs ≡ (B q && list_any (λ x. query_eq x q) xs && A q)
at_one q A B [] = sym (nothing (B q) (A q))
  where
    nothing : (b a : Bool) → (b && false && a) ≡ false
    nothing true a = refl
    nothing false a = refl
at_one q A B (x ∷ xs) = at (query_eq x q) refl (at_one q A B xs)
  where
    one : (a b l : Bool) → (true && a && b || b && l && a) ≡ (b && (true || l) && a)
    one true true l = refl
    one true false l = refl
    one false true true = refl
    one false true false = refl
    one false false l = refl

    at : (t : Bool) → query_eq x q ≡ t
        → list_any (λ y. query_eq y q && A y && B y) xs ≡ (B q && list_any (λ y. query_eq y q) xs && A q)
        → (query_eq x q && A x && B x || list_any (λ y. query_eq y q && A y && B y) xs) ≡ (B q && (query_eq x q || list_any (λ y. query_eq y q) xs) && A q)
    at true e rest =
        let m : x ≡ q = (query_eq_tells x q).0 e in
        (λ i. e i && A (m i) && B (m i) || rest i)
        ∙ one (A q) (B q) (list_any (λ y. query_eq y q) xs)
        ∙ (λ i. B q && (sym e i || list_any (λ y. query_eq y q) xs) && A q)
    at false e rest =
        (λ i. e i && A x && B x || rest i)
        ∙ (λ i. B q && (sym e i || list_any (λ y. query_eq y q) xs) && A q)

-- ---- a change of cover

recovered : (q : Query) (registered kept : List Query) (b : Brought)
    → window_of (recover registered kept b).windows q
    ≡ option_or (cond (is_among (heirs registered b (cut registered kept b)) q) (window_left (base b q)) None) (cond (is_among registered q) (window_of b.windows q) None)
recovered q registered kept b =
    let left : Brought = cut registered kept b in
    find-listed q (handed_on b (heirs registered b left) ++ left.windows)
    ∙ find-both q (handed_on b (heirs registered b left)) left.windows
    ∙ (λ i. option_or (find-for_each (λ x. window_left (base b x)) q (heirs registered b left) i)
    (find-where_key query_cmp (is_among registered) q (λ x t. ap (is_among registered) (sym (exact_queries q x t))) b.windows i))

module _ (before : List BroughtCall) (registered kept : List Query) (ok : All IsAllowed before) where
  then_brought : Brought
  then_brought = after_all nothing_brought before

  cut_down : Brought
  cut_down = cut registered kept (after_all nothing_brought before)

  -- what is left to be known
  region_left : (f : Query) → is_some (region_part (cut registered kept (after_all nothing_brought before)).regions f.path) ≡ (is_known before f.path && reaches kept f.path)
  region_left f =
      part_any f.path (cut registered kept (after_all nothing_brought before)).regions
      ∙ step_known f.path (after_all nothing_brought before) (Recover registered kept)
      ∙ ap (λ k. k && reaches kept f.path) (known_is f before)

  stays_so : (f g : Query) → Contains registered g
      → has_it (cut registered kept (after_all nothing_brought before)).windows f g ≡ may_show (own (after_all nothing_brought before)) f g
  stays_so f g m = λ i. does_supply g f && (stay ∙ sym (some_mapped of_window (window_of b.windows g))) i
    where
      b : Brought
      b = after_all nothing_brought before

      stay : is_some (window_of (filter (λ w. is_among registered w.0) b.windows) g) ≡ is_some (window_of b.windows g)
      stay = ap is_some (find-where_key query_cmp (is_among registered) g (λ x t. ap (is_among registered) (sym (exact_queries g x t))) b.windows
          ∙ ap (λ t. cond t (window_of b.windows g) None) (among registered g m))

  window_left_so : (f : Query) → list_any (λ (w : Query × Window). does_supply w.0 f) (cut registered kept (after_all nothing_brought before)).windows
      ≡ list_any (may_show (own (after_all nothing_brought before)) f) registered
  window_left_so f =
      let left : Brought = cut registered kept (after_all nothing_brought before) in
      sym (supplier_found registered left.windows f (left_forms registered kept (after_all nothing_brought before)))
      ∙ is_some-find (has_it left.windows f) registered
      ∙ any_agreeing (has_it left.windows f) (may_show (own (after_all nothing_brought before)) f) registered
      (λ k d lt. stays_so f (slice_index_or registered k d) (Contains-get_or registered k d lt))

  parted : (a k l : Bool) → (a && not (k || l)) ≡ (a && not k && not l)
  parted true true l = refl
  parted true false l = refl
  parted false k l = refl

  lost_is : (f : Query) → is_lost (after_all nothing_brought before) (cut registered kept (after_all nothing_brought before)) f
      ≡ loses before (own (after_all nothing_brought before)) registered kept f
  lost_is f =
      let left : Brought = cut registered kept (after_all nothing_brought before) in
      (λ i. is_filtered f && is_some (seen_is before f ok i)
      && not ((knows_by left f (left_forms registered kept (after_all nothing_brought before)) ∙ (λ j. region_left f j || window_left_so f j)) i))
      ∙ parted (is_filtered f && is_some (seen before (own (after_all nothing_brought before)) f)) (is_known before f.path && reaches kept f.path)
      (list_any (may_show (own (after_all nothing_brought before)) f) registered)

  heirs_are : (q : Query) → is_among (heirs registered (after_all nothing_brought before) (cut registered kept (after_all nothing_brought before))) q
      ≡ inherits before (own (after_all nothing_brought before)) registered kept q
  heirs_are q =
      let b : Brought = after_all nothing_brought before in
      let lost : List Query = filter (is_lost b (cut registered kept b)) registered in
      any_passing (λ x. query_eq x q) (λ x. not (is_supplied lost x)) lost
      ∙ any_passing (λ x. query_eq x q && not (is_supplied lost x)) (is_lost b (cut registered kept b)) registered
      ∙ at_one q (λ x. not (is_supplied lost x)) (is_lost b (cut registered kept b)) registered
      ∙ (λ i. lost_is q i && list_any (λ f. query_eq f q) registered
      && not (any_passing (λ f. not (query_eq f q) && does_supply f q) (is_lost b (cut registered kept b)) registered i))
      ∙ (λ i. loses before (own b) registered kept q && list_any (λ f. query_eq f q) registered
      && not (list_any (λ f. not (query_eq f q) && does_supply f q && lost_is f i) registered))

  held_recover : (q : Query) → own (recover registered kept (after_all nothing_brought before)) q
      ≡ held_after before (own (after_all nothing_brought before)) (Recover registered kept) q
  held_recover q =
      let b : Brought = after_all nothing_brought before in
      ap (option_map of_window) (recovered q registered kept b
      ∙ (λ i. option_or (cond (heirs_are q i) (window_left (seen_is before q ok i)) None) (cond (is_among registered q) (window_of b.windows q) None)))
      ∙ shape (inherits before (own b) registered kept q) (is_among registered q) (seen before (own b) q) (window_of b.windows q)
    where
      shape : (t r : Bool) (s : Option Base) (o : Option Window)
          → option_map of_window (option_or (cond t (window_left s) None) (cond r o None))
          ≡ option_or (cond t (option_map children_of s) None) (cond (not r) None (option_map (λ (x : Base). record x { tree = x.tree }) (option_map of_window o)))
      shape true r (Some x) o = refl
      shape true true None None = refl
      shape true true None (Some w) = refl
      shape true false None o = refl
      shape false true s None = refl
      shape false true s (Some w) = refl
      shape false false s o = refl

-- ---- any call

-- what inherits is filtered
inherits_filtered : (before : List BroughtCall) (held : Held) (registered kept : List Query) (q : Query)
    → inherits before held registered kept q ≡ true → is_filtered q ≡ true
inherits_filtered before held registered kept q e =
    both_first (is_filtered q) _ (both_first _ (not (is_known before q.path && reaches kept q.path))
    (both_first _ (not (list_any (may_show held q) registered)) (both_first (loses before held registered kept q) _
    (both_first _ (not (list_any (λ f. not (query_eq f q) && does_supply f q && loses before held registered kept f) registered)) e))))

abbrev no_base : Option Base
no_base = None

none_else : (t : Bool) → cond t no_base None ≡ no_base
none_else true = refl
none_else false = refl

-- a plain query holds nothing still
plain_told : (before : List BroughtCall) (held : Held) (c : BroughtCall) (q : Query) → is_filtered q ≡ false → held q ≡ None
    → held_after before held c q ≡ None
plain_told before held (Put r p u) q e n =
    (λ i. option_or (cond (e i && query_eq r q && path_eq p q.path) (Some (record { tree = children_alone u; whole = false })) None)
    (cond (ends q (Put r p u)) None (option_map (with_pushed q (Put r p u)) (n i))))
    ∙ none_else (ends q (Put r p u))
plain_told before held (Recover registered kept) q e n =
    let not : inherits before held registered kept q ≡ false =
    never (inherits before held registered kept q) (λ t. sym e ∙ inherits_filtered before held registered kept q t) in
    (λ i. option_or (cond (not i) (option_map children_of (seen before held q)) None)
    (cond (ends q (Recover registered kept)) None (option_map (λ (x : Base). record x { tree = x.tree }) (n i))))
    ∙ none_else (ends q (Recover registered kept))

held_step : (before : List BroughtCall) (c : BroughtCall) (q : Query) → AreAllowed nothing_brought (before ++ c ∷ [])
    → own (after (after_all nothing_brought before) c) q ≡ held_after before (own (after_all nothing_brought before)) c q
held_step before c q ok = at (is_filtered q) refl
  where
    b : Brought
    b = after_all nothing_brought before

    front : AreAllowed nothing_brought before
    front = allowed_front nothing_brought before (c ∷ []) ok

    holds : IsCanonical b × Belongs b
    holds = calls_hold before front

    then : IsCanonical (after b c)
    then = subst IsCanonical (after_append before (c ∷ []) nothing_brought) (calls_hold (before ++ c ∷ []) ok).0

    each : (d : BroughtCall) → is_filtered q ≡ true → own (after b d) q ≡ held_after before (own b) d q
    each (Put r p u) f = held_put before b q r p u f holds.1
    each (Recover registered kept) f = held_recover before registered kept (allowed_each nothing_brought before front) q

    at : (f : Bool) → is_filtered q ≡ f → own (after b c) q ≡ held_after before (own b) c q
    at true f = each c f
    at false f =
        ap (option_map of_window) (plain_holds q (after b c) then f)
        ∙ sym (plain_told before (own b) c q f (ap (option_map of_window) (plain_holds q b holds.0 f)))

held_run : (later before : List BroughtCall) → AreAllowed nothing_brought (before ++ later)
    → held_from before (own (after_all nothing_brought before)) later ≡ own (after_all nothing_brought (before ++ later))
held_run [] before ok = ap (λ cs. own (after_all nothing_brought cs)) (sym (append-nil before))
held_run (c ∷ cs) before ok =
    let all : (before ++ c ∷ []) ++ cs ≡ before ++ c ∷ cs = append_assoc before (c ∷ []) cs in
    let oks = subst (AreAllowed nothing_brought) (sym all) ok in
    let front = allowed_front nothing_brought (before ++ c ∷ []) cs oks in
    (λ i. held_from (before ++ c ∷ []) (λ q. (sym (held_step before c q front) ∙ ap (λ b. own b q) (sym (after_append before (c ∷ []) nothing_brought))) i) cs)
    ∙ held_run cs (before ++ c ∷ []) oks
    ∙ ap (λ xs. own (after_all nothing_brought xs)) all

held_all : (calls : List BroughtCall) → AreAllowed nothing_brought calls → held_by calls ≡ own (after_all nothing_brought calls)
held_all calls ok = held_run calls [] ok

pub base_seen : BaseIsSeen
base_seen calls q ok =
    seen_is calls q (allowed_each nothing_brought calls ok)
    ∙ ap (λ (h : Held). seen calls h q) (sym (held_all calls ok))

pub source_holder : SourceIsHolder
source_holder calls q ok =
    let b : Brought = after_all nothing_brought calls in
    let known : is_some (region_part b.regions q.path) ≡ is_known calls q.path = part_any q.path b.regions ∙ known_is q calls in
    let from : source_among b.windows b.registered q ≡ shown_from (held_by calls) (registered_by calls) q =
    holder_is b q ∙ (λ i. shown_from (sym (held_all calls ok) i) (registered_all calls nothing_brought i) q) in
    λ i. cond (known i) None (from i)

-- ---- what is held is what was begun

held_append : (xs ys before : List BroughtCall) (h : Held)
    → held_from before h (xs ++ ys) ≡ held_from (before ++ xs) (held_from before h xs) ys
held_append [] ys before h = ap (λ bs. held_from bs h ys) (sym (append-nil before))
held_append (x ∷ xs) ys before h =
    held_append xs ys (before ++ x ∷ []) (held_after before h x)
    ∙ ap (λ bs. held_from bs (held_from (before ++ x ∷ []) (held_after before h x) xs) ys) (append_assoc before (x ∷ []) xs)

held_more : (calls : List BroughtCall) (c : BroughtCall) → held_by (calls ++ c ∷ []) ≡ held_after calls (held_by calls) c
held_more calls c = held_append calls (c ∷ []) [] (λ q. None)

-- what is given where a test holds
given : {X : Type 0} (t : Bool) (o : Option X) (y : X) → cond t o None ≡ Some y → t ≡ true
given true o y e = refl
given false o y e = cc

begun_filtered : (before : List BroughtCall) (held : Held) (c : BroughtCall) (q : Query) (b : Base) → begun before held c q ≡ Some b → is_filtered q ≡ true
begun_filtered before held (Put r p u) q b e =
    both_first (is_filtered q) _ (both_first (is_filtered q && query_eq r q) (path_eq p q.path)
    (given (is_filtered q && query_eq r q && path_eq p q.path) (Some (record { tree = children_alone u; whole = false })) b e))
begun_filtered before held (Recover registered kept) q b e =
    inherits_filtered before held registered kept q (given (inherits before held registered kept q) (option_map children_of (seen before held q)) b e)

-- nothing begins for what holds already, unless it ends
begins_not : (before : List BroughtCall) (held : Held) (c : BroughtCall) (q : Query) → is_filtered q ≡ true → is_some (held q) ≡ true → ends q c ≡ false
    → begun before held c q ≡ None
begins_not before held (Put r p u) q f s e =
    ap (λ t. cond t (Some (record { tree = children_alone u; whole = false })) None)
    (never (is_filtered q && query_eq r q && path_eq p q.path) (λ t.
    let mine : (is_filtered q && query_eq r q) ≡ true = both_first (is_filtered q && query_eq r q) (path_eq p q.path) t in
    let m : r ≡ q = (query_eq_tells r q).0 (both_second (is_filtered q) (query_eq r q) mine) in
    let path : path_eq p q.path ≡ true = both_second (is_filtered q && query_eq r q) (path_eq p q.path) t in
    sym e ∙ (λ i. cond ((ap is_filtered m ∙ f) i)
    ((ap (λ x. does_supply x q) m ∙ supplies_itself q (form_filtered q f)) i && (ap (λ (x : Query). path_eq p x.path) m ∙ path) i)
    (is_at_or_above p q.path))))
begins_not before held (Recover registered kept) q f s e =
    ap (λ t. cond t (option_map children_of (seen before held q)) None)
    (never (inherits before held registered kept q) (λ t.
    let lost : loses before held registered kept q ≡ true = both_first (loses before held registered kept q) _
    (both_first _ (not (list_any (λ f. not (query_eq f q) && does_supply f q && loses before held registered kept f) registered)) t) in
    let none : list_any (may_show held q) registered ≡ false =
    not_true _ (both_second _ (not (list_any (may_show held q) registered)) lost) in
    let here : Contains registered q = of_among registered q (not_false (is_among registered q) e) in
    sym none ∙ any_with (may_show held q) registered q here (λ i. supplies_itself q (form_filtered q f) i && s i)))

held_still : (before : List BroughtCall) (held : Held) (c : BroughtCall) (q : Query) (b : Base) → is_filtered q ≡ true → held q ≡ Some b → ends q c ≡ false
    → held_after before held c q ≡ Some (record b { tree = with_own q b.tree c })
held_still before held c q b f s e =
    λ i. option_or (begins_not before held c q f (ap is_some s) e i)
    (cond (e i) None (option_map (with_pushed q c) (s i)))

since_from : (later before : List BroughtCall) (held : Held) (q : Query) (b : Base) → is_filtered q ≡ true → held q ≡ Some b → lets_be q later ≡ true
    → held_from before held later q ≡ Some (record b { tree = with_all_own q b.tree later })
since_from [] before held q b f s l = s
since_from (c ∷ cs) before held q b f s l =
    let none : (ends q c || list_any (ends q) cs) ≡ false = not_true _ l in
    since_from cs (before ++ c ∷ []) (held_after before held c) q (record b { tree = with_own q b.tree c }) f
    (held_still before held c q b f s (or_left _ (list_any (ends q) cs) none))
    (ap not (or_right (ends q c) _ none))

begun_now : (before : List BroughtCall) (c : BroughtCall) (q : Query) (b : Base) → begun before (held_by before) c q ≡ Some b
    → held_after before (held_by before) c q ≡ Some b
begun_now before c q b e =
    ap (λ o. option_or o (cond (ends q c) None (option_map (with_pushed q c) (held_by before q)))) e

pub held_since : HeldSinceBegun
held_since before later c q b e l =
    ap (λ (h : Held). h q) (held_append before (c ∷ later) [] (λ x. None))
    ∙ since_from later (before ++ c ∷ []) (held_after before (held_by before) c) q b
    (begun_filtered before (held_by before) c q b e) (begun_now before c q b e) l

-- some call began it, and none put an end to it since
record IsBegun (q : Query) (calls : List BroughtCall) : Type 0 where
  before : List BroughtCall
  later : List BroughtCall
  call : BroughtCall
  window : Base
  split : calls ≡ before ++ call ∷ later
  begins : begun before (held_by before) call q ≡ Some window
  lets : lets_be q later ≡ true

none_more : (test : BroughtCall → Bool) (xs : List BroughtCall) (c : BroughtCall) → list_any test xs ≡ false → test c ≡ false
    → list_any test (xs ++ c ∷ []) ≡ false
none_more test [] c e f = or_false _ _ f refl
none_more test (x ∷ xs) c e f = or_false _ _ (or_left _ (list_any test xs) e) (none_more test xs c (or_right (test x) _ e) f)

abbrev Stands : Query → List BroughtCall → Type 0
Stands q calls = (held_by calls q ≡ None) ⊎ IsBegun q calls

stands_next : (q : Query) (calls : List BroughtCall) (c : BroughtCall) → Stands q calls → Stands q (calls ++ c ∷ [])
stands_next q calls c s = at (begun calls (held_by calls) c q) refl (ends q c) refl s
  where
    behind : (o : Option Base) → begun calls (held_by calls) c q ≡ o → (t : Bool) → ends q c ≡ t
        → held_by (calls ++ c ∷ []) q ≡ option_or o (cond t None (option_map (with_pushed q c) (held_by calls q)))
    behind o e t g =
        ap (λ (h : Held). h q) (held_more calls c)
        ∙ (λ i. option_or (e i) (cond (g i) None (option_map (with_pushed q c) (held_by calls q))))

    at : (o : Option Base) → begun calls (held_by calls) c q ≡ o → (t : Bool) → ends q c ≡ t → Stands q calls → Stands q (calls ++ c ∷ [])
    at (Some w) e t g h = inr (record { before = calls; later = []; call = c; window = w; split = refl; begins = e; lets = refl })
    at None e true g h = inl (behind None e true g)
    at None e false g (inl n) =
        inl (behind None e false g ∙ ap (option_map (with_pushed q c)) n)
    at None e false g (inr h) =
        inr (record {
          before = h.before;
          later = h.later ++ c ∷ [];
          call = h.call;
          window = h.window;
          split = ap (λ xs. xs ++ c ∷ []) h.split ∙ append_assoc h.before (h.call ∷ h.later) (c ∷ []);
          begins = h.begins;
          lets = ap not (none_more (ends q) h.later c (not_true _ h.lets) g);
        })

stands_behind : (later calls : List BroughtCall) (q : Query) → Stands q calls → Stands q (calls ++ later)
stands_behind [] calls q s = subst (Stands q) (sym (append-nil calls)) s
stands_behind (c ∷ cs) calls q s =
    subst (Stands q) (append_assoc calls (c ∷ []) cs) (stands_behind cs (calls ++ c ∷ []) q (stands_next q calls c s))

pub held_begun : HeldIsBegun
held_begun calls q none = at (stands_behind calls [] q (inl refl))
  where
    at : Stands q calls → held_by calls q ≡ None
    at (inl e) = e
    at (inr h) = let some : Some h.window ≡ None = sym h.begins ∙ none h.before h.later h.call h.split h.lets in cc

-- ---- what is handed on

some_first : (s : Option Base) (r : Option Base) → is_some s ≡ true → option_or (option_map children_of s) r ≡ option_map children_of s
some_first None r e = absurd (true≢false (sym e))
some_first (Some x) r e = refl

pub handed_seen : HandedOnIsSeen
handed_seen calls registered kept q ok e =
    window_base new q free
    ∙ ap (λ s. option_map of_window (option_and_then (window_of new.windows) s)) (own_source new.registered new.windows q (have_forms new holds.0 holds.1) there)
    ∙ owns
  where
    c : BroughtCall
    c = Recover registered kept

    b : Brought
    b = after_all nothing_brought calls

    new : Brought
    new = after_all nothing_brought (calls ++ Recover registered kept ∷ [])

    holds : IsCanonical new × Belongs new
    holds = calls_hold (calls ++ Recover registered kept ∷ []) ok

    same : base b q ≡ seen calls (held_by calls) q
    same = base_seen calls q (allowed_front nothing_brought calls (Recover registered kept ∷ []) ok)

    lost : loses calls (held_by calls) registered kept q ≡ true
    lost = both_first (loses calls (held_by calls) registered kept q) _
        (both_first _ (not (list_any (λ f. not (query_eq f q) && does_supply f q && loses calls (held_by calls) registered kept f) registered)) e)

    lost_first : (is_filtered q && is_some (seen calls (held_by calls) q) && not (is_known calls q.path && reaches kept q.path)) ≡ true
    lost_first = both_first _ (not (list_any (may_show (held_by calls) q) registered)) lost

    had : is_some (seen calls (held_by calls) q) ≡ true
    had = both_second (is_filtered q) _ (both_first _ (not (is_known calls q.path && reaches kept q.path)) lost_first)

    unknown : (is_known calls q.path && reaches kept q.path) ≡ false
    unknown = not_true _ (both_second (is_filtered q && is_some (seen calls (held_by calls) q)) (not (is_known calls q.path && reaches kept q.path)) lost_first)

    free : region_part new.regions q.path ≡ None
    free = unseen q.path new.regions (ap (λ (x : Brought). any_above q.path x.regions) (after_append calls (Recover registered kept ∷ []) nothing_brought)
        ∙ step_known q.path b (Recover registered kept) ∙ ap (λ k. k && reaches kept q.path) (known_is q calls) ∙ unknown)

    owns : own new q ≡ option_map children_of (base b q)
    owns =
        sym (ap (λ (h : Held). h q) (held_all (calls ++ Recover registered kept ∷ []) ok))
        ∙ ap (λ (h : Held). h q) (held_more calls (Recover registered kept))
        ∙ (λ i. option_or (cond (e i) (option_map children_of (seen calls (held_by calls) q)) None)
        (cond (ends q (Recover registered kept)) None (option_map (with_pushed q (Recover registered kept)) (held_by calls q))))
        ∙ some_first (seen calls (held_by calls) q) _ had
        ∙ ap (option_map children_of) (sym same)

    there : is_some (window_of new.windows q) ≡ true
    there = sym (some_mapped of_window (window_of new.windows q)) ∙ ap is_some owns ∙ some_mapped children_of (base b q) ∙ ap is_some same ∙ had

-- ---- what is supplied

-- a query that has another form's window has just what that form has
pub supplied_same : SuppliedHasTheSame
supplied_same calls q f ok e = at (region_part b.regions q.path) refl
  where
    b : Brought
    b = after_all nothing_brought calls

    holds : IsCanonical b × Belongs b
    holds = calls_hold calls ok

    at : (o : Option PathTree) → region_part b.regions q.path ≡ o → base b q ≡ base b f
    at (Some t) r =
        let none : None ≡ Some f = sym (ap (λ o. cond (is_some o) None (source_among b.windows b.registered q)) r) ∙ e in cc
    at None r =
        let source_is : source_among b.windows b.registered q ≡ Some f = sym (ap (λ o. cond (is_some o) None (source_among b.windows b.registered q)) r) ∙ e in
        let passes : has_it b.windows q f ≡ true = subst (λ o. IfSome o (λ x. has_it b.windows q x ≡ true)) source_is (find_passes (has_it b.windows q) b.registered) in
        let there : is_some (window_of b.windows f) ≡ true = both_second (does_supply f q) _ passes in
        let filtered : is_filtered f ≡ true = found_all (λ x. is_filtered x ≡ true) f b.windows holds.0.filtered there in
        let path : f.path ≡ q.path = supplied_has_path f q filtered (both_first (does_supply f q) _ passes) in
        window_base b q r ∙ ap (λ s. option_map of_window (option_and_then (window_of b.windows) s)) (source_is ∙ sym (own_source b.registered b.windows f (have_forms b holds.0 holds.1) there))
        ∙ sym (window_base b f (ap (region_part b.regions) path ∙ r))
