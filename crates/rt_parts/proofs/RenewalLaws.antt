-- Listeners that are renewed one after another, by their numbers.
use Rattle.std.proofs.Common.{◌≡◌, ℕ, suc, ◌+◌, ◌<◌, Bool, true, false, cond, ◌||◌, ◌&&◌, List, [], ◌∷◌, ◌++◌, length, get_or, drop, take, map, refl, sym, ap, subst, ◌∙◌, arith, append_assoc, eqb-true, Option, Some, None}
use mathlib.Core.Bool.{true≢false}
use Rattle.std.specs.Prelude.{◌==◌}
use Rattle.std.specs.List.{All, AllPairs, cons_option, dedup, dedup_from, filter_map, list_any, zip}
use Rattle.std.proofs.lemmas.List.Elements.{All-cons}
use Rattle.std.proofs.lemmas.List.Folds.{Any-from_list_any, list_any-append, list_any_at, list_any_more}
use Rattle.rt_tree.specs.TreeEq.{both, both_first, both_second}
use Rattle.rt_tree.specs.PathTree.{Path, path_eq, path_eq-is, path_eq-same, path_eq-symm}
use Rattle.rt_query.specs.Queries.{Query, is_filtered}
use Rattle.rt_query.specs.QueryEq.{query_eq}
use Rattle.rt_query.specs.Supply.{does_supply}
use Rattle.rt_query.specs.laws.QueryEq.{query_eq_tells}
use Rattle.rt_writes.specs.Writes.{Write}
use Rattle.rt_cache.specs.Brought.{Brought}
use Rattle.rt_cache.specs.Recover.{is_among}
use Rattle.rt_world.specs.declared.report.Note.{Note}
use Rattle.rt_world.specs.After.{renewed}
use Rattle.rt_world.specs.Met.{told}
use Rattle.rt_world.specs.Views.{is_known, view_of as view_at}
use Rattle.rt_world.specs.World.{Listener}
use Rattle.rt_parts.specs.declared.listeners.HeldListener.{HeldListener}
use Rattle.rt_parts.specs.declared.places.ListenerPlace.{ListenerPlace}
use Rattle.rt_parts.specs.inside.HeldView.{HaveSupplied, listener_of, listeners_of, pair_of, renewal_told_at, renewed_at, renewed_pair, views_of}
use Rattle.rt_parts.specs.inside.Placed.{HaveAt, HaveNumbers, Keeps, placed}
use Rattle.rt_parts.specs.Listeners.{count_if}
use Rattle.rt_parts.specs.Refreshed.{is_supplied_at}
use Rattle.rt_parts.specs.Renewed.{all_told_of, count_of, renewed_of, told_of, view_anew, view_of}
use Rattle.rt_parts.proofs.Numbered as by
use Rattle.rt_parts.proofs.RefreshLaws.{drop_is, later, number_of, Pair}

-- ---- one number after another

module _ (queries : List Query) (b : Brought) (writes : List Write) where
  abbrev pub told_pair : Pair → Option Note
  told_pair p = told_of queries b writes p.0

  -- those that are left to be renewed, and what is told of them
  abbrev pub left_of : List ℕ → List Pair → List Pair
  left_of left ps = map (by.changed_in number_of (renewed_pair queries b writes) told_pair left) ps

  abbrev pub told_left : List ℕ → List Pair → List Note
  told_left left ps = filter_map (by.told_in number_of (renewed_pair queries b writes) told_pair left) ps

  abbrev primed : Listener → Listener
  primed l = record l { is_primed = true; view = Some (view_at b writes l.query) }

  -- a listener that is renewed keeps its number
  pub number_stays : (p : Pair) → number_of (renewed_pair queries b writes p) ≡ number_of p
  number_stays p = elim (is_among queries p.0.query) as (λ z. (cond z (renewed b writes p.0) p.0).number ≡ p.0.number) [
    | true ↦ kept p.0
    | false ↦ refl
  ]
    where
      kept : (l : Listener) → (renewed b writes l).number ≡ l.number
      kept l = elim (l.is_primed || is_known b writes l.query) as (λ z. (cond z (primed l) l).number ≡ l.number) [ true ↦ refl | false ↦ refl ]

  -- one number more is done
  pub left_more : (numbers : List ℕ) (i n : ℕ) (ps new all : List Pair) → i < length numbers → n ≡ get_or numbers i n → AllPairs (λ k m. k < m) numbers
      → new ≡ map (renewed_at n queries b writes) ps
      → left_of (drop i numbers) ps ≡ all → left_of (drop (i + 1) numbers) new ≡ all
  left_more numbers i n ps new all within at rise made inv =
      ap (left_of (drop (i + 1) numbers)) made
      ∙ sym (by.changed_step number_of (renewed_pair queries b writes) told_pair number_stays n (drop (i + 1) numbers) ps (later numbers i n within at rise))
      ∙ ap (λ ns. left_of ns ps) (sym (drop_is numbers i n within at)) ∙ inv

  -- and told
  pub told_more : (numbers : List ℕ) (i n : ℕ) (ps new : List Pair) (done more all : List Note) → i < length numbers → n ≡ get_or numbers i n → AllPairs (λ k m. k < m) numbers
      → AllPairs (λ p q. number_of p < number_of q) ps
      → new ≡ map (renewed_at n queries b writes) ps → more ≡ done ++ filter_map (renewal_told_at n queries b writes) ps
      → done ++ told_left (drop i numbers) ps ≡ all → more ++ told_left (drop (i + 1) numbers) new ≡ all
  told_more numbers i n ps new done more all within at rise up made told inv =
      ap (λ z. z ++ told_left (drop (i + 1) numbers) new) told
      ∙ append_assoc done (filter_map (renewal_told_at n queries b writes) ps) (told_left (drop (i + 1) numbers) new)
      ∙ ap (λ z. done ++ z)
      (ap (λ z. filter_map (renewal_told_at n queries b writes) ps ++ told_left (drop (i + 1) numbers) z) made
      ∙ sym (by.told_step number_of (renewed_pair queries b writes) told_pair number_stays n (drop (i + 1) numbers) ps (later numbers i n within at rise) up)
      ∙ ap (λ ns. told_left ns ps) (sym (drop_is numbers i n within at)))
      ∙ inv

  -- where none is left, nothing is left to do
  pub none_left : (ps : List Pair) → left_of [] ps ≡ ps
  none_left [] = refl
  none_left (p ∷ ps) = ap (λ z. p ∷ z) (none_left ps)

  pub none_told : (ps : List Pair) → told_left [] ps ≡ []
  none_told [] = refl
  none_told (p ∷ ps) = none_told ps

  abbrev pub of : Pair → Bool
  of p = is_among queries p.0.query

  abbrev pub HaveAll : List ℕ → List HeldListener → Type 0
  HaveAll numbers ls = All (λ (l : HeldListener). is_among queries l.query ≡ true → list_any (λ n. l.number == n) numbers ≡ true) ls

  pub of_pairs : (numbers : List ℕ) (ls : List HeldListener) → HaveAll numbers ls → All (λ (p : Pair). of p ≡ true → list_any (λ n. p.0.number == n) numbers ≡ true) (map pair_of ls)
  of_pairs numbers [] h = λ k d lt. absurd (omega arith)
  of_pairs numbers (l ∷ ls) h = All-cons (λ (p : Pair). of p ≡ true → list_any (λ n. p.0.number == n) numbers ≡ true) (pair_of l) (map pair_of ls) (h 0 l (omega arith)) (of_pairs numbers ls (λ k d lt. h (suc k) d (omega arith)))

  pub others : (p : Pair) → of p ≡ false → renewed_pair queries b writes p ≡ p
  others p e = λ i. (cond (e i) (renewed b writes p.0) p.0, cond (e i) (view_anew b writes p.0.query p.1) p.1)

  untold : (p : Pair) → of p ≡ false → told_pair p ≡ None
  untold p e = ap (λ z. cond z (told b writes p.0) None) e

  -- where the numbers of all that have one of the queries are given, all are renewed
  pub left_all : (numbers : List ℕ) (ls : List HeldListener) → HaveAll numbers ls → left_of numbers (map pair_of ls) ≡ map (renewed_pair queries b writes) (map pair_of ls)
  left_all numbers ls h = by.changed_all number_of (renewed_pair queries b writes) told_pair of numbers (map pair_of ls) others (of_pairs numbers ls h)

  pub told_all : (numbers : List ℕ) (ls : List HeldListener) → HaveAll numbers ls → told_left numbers (map pair_of ls) ≡ all_told_of queries b writes (listeners_of ls)
  told_all numbers ls h = by.told_all number_of (renewed_pair queries b writes) told_pair of numbers (map pair_of ls) untold (of_pairs numbers ls h) ∙ of_listeners ls
    where
      of_listeners : (xs : List HeldListener) → filter_map told_pair (map pair_of xs) ≡ all_told_of queries b writes (listeners_of xs)
      of_listeners [] = refl
      of_listeners (x ∷ xs) = ap (cons_option (told_of queries b writes (listener_of x))) (of_listeners xs)

  -- ---- a renewed listener stands where it stood

  abbrev stand : Listener → ListenerPlace
  stand l = record { path = l.query.path; number = l.number; seat = l.seat }

  stand_stays : (p : Pair) → stand (renewed_pair queries b writes p).0 ≡ stand p.0
  stand_stays p = elim (is_among queries p.0.query) as (λ z. stand (cond z (renewed b writes p.0) p.0) ≡ stand p.0) [
    | true ↦ kept p.0
    | false ↦ refl
  ]
    where
      kept : (l : Listener) → stand (renewed b writes l) ≡ stand l
      kept l = elim (l.is_primed || is_known b writes l.query) as (λ z. stand (cond z (primed l) l) ≡ stand l) [ true ↦ refl | false ↦ refl ]

  pub placed_same : (old new : List HeldListener) → map pair_of new ≡ map (renewed_pair queries b writes) (map pair_of old) → map placed new ≡ map placed old
  placed_same old new e = read new ∙ ap (map (λ (p : Pair). stand p.0)) e ∙ stay old
    where
      read : (ls : List HeldListener) → map placed ls ≡ map (λ (p : Pair). stand p.0) (map pair_of ls)
      read [] = refl
      read (l ∷ ls) = ap (λ z. placed l ∷ z) (read ls)

      stay : (ls : List HeldListener) → map (λ (p : Pair). stand p.0) (map (renewed_pair queries b writes) (map pair_of ls)) ≡ map placed ls
      stay [] = refl
      stay (l ∷ ls) = λ i. stand_stays (pair_of l) i ∷ stay ls i

  -- ---- listeners and views after it

  pub all_listeners : (old new : List HeldListener) → map pair_of new ≡ map (renewed_pair queries b writes) (map pair_of old) → listeners_of new ≡ map (renewed_of queries b writes) (listeners_of old)
  all_listeners old new e = read new ∙ ap (map (λ (p : Pair). p.0)) e ∙ each old
    where
      read : (ls : List HeldListener) → listeners_of ls ≡ map (λ (p : Pair). p.0) (map pair_of ls)
      read [] = refl
      read (l ∷ ls) = ap (λ z. listener_of l ∷ z) (read ls)

      each : (ls : List HeldListener) → map (λ (p : Pair). p.0) (map (renewed_pair queries b writes) (map pair_of ls)) ≡ map (renewed_of queries b writes) (listeners_of ls)
      each [] = refl
      each (l ∷ ls) = ap (λ z. renewed_of queries b writes (listener_of l) ∷ z) (each ls)

  pub all_views : (old new : List HeldListener) → map pair_of new ≡ map (renewed_pair queries b writes) (map pair_of old) → views_of new ≡ map (view_of queries b writes) (zip (listeners_of old) (views_of old))
  all_views old new e = read new ∙ ap (map (λ (p : Pair). p.1)) e ∙ each old
    where
      read : (ls : List HeldListener) → views_of ls ≡ map (λ (p : Pair). p.1) (map pair_of ls)
      read [] = refl
      read (l ∷ ls) = ap (λ z. l.view ∷ z) (read ls)

      each : (ls : List HeldListener) → map (λ (p : Pair). p.1) (map (renewed_pair queries b writes) (map pair_of ls)) ≡ map (view_of queries b writes) (zip (listeners_of ls) (views_of ls))
      each [] = refl
      each (l ∷ ls) = ap (λ z. view_of queries b writes (pair_of l) ∷ z) (each ls)

-- ---- other lists of the same queries

module _ (some others : List Query) (b : Brought) (writes : List Write) (same : (q : Query) → is_among some q ≡ is_among others q) where
  pub same_listeners : (ls : List Listener) → map (renewed_of some b writes) ls ≡ map (renewed_of others b writes) ls
  same_listeners ls = λ i. map (λ (l : Listener). cond (same l.query i) (renewed b writes l) l) ls

  pub same_views : (ps : List Pair) → map (view_of some b writes) ps ≡ map (view_of others b writes) ps
  same_views ps = λ i. map (λ (p : Pair). cond (same p.0.query i) (view_anew b writes p.0.query p.1) p.1) ps

  pub same_notes : (ls : List Listener) → all_told_of some b writes ls ≡ all_told_of others b writes ls
  same_notes ls = λ i. filter_map (λ (l : Listener). cond (same l.query i) (told b writes l) None) ls

  pub same_counts : (ts : List (Pair × ℕ)) → map (count_of some b writes) ts ≡ map (count_of others b writes) ts
  same_counts ts = λ i. map (λ (t : Pair × ℕ). count_if (same t.0.0.query i) t.1 (cond (same t.0.0.query i) (view_anew b writes t.0.0.query t.0.1) t.0.1)) ts

-- ---- for no query

-- where none is counted there is none
pub no_items : (queries : List Query) → (length queries == 0) ≡ true → queries ≡ []
no_items [] e = refl
no_items (q ∷ queries) e = let none : length (q ∷ queries) ≡ 0 = eqb-true (length (q ∷ queries)) 0 e in absurd (omega (arith, none))

-- none is renewed, nor told
pub none_renewed : (b : Brought) (writes : List Write) (ls : List Listener) → ls ≡ map (renewed_of [] b writes) ls
none_renewed b writes [] = refl
none_renewed b writes (l ∷ ls) = ap (λ z. l ∷ z) (none_renewed b writes ls)

pub none_viewed : (b : Brought) (writes : List Write) (ls : List HeldListener) → views_of ls ≡ map (view_of [] b writes) (zip (listeners_of ls) (views_of ls))
none_viewed b writes [] = refl
none_viewed b writes (l ∷ ls) = ap (λ z. l.view ∷ z) (none_viewed b writes ls)

pub none_noted : (b : Brought) (writes : List Write) (ls : List Listener) → all_told_of [] b writes ls ≡ []
none_noted b writes [] = refl
none_noted b writes (l ∷ ls) = none_noted b writes ls

-- ---- the queries of a path

-- what is one of these is at its path
pub path_of_among : (queries : List Query) (q : Query) → is_among queries q ≡ true → list_any (λ (r : Query). path_eq r.path q.path) queries ≡ true
path_of_among queries q e =
    let a = Any-from_list_any (λ (r : Query). query_eq r q) queries e in
    list_any_at (λ (r : Query). path_eq r.path q.path) queries a.0 a.1 a.2
    (ap (λ (r : Query). path_eq r.path q.path) (a.3 ∙ (query_eq_tells a.1 q).0 a.4) ∙ path_eq-same q.path)

or_cases : {Z : Type 0} (a b : Bool) → (a || b) ≡ true → (a ≡ true → Z) → (b ≡ true → Z) → Z
or_cases true b e f g = f refl
or_cases false b e f g = g e

-- a path that an earlier one has brings no more
had_at : (queries : List Query) (p r : Path) → list_any (λ (q : Query). path_eq q.path p) queries ≡ true → path_eq p r ≡ true → list_any (λ (q : Query). path_eq q.path r) queries ≡ true
had_at queries p r e same = subst (λ z. list_any (λ (q : Query). path_eq q.path z) queries ≡ true) (path_eq-is p r same) e

pub paths_same : (places : List ListenerPlace) (numbers : List ℕ) (queries : List Query) (i : ℕ) (q : Query) → i < length queries → q ≡ get_or queries i q
    → list_any (λ (r : Query). path_eq r.path q.path) (take i queries) ≡ true → HaveAt (take i queries) numbers places → HaveAt (take (i + 1) queries) numbers places
paths_same places numbers queries i q within at had all k d lt e =
    let x : ListenerPlace = get_or places k d in
    or_cases (list_any (λ (r : Query). path_eq r.path x.path) (take i queries)) (path_eq q.path x.path)
    (ap (λ (z : Query). list_any (λ (r : Query). path_eq r.path x.path) (take i queries) || path_eq z.path x.path) at
    ∙ sym (list_any_more (λ (r : Query). path_eq r.path x.path) queries i q within) ∙ e)
    (λ f. all k d lt f)
    (λ f. all k d lt (had_at (take i queries) q.path x.path had f))

-- and one more does
pub paths_more : (places : List ListenerPlace) (old new : List ℕ) (queries : List Query) (i : ℕ) (q : Query) (p : Path) → i < length queries → q ≡ get_or queries i q → p ≡ q.path
    → Keeps old new → HaveNumbers (λ (x : ListenerPlace). path_eq x.path p) new places → HaveAt (take i queries) old places → HaveAt (take (i + 1) queries) new places
paths_more places old new queries i q p within at is kept one all k d lt e =
    let x : ListenerPlace = get_or places k d in
    or_cases (list_any (λ (r : Query). path_eq r.path x.path) (take i queries)) (path_eq q.path x.path)
    (ap (λ (z : Query). list_any (λ (r : Query). path_eq r.path x.path) (take i queries) || path_eq z.path x.path) at
    ∙ sym (list_any_more (λ (r : Query). path_eq r.path x.path) queries i q within) ∙ e)
    (λ f. kept (λ n. x.number == n) (all k d lt f))
    (λ f. one k d lt (path_eq-symm x.path p ∙ ap (λ z. path_eq z x.path) is ∙ f))

pub none_at : (places : List ListenerPlace) (numbers : List ℕ) (queries : List Query) → HaveAt (take 0 queries) numbers places
none_at places numbers queries k d lt e = absurd (true≢false (sym e))

-- ---- the queries of a path

-- those that a listener of some number has
abbrev pub has_of : List HeldListener → Query → ℕ → Bool
has_of ls q n = list_any (λ (l : HeldListener). l.number == n && query_eq l.query q) ls

distributed : (f s a b : Bool) → ((f && s && a) || (f && s && b)) ≡ (f && s && (a || b))
distributed true true a b = refl
distributed true false a b = refl
distributed false s a b = refl

-- one number more
pub more_of : (ls : List HeldListener) (q : Query) (numbers : List ℕ) (i n : ℕ) (f s old new : Bool) → i < length numbers → n ≡ get_or numbers i n
    → old ≡ (f && s && list_any (has_of ls q) (take i numbers)) → new ≡ (old || (f && s && has_of ls q n))
    → new ≡ (f && s && list_any (has_of ls q) (take (i + 1) numbers))
more_of ls q numbers i n f s old new within at before more =
    more ∙ ap (λ b. b || (f && s && has_of ls q n)) before ∙ distributed f s (list_any (has_of ls q) (take i numbers)) (has_of ls q n)
    ∙ ap (λ m. f && s && (list_any (has_of ls q) (take i numbers) || has_of ls q m)) at
    ∙ ap (λ b. f && s && b) (sym (list_any_more (has_of ls q) numbers i n within))

both_false : (f s : Bool) → (f && s && false) ≡ false
both_false true true = refl
both_false true false = refl
both_false false s = refl

pub none_of : (ls : List HeldListener) (q : Query) (numbers : List ℕ) (f s : Bool) → false ≡ (f && s && list_any (has_of ls q) (take 0 numbers))
none_of ls q numbers f s = sym (both_false f s)

or_none : (a : Bool) → a ≡ (a || false)
or_none true = refl
or_none false = refl

-- a query that is pushed where it is wanted
module _ (old : List Query) (r : Query) (p : Path) (q : Query) where
  pub pushed_one : (is_filtered r && path_eq r.path p) ≡ true
      → is_among (old ++ r ∷ []) q ≡ (is_among old q || (is_filtered q && path_eq q.path p && query_eq r q))
  pushed_one own =
      list_any-append (λ (x : Query). query_eq x q) old (r ∷ [])
      ∙ ap (λ b. is_among old q || b) (sym (or_none (query_eq r q)) ∙ at (query_eq r q) refl)
    where
      at : (b : Bool) → query_eq r q ≡ b → query_eq r q ≡ (is_filtered q && path_eq q.path p && query_eq r q)
      at true t =
          let same : r ≡ q = (query_eq_tells r q).0 t in
          let filtered : is_filtered q ≡ true = ap is_filtered (sym same) ∙ both_first (is_filtered r) (path_eq r.path p) own in
          let path : path_eq q.path p ≡ true = ap (λ (x : Query). path_eq x.path p) (sym same) ∙ both_second (is_filtered r) (path_eq r.path p) own in
          sym (λ i. filtered i && path i && query_eq r q)
      at false t = t ∙ sym (ap (λ b. is_filtered q && path_eq q.path p && b) t ∙ both_false (is_filtered q) (path_eq q.path p))

  pub passed_one : (is_filtered r && path_eq r.path p) ≡ false
      → is_among old q ≡ (is_among old q || (is_filtered q && path_eq q.path p && query_eq r q))
  passed_one e = at (query_eq r q) refl
    where
      had : (f s a : Bool) → (f && s) ≡ false → a ≡ (a || (f && s && true))
      had true true a h = absurd (true≢false h)
      had true false a h = or_none a
      had false s a h = or_none a

      at : (b : Bool) → query_eq r q ≡ b → is_among old q ≡ (is_among old q || (is_filtered q && path_eq q.path p && query_eq r q))
      at true t =
          let same : r ≡ q = (query_eq_tells r q).0 t in
          had (is_filtered q) (path_eq q.path p) (is_among old q) (ap (λ (x : Query). is_filtered x && path_eq x.path p) (sym same) ∙ e)
          ∙ ap (λ b. is_among old q || (is_filtered q && path_eq q.path p && b)) (sym t)
      at false t = or_none (is_among old q) ∙ ap (λ b. is_among old q || b) (sym (ap (λ b. is_filtered q && path_eq q.path p && b) t ∙ both_false (is_filtered q) (path_eq q.path p)))

  -- where no listener has the number, nothing is pushed
  pub none_one : (b : Bool) → b ≡ false → is_among old q ≡ (is_among old q || (is_filtered q && path_eq q.path p && b))
  none_one b e = or_none (is_among old q) ∙ ap (λ c. is_among old q || c) (sym (ap (λ c. is_filtered q && path_eq q.path p && c) e ∙ both_false (is_filtered q) (path_eq q.path p)))

-- of queries one behind an equal one goes, and so none is lost
among_from : (k : Query) (xs : List Query) (q : Query) → is_among (dedup_from query_eq k xs) q ≡ (query_eq k q || is_among xs q)
among_from k [] q = refl
among_from k (x ∷ xs) q = at (query_eq x k) refl (among_from k xs q) (among_from x xs q)
  where
    twice : (a b : Bool) → (a || b) ≡ (a || (a || b))
    twice true b = refl
    twice false b = refl

    at : (b : Bool) → query_eq x k ≡ b
        → is_among (dedup_from query_eq k xs) q ≡ (query_eq k q || is_among xs q)
        → is_among (dedup_from query_eq x xs) q ≡ (query_eq x q || is_among xs q)
        → is_among (cond (query_eq x k) (dedup_from query_eq k xs) (k ∷ dedup_from query_eq x xs)) q ≡ (query_eq k q || (query_eq x q || is_among xs q))
    at true e gone kept =
        ap (λ b. is_among (cond b (dedup_from query_eq k xs) (k ∷ dedup_from query_eq x xs)) q) e
        ∙ gone ∙ twice (query_eq k q) (is_among xs q)
        ∙ ap (λ (y : Query). query_eq k q || (query_eq y q || is_among xs q)) (sym ((query_eq_tells x k).0 e))
    at false e gone kept =
        ap (λ b. is_among (cond b (dedup_from query_eq k xs) (k ∷ dedup_from query_eq x xs)) q) e
        ∙ ap (λ b. query_eq k q || b) kept

pub among_once : (xs : List Query) (q : Query) → is_among (dedup query_eq xs) q ≡ is_among xs q
among_once [] q = refl
among_once (x ∷ xs) q = among_from x xs q

-- the numbers of all at the path bring all their queries
pub all_of_path : (ls : List HeldListener) (p : Path) (numbers : List ℕ) (q : Query) → All (λ (l : HeldListener). path_eq l.query.path p ≡ true → list_any (λ n. l.number == n) numbers ≡ true) ls
    → (is_filtered q && path_eq q.path p && list_any (has_of ls q) numbers) ≡ (is_filtered q && path_eq q.path p && list_any (λ (l : Listener). query_eq l.query q) (listeners_of ls))
all_of_path ls p numbers q all = at (path_eq q.path p) refl
  where
    read : (xs : List HeldListener) → list_any (λ (l : Listener). query_eq l.query q) (listeners_of xs) ≡ list_any (λ (l : HeldListener). query_eq l.query q) xs
    read [] = refl
    read (x ∷ xs) = ap (λ b. query_eq x.query q || b) (read xs)

    some : list_any (has_of ls q) numbers ≡ true → list_any (λ (l : HeldListener). query_eq l.query q) ls ≡ true
    some e =
        let n = Any-from_list_any (has_of ls q) numbers e in
        let l = Any-from_list_any (λ (l : HeldListener). l.number == n.1 && query_eq l.query q) ls n.4 in
        list_any_at (λ (x : HeldListener). query_eq x.query q) ls l.0 l.1 l.2 (ap (λ (x : HeldListener). query_eq x.query q) l.3 ∙ second ((l.1).number == n.1) (query_eq (l.1).query q) l.4)
      where
        second : (a b : Bool) → (a && b) ≡ true → b ≡ true
        second true b h = h
        second false b h = absurd (true≢false (sym h))

    back : path_eq q.path p ≡ true → list_any (λ (l : HeldListener). query_eq l.query q) ls ≡ true → list_any (has_of ls q) numbers ≡ true
    back here e =
        let l = Any-from_list_any (λ (x : HeldListener). query_eq x.query q) ls e in
        let there : path_eq (get_or ls l.0 l.1).query.path p ≡ true = ap (λ (x : HeldListener). path_eq x.query.path p) l.3 ∙ ap (λ (x : Query). path_eq x.path p) ((query_eq_tells (l.1).query q).0 l.4) ∙ here in
        let n = Any-from_list_any (λ n. (get_or ls l.0 l.1).number == n) numbers (all l.0 l.1 l.2 there) in
        let own : ((get_or ls l.0 l.1).number == n.1 && query_eq (get_or ls l.0 l.1).query q) ≡ true = (λ i. n.4 i && (ap (λ (x : HeldListener). query_eq x.query q) l.3 ∙ l.4) i) in
        list_any_at (has_of ls q) numbers n.0 n.1 n.2 (ap (has_of ls q) n.3 ∙ list_any_at (λ (x : HeldListener). x.number == n.1 && query_eq x.query q) ls l.0 l.1 l.2 own)

    nothing : (f a : Bool) → (f && false && a) ≡ false
    nothing true a = refl
    nothing false a = refl

    same : (a b : Bool) → (a ≡ true → b ≡ true) → (b ≡ true → a ≡ true) → a ≡ b
    same true b f g = sym (f refl)
    same false true f g = g refl
    same false false f g = refl

    at : (b : Bool) → path_eq q.path p ≡ b
        → (is_filtered q && path_eq q.path p && list_any (has_of ls q) numbers) ≡ (is_filtered q && path_eq q.path p && list_any (λ (l : Listener). query_eq l.query q) (listeners_of ls))
    at true e = ap (λ b. is_filtered q && path_eq q.path p && b) (same (list_any (has_of ls q) numbers) (list_any (λ (l : HeldListener). query_eq l.query q) ls) some (back e) ∙ sym (read ls))
    at false e =
        ap (λ b. is_filtered q && b && list_any (has_of ls q) numbers) e ∙ nothing (is_filtered q) (list_any (has_of ls q) numbers)
        ∙ sym (ap (λ b. is_filtered q && b && list_any (λ (l : Listener). query_eq l.query q) (listeners_of ls)) e ∙ nothing (is_filtered q) (list_any (λ (l : Listener). query_eq l.query q) (listeners_of ls)))

-- those of the numbers of a range bring the queries that it supplies
pub supplied_of_path : (ls : List HeldListener) (range : Query) (numbers : List ℕ) (q : Query) → HaveSupplied range numbers ls
    → (is_filtered q && path_eq q.path range.path && list_any (has_of ls q) numbers)
    ≡ ((is_filtered q && path_eq q.path range.path && list_any (λ (l : Listener). query_eq l.query q) (listeners_of ls)) && does_supply range q)
supplied_of_path ls range numbers q all = at (is_filtered q) (path_eq q.path range.path) refl
  where
    heard : Bool
    heard = list_any (λ (l : Listener). query_eq l.query q) (listeners_of ls)

    read : (xs : List HeldListener) → list_any (λ (l : Listener). query_eq l.query q) (listeners_of xs) ≡ list_any (λ (l : HeldListener). query_eq l.query q) xs
    read [] = refl
    read (x ∷ xs) = ap (λ b. query_eq x.query q || b) (read xs)

    -- a listener of the query, and whether its number is one of these
    tested : (k : ℕ) (d : HeldListener) → k < length ls → query_eq (get_or ls k d).query q ≡ true → list_any (λ n. (get_or ls k d).number == n) numbers ≡ is_supplied_at range q
    tested k d lt e = all k d lt ∙ ap (is_supplied_at range) ((query_eq_tells (get_or ls k d).query q).0 e)

    there : list_any (has_of ls q) numbers ≡ true → (heard && is_supplied_at range q) ≡ true
    there e =
        let n = Any-from_list_any (has_of ls q) numbers e in
        let l = Any-from_list_any (λ (x : HeldListener). x.number == n.1 && query_eq x.query q) ls n.4 in
        let own : query_eq (get_or ls l.0 l.1).query q ≡ true = ap (λ (x : HeldListener). query_eq x.query q) l.3 ∙ both_second ((l.1).number == n.1) (query_eq (l.1).query q) l.4 in
        let number : list_any (λ m. (get_or ls l.0 l.1).number == m) numbers ≡ true =
        list_any_at (λ m. (get_or ls l.0 l.1).number == m) numbers n.0 n.1 n.2
        ((λ i. (l.3 i).number == n.3 i) ∙ both_first ((l.1).number == n.1) (query_eq (l.1).query q) l.4) in
        both heard (is_supplied_at range q) (read ls ∙ list_any_at (λ (x : HeldListener). query_eq x.query q) ls l.0 l.1 l.2 own) (sym (tested l.0 l.1 l.2 own) ∙ number)

    back : (heard && is_supplied_at range q) ≡ true → list_any (has_of ls q) numbers ≡ true
    back e =
        let l = Any-from_list_any (λ (x : HeldListener). query_eq x.query q) ls (sym (read ls) ∙ both_first heard (is_supplied_at range q) e) in
        let own : query_eq (get_or ls l.0 l.1).query q ≡ true = ap (λ (x : HeldListener). query_eq x.query q) l.3 ∙ l.4 in
        let n = Any-from_list_any (λ m. (get_or ls l.0 l.1).number == m) numbers (tested l.0 l.1 l.2 own ∙ both_second heard (is_supplied_at range q) e) in
        list_any_at (has_of ls q) numbers n.0 n.1 n.2 (ap (has_of ls q) n.3
        ∙ list_any_at (λ (x : HeldListener). x.number == n.1 && query_eq x.query q) ls l.0 l.1 l.2 (both ((get_or ls l.0 l.1).number == n.1) (query_eq (get_or ls l.0 l.1).query q) n.4 own))

    same : (a b : Bool) → (a ≡ true → b ≡ true) → (b ≡ true → a ≡ true) → a ≡ b
    same true b f g = sym (f refl)
    same false true f g = g refl
    same false false f g = refl

    at : (f p : Bool) → path_eq q.path range.path ≡ p → (f && p && list_any (has_of ls q) numbers) ≡ ((f && p && heard) && does_supply range q)
    at true true e = same (list_any (has_of ls q) numbers) (heard && is_supplied_at range q) there back ∙ ap (λ b. heard && (b && does_supply range q)) e
    at true false e = refl
    at false p e = refl
