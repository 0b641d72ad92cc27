-- What is gathered of queries, one after another.
use Rattle.std.proofs.Common.{◌≡◌, ℕ, ◌+◌, ◌<◌, Bool, true, false, cond, not, ◌&&◌, ◌||◌, List, [], ◌∷◌, ◌++◌, length, get_or, take, refl, sym, ap, ◌∙◌, arith, Some, None}
use mathlib.Core.Bool.{true≢false}
use Rattle.std.specs.List.{dedup, dedup_from, list_any}
use Rattle.std.specs.Option.{option_map_or}
use Rattle.std.proofs.lemmas.List.Elements.{All-append, All-cons, All-nil}
use Rattle.std.proofs.lemmas.List.Folds.{Any-from_list_any, list_any-append, list_any_at, list_any_more}
use Rattle.rt_tree.specs.PathTree.{Path, path_eq, path_eq-is, path_eq-symm}
use Rattle.rt_query.specs.Queries.{Query, is_filtered}
use Rattle.rt_query.specs.QueryEq.{query_eq}
use Rattle.rt_query.specs.Supply.{does_supply}
use Rattle.rt_query.specs.laws.QueryEq.{query_eq_tells}
use Rattle.rt_cache.specs.Brought.{Brought, source}
use Rattle.rt_cache.specs.Recover.{is_among}
use Rattle.rt_parts.specs.Refreshed.{is_supplied_at}
use Rattle.rt_parts.specs.Renewed.{is_listened_at}
use Rattle.rt_world.specs.World.{Listener}
use Rattle.rt_sync.specs.declared.steps.losses.Had.{Had}
use Rattle.rt_sync.specs.inside.Moving.{is_of_path, has_others, is_lent, is_had, HaveSources}

-- ---- tests

or_none : (a : Bool) → a ≡ (a || false)
or_none true = refl
or_none false = refl

or_same : (a b : Bool) → (b ≡ true → a ≡ true) → a ≡ (a || b)
or_same true b h = refl
or_same false true h = h refl
or_same false false h = refl

and_false : (a : Bool) → (a && false) ≡ false
and_false true = refl
and_false false = refl

second : (a b : Bool) → (a && b) ≡ true → b ≡ true
second true b e = e
second false b e = absurd (true≢false (sym e))

first : (a b : Bool) → (a && b) ≡ true → a ≡ true
first true b e = refl
first false b e = e

-- one more of a list is tested
pub any_step : {X : Type 0} (test : X → Bool) (xs : List X) (i : ℕ) (x : X) (old new : Bool) → i < length xs → x ≡ get_or xs i x
    → old ≡ list_any test (take i xs) → new ≡ (old || test x) → new ≡ list_any test (take (i + 1) xs)
any_step test xs i x old new within at before more =
    more ∙ (λ j. before j || test (at j)) ∙ sym (list_any_more test xs i x within)

-- ---- forms, one of each path

module _ (old : List Query) (f : Query) (may : Bool) (t : Query → Bool) where
  pub no_mover : may ≡ false → list_any t old ≡ (list_any t old || (may && t f))
  no_mover e = or_none (list_any t old) ∙ ap (λ b. list_any t old || (b && t f)) (sym e)

  pub more_mover : may ≡ true → list_any t (old ++ f ∷ []) ≡ (list_any t old || (may && t f))
  more_mover e =
      list_any-append t old (f ∷ [])
      ∙ ap (λ b. list_any t old || b) (sym (or_none (t f)) ∙ ap (λ b. b && t f) (sym e))

-- two forms of one path
abbrev pub of_one_path : Query → Query → Bool
of_one_path f g = path_eq f.path g.path

-- of forms one behind one of its path goes, and so no path is lost
of_path_from : (k : Query) (fs : List Query) (p : Path) → is_of_path (dedup_from of_one_path k fs) p ≡ (path_eq k.path p || is_of_path fs p)
of_path_from k [] p = refl
of_path_from k (f ∷ fs) p = at (path_eq f.path k.path) refl (of_path_from k fs p) (of_path_from f fs p)
  where
    twice : (a b : Bool) → (a || b) ≡ (a || (a || b))
    twice true b = refl
    twice false b = refl

    at : (b : Bool) → path_eq f.path k.path ≡ b
        → is_of_path (dedup_from of_one_path k fs) p ≡ (path_eq k.path p || is_of_path fs p)
        → is_of_path (dedup_from of_one_path f fs) p ≡ (path_eq f.path p || is_of_path fs p)
        → is_of_path (cond (path_eq f.path k.path) (dedup_from of_one_path k fs) (k ∷ dedup_from of_one_path f fs)) p ≡ (path_eq k.path p || (path_eq f.path p || is_of_path fs p))
    at true e gone kept =
        ap (λ b. is_of_path (cond b (dedup_from of_one_path k fs) (k ∷ dedup_from of_one_path f fs)) p) e
        ∙ gone ∙ twice (path_eq k.path p) (is_of_path fs p)
        ∙ ap (λ x. path_eq k.path p || (path_eq x p || is_of_path fs p)) (sym (path_eq-is f.path k.path e))
    at false e gone kept =
        ap (λ b. is_of_path (cond b (dedup_from of_one_path k fs) (k ∷ dedup_from of_one_path f fs)) p) e
        ∙ ap (λ b. path_eq k.path p || b) kept

pub one_of_each_path : (fs : List Query) (p : Path) → is_of_path (dedup of_one_path fs) p ≡ is_of_path fs p
one_of_each_path [] p = refl
one_of_each_path (f ∷ fs) p = of_path_from f fs p

-- ---- what had another form's window

module _ (b : Brought) (old : List Had) (r q : Query) where
  pub not_had : has_others b r ≡ false → is_had old q ≡ (is_had old q || (query_eq r q && has_others b q))
  not_had e = or_same (is_had old q) (query_eq r q && has_others b q) (λ t.
      absurd (true≢false (sym (second (query_eq r q) (has_others b q) t) ∙ ap (has_others b) (sym ((query_eq_tells r q).0 (first (query_eq r q) (has_others b q) t))) ∙ e)))

  pub more_had : (z : Had) → z.query ≡ r → has_others b r ≡ true → is_had (old ++ z ∷ []) q ≡ (is_had old q || (query_eq r q && has_others b q))
  more_had z same e =
      list_any-append (λ (h : Had). query_eq h.query q) old (z ∷ [])
      ∙ ap (λ c. is_had old q || c) (sym (or_none (query_eq z.query q)) ∙ ap (λ x. query_eq x q) same ∙ at (query_eq r q) refl)
    where
      at : (c : Bool) → query_eq r q ≡ c → query_eq r q ≡ (query_eq r q && has_others b q)
      at true t = t ∙ sym ((λ i. t i && (ap (has_others b) (sym ((query_eq_tells r q).0 t)) ∙ e) i))
      at false t = t ∙ sym (ap (λ c. c && has_others b q) t)

-- by the source it is told whether that is another form
pub others_none : (b : Brought) (q : Query) → source b q ≡ None → has_others b q ≡ false
others_none b q e = ap (λ o. option_map_or (λ f. not (query_eq f q)) o false) e

pub others_by : (b : Brought) (q f : Query) (c : Bool) → source b q ≡ Some f → query_eq f q ≡ c → has_others b q ≡ not c
others_by b q f c e t = ap (λ o. option_map_or (λ f. not (query_eq f q)) o false) e ∙ ap not t

pub more_sources : (b : Brought) (old : List Had) (z : Had) → source b z.query ≡ Some z.source → HaveSources b old → HaveSources b (old ++ z ∷ [])
more_sources b old z e h =
    All-append (λ (x : Had). source b x.query ≡ Some x.source) old (z ∷ []) h
    (All-cons (λ (x : Had). source b x.query ≡ Some x.source) z [] e (All-nil (λ (x : Had). source b x.query ≡ Some x.source)))

pub no_sources : (b : Brought) → HaveSources b []
no_sources b = All-nil (λ (x : Had). source b x.query ≡ Some x.source)

-- ---- several queries

pub several : (start : Bool) (xs : List Query) (i : ℕ) (x q : Query) (o old new : Bool) → i < length xs → x ≡ get_or xs i x
    → old ≡ (start || (is_among (take i xs) q && o)) → new ≡ (old || (query_eq x q && o)) → new ≡ (start || (is_among (take (i + 1) xs) q && o))
several start xs i x q o old new within at before more =
    more ∙ ap (λ b. b || (query_eq x q && o)) before
    ∙ joined start (is_among (take i xs) q) (query_eq x q) o
    ∙ ap (λ z. start || ((is_among (take i xs) q || query_eq z q) && o)) at
    ∙ ap (λ b. start || (b && o)) (sym (list_any_more (λ (y : Query). query_eq y q) xs i x within))
  where
    joined : (a b c o : Bool) → ((a || (b && o)) || (c && o)) ≡ (a || ((b || c) && o))
    joined true b c o = refl
    joined false true c true = refl
    joined false true true false = refl
    joined false true false false = refl
    joined false false c o = refl

pub several_none : (start : Bool) (xs : List Query) (q : Query) (o : Bool) → start ≡ (start || (is_among (take 0 xs) q && o))
several_none start xs q o = or_none start

-- ---- several paths

module _ (b : Brought) (ls : List Listener) (q : Query) where
  abbrev heard : Bool
  heard = list_any (λ (l : Listener). query_eq l.query q) ls

  pub paths_none : (forms : List Query) → false ≡ (is_of_path (take 0 forms) q.path && is_lent b ls q)
  paths_none forms = refl

  pub paths_more : (forms : List Query) (i : ℕ) (f : Query) (p : Path) (old new : Bool) → i < length forms → f ≡ get_or forms i f → p ≡ f.path
      → old ≡ (is_of_path (take i forms) q.path && is_lent b ls q) → new ≡ (old || (is_listened_at ls p q && has_others b q))
      → new ≡ (is_of_path (take (i + 1) forms) q.path && is_lent b ls q)
  paths_more forms i f p old new within at is before more =
      more ∙ ap (λ c. c || (is_listened_at ls p q && has_others b q)) before
      ∙ ap (λ e. (is_of_path (take i forms) q.path && is_lent b ls q) || ((is_filtered q && e && heard) && has_others b q))
      (path_eq-symm q.path p ∙ ap (λ z. path_eq z q.path) is ∙ ap (λ (z : Query). path_eq z.path q.path) at)
      ∙ joined (is_of_path (take i forms) q.path) (is_filtered q) (path_eq (get_or forms i f).path q.path) heard (has_others b q)
      ∙ ap (λ c. c && is_lent b ls q) (sym (list_any_more (λ (z : Query). path_eq z.path q.path) forms i f within))
    where
      joined : (a f e l o : Bool) → ((a && (f && l && o)) || ((f && e && l) && o)) ≡ ((a || e) && (f && l && o))
      joined true true true true true = refl
      joined true true true true false = refl
      joined true true true false o = refl
      joined true true false true true = refl
      joined true true false true false = refl
      joined true true false false o = refl
      joined true false e l o = refl
      joined false true true l o = refl
      joined false true false l o = refl
      joined false false true l o = refl
      joined false false false l o = refl

-- ---- what is moved

module _ (old : List Query) (r q : Query) (is : Bool) where
  pub not_moved : is ≡ false → is_among old q ≡ (is_among old q || (query_eq r q && is))
  not_moved e = or_none (is_among old q) ∙ ap (λ c. is_among old q || c) (sym (ap (λ c. query_eq r q && c) e ∙ and_false (query_eq r q)))

  pub more_moved : is ≡ true → is_among (old ++ r ∷ []) q ≡ (is_among old q || (query_eq r q && is))
  more_moved e =
      list_any-append (λ (x : Query). query_eq x q) old (r ∷ [])
      ∙ ap (λ c. is_among old q || c) (sym (or_none (query_eq r q)) ∙ at (query_eq r q) ∙ ap (λ c. query_eq r q && c) (sym e))
    where
      at : (c : Bool) → c ≡ (c && true)
      at true = refl
      at false = refl

-- ---- one form alone

-- a list of one
only_one : (fs : List Query) (d : Query) → length fs ≡ 1 → fs ≡ get_or fs 0 d ∷ []
only_one [] d e = absurd (omega (arith, e))
only_one (f ∷ []) d e = refl
only_one (f ∷ g ∷ fs) d e = absurd (omega (arith, e))

-- the tests of a query that a range supplies, and that is lent a window
pub supplied_lent : (f p h s o : Bool) → (((f && p && h) && s) && o) ≡ ((p && s) && (f && h && o))
supplied_lent true true true true o = refl
supplied_lent true true true false o = refl
supplied_lent true true false true o = refl
supplied_lent true true false false o = refl
supplied_lent true false h s o = refl
supplied_lent false true h true o = refl
supplied_lent false true h false o = refl
supplied_lent false false h s o = refl

-- what one form supplies is of its path
module _ (b : Brought) (ls : List Listener) (fs : List Query) (f q : Query) (long : length fs ≡ 1) (at : f ≡ get_or fs 0 f) where
  one : fs ≡ f ∷ []
  one = only_one fs f long ∙ ap (λ g. g ∷ []) (sym at)

  pub one_of_paths : (is_supplied_at f q && is_lent b ls q) ≡ true → (is_of_path fs q.path && is_lent b ls q) ≡ true
  one_of_paths e =
      let here : path_eq f.path q.path ≡ true = path_eq-symm f.path q.path ∙ first (path_eq q.path f.path) (does_supply f q) (first (is_supplied_at f q) (is_lent b ls q) e) in
      ap (λ gs. is_of_path gs q.path && is_lent b ls q) one ∙ ap (λ c. (c || false) && is_lent b ls q) here ∙ second (is_supplied_at f q) (is_lent b ls q) e

  pub one_supplied : (list_any (λ (g : Query). is_supplied_at g q) fs && is_lent b ls q) ≡ true → (is_supplied_at f q && is_lent b ls q) ≡ true
  one_supplied e = ap (λ c. c && is_lent b ls q) (or_none (is_supplied_at f q)) ∙ sym (ap (λ gs. list_any (λ (g : Query). is_supplied_at g q) gs && is_lent b ls q) one) ∙ e

-- so it is with several
pub of_path_supplied : (fs : List Query) (q : Query) (lent : Bool) → (list_any (λ (g : Query). is_supplied_at g q) fs && lent) ≡ true → (is_of_path fs q.path && lent) ≡ true
of_path_supplied fs q lent e =
    let a = Any-from_list_any (λ (g : Query). is_supplied_at g q) fs (first (list_any (λ (g : Query). is_supplied_at g q) fs) lent e) in
    let at : path_eq (get_or fs a.0 a.1).path q.path ≡ true = path_eq-symm (get_or fs a.0 a.1).path q.path ∙ ap (λ (g : Query). path_eq q.path g.path) a.3 ∙ first (path_eq q.path (a.1).path) (does_supply a.1 q) a.4 in
    ap (λ c. c && lent) (list_any_at (λ (g : Query). path_eq g.path q.path) fs a.0 a.1 a.2 at) ∙ second (list_any (λ (g : Query). is_supplied_at g q) fs) lent e
