-- Queries that are lent, and those of them that pass a test; which regions are lost where a place is.
use Rattle.std.proofs.Common.{◌≡◌, ℕ, suc, ◌+◌, ◌<◌, ◌≤◌, Bool, true, false, cond, not, ◌&&◌, ◌||◌, List, [], ◌∷◌, ◌++◌, length, get_or, drop, map, append-nil, refl, sym, ap, subst, ◌∙◌, arith}
use Rattle.std.proofs.Common.{is_some}
use mathlib.Core.Bool.{true≢false}
use Rattle.std.specs.Prelude.{IfOk}
use Rattle.std.specs.List.{filter, list_any, All}
use Rattle.std.specs.Ordering.{is_lt}
use Rattle.std.specs.declared.result.Result.{Result}
use Rattle.std.specs.declared.result.Result.TheVariants.{Ok}
use Rattle.std.proofs.lemmas.List.{drop_more, get_or-map}
use Rattle.std.proofs.lemmas.List.Elements.{filter_passes, at_read}
use Rattle.std.proofs.lemmas.List.Folds.{Any-from_list_any, list_any-append}
use Rattle.rt_tree.specs.PathTree.{Path, PathTree}
use Rattle.rt_tree.specs.Assignments.{is_at_or_above, have_overlap}
use Rattle.rt_tree.specs.TreeEq.{both_first, both_second, both}
use Rattle.rt_query.specs.Queries.{Query, is_filtered}
use Rattle.rt_query.specs.QueryEq.{query_eq}
use Rattle.rt_query.specs.QueryOrder.{query_cmp}
use Rattle.rt_query.specs.Supply.{does_supply}
use Rattle.rt_query.specs.laws.QueryEq.{query_eq_tells}
use Rattle.rt_cache.specs.Brought.{region_part}
use Rattle.rt_cache.specs.Recover.{reaches, regions_kept, is_among}
use Rattle.rt_cache.specs.declared.by_path.Lent.{Lent}
use Rattle.rt_cache.specs.declared.regions.Region.{Region}
use Rattle.rt_cache.specs.declared.by_path.Span.{Span}
use Rattle.rt_cache.specs.declared.windows.Window.{Window}
use Rattle.rt_cache.specs.inside.ByPath.{AreByQuery}
use Rattle.rt_cache.specs.inside.Cuts.{parts_left, IsCut}
use Rattle.rt_cache.specs.inside.Handing.{lent_queries, window_queries, is_alike, is_region_lost, is_supplied_by_one, AreThose}
use Rattle.rt_cache.specs.inside.Held.{pair_of, pairs_of}
use Rattle.rt_cache.specs.inside.Spans.{has_place, have_place}
use Rattle.rt_cache.proofs.Among.{any_with, of_among}
use Rattle.rt_cache.proofs.ByPaths.{any_map}
use Rattle.rt_cache.proofs.ByQueries.{by_query-filter}
use Rattle.rt_cache.proofs.Cuts.{part_any}
use Rattle.rt_cache.proofs.InSpans.{none_in}
use Rattle.rt_cache.proofs.Parts.{all_dropped, held_by, held_at, of_not}

-- ---- lists of queries

pub same_length : {X Y : Type 0} (f : X → Y) (xs : List X) → length (map f xs) ≡ length xs
same_length f [] = refl
same_length f (x ∷ xs) = ap suc (same_length f xs)

pub nothing_left : {X : Type 0} (xs : List X) → length xs ≡ 0 → xs ≡ []
nothing_left [] e = refl
nothing_left (x ∷ xs) e = absurd (omega (arith, e))

-- in order by what they give
pub by_query-mapped : {X : Type 0} (q : X → Query) (xs : List X) → AreByQuery q xs → AreByQuery (λ (x : Query). x) (map q xs)
by_query-mapped q [] up k d low high = absurd (omega (arith, high))
by_query-mapped q (x ∷ xs) up k d low high =
    let there : k + 1 < length (x ∷ xs) = subst (λ n. k + 1 < n) (same_length q (x ∷ xs)) high in
    (λ i. is_lt (query_cmp (get_or-map q (x ∷ xs) (k + 1) x d there i) (get_or-map q (x ∷ xs) k x d (omega (arith, there)) i))) ∙ up k x low there

pub by_query-from_mapped : {X : Type 0} (q : X → Query) (xs : List X) → AreByQuery (λ (x : Query). x) (map q xs) → AreByQuery q xs
by_query-from_mapped q xs up k d low high =
    sym (λ i. is_lt (query_cmp (get_or-map q xs (k + 1) d (q d) high i) (get_or-map q xs k d (q d) (omega (arith, high)) i)))
    ∙ up k (q d) low (subst (λ n. k + 1 < n) (sym (same_length q xs)) high)

pub all-from_mapped : {X Y : Type 0} (P : Y → Type 0) (f : X → Y) (xs : List X) → All P (map f xs) → All (λ x. P (f x)) xs
all-from_mapped P f xs h k d lt = subst P (get_or-map f xs k d (f d) lt) (h k (f d) (subst (λ n. k < n) (sym (same_length f xs)) lt))

-- those that pass, by what they give
pub passing_mapped : {X : Type 0} (q : X → Query) (p : Query → Bool) (xs : List X) → map q (filter (λ x. p (q x)) xs) ≡ filter p (map q xs)
passing_mapped q p [] = refl
passing_mapped q p (x ∷ xs) =
    elim (p (q x)) as (λ b. map q (cond b (x ∷ filter (λ y. p (q y)) xs) (filter (λ y. p (q y)) xs)) ≡ cond b (q x ∷ filter p (map q xs)) (filter p (map q xs))) [
      | true ↦ ap (λ ys. q x ∷ ys) (passing_mapped q p xs)
      | false ↦ passing_mapped q p xs
    ]

-- whether a query is among those that are lent
pub among_lent : (lent : List Lent) (x : Query) → list_any (λ (l : Lent). query_eq l.query.now x) lent ≡ is_among (lent_queries lent) x
among_lent lent x = any_map (λ (l : Lent). l.query.now) (λ q. query_eq q x) lent

-- ---- one more

pub lent_more : (xs : List Lent) (l : Lent) (rest : List Query) → lent_queries (xs ++ l ∷ []) ++ rest ≡ lent_queries xs ++ l.query.now ∷ rest
lent_more [] l rest = refl
lent_more (x ∷ xs) l rest = ap (λ qs. x.query.now ∷ qs) (lent_more xs l rest)

pub mapped_dropped : {X : Type 0} (q : X → Query) (xs : List X) (n : ℕ) (x : X) → n < length xs → x ≡ get_or xs n x → map q (drop n xs) ≡ q x ∷ map q (drop (n + 1) xs)
mapped_dropped q xs n x lt at = ap (map q) (drop_more xs n x lt) ∙ sym (ap (λ y. q y ∷ map q (drop (n + 1) xs)) at)

pub window_dropped : (ws : List Window) (n : ℕ) (w : Window) → n < length ws → w ≡ get_or ws n w → window_queries (drop n ws) ≡ w.query ∷ window_queries (drop (n + 1) ws)
window_dropped ws n w lt at = ap window_queries (drop_more ws n w lt) ∙ sym (ap (λ (x : Window). x.query ∷ window_queries (drop (n + 1) ws)) at)

pub lent_dropped : (ls : List Lent) (n : ℕ) (l : Lent) → n < length ls → l ≡ get_or ls n l → lent_queries (drop n ls) ≡ l.query.now ∷ lent_queries (drop (n + 1) ls)
lent_dropped ls n l lt at = ap lent_queries (drop_more ls n l lt) ∙ sym (ap (λ (x : Lent). x.query.now ∷ lent_queries (drop (n + 1) ls)) at)

-- one passes the test, or none
pub one_passes : (test : Query → Bool) (old new forms : List Lent) (n : ℕ) (f : Lent) (whole : List Query) → n < length forms → f ≡ get_or forms n f → test f.query.now ≡ true
    → new ≡ old ++ f ∷ [] → lent_queries old ++ filter test (lent_queries (drop n forms)) ≡ whole → lent_queries new ++ filter test (lent_queries (drop (n + 1) forms)) ≡ whole
one_passes test old new forms n f whole lt at e pushed is =
    let rest : List Query = filter test (lent_queries (drop (n + 1) forms)) in
    ap (λ ls. lent_queries ls ++ rest) pushed ∙ lent_more old f rest
    ∙ ap (λ qs. lent_queries old ++ qs) (sym (ap (filter test) (lent_dropped forms n f lt at) ∙ ap (λ b. cond b (f.query.now ∷ rest) rest) e)) ∙ is

pub one_fails : (test : Query → Bool) (old new forms : List Lent) (n : ℕ) (f : Lent) (whole : List Query) → n < length forms → f ≡ get_or forms n f → test f.query.now ≡ false
    → new ≡ old → lent_queries old ++ filter test (lent_queries (drop n forms)) ≡ whole → lent_queries new ++ filter test (lent_queries (drop (n + 1) forms)) ≡ whole
one_fails test old new forms n f whole lt at e same is =
    let rest : List Query = filter test (lent_queries (drop (n + 1) forms)) in
    ap (λ ls. lent_queries ls ++ rest) same
    ∙ ap (λ qs. lent_queries old ++ qs) (sym (ap (filter test) (lent_dropped forms n f lt at) ∙ ap (λ b. cond b (f.query.now ∷ rest) rest) e)) ∙ is

pub all_passed : (test : Query → Bool) (lent forms : List Lent) (n : ℕ) (whole : List Query) → length forms ≤ n → lent_queries lent ++ filter test (lent_queries (drop n forms)) ≡ whole → lent_queries lent ≡ whole
all_passed test lent forms n whole done is =
    sym (append-nil (lent_queries lent)) ∙ ap (λ (ls : List Lent). lent_queries lent ++ filter test (lent_queries ls)) (sym (all_dropped n forms done)) ∙ is

-- where not one alone ends, all stay; and where one does, it tells who stays
every_one : (qs : List Query) → filter (λ q. true) qs ≡ qs
every_one [] = refl
every_one (q ∷ qs) = ap (λ xs. q ∷ xs) (every_one qs)

pub all_stay : (ended lent : List Lent) → (length ended ≡ 1 → ⊥) → filter (is_supplied_by_one (lent_queries ended)) (lent_queries lent) ≡ lent_queries lent
all_stay [] lent many = every_one (lent_queries lent)
all_stay (w ∷ []) lent many = absurd (many refl)
all_stay (w ∷ v ∷ ws) lent many = every_one (lent_queries lent)

pub one_tells : (ended : List Lent) (one : Lent) → length ended ≡ 1 → one ≡ get_or ended 0 one → is_supplied_by_one (lent_queries ended) ≡ does_supply one.query.now
one_tells [] one e at = absurd (omega (arith, e))
one_tells (w ∷ []) one e at = ap (λ (l : Lent). does_supply l.query.now) (sym at)
one_tells (w ∷ v ∷ ws) one e at = absurd (omega (arith, e))

query_eq_turned : (x y : Query) → query_eq x y ≡ query_eq y x
query_eq_turned x y = at (query_eq x y) refl (query_eq y x) refl
  where
    at : (a : Bool) → query_eq x y ≡ a → (b : Bool) → query_eq y x ≡ b → query_eq x y ≡ query_eq y x
    at true e true f = e ∙ sym f
    at true e false f = absurd (true≢false (sym ((query_eq_tells y x).1 (sym ((query_eq_tells x y).0 e))) ∙ f))
    at false e true f = absurd (true≢false (sym ((query_eq_tells x y).1 (sym ((query_eq_tells y x).0 f))) ∙ e))
    at false e false f = e ∙ sym f

-- where those of one query more stand, and those of the others
pub span_more : (those : List Lent) (n : ℕ) (one : Lent) (spans : List Span) (s : Span) (k : ℕ) (x : Query) → n < length those → one ≡ get_or those n one
    → query_eq x one.query.now ≡ has_place k s
    → (have_place (spans ++ s ∷ []) k || is_among (lent_queries (drop (n + 1) those)) x) ≡ (have_place spans k || is_among (lent_queries (drop n those)) x)
span_more those n one spans s k x lt at exact =
    ap (λ b. b || is_among (lent_queries (drop (n + 1) those)) x) (list_any-append (has_place k) spans (s ∷ []))
    ∙ moved (have_place spans k) (has_place k s) (is_among (lent_queries (drop (n + 1) those)) x)
    ∙ ap (λ b. have_place spans k || (b || is_among (lent_queries (drop (n + 1) those)) x)) (sym exact ∙ query_eq_turned x one.query.now)
    ∙ ap (λ qs. have_place spans k || is_among qs x) (sym (lent_dropped those n one lt at))
  where
    moved : (a b c : Bool) → ((a || (b || false)) || c) ≡ (a || (b || c))
    moved true b c = refl
    moved false true c = refl
    moved false false c = refl

-- where there are none of it
pub span_less : (those : List Lent) (n : ℕ) (one : Lent) (spans : List Span) (s : Span) (k : ℕ) (x : Query) → n < length those → one ≡ get_or those n one
    → s.end ≤ s.start → query_eq x one.query.now ≡ has_place k s
    → (have_place spans k || is_among (lent_queries (drop (n + 1) those)) x) ≡ (have_place spans k || is_among (lent_queries (drop n those)) x)
span_less those n one spans s k x lt at empty exact =
    ap (λ b. have_place spans k || (b || is_among (lent_queries (drop (n + 1) those)) x)) (sym (sym (query_eq_turned x one.query.now) ∙ exact ∙ none_in k s empty))
    ∙ ap (λ qs. have_place spans k || is_among qs x) (sym (lent_dropped those n one lt at))

-- what is so of a value that is there
pub of_ok : {A E : Type 0} (r : Result A E) (x : A) (P : A → Type 0) → r ≡ Ok x → IfOk r P → P x
of_ok r x P was h = subst (λ y. IfOk y P) was h

-- ---- who stays

-- those are told by who is among them
pub those_alike : (registered forms a b windows : List Query) (m : Bool) → ((x : Query) → is_among b x ≡ is_among a x) → AreThose registered forms a m windows → AreThose registered forms b m windows
those_alike registered forms a b windows m same h = record {
  forms = λ q f. h.forms q f ∙ sym (ap (λ t. is_among forms q && is_alike t m) (same q));
  windows = λ k d lt. h.windows k d lt ∙ sym (ap (λ t. is_alike t m) (same (get_or windows k d)));
}

-- and of the filtered ones among those that are registered
pub forms_alike : (registered a b those windows : List Query) (m : Bool) → ((x : Query) → is_filtered x ≡ true → is_among b x ≡ is_among a x) → AreThose registered a those m windows → AreThose registered b those m windows
forms_alike registered a b those windows m same h = record {
  forms = λ q f. h.forms q f ∙ sym (ap (λ t. t && is_alike (is_among those q) m) (same q f));
  windows = h.windows;
}

-- ---- which regions are lost

and_no : (b : Bool) → (b && false) ≡ false
and_no true = refl
and_no false = refl

module _ (kept : List Query) (rs : List Region) (ss : List Span) (ps : List Region) (p : Path) (n : ℕ) (apart : have_overlap (pairs_of rs) ≡ false) (cut : IsCut kept rs ss ps)
    (within : n < length rs) (above : (d : Region) → is_at_or_above (get_or rs n d).path p ≡ true) where
  -- the region stays that holds the path
  pub stays_there : have_place ss n ≡ false → is_some (region_part (regions_kept kept (pairs_of rs)) p) ≡ true
  stays_there e =
      held_by kept (pairs_of rs) p
      ∙ ap (λ b. b || is_some (region_part (parts_left kept (pairs_of rs)) p))
      (held_at (reaches kept) rs p n true apart within above (λ d. of_not (reaches kept (get_or rs n d).path) true (cut.lost.1 n d within ∙ e)))

  -- it is lost: a part holds it still, or nothing does
  pub part_there : have_place ss n ≡ true → is_some (region_part (regions_kept kept (pairs_of rs)) p) ≡ is_some (region_part (pairs_of ps) p)
  part_there e =
      held_by kept (pairs_of rs) p
      ∙ ap (λ b. b || is_some (region_part (parts_left kept (pairs_of rs)) p))
      (held_at (reaches kept) rs p n false apart within above (λ d. of_not (reaches kept (get_or rs n d).path) false (cut.lost.1 n d within ∙ e)))
      ∙ sym (ap (λ xs. is_some (region_part xs p)) cut.parts)

  pub not_lost : have_place ss n ≡ false → (h : Bool) → false ≡ (h && not (is_some (region_part (regions_kept kept (pairs_of rs)) p)))
  not_lost e h = sym (ap (λ b. h && not b) (stays_there e) ∙ and_no h)

-- where none of the filtered forms is under a lost region, none loses one
pub none_lost : (were filtered kept : List Query) (rs : List Region) (ss : List Span) (ps : List Region)
    → ((p : Query → Bool) → list_any p filtered ≡ list_any (λ f. is_filtered f && p f) were) → have_overlap (pairs_of rs) ≡ false → IsCut kept rs ss ps
    → ((k : ℕ) (d : Region) → have_place ss k ≡ true → list_any (λ f. is_at_or_above (get_or rs k d).path f.path) filtered ≡ false)
    → (q : Query) → is_filtered q ≡ true → is_among were q ≡ true → is_region_lost kept (pairs_of rs) q ≡ false
none_lost were filtered kept rs ss ps listed apart cut clear q f m =
    at (is_region_lost kept (pairs_of rs) q) refl
  where
    at : (b : Bool) → is_region_lost kept (pairs_of rs) q ≡ b → is_region_lost kept (pairs_of rs) q ≡ false
    at false e = e
    at true e =
        let some : is_some (region_part (pairs_of rs) q.path) ≡ true = both_first (is_some (region_part (pairs_of rs) q.path)) _ e in
        let gone : not (is_some (region_part (regions_kept kept (pairs_of rs)) q.path)) ≡ true = both_second (is_some (region_part (pairs_of rs) q.path)) _ e in
        let a = Any-from_list_any (λ (r : Region). is_at_or_above r.path q.path) rs
        (any_map pair_of (λ (r : Path × PathTree). is_at_or_above r.0 q.path) rs ∙ sym (part_any q.path (pairs_of rs)) ∙ some) in
        let n : ℕ = a.0 in
        let r : Region = a.1 in
        let above : (d : Region) → is_at_or_above (get_or rs n d).path q.path ≡ true =
        at_read rs (λ (x : Region). is_at_or_above x.path q.path ≡ true) n r a.2 (sym a.3) a.4 in
        by (have_place ss n) n a.2 above gone refl
      where
        under : (n : ℕ) (d : Region) → is_at_or_above (get_or rs n d).path q.path ≡ true → list_any (λ x. is_at_or_above (get_or rs n d).path x.path) filtered ≡ true
        under n d u = listed (λ x. is_at_or_above (get_or rs n d).path x.path)
            ∙ any_with (λ x. is_filtered x && is_at_or_above (get_or rs n d).path x.path) were q (of_among were q m) (both _ _ f u)

        by : (b : Bool) (n : ℕ) → n < length rs → ((d : Region) → is_at_or_above (get_or rs n d).path q.path ≡ true)
            → not (is_some (region_part (regions_kept kept (pairs_of rs)) q.path)) ≡ true → have_place ss n ≡ b → is_region_lost kept (pairs_of rs) q ≡ false
        by false n lt above gone h = absurd (true≢false (sym gone ∙ ap not (stays_there kept rs ss ps q.path n apart cut lt above h)))
        by true n lt above gone h = absurd (true≢false (sym (under n (some_region rs n lt) (above (some_region rs n lt))) ∙ clear n (some_region rs n lt) h))
          where
            some_region : (ys : List Region) (k : ℕ) → k < length ys → Region
            some_region [] k l = absurd (omega (arith, l))
            some_region (y ∷ ys) k l = y

-- ---- those that lose what they had

pub losing_order : (test : Query → Bool) (forms losing : List Lent) → lent_queries losing ≡ filter test (lent_queries forms)
    → AreByQuery (λ (l : Lent). l.query.now) forms → AreByQuery (λ (l : Lent). l.query.now) losing
losing_order test forms losing e up =
    by_query-from_mapped (λ (l : Lent). l.query.now) losing
    (subst (AreByQuery (λ (x : Query). x)) (sym e) (by_query-filter (λ (x : Query). x) test (lent_queries forms) (by_query-mapped (λ (l : Lent). l.query.now) forms up)))

pub losing_filtered : (here rest : Query → Bool) (forms losing : List Lent) → lent_queries losing ≡ filter (λ q. here q && (is_filtered q && rest q)) (lent_queries forms)
    → All (λ (l : Lent). is_filtered l.query.now ≡ true) losing
losing_filtered here rest forms losing e =
    all-from_mapped (λ (q : Query). is_filtered q ≡ true) (λ (l : Lent). l.query.now) losing
    (subst (All (λ (q : Query). is_filtered q ≡ true)) (sym e) (λ k d lt. each (get_or passing k d) (filter_passes test (lent_queries forms) k d lt)))
  where
    test : Query → Bool
    test q = here q && (is_filtered q && rest q)

    passing : List Query
    passing = filter test (lent_queries forms)

    each : (q : Query) → test q ≡ true → is_filtered q ≡ true
    each q t = both_first (is_filtered q) (rest q) (both_second (here q) (is_filtered q && rest q) t)
