-- The forms that are gathered where others end: where they stand, and that all that lose something are among them.
use Rattle.std.proofs.Common.{◌≡◌, ◌∙◌, ◌⊎◌, inl, inr, ℕ, suc, ◌+◌, ◌-◌, ◌<◌, ◌≤◌, Bool, true, false, not, ◌&&◌, ◌||◌, List, [], ◌∷◌, ◌++◌, length, get_or, take, drop, append-nil, refl, sym, ap, subst, arith, nat_le, nat_lt, ltb-true, ltb-false, ⊎_elim}
use Rattle.std.proofs.Common.{is_some}
use mathlib.Core.Bool.{true≢false}
use Rattle.std.specs.List.{filter, list_any, slice_range, All, Contains}
use Rattle.std.specs.List.Sorted.{IsPartitionPoint}
use Rattle.std.specs.Ordering.{is_lt}
use Rattle.std.specs.FinMap as map_of
use Rattle.std.proofs.lemmas.Bool.{leb-true}
use Rattle.std.proofs.lemmas.List.{drop_more, get_or-take, get_or-drop, length-take, length-drop}
use Rattle.std.proofs.lemmas.List.Elements.{All-contains, All-contains_itself, All-map}
use Rattle.std.proofs.lemmas.List.Folds.{Any-from_list_any}
use Rattle.rt_tree.specs.PathTree.{Path, PathTree, path_cmp, path_eq, path_eq-is, path_eq-same}
use Rattle.rt_tree.specs.Assignments.{is_at_or_above, have_overlap}
use Rattle.rt_tree.specs.TreeEq.{both_first, both_second, both}
use Rattle.rt_query.specs.Queries.{Query, is_filtered}
use Rattle.rt_query.specs.QueryEq.{query_eq}
use Rattle.rt_query.specs.Supply.{does_supply}
use Rattle.rt_query.specs.Ranges.{takes_in}
use Rattle.rt_query.specs.laws.NeededLaws.{Contains-filter}
use Rattle.rt_query.specs.laws.QueryEq.{query_eq_tells}
use Rattle.rt_query.specs.laws.RangeLaws.{taken_in}
use Rattle.rt_query.specs.laws.SupplyLaws.{same_tests, supply_filtered, supplied_has_path}
use Rattle.rt_query.specs.QueryOrder.{query_cmp}
use Rattle.rt_cache.specs.Recover.{in_query_order, is_among}
use Rattle.rt_cache.specs.declared.regions.Region.{Region}
use Rattle.rt_cache.specs.declared.forms.Form.{Form}
use Rattle.rt_cache.specs.declared.by_path.Span.{Span}
use Rattle.rt_cache.specs.declared.windows.Window.{Window}
use Rattle.rt_cache.specs.inside.Cuts.{IsCut}
use Rattle.rt_cache.specs.inside.Handing.{window_queries, is_alike, is_staying, staying_of, is_region_lost, is_window_lost, is_loser, is_under_one, is_under_lost_one, hands_on, is_beside_one, is_supplied_by_one, is_near_one, AreGathered}
use Rattle.rt_cache.specs.inside.Held.{pairs_of, entry_of, entries_of}
use Rattle.rt_cache.specs.inside.Listed.{form_query, queries_of}
use Rattle.rt_cache.specs.inside.Sources.{HaveForms}
use Rattle.rt_cache.specs.inside.Spans.{has_place, have_place}
use Rattle.rt_cache.proofs.Among as them
use Rattle.rt_cache.proofs.Among.{any_with, any_passing, any_agreeing, of_among}
use Rattle.rt_cache.proofs.ByPaths.{StandsBehind, any_at, any_map, not_itself, not_before, neither_before}
use Rattle.rt_cache.proofs.Heirs.{not_so}
use Rattle.rt_cache.proofs.InSpans.{placed, passing}
use Rattle.rt_cache.proofs.Lending.{none_lost, passing_mapped}
use Rattle.rt_cache.proofs.Sources.{any_found, all_kept}

-- ---- windows that stay

pub staying_of_path : (those : List Query) (among : Bool) (q : Query) (w : Window) → is_filtered w.query ≡ true → (does_supply w.query q && is_staying those among w.query) ≡ true → (w.query).path ≡ q.path
staying_of_path those among q w filtered e = supplied_has_path w.query q filtered (both_first (does_supply w.query q) (is_staying those among w.query) e)

pub staying_any : (those : List Query) (among : Bool) (q : Query) (ws : List Window)
    → list_any (λ (w : Window). does_supply w.query q && is_staying those among w.query) ws ≡ list_any (λ f. does_supply f q) (staying_of those among (window_queries ws))
staying_any those among q ws =
    any_map (λ (w : Window). w.query) (λ f. does_supply f q && is_staying those among f) ws
    ∙ sym (any_passing (λ f. does_supply f q) (is_staying those among) (window_queries ws))

-- ---- tests

or_no : (b : Bool) → (b || false) ≡ b
or_no true = refl
or_no false = refl

and_turned : (a b : Bool) → (a && b) ≡ (b && a)
and_turned true true = refl
and_turned true false = refl
and_turned false true = refl
and_turned false false = refl

pub any_or : (a b p : Query → Bool) (qs : List Query) → list_any (λ f. (a f || b f) && p f) qs ≡ (list_any (λ f. a f && p f) qs || list_any (λ f. b f && p f) qs)
any_or a b p [] = refl
any_or a b p (q ∷ qs) =
    ap (λ c. ((a q || b q) && p q) || c) (any_or a b p qs)
    ∙ parted (a q) (b q) (p q) (list_any (λ f. a f && p f) qs) (list_any (λ f. b f && p f) qs)
  where
    parted : (x y z m n : Bool) → (((x || y) && z) || (m || n)) ≡ (((x && z) || m) || ((y && z) || n))
    parted true true true m n = refl
    parted true false true m n = refl
    parted false true true true n = refl
    parted false true true false n = refl
    parted false false true m n = refl
    parted true true false m n = refl
    parted true false false m n = refl
    parted false true false m n = refl
    parted false false false m n = refl

-- one test more
pub any_narrowed : (a b p : Query → Bool) (qs : List Query) → list_any (λ f. a f && (p f && b f)) qs ≡ list_any (λ f. (a f && b f) && p f) qs
any_narrowed a b p qs = any_agreeing (λ f. a f && (p f && b f)) (λ f. (a f && b f) && p f) qs (λ k d lt. grouped (a (get_or qs k d)) (p (get_or qs k d)) (b (get_or qs k d)))
  where
    grouped : (x y z : Bool) → (x && (y && z)) ≡ ((x && z) && y)
    grouped false y z = refl
    grouped true y z = and_turned y z

pub any_no : (p : Query → Bool) (qs : List Query) → list_any (λ f. false && p f) qs ≡ false
any_no p [] = refl
any_no p (q ∷ qs) = any_no p qs

-- what was lent, what is lent now, and what is left, before and then
pub joined : (new old now left all : Bool) → new ≡ (old || now) → all ≡ (now || left) → (new || left) ≡ (old || all)
joined new old now left all e f = ap (λ b. b || left) e ∙ grouped old now left ∙ ap (λ b. old || b) (sym f)
  where
    grouped : (a b c : Bool) → ((a || b) || c) ≡ (a || (b || c))
    grouped true b c = refl
    grouped false b c = refl

pub all_lent : (lent left whole : Bool) → left ≡ false → (lent || left) ≡ whole → lent ≡ whole
all_lent lent left whole e h = sym (ap (λ b. lent || b) e ∙ or_no lent) ∙ h

-- ---- slices

pub slice_more : {X : Type 0} (xs : List X) (n m : ℕ) (x : X) → n < m → n < length xs → x ≡ get_or xs n x → slice_range xs n m ≡ x ∷ slice_range xs (n + 1) m
slice_more {X} xs n m x lt within at =
    let some : m - n ≡ suc (m - (n + 1)) = omega (arith, lt) in
    ap (take (m - n)) (drop_more xs n x within)
    ∙ ap (λ k. take k (get_or xs n x ∷ drop (n + 1) xs)) some
    ∙ ap (λ (y : X). y ∷ take (m - (n + 1)) (drop (n + 1) xs)) (sym at)

pub slice_none : {X : Type 0} (xs : List X) (n m : ℕ) → m ≤ n → slice_range xs n m ≡ []
slice_none xs n m le =
    let none : m - n ≡ 0 = omega (arith, le) in
    ap (λ k. take k (drop n xs)) none

-- ---- what is lent

-- the forms of a span are those that pass
pub span_any : (forms : List Form) (s : Span) (test p : Query → Bool) → s.start ≤ s.end → s.end ≤ length forms
    → ((k : ℕ) (d : Form) → k < length forms → test (get_or forms k d).query ≡ has_place k s)
    → list_any p (queries_of (slice_range forms s.start s.end)) ≡ list_any (λ f. test f && p f) (queries_of forms)
span_any forms s test p ordered within exact =
    ap (λ (fs : List Form). list_any p (queries_of fs)) (sym (append-nil (slice_range forms s.start s.end)) ∙ sym slices)
    ∙ ap (list_any p) (passing_mapped form_query test forms)
    ∙ any_passing p test (queries_of forms)
    ∙ any_agreeing (λ f. p f && test f) (λ f. test f && p f) (queries_of forms) (λ k d lt. and_turned (p (get_or (queries_of forms) k d)) (test (get_or (queries_of forms) k d)))
  where
    slices : filter (λ (f : Form). test f.query) forms ≡ slice_range forms s.start s.end ++ []
    slices = passing (λ (f : Form). test f.query) forms 0 (s ∷ []) (omega arith, ordered, within) (λ k d le lt. exact k d lt ∙ sym (or_no (has_place k s)))

-- those between where a path begins and where it is passed are of the path
pub at_path : (forms : List Form) (p : Path) (start end k : ℕ) (d : Form)
    → IsPartitionPoint (λ (f : Form). is_lt (path_cmp (f.query).path p) ≡ true) (λ (f : Form). is_lt (path_cmp (f.query).path p) ≡ false) forms start
    → StandsBehind form_query forms p end → end ≤ length forms → k < length forms
    → path_eq ((get_or forms k d).query).path p ≡ has_place k (record { start = start; end = end })
at_path forms p start end k d from behind within lt =
    placed (path_eq r p) k start end
    (λ before. differs (λ e. not_itself p r (from.0 k d (omega arith) before) e))
    (λ a b. neither_before r p (from.1 k d a lt) (not_true (is_lt (path_cmp p r)) (behind.0 k d (omega arith) b)))
    (λ a b. differs (λ e. not_itself r p (not_false (is_lt (path_cmp p r)) (behind.1 k d a lt)) (sym e)))
  where
    r : Path
    r = ((get_or forms k d).query).path

    not_true : (b : Bool) → not b ≡ true → b ≡ false
    not_true true e = sym e
    not_true false e = refl

    not_false : (b : Bool) → not b ≡ false → b ≡ true
    not_false true e = refl
    not_false false e = sym e

    differs : (r ≡ p → ⊥) → path_eq r p ≡ false
    differs h = elim (path_eq r p) as (λ b. path_eq r p ≡ b → b ≡ false) [
      | true ↦ λ e. absurd (h (path_eq-is r p e))
      | false ↦ λ e. refl
    ] refl

-- the first of a path stands no further than what is behind it
pub from_behind : (forms : List Form) (p : Path) (start end : ℕ)
    → IsPartitionPoint (λ (f : Form). is_lt (path_cmp (f.query).path p) ≡ true) (λ (f : Form). is_lt (path_cmp (f.query).path p) ≡ false) forms start
    → StandsBehind form_query forms p end → start ≤ length forms → start ≤ end
from_behind forms p start end from behind within = at (nat_lt end start) refl
  where
    one : (fs : List Form) (k : ℕ) → k < length fs → Form
    one [] k lt = absurd (omega (arith, lt))
    one (f ∷ fs) k lt = f

    not_false : (b : Bool) → not b ≡ false → b ≡ true
    not_false true e = refl
    not_false false e = sym e

    at : (b : Bool) → nat_lt end start ≡ b → start ≤ end
    at false e = ltb-false end start e
    at true e =
        let lt : end < start = ltb-true end start e in
        let there : end < length forms = omega (arith, lt, within) in
        let d : Form = one forms end there in
        let r : Path = ((get_or forms end d).query).path in
        absurd (true≢false (sym (not_false (is_lt (path_cmp p r)) (behind.1 end d (omega arith) there)) ∙ not_before p r (from.0 end d (omega arith) lt)))

-- where one of a path is lent, all of that path are
abbrev pub AreWhole : List Query → List Query → Type 0
AreWhole forms lent =
    (path : Path) → list_any (λ q. path_eq q.path path) lent ≡ true
    → (p : Query → Bool) → list_any (λ f. path_eq f.path path && p f) forms ≡ true → list_any p lent ≡ true

pub whole_more : (forms old new : List Query) (r : Path) → ((p : Query → Bool) → list_any p new ≡ (list_any p old || list_any (λ f. path_eq f.path r && p f) forms))
    → AreWhole forms old → AreWhole forms new
whole_more forms old new r more whole path e p u = at (list_any (λ q. path_eq q.path path) old) refl
  where
    right : (b : Bool) → (b || true) ≡ true
    right true = refl
    right false = refl

    at : (b : Bool) → list_any (λ q. path_eq q.path path) old ≡ b → list_any p new ≡ true
    at true f = more p ∙ ap (λ b. b || list_any (λ x. path_eq x.path r && p x) forms) (whole path f p u)
    at false f =
        let both_paths : list_any (λ x. path_eq x.path r && path_eq x.path path) forms ≡ true =
        sym (ap (λ b. b || list_any (λ x. path_eq x.path r && path_eq x.path path) forms) f) ∙ sym (more (λ q. path_eq q.path path)) ∙ e in
        let a = Any-from_list_any (λ x. path_eq x.path r && path_eq x.path path) forms both_paths in
        let same : path ≡ r =
        sym (path_eq-is (a.1).path path (both_second (path_eq (a.1).path r) (path_eq (a.1).path path) a.4)) ∙ path_eq-is (a.1).path r (both_first (path_eq (a.1).path r) (path_eq (a.1).path path) a.4) in
        more p ∙ ap (λ b. list_any p old || b) (ap (λ z. list_any (λ x. path_eq x.path z && p x) forms) (sym same) ∙ u) ∙ right (list_any p old)

-- one form more that ends
pub beside_more : (ws : List Window) (w : Query) (rest : List Query) (p : Query → Bool) (forms : List Query) → hands_on ws w ≡ true
    → list_any (λ f. is_beside_one ws (w ∷ rest) f && p f) forms
    ≡ (list_any (λ f. path_eq f.path w.path && p f) forms || list_any (λ f. is_beside_one ws rest f && p f) forms)
beside_more ws w rest p forms e =
    ap (λ b. list_any (λ f. ((b && path_eq f.path w.path) || is_beside_one ws rest f) && p f) forms) e
    ∙ any_or (λ f. path_eq f.path w.path) (is_beside_one ws rest) p forms

pub beside_same : (ws : List Window) (w : Query) (rest : List Query) (p : Query → Bool) (forms : List Query) → hands_on ws w ≡ false
    → list_any (λ f. is_beside_one ws (w ∷ rest) f && p f) forms ≡ list_any (λ f. is_beside_one ws rest f && p f) forms
beside_same ws w rest p forms e = ap (λ b. list_any (λ f. ((b && path_eq f.path w.path) || is_beside_one ws rest f) && p f) forms) e

pub covered : (lent here rest : Bool) → (here ≡ true → lent ≡ true) → (lent || rest) ≡ (lent || (here || rest))
covered true here rest h = refl
covered false false rest h = refl
covered false true rest h = absurd (true≢false (sym (h refl)))

-- ---- who loses something is gathered

-- where one alone ends, it supplies what an ended one does
supplied_by_one : (ended : List Query) (w q : Query) → is_among ended w ≡ true → does_supply w q ≡ true → is_supplied_by_one ended q ≡ true
supplied_by_one [] w q m s = refl
supplied_by_one (v ∷ []) w q m s = ap (λ x. does_supply x q) ((query_eq_tells v w).0 (sym (or_no (query_eq v w)) ∙ m)) ∙ s
supplied_by_one (v ∷ u ∷ vs) w q m s = refl

-- what stands in a slice
in_slice : {X : Type 0} (test : X → Bool) (xs : List X) (n m k : ℕ) (d : X) → n ≤ k → k < m → m ≤ length xs → test (get_or xs k d) ≡ true → list_any test (slice_range xs n m) ≡ true
in_slice test xs n m k d le lt within e =
    let rest : length (drop n xs) + n ≡ length xs = omega (arith, length-drop n xs, le, lt, within) in
    let there : k - n < m - n = omega (arith, le, lt) in
    let short : k - n < length (slice_range xs n m) = omega (arith, length-take (m - n) (drop n xs), length-drop n xs, le, lt, within) in
    let back : n + (k - n) ≡ k = omega (arith, le) in
    any_at test (slice_range xs n m) (k - n) d short
    (ap test (get_or-take (m - n) (drop n xs) (k - n) d there ∙ get_or-drop n xs (k - n) d ∙ ap (λ i. get_or xs i d) back) ∙ e)

module _ (were ended filtered gathered kept : List Query) (rs : List Region) (ss : List Span) (ps : List Region) (ws : List Window)
    (h : HaveForms were (in_query_order (entries_of ws))) (apart : have_overlap (pairs_of rs) ≡ false) (cut : IsCut kept rs ss ps)
    (within : All (λ (s : Span). (s.start ≤ s.end) × (s.end ≤ length rs)) ss)
    (listed : (p : Query → Bool) → list_any p filtered ≡ list_any (λ f. is_filtered f && p f) were)
    (any : (p : Query → Bool) → list_any p gathered ≡ (list_any (λ f. is_near_one ws ended f && p f) filtered || list_any (λ f. is_under_lost_one rs ss f && p f) filtered)) where
  -- a region that is lost and holds the path is one of those that are looked at
  region_gathered : (q : Query) → is_filtered q ≡ true → is_region_lost kept (pairs_of rs) q ≡ true → is_under_lost_one rs ss q ≡ true
  region_gathered q f e = at (is_under_lost_one rs ss q) refl
    where
      alone : (p : Query → Bool) → list_any p (q ∷ []) ≡ list_any (λ x. is_filtered x && p x) (q ∷ [])
      alone p = sym (ap (λ b. (b && p q) || false) f)

      clear : is_under_lost_one rs ss q ≡ false → (k : ℕ) (d : Region) → have_place ss k ≡ true → list_any (λ x. is_at_or_above (get_or rs k d).path x.path) (q ∷ []) ≡ false
      clear none k d there = by (is_at_or_above (get_or rs k d).path q.path) refl
        where
          by : (b : Bool) → is_at_or_above (get_or rs k d).path q.path ≡ b → (is_at_or_above (get_or rs k d).path q.path || false) ≡ false
          by false u = ap (λ b. b || false) u
          by true u =
              let a = Any-from_list_any (has_place k) ss there in
              let s : Span = a.1 in
              let m : Contains ss s = (a.0, a.2, a.3) in
              let from : s.start ≤ k = leb-true s.start k (both_first (nat_le s.start k) (nat_lt k s.end) a.4) in
              let to : k < s.end = ltb-true k s.end (both_second (nat_le s.start k) (nat_lt k s.end) a.4) in
              let bound = All-contains (λ (x : Span). (x.start ≤ x.end) × (x.end ≤ length rs)) ss s within m in
              absurd (true≢false (sym (any_with (λ (x : Span). is_under_one (slice_range rs x.start x.end) q) ss s m
              (in_slice (λ (r : Region). is_at_or_above r.path q.path) rs s.start s.end k d from to bound.1 u)) ∙ none))

      at : (b : Bool) → is_under_lost_one rs ss q ≡ b → is_under_lost_one rs ss q ≡ true
      at true u = u
      at false u =
          absurd (true≢false (sym e ∙ none_lost (q ∷ []) (q ∷ []) kept rs ss ps alone apart cut (clear u) q f (ap (λ b. b || false) ((query_eq_tells q q).1 refl))))

  -- so is the path of a form that ended and whose window was a staying form's
  window_gathered : (q : Query) → is_staying ended false q ≡ true → is_window_lost (window_queries ws) (staying_of ended false (window_queries ws)) q ≡ true → is_near_one ws ended q ≡ true
  window_gathered q stays e =
      let a = Any-from_list_any (λ y. does_supply y q) (window_queries ws) (both_first (list_any (λ y. does_supply y q) (window_queries ws)) _ e) in
      let w : Query = a.1 in
      let m : Contains (window_queries ws) w = (a.0, a.2, a.3) in
      let gone : list_any (λ y. does_supply y q) (staying_of ended false (window_queries ws)) ≡ false = not_so _ (both_second (list_any (λ y. does_supply y q) (window_queries ws)) _ e) in
      let out : is_among ended w ≡ true = ended_one (is_among ended w) w refl m a.4 gone in
      let filtered_one : is_filtered w ≡ true = All-contains (λ y. is_filtered y ≡ true) (window_queries ws) w (All-map (λ y. is_filtered y ≡ true) (λ (y : Window). y.query) ws (all_kept (λ y. is_filtered y ≡ true) ws h.filtered)) m in
      let found : is_some (map_of.find query_cmp w (entries_of ws)) ≡ true =
      any_found w (entries_of ws) ∙ sym (any_map entry_of (λ y. query_eq y.0 w) ws) ∙ any_map (λ (y : Window). y.query) (λ y. query_eq y w) ws ∙ any_with (λ y. query_eq y w) (window_queries ws) w m ((query_eq_tells w w).1 refl) in
      by (is_some w.limit) w refl out filtered_one found a.4
    where
      ended_one : (c : Bool) → (w : Query) → is_among ended w ≡ c → Contains (window_queries ws) w → does_supply w q ≡ true
          → list_any (λ y. does_supply y q) (staying_of ended false (window_queries ws)) ≡ false → is_among ended w ≡ true
      ended_one true w u m s g = u
      ended_one false w u m s g =
          absurd (true≢false (sym (any_with (λ y. does_supply y q) (staying_of ended false (window_queries ws)) w (Contains-filter (is_staying ended false) (window_queries ws) w m (ap (λ c. is_alike c false) u)) s) ∙ g))

      same : (w : Query) → is_filtered w ≡ true → is_some w.limit ≡ true → does_supply w q ≡ true → (c : Bool) → query_eq w q ≡ c → w ≡ q
      same w f limited s true u = (query_eq_tells w q).0 u
      same w f limited s false u =
          let takes : takes_in w q ≡ true = sym (ap (λ c. c || takes_in w q) u) ∙ sym (supply_filtered w q f) ∙ s in
          absurd (true≢false (sym limited ∙ (taken_in w q takes).unlimited))

      by : (c : Bool) (w : Query) → is_some w.limit ≡ c → is_among ended w ≡ true → is_filtered w ≡ true → is_some (map_of.find query_cmp w (entries_of ws)) ≡ true → does_supply w q ≡ true → is_near_one ws ended q ≡ true
      by true w limited out f found s =
          absurd (true≢false (sym stays ∙ ap (λ b. is_alike b false) (ap (is_among ended) (sym (same w f limited s (query_eq w q) refl)) ∙ out)))
      by false w limited out f found s =
          both (is_beside_one ws ended q) (is_supplied_by_one ended q)
          (any_with (λ x. hands_on ws x && path_eq q.path x.path) ended w (of_among ended w out)
          (both (hands_on ws w) (path_eq q.path w.path) (both (not (is_some w.limit)) (is_some (map_of.find query_cmp w (entries_of ws))) (ap not limited) found)
          (ap (path_eq q.path) (supplied_has_path w q f s) ∙ path_eq-same q.path)))
          (supplied_by_one ended w q out s)

  -- a registered filtered form is gathered that passes a test
  one_gathered : (test : Query → Bool) (q : Query) → is_filtered q ≡ true → is_among were q ≡ true → test q ≡ true → list_any (λ f. test f && query_eq f q) filtered ≡ true
  one_gathered test q f m e =
      listed (λ x. test x && query_eq x q)
      ∙ any_with (λ x. is_filtered x && (test x && query_eq x q)) were q (of_among were q m)
      (both (is_filtered q) (test q && query_eq q q) f (both (test q) (query_eq q q) e ((query_eq_tells q q).1 refl)))

  pub are_gathered : AreGathered kept (pairs_of rs) were ended false (window_queries ws) gathered
  are_gathered = record {
    of = λ k d lt. of_were (get_or gathered k d) (any_at (λ x. query_eq x (get_or gathered k d)) gathered k d lt ((query_eq_tells (get_or gathered k d) (get_or gathered k d)).1 refl));
    losers = λ q m stays e. lost_one q m stays (both_first (is_filtered q) _ e) (is_region_lost kept (pairs_of rs) q) refl (both_second (is_filtered q) _ e);
  }
    where
      from_either : (a b : Bool) → (a || b) ≡ true → (a ≡ true) ⊎ (b ≡ true)
      from_either true b e = inl refl
      from_either false b e = inr e

      of_filtered : (test : Query → Bool) (q : Query) → list_any (λ f. test f && query_eq f q) filtered ≡ true → Contains were q
      of_filtered test q e =
          let a = Any-from_list_any (λ f. is_filtered f && (test f && query_eq f q)) were (sym (listed (λ f. test f && query_eq f q)) ∙ e) in
          let same : query_eq a.1 q ≡ true = both_second (test a.1) (query_eq a.1 q) (both_second (is_filtered a.1) (test a.1 && query_eq a.1 q) a.4) in
          subst (Contains were) ((query_eq_tells a.1 q).0 same) (a.0, a.2, a.3)

      of_were : (q : Query) → list_any (λ x. query_eq x q) gathered ≡ true → Contains were q
      of_were q e =
          ⊎_elim (λ u. of_filtered (is_near_one ws ended) q u) (λ u. of_filtered (is_under_lost_one rs ss) q u)
          (from_either _ _ (sym (any (λ x. query_eq x q)) ∙ e))

      right : (b : Bool) → (b || true) ≡ true
      right true = refl
      right false = refl

      lost_one : (q : Query) → is_among were q ≡ true → is_staying ended false q ≡ true → is_filtered q ≡ true → (b : Bool) → is_region_lost kept (pairs_of rs) q ≡ b
          → (is_region_lost kept (pairs_of rs) q || is_window_lost (window_queries ws) (staying_of ended false (window_queries ws)) q) ≡ true → is_among gathered q ≡ true
      lost_one q m stays f true region e =
          any (λ x. query_eq x q)
          ∙ ap (λ b. list_any (λ x. is_near_one ws ended x && query_eq x q) filtered || b) (one_gathered (is_under_lost_one rs ss) q f m (region_gathered q f region))
          ∙ right (list_any (λ x. is_near_one ws ended x && query_eq x q) filtered)
      lost_one q m stays f false region e =
          any (λ x. query_eq x q)
          ∙ ap (λ b. b || list_any (λ x. is_under_lost_one rs ss x && query_eq x q) filtered)
          (one_gathered (is_near_one ws ended) q f m (window_gathered q stays (sym (ap (λ b. b || is_window_lost (window_queries ws) (staying_of ended false (window_queries ws)) q) region) ∙ e)))

-- where all are gathered, those are that lose something
pub all_gathered : (kept : List Query) (regions : List (Path × PathTree)) (all those : List Query) (among : Bool) (held : List Query) → AreGathered kept regions all those among held all
all_gathered kept regions all those among held = record {
  of = All-contains_itself all;
  losers = λ q m s e. m;
}

-- what passes among the losers that are gathered passes among all
pub losers_gathered : (kept : List Query) (regions : List (Path × PathTree)) (all those : List Query) (among : Bool) (held gathered : List Query) → AreGathered kept regions all those among held gathered → (p : Query → Bool)
    → list_any (λ q. p q && (is_staying those among q && is_loser kept regions held (staying_of those among held) q)) gathered
    ≡ list_any (λ q. p q && (is_staying those among q && is_loser kept regions held (staying_of those among held) q)) all
losers_gathered kept regions all those among held gathered h p = same_tests (list_any test gathered) (list_any test all) there back
  where
    loser : Query → Bool
    loser q = is_loser kept regions held (staying_of those among held) q

    test : Query → Bool
    test q = p q && (is_staying those among q && loser q)

    there : list_any test gathered ≡ true → list_any test all ≡ true
    there e =
        let a = Any-from_list_any test gathered e in
        any_with test all a.1 (All-contains (Contains all) gathered a.1 h.of (a.0, a.2, a.3)) a.4

    back : list_any test all ≡ true → list_any test gathered ≡ true
    back e =
        let a = Any-from_list_any test all e in
        let q : Query = a.1 in
        let rest : (is_staying those among q && loser q) ≡ true = both_second (p q) _ a.4 in
        any_with test gathered q (of_among gathered q (h.losers q (them.among all q (a.0, a.2, a.3)) (both_first (is_staying those among q) (loser q) rest) (both_second (is_staying those among q) (loser q) rest))) a.4
