-- The regions at or under a path stand one behind another.
use Rattle.std.proofs.Common.{◌≡◌, ℕ, ◌<◌, ◌≤◌, ◌+◌, ◌-◌, arith, length, get_or, drop, Bool, true, false, nat_lt, List, [], ◌∷◌, refl, sym, ap, subst, ◌∙◌, append-nil, is_some}
use mathlib.Core.Bool.{true≢false}
use lib.Dec.{T}
use Rattle.std.proofs.lemmas.Bool.{ltb-true, ltb-false}
use Rattle.std.proofs.lemmas.List.{get_or-drop, length-drop}
use Rattle.std.specs.List.{list_any, AllWithin}
use Rattle.std.specs.List.Sorted.{IsPartitionedBy}
use Rattle.std.specs.declared.cmp.Ordering.TheVariants.{Less, Equal, Greater}
use Rattle.std.specs.Ordering.{is_lt, ordering_reverse}
use Rattle.std.specs.FinMap as map_of
use Rattle.rt_tree.specs.PathTree.{Path, path_cmp, paths_total, exact_paths, strip, strip-append}
use Rattle.rt_tree.specs.Assignments.{is_at_or_above}
use Rattle.rt_cache.specs.declared.regions.Region.{Region}
use Rattle.rt_cache.specs.declared.by_path.Span.{Span}
use Rattle.rt_cache.specs.inside.Held.{pairs_of}
use Rattle.rt_cache.specs.inside.Spans.{has_place}
use Rattle.std.proofs.lemmas.List.Sorted.{sorted_far}
use Rattle.rt_query.specs.Queries.{Query}
use Rattle.rt_cache.specs.inside.ByPath.{by_query, AreByPath}
use Rattle.rt_cache.proofs.ByPaths.{query_ranks, any_at, none_of}
use Rattle.rt_cache.proofs.Halves.{less, before-trans, above_first, between}
use Rattle.rt_cache.proofs.Sharing.{in_order}
use Rattle.rt_cache.proofs.InSpans.{placed, before_span, in_span, past_span}

-- ---- three paths

not_back : (s r : Path) → is_lt (path_cmp s r) ≡ true → is_lt (path_cmp r s) ≡ false
not_back s r e = ap is_lt (paths_total.antisymm r s ∙ ap ordering_reverse (less (path_cmp s r) e))

-- what a path is in front of, another that is not in front of that path can't be behind
lt_after : (p r s : Path) → is_lt (path_cmp r p) ≡ false → is_lt (path_cmp r s) ≡ true → is_lt (path_cmp p s) ≡ true
lt_after p r s a b =
    elim (path_cmp p r) as (λ o. path_cmp p r ≡ o → is_lt (path_cmp p s) ≡ true) [
      | Less ↦ λ e. before-trans p r s (ap is_lt e) b
      | Equal ↦ λ e. ap (λ x. is_lt (path_cmp x s)) (exact_paths p r e) ∙ b
      | Greater ↦ λ e. absurd (true≢false (sym (ap is_lt (paths_total.antisymm r p ∙ ap ordering_reverse e)) ∙ a))
    ] refl

above_itself : (p : Path) → is_at_or_above p p ≡ true
above_itself p = ap is_some (ap (strip p) (sym (append-nil p)) ∙ strip-append p [])

-- what stands between a path and one under it is under it
under_between : (p s r : Path) → is_at_or_above p r ≡ true → is_lt (path_cmp s p) ≡ false → is_lt (path_cmp s r) ≡ true → is_at_or_above p s ≡ true
under_between p s r a b c =
    elim (path_cmp p s) as (λ o. path_cmp p s ≡ o → is_at_or_above p s ≡ true) [
      | Less ↦ λ e. between p s r a (ap is_lt e) (not_back s r c)
      | Equal ↦ λ e. ap (is_at_or_above p) (sym (exact_paths p s e)) ∙ above_itself p
      | Greater ↦ λ e. absurd (true≢false (sym (ap is_lt (paths_total.antisymm s p ∙ ap ordering_reverse e)) ∙ b))
    ] refl

under_within : (p s r : Path) → is_at_or_above p r ≡ true → is_lt (path_cmp s p) ≡ false → is_lt (path_cmp r s) ≡ false → is_at_or_above p s ≡ true
under_within p s r a b c =
    elim (path_cmp p s) as (λ o. path_cmp p s ≡ o → is_at_or_above p s ≡ true) [
      | Less ↦ λ e. between p s r a (ap is_lt e) c
      | Equal ↦ λ e. ap (is_at_or_above p) (sym (exact_paths p s e)) ∙ above_itself p
      | Greater ↦ λ e. absurd (true≢false (sym (ap is_lt (paths_total.antisymm s p ∙ ap ordering_reverse e)) ∙ b))
    ] refl

-- ---- what has queries, by path

-- none that stands before the path is under it
pub before_none_under : {X : Type 0} (q : X → Query) (p : Path) (xs : List X) (n : ℕ) → AllWithin (λ (x : X). is_lt (path_cmp (q x).path p) ≡ true) xs 0 n → n ≤ length xs
    → (k : ℕ) (d : X) → k < n → is_at_or_above p (q (get_or xs k d)).path ≡ false
before_none_under q p xs n h w k d lt =
    elim (is_at_or_above p (q (get_or xs k d)).path) as (λ b. is_at_or_above p (q (get_or xs k d)).path ≡ b → b ≡ false) [
      | true ↦ λ f. absurd (true≢false (sym (h k d (omega arith) lt) ∙ above_first p (q (get_or xs k d)).path f))
      | false ↦ λ f. refl
    ] refl

-- of the others, those under it come first
pub parted_by : {X : Type 0} (q : X → Query) (p : Path) (xs : List X) (n : ℕ) → AreByPath q xs → n ≤ length xs
    → AllWithin (λ (x : X). is_lt (path_cmp (q x).path p) ≡ false) xs n (length xs)
    → IsPartitionedBy (λ (x : X). is_at_or_above p (q x).path) (drop n xs)
parted_by {X = X} q p xs n up w behind i j d le lt e =
    let there : n + j < length xs = omega (arith, lt, length-drop n xs, w) in
    let under : is_at_or_above p (q (get_or xs (n + j) d)).path ≡ true = ap (λ (x : X). is_at_or_above p (q x).path) (sym (get_or-drop n xs j d)) ∙ e in
    ap (λ (x : X). is_at_or_above p (q x).path) (get_or-drop n xs i d)
    ∙ under_within p (q (get_or xs (n + i) d)).path (q (get_or xs (n + j) d)).path under (behind (n + i) d (omega arith) (omega (arith, le, there)))
    (sorted_far (λ (x y : X). is_lt (by_query q x y)) (query_ranks q) xs up (n + i) (n + j) d (omega (arith, le)) there)

-- ---- regions in order

-- none in front of one that is not behind the path is under it
pub not_under : (p : Path) (rs : List Region) (k n : ℕ) (d : Region) → T (map_of.is_sorted path_cmp (pairs_of rs)) → k < n → n < length rs
    → is_lt (path_cmp p (get_or rs n d).path) ≡ false → is_at_or_above p (get_or rs k d).path ≡ false
not_under p rs k n d s lt within e =
    elim (is_at_or_above p (get_or rs k d).path) as (λ b. is_at_or_above p (get_or rs k d).path ≡ b → b ≡ false) [
      | true ↦ λ f. absurd (true≢false (sym (lt_after p (get_or rs k d).path (get_or rs n d).path (above_first p (get_or rs k d).path f) (in_order rs k n d s lt within)) ∙ e))
      | false ↦ λ f. refl
    ] refl

-- none from one behind the path on is in front of it
pub not_in_front : (p : Path) (rs : List Region) (n k : ℕ) (d : Region) → T (map_of.is_sorted path_cmp (pairs_of rs)) → n ≤ k → k < length rs
    → is_lt (path_cmp p (get_or rs n d).path) ≡ true → is_lt (path_cmp (get_or rs k d).path p) ≡ false
not_in_front p rs n k d s le within e =
    elim (nat_lt n k) as (λ b. nat_lt n k ≡ b → is_lt (path_cmp (get_or rs k d).path p) ≡ false) [
      | true ↦ λ f. not_back p (get_or rs k d).path (before-trans p (get_or rs n d).path (get_or rs k d).path e (in_order rs n k d s (ltb-true n k f) within))
      | false ↦ λ f.
          let ge : k ≤ n = ltb-false n k f in
          let same : n ≡ k = omega (arith, ge, le) in
          not_back p (get_or rs k d).path (subst (λ i. is_lt (path_cmp p (get_or rs i d).path) ≡ true) same e)
    ] refl

-- those under the path come first
pub parted : (p : Path) (rs : List Region) (n : ℕ) → T (map_of.is_sorted path_cmp (pairs_of rs)) → n ≤ length rs
    → ((k : ℕ) (d : Region) → n ≤ k → k < length rs → is_lt (path_cmp (get_or rs k d).path p) ≡ false)
    → IsPartitionedBy (λ (r : Region). is_at_or_above p r.path) (drop n rs)
parted p rs n s w behind i j d le lt e =
    let there : n + j < length rs = omega (arith, lt, length-drop n rs, w) in
    let under : is_at_or_above p (get_or rs (n + j) d).path ≡ true = ap (λ (r : Region). is_at_or_above p r.path) (sym (get_or-drop n rs j d)) ∙ e in
    elim (nat_lt i j) as (λ b. nat_lt i j ≡ b → is_at_or_above p (get_or (drop n rs) i d).path ≡ true) [
      | true ↦ λ f.
          let l : i < j = ltb-true i j f in
          ap (λ (r : Region). is_at_or_above p r.path) (get_or-drop n rs i d)
          ∙ under_between p (get_or rs (n + i) d).path (get_or rs (n + j) d).path under (behind (n + i) d (omega arith) (omega (arith, l, there)))
          (in_order rs (n + i) (n + j) d s (omega (arith, l)) there)
      | false ↦ λ f.
          let ge : j ≤ i = ltb-false i j f in
          let same : j ≡ i = omega (arith, ge, le) in
          subst (λ k. is_at_or_above p (get_or (drop n rs) k d).path ≡ true) same e
    ] refl

-- so they are those of a span
pub span_exact_by : {X : Type 0} (f : X → Path) (p : Path) (xs : List X) (n m : ℕ) → n ≤ length xs
    → ((k : ℕ) (d : X) → k < n → is_at_or_above p (f (get_or xs k d)) ≡ false)
    → AllWithin (λ (x : X). is_at_or_above p (f x) ≡ true) (drop n xs) 0 m
    → AllWithin (λ (x : X). is_at_or_above p (f x) ≡ false) (drop n xs) m (length (drop n xs))
    → (k : ℕ) (d : X) → k < length xs → is_at_or_above p (f (get_or xs k d)) ≡ has_place k (record { start = n; end = n + m })
span_exact_by {X = X} f p xs n m w front under behind k d lt =
    placed (is_at_or_above p (f (get_or xs k d))) k n (n + m) (front k d)
    (λ a b.
    let is : n + (k - n) ≡ k = omega (arith, a) in
    ap (λ i. is_at_or_above p (f (get_or xs i d))) (sym is) ∙ ap (λ (x : X). is_at_or_above p (f x)) (sym (get_or-drop n xs (k - n) d)) ∙ under (k - n) d (omega arith) (omega (arith, a, b)))
    (λ a b.
    let is : n + (k - n) ≡ k = omega (arith, b) in
    ap (λ i. is_at_or_above p (f (get_or xs i d))) (sym is) ∙ ap (λ (x : X). is_at_or_above p (f x)) (sym (get_or-drop n xs (k - n) d))
    ∙ behind (k - n) d (omega (arith, a, b)) (omega (arith, length-drop n xs, lt, b)))

-- one passes where the span of those that do has a place
pub any_in_span : {X : Type 0} (test : X → Bool) (xs : List X) (s : Span) → s.end ≤ length xs
    → ((k : ℕ) (d : X) → k < length xs → test (get_or xs k d) ≡ has_place k s) → nat_lt s.start s.end ≡ list_any test xs
any_in_span {X = X} test xs s within exact =
    elim (nat_lt s.start s.end) as (λ b. nat_lt s.start s.end ≡ b → b ≡ list_any test xs) [
      | true ↦ λ e. sym (one xs s.start (omega (arith, ltb-true s.start s.end e, within)) (λ d lt. exact s.start d lt ∙ in_span s.start s (omega arith) (ltb-true s.start s.end e)))
      | false ↦ λ e. sym (none_of test xs (λ k d lt. exact k d lt ∙ outside k (ltb-false s.start s.end e)))
    ] refl
  where
    one : (ys : List X) (n : ℕ) → n < length ys → ((d : X) → n < length ys → test (get_or ys n d) ≡ true) → list_any test ys ≡ true
    one [] n lt h = absurd (omega (arith, lt))
    one (y ∷ ys) n lt h = any_at test (y ∷ ys) n y lt (h y lt)

    outside : (k : ℕ) → s.end ≤ s.start → has_place k s ≡ false
    outside k le = elim (nat_lt k s.start) as (λ b. nat_lt k s.start ≡ b → has_place k s ≡ false) [
      | true ↦ λ f. before_span k s (ltb-true k s.start f)
      | false ↦ λ f. past_span k s (omega (arith, le, ltb-false k s.start f))
    ] refl

pub span_exact : (p : Path) (rs : List Region) (n m : ℕ) → n ≤ length rs
    → ((k : ℕ) (d : Region) → k < n → is_at_or_above p (get_or rs k d).path ≡ false)
    → AllWithin (λ (r : Region). is_at_or_above p r.path ≡ true) (drop n rs) 0 m
    → AllWithin (λ (r : Region). is_at_or_above p r.path ≡ false) (drop n rs) m (length (drop n rs))
    → (k : ℕ) (d : Region) → k < length rs → is_at_or_above p (get_or rs k d).path ≡ has_place k (record { start = n; end = n + m })
span_exact p rs n m w front under behind = span_exact_by (λ (r : Region). r.path) p rs n m w front under behind
