-- A region in its place.
use Rattle.std.proofs.Common.{◌≡◌, ℕ, suc, ◌+◌, ◌<◌, arith, length, get_or, Bool, true, false, cond, not, ◌||◌, List, [], ◌∷◌, refl, sym, ap, ◌∙◌, append-nil, is_some}
use mathlib.Core.Bool.{true≢false}
use Rattle.std.specs.declared.cmp.Ordering.TheVariants.{Less, Equal, Greater}
use Rattle.std.specs.List.{filter, list_any, insert, position_or_len}
use Rattle.std.specs.Ordering.{is_lt, is_eq}
use Rattle.std.specs.FinMap as map_of
use Rattle.std.specs.FinMap.Entries.{by_order}
use Rattle.std.proofs.lemmas.List.Sums.{position_or_len_is}
use Rattle.rt_tree.specs.PathTree.{Path, PathTree, path_cmp, path_eq, path_eq-is, strip, strip-append}
use Rattle.rt_tree.specs.Assignments.{is_at_or_above}
use Rattle.rt_cache.specs.declared.regions.Region.{Region}
use Rattle.rt_cache.specs.inside.Held.{pair_of, pairs_of}
use Rattle.rt_cache.proofs.Places.{or_left, or_right}

-- before the first that it comes before
pub put_before : (p : Path) (t : PathTree) (r : Region) (rs : List Region) → is_lt (path_cmp p r.path) ≡ true
    → map_of.put path_cmp p t (pairs_of (r ∷ rs)) ≡ (p, t) ∷ pairs_of (r ∷ rs)
put_before p t r rs e =
    elim (path_cmp p r.path) as (λ o. is_lt o ≡ true → by_order o ((p, t) ∷ pairs_of (r ∷ rs)) ((r.path, t) ∷ pairs_of rs) (pair_of r ∷ map_of.put path_cmp p t (pairs_of rs)) ≡ (p, t) ∷ pairs_of (r ∷ rs)) [
      | Less ↦ λ x. refl
      | Equal ↦ λ x. cc
      | Greater ↦ λ x. cc
    ] e

-- and behind the others, none of which is at its path
pub put_behind : (p : Path) (t : PathTree) (r : Region) (rs : List Region) → is_lt (path_cmp p r.path) ≡ false → path_eq p r.path ≡ false
    → map_of.put path_cmp p t (pairs_of (r ∷ rs)) ≡ pair_of r ∷ map_of.put path_cmp p t (pairs_of rs)
put_behind p t r rs e apart =
    elim (path_cmp p r.path) as (λ o. path_cmp p r.path ≡ o → is_lt o ≡ false → by_order o ((p, t) ∷ pairs_of (r ∷ rs)) ((r.path, t) ∷ pairs_of rs) (pair_of r ∷ map_of.put path_cmp p t (pairs_of rs)) ≡ pair_of r ∷ map_of.put path_cmp p t (pairs_of rs)) [
      | Less ↦ λ o x. cc
      | Equal ↦ λ o x. cc (ap is_eq o, apart)
      | Greater ↦ λ o x. refl
    ] refl e

-- the regions that are left, as pairs
pub pairs_of-filter : (p : Path) (rs : List Region) → pairs_of (filter (λ r. not (is_at_or_above p r.path)) rs) ≡ filter (λ r. not (is_at_or_above p r.0)) (pairs_of rs)
pairs_of-filter p [] = refl
pairs_of-filter p (r ∷ rs) =
    elim (not (is_at_or_above p r.path)) as (λ b. pairs_of (cond b (r ∷ filter (λ x. not (is_at_or_above p x.path)) rs) (filter (λ x. not (is_at_or_above p x.path)) rs)) ≡ cond b (pair_of r ∷ filter (λ x. not (is_at_or_above p x.0)) (pairs_of rs)) (filter (λ x. not (is_at_or_above p x.0)) (pairs_of rs))) [
      | true ↦ ap (λ xs. pair_of r ∷ xs) (pairs_of-filter p rs)
      | false ↦ pairs_of-filter p rs
    ]

-- none of which is at the path
pub none_at : (p : Path) (rs : List Region) → list_any (λ r. path_eq p r.path) (filter (λ r. not (is_at_or_above p r.path)) rs) ≡ false
none_at p [] = refl
none_at p (r ∷ rs) =
    elim (is_at_or_above p r.path) as (λ b. is_at_or_above p r.path ≡ b → list_any (λ x. path_eq p x.path) (cond (not b) (r ∷ filter (λ x. not (is_at_or_above p x.path)) rs) (filter (λ x. not (is_at_or_above p x.path)) rs)) ≡ false) [
      | true ↦ λ e. none_at p rs
      | false ↦ λ e. ap (λ b. b || list_any (λ x. path_eq p x.path) (filter (λ x. not (is_at_or_above p x.path)) rs)) (other e) ∙ none_at p rs
    ] refl
  where
    other : is_at_or_above p r.path ≡ false → path_eq p r.path ≡ false
    other e = elim (path_eq p r.path) as (λ b. path_eq p r.path ≡ b → b ≡ false) [
      | true ↦ λ f. absurd (true≢false (sym (ap (λ x. is_some (strip p x)) (sym (path_eq-is p r.path f) ∙ sym (append-nil p)) ∙ ap is_some (strip-append p [])) ∙ e))
      | false ↦ λ f. refl
    ] refl

one_more : (n : ℕ) → 1 + n ≡ suc n
one_more n = omega arith

-- in its place
pub put_in_place : (r : Region) (rs : List Region) → list_any (λ x. path_eq r.path x.path) rs ≡ false
    → pairs_of (insert rs (position_or_len (λ x. is_lt (path_cmp r.path x.path)) rs) r) ≡ map_of.put path_cmp r.path r.tree (pairs_of rs)
put_in_place r [] h = refl
put_in_place r (x ∷ rs) h =
    let n = position_or_len (λ y. is_lt (path_cmp r.path y.path)) rs in
    elim (is_lt (path_cmp r.path x.path)) as (λ b. is_lt (path_cmp r.path x.path) ≡ b → pairs_of (insert (x ∷ rs) (cond (not b) (1 + n) 0) r) ≡ map_of.put path_cmp r.path r.tree (pairs_of (x ∷ rs))) [
      | true ↦ λ e. sym (put_before r.path r.tree x rs e)
      | false ↦ λ e. ap (λ k. pairs_of (insert (x ∷ rs) k r)) (one_more n) ∙ ap (λ xs. pair_of x ∷ xs) (put_in_place r rs (or_right (path_eq r.path x.path) _ h)) ∙ sym (put_behind r.path r.tree x rs e (or_left (path_eq r.path x.path) _ h))
    ] refl

-- where it comes before none, after all
pub place_last : (test : Region → Bool) (rs : List Region) → ((k : ℕ) (d : Region) → k < length rs → test (get_or rs k d) ≡ false) → length rs ≡ position_or_len test rs
place_last test [] h = refl
place_last test (r ∷ rs) h = sym (position_or_len_is test (r ∷ rs) (length (r ∷ rs)) r (omega arith) (λ k lt. h k r lt) (λ lt. absurd (omega arith)))

-- the regions whose paths pass a test, as pairs
pub pairs_of-filter_by : (test : Path → Bool) (rs : List Region) → pairs_of (filter (λ r. test r.path) rs) ≡ filter (λ r. test r.0) (pairs_of rs)
pairs_of-filter_by test [] = refl
pairs_of-filter_by test (r ∷ rs) =
    elim (test r.path) as (λ b. pairs_of (cond b (r ∷ filter (λ x. test x.path) rs) (filter (λ x. test x.path) rs)) ≡ cond b (pair_of r ∷ filter (λ x. test x.0) (pairs_of rs)) (filter (λ x. test x.0) (pairs_of rs))) [
      | true ↦ ap (λ xs. pair_of r ∷ xs) (pairs_of-filter_by test rs)
      | false ↦ pairs_of-filter_by test rs
    ]
