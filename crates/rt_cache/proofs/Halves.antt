-- The region at or above a path, found by halving: of regions in order, none at or above another, it can only be the last that is
-- not behind the path.
use Rattle.std.proofs.Common.{◌≡◌, ℕ, zero, suc, ◌<◌, ◌≤◌, ◌+◌, arith, length, get_or, Bool, true, false, cond, not, ◌&&◌}
use Rattle.std.proofs.Common.{List, [], ◌∷◌, refl, sym, ap, subst, ◌∙◌, None, is_some}
use mathlib.Core.Bool.{true≢false}
use lib.Dec.{T}
use Rattle.std.specs.declared.cmp.Ordering.{Ordering}
use Rattle.std.specs.declared.cmp.Ordering.TheVariants.{Less, Equal, Greater}
use Rattle.std.specs.Ordering.{is_lt, is_eq, ordering_then}
use Rattle.std.specs.List.{list_any, position_or_len}
use Rattle.std.specs.FinMap as map_of
use Rattle.std.specs.FinMap.Entries.{below_all}
use Rattle.rt_tree.specs.PathTree.{Path, PathTree, path_cmp, paths_total, key_cmp, key_eq, key_eq-is, key_eq-symm, strip}
use Rattle.rt_tree.specs.Assignments.{is_at_or_above, do_overlap, have_overlap}
use Rattle.rt_cache.specs.declared.regions.Region.{Region}
use Rattle.rt_cache.specs.inside.Held.{pairs_of}
use Rattle.rt_cache.specs.Brought.{region_part}
use Rattle.rt_cache.proofs.Places.{or_left, or_right, or_false, unseen}

pub first : (a b : Bool) → T (a && b) → T a
first true b h = tt
first false b h = h

pub second : (a b : Bool) → T (a && b) → T b
second true b h = h
second false b h = absurd h

holds : (b : Bool) → T b → b ≡ true
holds true h = refl
holds false h = absurd h

pub less : (o : Ordering) → is_lt o ≡ true → o ≡ Less
less Less e = refl
less Equal e = absurd (true≢false (sym e))
less Greater e = absurd (true≢false (sym e))

pub before-trans : (x y z : Path) → is_lt (path_cmp x y) ≡ true → is_lt (path_cmp y z) ≡ true
    → is_lt (path_cmp x z) ≡ true
before-trans x y z a b = ap is_lt (paths_total.trans x y z (less _ a) (less _ b))

-- ---- paths

-- what is at or above a path is not behind it
pub above_first : (r p : Path) → is_at_or_above r p ≡ true → is_lt (path_cmp p r) ≡ false
above_first [] [] e = refl
above_first [] (j ∷ p) e = refl
above_first (k ∷ r) [] e = absurd (true≢false (sym e))
above_first (k ∷ r) (j ∷ p) e =
    elim (key_eq k j) as (λ b. key_eq k j ≡ b → is_some (cond b (strip r p) None) ≡ true → is_lt (path_cmp (j ∷ p) (k ∷ r)) ≡ false) [
      | true ↦ λ t f. elim (key_cmp j k) as (λ o. is_eq o ≡ true → is_lt (ordering_then o (path_cmp p r)) ≡ false) [
        | Less ↦ λ x. absurd (true≢false (sym x))
        | Equal ↦ λ x. above_first r p f
        | Greater ↦ λ x. refl
      ] (key_eq-symm j k ∙ t)
      | false ↦ λ t f. absurd (true≢false (sym f))
    ] refl e

-- what stands between a path and one under it is under it too
pub between : (r s p : Path) → is_at_or_above r p ≡ true → is_lt (path_cmp r s) ≡ true
    → is_lt (path_cmp p s) ≡ false → is_at_or_above r s ≡ true
between [] s p a b c = refl
between (k ∷ r) s [] a b c = absurd (true≢false (sym a))
between (k ∷ r) [] (j ∷ p) a b c = absurd (true≢false (sym b))
between (k ∷ r) (i ∷ s) (j ∷ p) a b c =
    elim (key_eq k j) as (λ t. key_eq k j ≡ t → is_some (cond t (strip r p) None) ≡ true → is_at_or_above (k ∷ r) (i ∷ s) ≡ true) [
      | true ↦ λ t under. elim (key_cmp k i) as (λ o. key_cmp k i ≡ o → is_lt (ordering_then o (path_cmp r s)) ≡ true → is_lt (ordering_then o (path_cmp p s)) ≡ false → is_at_or_above (k ∷ r) (i ∷ s) ≡ true) [
        | Less ↦ λ q x y. absurd (true≢false y)
        | Equal ↦ λ q x y. ap (λ o. is_some (cond (is_eq o) (strip r s) None)) q ∙ between r s p under x y
        | Greater ↦ λ q x y. absurd (true≢false (sym x))
      ] refl b (subst (λ x. is_lt (ordering_then (key_cmp x i) (path_cmp p s)) ≡ false) (sym (key_eq-is k j t)) c)
      | false ↦ λ t under. absurd (true≢false (sym under))
    ] refl a

-- ---- regions in order

pub below_at : (q : Path) (rs : List Region) (n : ℕ) (d : Region) → T (below_all path_cmp q (pairs_of rs))
    → n < length rs
    → is_lt (path_cmp q (get_or rs n d).path) ≡ true
below_at q [] n d h lt = absurd (omega arith)
below_at q (r ∷ rs) zero d h lt = holds _ (first _ _ h)
below_at q (r ∷ rs) (suc n) d h lt = below_at q rs n d (second (is_lt (path_cmp q r.path)) _ h) (omega arith)

-- all that follows a region behind the path is behind it
behind_all : (p : Path) (r : Region) (rs : List Region) (n : ℕ) (d : Region)
    → T (below_all path_cmp r.path (pairs_of rs)) → is_lt (path_cmp p r.path) ≡ true
    → n < length (r ∷ rs) → is_lt (path_cmp p (get_or (r ∷ rs) n d).path) ≡ true
behind_all p r rs zero d h e lt = e
behind_all p r rs (suc n) d h e lt = before-trans p r.path _ e (below_at r.path rs n d h (omega arith))

not_above : (r p : Path) → is_lt (path_cmp p r) ≡ true → is_at_or_above r p ≡ false
not_above r p e =
    elim (is_at_or_above r p) as (λ b. is_at_or_above r p ≡ b → b ≡ false) [
      | true ↦ λ f. absurd (true≢false (sym e ∙ above_first r p f))
      | false ↦ λ f. refl
    ] refl

-- no region behind the path is at or above it
none_behind : (p : Path) (rs : List Region) → T (map_of.is_sorted path_cmp (pairs_of rs))
    → ((d : Region) → zero < length rs → is_lt (path_cmp p (get_or rs zero d).path) ≡ true)
    → list_any (λ (r : Path × PathTree). is_at_or_above r.0 p) (pairs_of rs) ≡ false
none_behind p [] s h = refl
none_behind p (r ∷ rs) s h =
    let here : is_lt (path_cmp p r.path) ≡ true = h r (omega arith) in
    or_false _ _ (not_above r.path p here)
    (none_behind p rs (second (below_all path_cmp r.path (pairs_of rs)) _ s) (λ d lt. behind_all p r rs (suc zero) d (first _ _ s) here (omega (arith, lt))))

apart_at : (q : Path) (rs : List Region) (n : ℕ) (d : Region)
    → list_any (λ (b : Path × PathTree). do_overlap q b.0) (pairs_of rs) ≡ false → n < length rs
    → do_overlap q (get_or rs n d).path ≡ false
apart_at q [] n d e lt = absurd (omega arith)
apart_at q (r ∷ rs) zero d e lt = or_left _ (list_any (λ (b : Path × PathTree). do_overlap q b.0) (pairs_of rs)) e
apart_at q (r ∷ rs) (suc n) d e lt = apart_at q rs n d (or_right (do_overlap q r.path) _ e) (omega arith)

-- where the last that is not behind the path is not above it, none is
none_there : (p : Path) (rs : List Region) (n : ℕ) → T (map_of.is_sorted path_cmp (pairs_of rs))
    → have_overlap (pairs_of rs) ≡ false → n ≤ length rs
    → ((k : ℕ) (d : Region) → suc k ≡ n → is_lt (path_cmp p (get_or rs k d).path) ≡ false)
    → ((d : Region) → n < length rs → is_lt (path_cmp p (get_or rs n d).path) ≡ true)
    → ((k : ℕ) (d : Region) → suc k ≡ n → is_at_or_above (get_or rs k d).path p ≡ false)
    → list_any (λ (r : Path × PathTree). is_at_or_above r.0 p) (pairs_of rs) ≡ false
none_there p [] n s apart within front behind last = refl
none_there p (r ∷ rs) zero s apart within front behind last = none_behind p (r ∷ rs) s behind
none_there p (r ∷ rs) (suc zero) s apart within front behind last =
    or_false _ _ (last zero r refl) (none_behind p rs (second (below_all path_cmp r.path (pairs_of rs)) _ s) (λ d lt. behind d (omega (arith, lt))))
none_there p (r ∷ rs) (suc (suc n)) s apart within front behind last =
    let there : n < length rs = omega (arith, within) in
    let later : is_lt (path_cmp r.path (get_or rs n r).path) ≡ true = below_at r.path rs n r (first _ _ s) there in
    let clear : do_overlap r.path (get_or rs n r).path ≡ false = apart_at r.path rs n r (or_left _ (have_overlap (pairs_of rs)) apart) there in
    let here : is_at_or_above r.path p ≡ false = elim (is_at_or_above r.path p) as (λ b. is_at_or_above r.path p ≡ b → b ≡ false) [
      | true ↦ λ f. absurd (true≢false (sym (between r.path (get_or rs n r).path p f later (front (suc n) r refl)) ∙ or_left _ (is_at_or_above (get_or rs n r).path r.path) clear))
      | false ↦ λ f. refl
    ] refl in
    or_false _ _ here
    (none_there p rs (suc n) (second (below_all path_cmp r.path (pairs_of rs)) _ s) (or_right (list_any (λ (b : Path × PathTree). do_overlap r.path b.0) (pairs_of rs)) _ apart) (omega (arith, within))
    (λ k d e. front (suc k) d (ap suc e)) (λ d lt. behind d (omega (arith, lt))) (λ k d e. last (suc k) d (ap suc e)))

pub nowhere : (p : Path) (rs : List Region) (n : ℕ) → T (map_of.is_sorted path_cmp (pairs_of rs))
    → have_overlap (pairs_of rs) ≡ false → n ≤ length rs
    → ((k : ℕ) (d : Region) → suc k ≡ n → is_lt (path_cmp p (get_or rs k d).path) ≡ false)
    → ((d : Region) → n < length rs → is_lt (path_cmp p (get_or rs n d).path) ≡ true)
    → ((k : ℕ) (d : Region) → suc k ≡ n → is_at_or_above (get_or rs k d).path p ≡ false)
    → region_part (pairs_of rs) p ≡ None
nowhere p rs n s apart within front behind last = unseen p (pairs_of rs) (none_there p rs n s apart within front behind last)

one_more : (n : ℕ) → 1 + n ≡ suc n
one_more n = omega arith

-- how many are not behind the path
pub place_is : (p : Path) (rs : List Region) (n : ℕ) → T (map_of.is_sorted path_cmp (pairs_of rs))
    → n ≤ length rs
    → ((k : ℕ) (d : Region) → suc k ≡ n → is_lt (path_cmp p (get_or rs k d).path) ≡ false)
    → ((d : Region) → n < length rs → is_lt (path_cmp p (get_or rs n d).path) ≡ true)
    → n ≡ position_or_len (λ (r : Region). is_lt (path_cmp p r.path)) rs
place_is p [] zero s within front behind = refl
place_is p [] (suc n) s within front behind = absurd (omega (arith, within))
place_is p (r ∷ rs) zero s within front behind =
    ap (λ b. cond (not b) (1 + position_or_len (λ (x : Region). is_lt (path_cmp p x.path)) rs) 0) (sym (behind r (omega arith)))
place_is p (r ∷ rs) (suc n) s within front behind =
    let here : is_lt (path_cmp p r.path) ≡ false = elim (is_lt (path_cmp p r.path)) as (λ b. is_lt (path_cmp p r.path) ≡ b → b ≡ false) [
      | true ↦ λ f. absurd (true≢false (sym (behind_all p r rs n r (first _ _ s) f (omega (arith, within))) ∙ front n r refl))
      | false ↦ λ f. refl
    ] refl in
    ap suc (place_is p rs n (second (below_all path_cmp r.path (pairs_of rs)) _ s) (omega (arith, within)) (λ k d e. front (suc k) d (ap suc e)) (λ d lt. behind d (omega (arith, lt))))
    ∙ sym (one_more _)
    ∙ ap (λ b. cond (not b) (1 + position_or_len (λ (x : Region). is_lt (path_cmp p x.path)) rs) 0) (sym here)
