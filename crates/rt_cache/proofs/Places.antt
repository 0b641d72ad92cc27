-- Where a region stands.
use Rattle.std.proofs.Common.{◌≡◌, ℕ, zero, suc, ◌<◌, arith, length, set, get_or, Bool, true, false, ◌||◌, List, [], ◌∷◌, map, refl, sym, ap, ◌∙◌, Option, Some, None, is_some}
use mathlib.Core.Bool.{true≢false}
use Rattle.std.specs.List.{list_any}
use Rattle.std.specs.Option.{option_map, option_map_or, option_or}
use Rattle.rt_tree.specs.PathTree.{Path, PathTree, strip, strip-some, strip-crossed, sub, put}
use Rattle.rt_tree.specs.Assignments.{is_at_or_above, do_overlap, have_overlap}
use Rattle.rt_cache.specs.Brought.{region_part, region_put}
use Rattle.rt_cache.specs.declared.regions.Region.{Region}
use Rattle.rt_cache.specs.inside.Held.{pair_of, pairs_of}
use Rattle.rt_cache.proofs.Strips.{some_of}

pub or_left : (a b : Bool) → (a || b) ≡ false → a ≡ false
or_left true b e = absurd (true≢false e)
or_left false b e = refl

pub or_right : (a b : Bool) → (a || b) ≡ false → b ≡ false
or_right true b e = absurd (true≢false e)
or_right false b e = e

pub or_false : (a b : Bool) → a ≡ false → b ≡ false → (a || b) ≡ false
or_false a b e f = λ i. e i || f i

pub or_true : (a b : Bool) → b ≡ true → (a || b) ≡ true
or_true true b e = refl
or_true false b e = e

-- two paths at or above one
pub comparable : (q r p : Path) → is_at_or_above q p ≡ true → is_at_or_above r p ≡ true → do_overlap q r ≡ true
comparable q r p a b =
    let s = some_of (strip q p) a in
    let u = some_of (strip r p) b in
    elim (strip q r) as (λ o. strip q r ≡ o → (is_some o || is_some (strip r q)) ≡ true) [
      | Some x ↦ λ e. refl
      | None ↦ λ e. strip-crossed q r s.0 u.0 e (ap (strip q) (sym (strip-some r p u.0 u.1)) ∙ s.1)
    ] refl

-- a path that is apart from one above p is not above p
not_above : (q r p : Path) → is_at_or_above q p ≡ true → do_overlap q r ≡ false → is_at_or_above r p ≡ false
not_above q r p a e =
    elim (is_at_or_above r p) as (λ b. is_at_or_above r p ≡ b → b ≡ false) [
      | true ↦ λ f. absurd (true≢false (sym (comparable q r p a f) ∙ e))
      | false ↦ λ f. refl
    ] refl

pub none_above : (q p : Path) (rs : List (Path × PathTree)) → is_at_or_above q p ≡ true → list_any (λ (b : Path × PathTree). do_overlap q b.0) rs ≡ false
    → list_any (λ (r : Path × PathTree). is_at_or_above r.0 p) rs ≡ false
none_above q p [] a e = refl
none_above q p (r ∷ rs) a e =
    or_false _ _ (not_above q r.0 p a (or_left _ (list_any (λ (b : Path × PathTree). do_overlap q b.0) rs) e)) (none_above q p rs a (or_right (do_overlap q r.0) _ e))

-- a region that is not at or above the path does not change
untouched_one : (p : Path) (u : PathTree) (r : Path × PathTree) → is_at_or_above r.0 p ≡ false → region_put (p, u) r ≡ r
untouched_one p u r f =
    elim (strip r.0 p) as (λ o. strip r.0 p ≡ o → is_some o ≡ false → region_put (p, u) r ≡ r) [
      | None ↦ λ e g. λ i. (r.0, option_map_or (λ rest. put r.1 rest u) (e i) r.1)
      | Some x ↦ λ e g. absurd (true≢false g)
    ] refl f

-- nor shows a part there
unseen_one : (p : Path) (r : Path × PathTree) (rs : List (Path × PathTree)) → is_at_or_above r.0 p ≡ false → region_part (r ∷ rs) p ≡ region_part rs p
unseen_one p r rs f =
    elim (strip r.0 p) as (λ o. is_some o ≡ false → option_or (option_map (sub r.1) o) (region_part rs p) ≡ region_part rs p) [
      | None ↦ λ g. refl
      | Some x ↦ λ g. absurd (true≢false g)
    ] f

untouched : (p : Path) (u : PathTree) (rs : List (Path × PathTree)) → list_any (λ (r : Path × PathTree). is_at_or_above r.0 p) rs ≡ false
    → map (region_put (p, u)) rs ≡ rs
untouched p u [] e = refl
untouched p u (r ∷ rs) e =
    let head = untouched_one p u r (or_left _ (list_any (λ (x : Path × PathTree). is_at_or_above x.0 p) rs) e) in
    let rest = untouched p u rs (or_right (is_at_or_above r.0 p) _ e) in
    λ i. head i ∷ rest i

pub unseen : (p : Path) (rs : List (Path × PathTree)) → list_any (λ (r : Path × PathTree). is_at_or_above r.0 p) rs ≡ false → region_part rs p ≡ None
unseen p [] e = refl
unseen p (r ∷ rs) e =
    unseen_one p r rs (or_left _ (list_any (λ (x : Path × PathTree). is_at_or_above x.0 p) rs) e) ∙ unseen p rs (or_right (is_at_or_above r.0 p) _ e)

-- a region further on is above p, so the first is not
pub first_not : (q p : Path) (rs : List Region) (n : ℕ) (d : Region) → list_any (λ (b : Path × PathTree). do_overlap q b.0) (pairs_of rs) ≡ false → n < length rs
    → is_at_or_above (get_or rs n d).path p ≡ true → is_at_or_above q p ≡ false
first_not q p [] n d e lt a = absurd (omega arith)
first_not q p (r ∷ rs) zero d e lt a =
    elim (is_at_or_above q p) as (λ b. is_at_or_above q p ≡ b → b ≡ false) [
      | true ↦ λ f. absurd (true≢false (sym (comparable q r.path p f a) ∙ or_left _ (list_any (λ (b : Path × PathTree). do_overlap q b.0) (pairs_of rs)) e))
      | false ↦ λ f. refl
    ] refl
first_not q p (r ∷ rs) (suc n) d e lt a = first_not q p rs n d (or_right (do_overlap q r.path) _ e) (omega arith) a

-- the region at or above the path alone changes
pub put_at : (p : Path) (u : PathTree) (rs : List Region) (n : ℕ) (d new : Region) → have_overlap (pairs_of rs) ≡ false → n < length rs
    → is_at_or_above (get_or rs n d).path p ≡ true → pair_of new ≡ region_put (p, u) (pair_of (get_or rs n d))
    → pairs_of (set rs n new) ≡ map (region_put (p, u)) (pairs_of rs)
put_at p u [] n d new apart lt a e = absurd (omega arith)
put_at p u (r ∷ rs) zero d new apart lt a e =
    let rest = untouched p u (pairs_of rs) (none_above r.path p (pairs_of rs) a (or_left _ (have_overlap (pairs_of rs)) apart)) in
    λ i. e i ∷ sym rest i
put_at p u (r ∷ rs) (suc n) d new apart lt a e =
    let here = untouched_one p u (pair_of r) (first_not r.path p rs n d (or_left _ (have_overlap (pairs_of rs)) apart) (omega arith) a) in
    let rest = put_at p u rs n d new (or_right (list_any (λ (b : Path × PathTree). do_overlap r.path b.0) (pairs_of rs)) _ apart) (omega arith) a e in
    λ i. sym here i ∷ rest i

-- and is the one whose part is there
pub part_is : (p : Path) (rs : List Region) (n : ℕ) (d : Region) → have_overlap (pairs_of rs) ≡ false → n < length rs
    → is_at_or_above (get_or rs n d).path p ≡ true → region_part (pairs_of rs) p ≡ option_map (sub (get_or rs n d).tree) (strip (get_or rs n d).path p)
part_is p [] n d apart lt a = absurd (omega arith)
part_is p (r ∷ rs) zero d apart lt a =
    ap (option_or (option_map (sub r.tree) (strip r.path p))) (unseen p (pairs_of rs) (none_above r.path p (pairs_of rs) a (or_left _ (have_overlap (pairs_of rs)) apart)))
    ∙ alone (option_map (sub r.tree) (strip r.path p))
  where
    alone : (o : Option PathTree) → option_or o None ≡ o
    alone None = refl
    alone (Some x) = refl
part_is p (r ∷ rs) (suc n) d apart lt a =
    unseen_one p (pair_of r) (pairs_of rs) (first_not r.path p rs n d (or_left _ (have_overlap (pairs_of rs)) apart) (omega arith) a)
    ∙ part_is p rs n d (or_right (list_any (λ (b : Path × PathTree). do_overlap r.path b.0) (pairs_of rs)) _ apart) (omega arith) a
