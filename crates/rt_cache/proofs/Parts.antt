-- Parts put in order: nothing is found elsewhere, and none is at or above another.
use Rattle.std.proofs.Common.{◌≡◌, ℕ, zero, suc, ◌<◌, ◌≤◌, arith, drop, length, get_or, IfOk, Bool, true, false, cond, not, ◌||◌, List, [], ◌∷◌, ◌++◌, append-nil, refl, sym, ap, ◌∙◌, Option, Some, None, is_some}
use mathlib.Core.Bool.{true≢false}
use lib.Dec.{T}
use Rattle.std.specs.declared.result.Result.{Result}
use Rattle.std.specs.declared.result.Result.TheVariants.{Ok, Err}
use Rattle.std.specs.Ordering.{eq_by_cmp}
use Rattle.std.specs.Cmp.{Equal-is}
use Rattle.std.specs.Option.{option_or}
use Rattle.std.specs.List.{filter, flat_map}
use Rattle.std.specs.FinMap as map_of
use Rattle.std.specs.FinMap.Entries.{find-put, same_entries}
use Rattle.rt_tree.specs.PathTree.{Path, path_cmp, paths_total, exact_paths, strip, strip-append}
use Rattle.rt_tree.specs.Assignments.{is_at_or_above, do_overlap, have_overlap}
use Rattle.rt_query.specs.Queries.{Query}
use Rattle.rt_cache.specs.Brought.{region_part}
use Rattle.rt_cache.specs.Recover.{reaches, parts_of, plain_spots, with_regions, regions_kept}
use Rattle.rt_cache.specs.declared.regions.Region.{Region}
use Rattle.rt_cache.specs.inside.Cuts.{parts_left}
use Rattle.rt_cache.specs.inside.Held.{pairs_of}
use Rattle.rt_cache.proofs.Changes.{with_sorted, with_apart}
use Rattle.rt_cache.proofs.Cuts.{any_above, any_with, part_any, one_stays, cross, overlap-append, cut_apart}
use Rattle.rt_cache.proofs.Places.{or_left, or_right, or_false}
use Rattle.rt_cache.proofs.Stays.{Regions, overlaps, overlaps-insert}

-- ---- what is found

overlaps_itself : (p : Path) → do_overlap p p ≡ true
overlaps_itself p = ap (λ o. is_some o || is_some o) (ap (strip p) (sym (append-nil p)) ∙ strip-append p [])

pub same_path : (x p : Path) → eq_by_cmp path_cmp x p ≡ true → x ≡ p
same_path x p e = exact_paths x p ((Equal-is (path_cmp x p)).0 e)

-- what a path is apart from stands nowhere at it
absent : (p : Path) (rs : Regions) → overlaps p rs ≡ false → map_of.find path_cmp p rs ≡ None
absent p [] e = refl
absent p (r ∷ rs) e =
    let rest = absent p rs (or_right (do_overlap p r.0) _ e) in
    let apart : do_overlap p r.0 ≡ false = or_left _ (overlaps p rs) e in
    elim (eq_by_cmp path_cmp p r.0) as (λ b. eq_by_cmp path_cmp p r.0 ≡ b → cond b (Some r.1) (map_of.find path_cmp p rs) ≡ None) [
      | true ↦ λ f. absurd (true≢false (sym (overlaps_itself p) ∙ ap (do_overlap p) (same_path p r.0 f) ∙ apart))
      | false ↦ λ f. rest
    ] refl

-- regions that are apart from one another, put beside others
pub find-with : (x : Path) (rs more : Regions) → have_overlap more ≡ false
    → map_of.find path_cmp x (with_regions rs more) ≡ option_or (map_of.find path_cmp x more) (map_of.find path_cmp x rs)
find-with x rs [] e = refl
find-with x rs (r ∷ more) e =
    let apart : overlaps r.0 more ≡ false = or_left _ (have_overlap more) e in
    find-with x (map_of.put path_cmp r.0 r.1 rs) more (or_right (overlaps r.0 more) _ e)
    ∙ ap (option_or (map_of.find path_cmp x more)) (find-put path_cmp paths_total x r.0 r.1 rs)
    ∙ elim (eq_by_cmp path_cmp x r.0) as (λ b. eq_by_cmp path_cmp x r.0 ≡ b → option_or (map_of.find path_cmp x more) (cond b (Some r.1) (map_of.find path_cmp x rs))
    ≡ option_or (cond b (Some r.1) (map_of.find path_cmp x more)) (map_of.find path_cmp x rs)) [
      | true ↦ λ f. ap (λ o. option_or o (Some r.1)) (ap (λ p. map_of.find path_cmp p more) (same_path x r.0 f) ∙ absent r.0 more apart)
      | false ↦ λ f. refl
    ] refl

pub or_none : {X : Type 0} (o : Option X) → option_or o None ≡ o
or_none None = refl
or_none (Some x) = refl

-- whether they were put in order before changes nothing
pub in_order_first : (rs more : Regions) → T (map_of.is_sorted path_cmp rs) → have_overlap more ≡ false
    → with_regions rs (with_regions [] more) ≡ with_regions rs more
in_order_first rs more s e =
    same_entries path_cmp paths_total exact_paths (with_regions rs (with_regions [] more)) (with_regions rs more)
    (with_sorted rs (with_regions [] more) s) (with_sorted rs more s)
    (λ x. find-with x rs (with_regions [] more) (with_apart [] more e)
    ∙ ap (λ o. option_or o (map_of.find path_cmp x rs)) (find-with x [] more e ∙ or_none (map_of.find path_cmp x more))
    ∙ sym (find-with x rs more e))

-- ---- what overlaps

overlaps-with : (p : Path) (rs more : Regions) → overlaps p rs ≡ false → overlaps p more ≡ false → overlaps p (with_regions rs more) ≡ false
overlaps-with p rs [] e f = e
overlaps-with p rs (r ∷ more) e f =
    overlaps-with p (map_of.put path_cmp r.0 r.1 rs) more (overlaps-insert p r.0 r.1 rs (or_left _ (overlaps p more) f) e) (or_right (do_overlap p r.0) _ f)

cross-with : (xs more : Regions) → cross xs more ≡ false → cross xs (with_regions [] more) ≡ false
cross-with [] more e = refl
cross-with (x ∷ xs) more e =
    or_false _ _ (overlaps-with x.0 [] more refl (or_left _ (cross xs more) e)) (cross-with xs more (or_right (overlaps x.0 more) _ e))

-- the regions that are lost, and their parts
abbrev lost_of : List Query → Regions → Regions
lost_of kept rs = filter (λ r. not (reaches kept r.0)) rs

pub all_parts_apart : (kept : List Query) (rs : Regions) → have_overlap (plain_spots kept) ≡ false → have_overlap rs ≡ false
    → have_overlap (flat_map (parts_of kept) (filter (λ r. not (reaches kept r.0)) rs)) ≡ false
all_parts_apart kept rs h e = (cut_apart kept rs h e).1

pub parts_apart : (kept : List Query) (rs : Regions) → have_overlap (plain_spots kept) ≡ false → have_overlap rs ≡ false
    → have_overlap (parts_left kept rs) ≡ false
parts_apart kept rs h e = with_apart [] (flat_map (parts_of kept) (lost_of kept rs)) (all_parts_apart kept rs h e)

pub left_with_parts : (kept : List Query) (rs : Regions) → have_overlap (plain_spots kept) ≡ false → have_overlap rs ≡ false
    → have_overlap (filter (λ r. reaches kept r.0) rs ++ parts_left kept rs) ≡ false
left_with_parts kept rs h e =
    let parts : Regions = flat_map (parts_of kept) (lost_of kept rs) in
    let cut = cut_apart kept rs h e in
    overlap-append (filter (λ r. reaches kept r.0) rs) (parts_left kept rs) cut.0 (parts_apart kept rs h e)
    (cross-with (filter (λ r. reaches kept r.0) rs) parts cut.2)

-- ---- what is held still

pub held_by : (kept : List Query) (rs : Regions) (p : Path)
    → is_some (region_part (regions_kept kept rs) p) ≡ (any_above p (filter (λ r. reaches kept r.0) rs) || is_some (region_part (parts_left kept rs) p))
held_by kept rs p =
    let parts : Regions = flat_map (parts_of kept) (lost_of kept rs) in
    part_any p (regions_kept kept rs) ∙ any_with p (filter (λ r. reaches kept r.0) rs) parts
    ∙ ap (λ b. any_above p (filter (λ r. reaches kept r.0) rs) || b) (sym (part_any p (parts_left kept rs) ∙ any_with p [] parts))

-- the region at or above the path decides
pub held_at : (test : Path → Bool) (rs : List Region) (p : Path) (n : ℕ) (b : Bool) → have_overlap (pairs_of rs) ≡ false → n < length rs
    → ((d : Region) → is_at_or_above (get_or rs n d).path p ≡ true) → ((d : Region) → test (get_or rs n d).path ≡ b)
    → any_above p (filter (λ r. test r.0) (pairs_of rs)) ≡ b
held_at test [] p n b apart lt above is = absurd (omega arith)
held_at test (r ∷ rs) p n b apart lt above is = one_stays test (r ∷ rs) p n r apart lt (above r) ∙ is r

pub of_not : (a b : Bool) → not a ≡ not b → a ≡ b
of_not true true e = refl
of_not true false e = sym e
of_not false true e = sym e
of_not false false e = refl

pub all_dropped : {X : Type 0} (n : ℕ) (xs : List X) → length xs ≤ n → drop n xs ≡ []
all_dropped zero [] le = refl
all_dropped zero (x ∷ xs) le = absurd (omega (arith, le))
all_dropped (suc n) [] le = refl
all_dropped (suc n) (x ∷ xs) le = all_dropped n xs (omega (arith, le))

-- what is so of what there is, and follows
pub if_ok : {A E : Type 0} (r : Result A E) (P Q : A → Type 0) → IfOk r P → ((x : A) → P x → Q x) → IfOk r Q
if_ok (Ok x) P Q p f = f x p
if_ok (Err e) P Q p f = tt
