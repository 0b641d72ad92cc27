-- The parts that stay, listen by listen: in the order of paths they are those of the lost regions.
use Rattle.std.proofs.Common.{◌≡◌, ℕ, zero, suc, ◌<◌, arith, length, get_or, drop, append_assoc, Bool, true, false, cond, not, ◌||◌, ◌&&◌, List, [], ◌∷◌, ◌++◌, refl, sym, ap, ◌∙◌, Option, Some, None, is_some}
use Rattle.std.specs.Ordering.{eq_by_cmp}
use Rattle.std.specs.Option.{option_map, option_or}
use Rattle.std.specs.List.{filter, flat_map, filter_map, list_any, cons_option}
use Rattle.std.specs.FinMap as map_of
use Rattle.std.specs.FinMap.Entries.{same_entries}
use Rattle.rt_tree.specs.PathTree.{Path, PathTree, path_cmp, paths_total, exact_paths, strip, sub, null}
use Rattle.rt_tree.specs.Assignments.{do_overlap, have_overlap}
use Rattle.rt_query.specs.Queries.{Query, is_filtered}
use Rattle.rt_cache.specs.Brought.{region_part}
use Rattle.rt_cache.specs.Recover.{reaches, parts_of, plain_spots, with_regions}
use Rattle.rt_cache.specs.declared.regions.Region.{Region}
use Rattle.rt_cache.specs.inside.Held.{pair_of, pairs_of}
use Rattle.rt_cache.specs.inside.Cuts.{part_below, parts_left}
use Rattle.rt_cache.proofs.Changes.{with_sorted}
use Rattle.rt_cache.proofs.Cuts.{any_above, none_stays}
use Rattle.rt_cache.proofs.Parts.{same_path, find-with, or_none, all_parts_apart}
use Rattle.rt_cache.proofs.Places.{none_above, or_left, or_right, or_false}
use Rattle.rt_cache.proofs.Stays.{Regions, overlaps}

-- ---- what is found at a path

-- whether one of the plain listens has this path
abbrev pub has_plain : List Query → Path → Bool
has_plain kept x = list_any (λ k. not (is_filtered k) && eq_by_cmp path_cmp x k.path) kept

pub neither : (b : Bool) (o : Option PathTree) → o ≡ None → cond b o None ≡ None
neither true o e = e
neither false o e = refl

find-both : (x : Path) (es fs : Regions) → map_of.find path_cmp x (es ++ fs) ≡ option_or (map_of.find path_cmp x es) (map_of.find path_cmp x fs)
find-both x [] fs = refl
find-both x (e ∷ es) fs =
    elim (eq_by_cmp path_cmp x e.0) as (λ b. cond b (Some e.1) (map_of.find path_cmp x (es ++ fs)) ≡ option_or (cond b (Some e.1) (map_of.find path_cmp x es)) (map_of.find path_cmp x fs)) [
      | true ↦ refl
      | false ↦ find-both x es fs
    ]

-- an entry that is there where f has something at its path, in front of others
in_front : (f : Path → Option PathTree) (x p : Path) (es : Regions) (h : Bool) → map_of.find path_cmp x es ≡ cond h (f x) None
    → map_of.find path_cmp x (cons_option (option_map (λ t. (p, t)) (f p)) es) ≡ cond (eq_by_cmp path_cmp x p || h) (f x) None
in_front f x p es h e =
    elim (f p) as (λ o. f p ≡ o → map_of.find path_cmp x (cons_option (option_map (λ t. (p, t)) o) es) ≡ cond (eq_by_cmp path_cmp x p || h) (f x) None) [
      | None ↦ λ g. elim (eq_by_cmp path_cmp x p) as (λ b. eq_by_cmp path_cmp x p ≡ b → map_of.find path_cmp x es ≡ cond (b || h) (f x) None) [
        | true ↦ λ a. e ∙ neither h (f x) (ap f (same_path x p a) ∙ g) ∙ sym (ap f (same_path x p a) ∙ g)
        | false ↦ λ a. e
      ] refl
      | Some t ↦ λ g. elim (eq_by_cmp path_cmp x p) as (λ b. eq_by_cmp path_cmp x p ≡ b → cond b (Some t) (map_of.find path_cmp x es) ≡ cond (b || h) (f x) None) [
        | true ↦ λ a. sym (ap f (same_path x p a) ∙ g)
        | false ↦ λ a. e
      ] refl
    ] refl

-- the part of a region at a path under it
abbrev part_of : Path × PathTree → Path → Option PathTree
part_of r x = option_map (sub r.1) (strip r.0 x)

-- it with its path
abbrev at : Path → PathTree → Path × PathTree
at p t = (p, t)

paired : (r : Path × PathTree) (p : Path) → option_map (λ rest. at p (sub r.1 rest)) (strip r.0 p) ≡ option_map (at p) (part_of r p)
paired r p = elim (strip r.0 p) as (λ o. option_map (λ rest. at p (sub r.1 rest)) o ≡ option_map (at p) (option_map (sub r.1) o)) [
  | None ↦ refl
  | Some rest ↦ refl
]

find-parts : (x : Path) (kept : List Query) (r : Path × PathTree) → map_of.find path_cmp x (parts_of kept r) ≡ cond (has_plain kept x) (part_of r x) None
find-parts x [] r = refl
find-parts x (k ∷ kept) r =
    elim (is_filtered k) as (λ b. map_of.find path_cmp x (cons_option (cond b None (option_map (λ rest. (k.path, sub r.1 rest)) (strip r.0 k.path))) (parts_of kept r))
    ≡ cond ((not b && eq_by_cmp path_cmp x k.path) || has_plain kept x) (part_of r x) None) [
      | true ↦ find-parts x kept r
      | false ↦ ap (λ o. map_of.find path_cmp x (cons_option o (parts_of kept r))) (paired r k.path)
          ∙ in_front (part_of r) x k.path (parts_of kept r) (has_plain kept x) (find-parts x kept r)
    ]

pub find-by_regions : (x : Path) (kept : List Query) (ls : Regions) → map_of.find path_cmp x (flat_map (parts_of kept) ls) ≡ cond (has_plain kept x) (region_part ls x) None
find-by_regions x kept [] = sym (neither (has_plain kept x) None refl)
find-by_regions x kept (r ∷ ls) =
    find-both x (parts_of kept r) (flat_map (parts_of kept) ls)
    ∙ (λ i. option_or (find-parts x kept r i) (find-by_regions x kept ls i))
    ∙ elim (has_plain kept x) as (λ h. option_or (cond h (part_of r x) None) (cond h (region_part ls x) None) ≡ cond h (region_part (r ∷ ls) x) None) [
      | true ↦ refl
      | false ↦ refl
    ]

pub find-by_listens : (x : Path) (kept : List Query) (ls : Regions) → map_of.find path_cmp x (filter_map (part_below ls) kept) ≡ cond (has_plain kept x) (region_part ls x) None
find-by_listens x [] ls = refl
find-by_listens x (k ∷ kept) ls =
    elim (is_filtered k) as (λ b. map_of.find path_cmp x (cons_option (cond b None (option_map (λ t. (k.path, t)) (region_part ls k.path))) (filter_map (part_below ls) kept))
    ≡ cond ((not b && eq_by_cmp path_cmp x k.path) || has_plain kept x) (region_part ls x) None) [
      | true ↦ find-by_listens x kept ls
      | false ↦ in_front (region_part ls) x k.path (filter_map (part_below ls) kept) (has_plain kept x) (find-by_listens x kept ls)
    ]

-- ---- none is at or above another

-- what holds of the parts behind, and of one at a plain listen in front of them
each_listed : (P : Regions → Type 0) (ls : Regions) (k : Query) (ps : Regions) → P ps → ((u : PathTree) → is_filtered k ≡ false → P ((k.path, u) ∷ ps)) → P (cons_option (part_below ls k) ps)
each_listed P ls k ps none some =
    elim (is_filtered k) as (λ b. is_filtered k ≡ b → P (cons_option (cond b None (option_map (λ t. (k.path, t)) (region_part ls k.path))) ps)) [
      | true ↦ λ f. none
      | false ↦ λ f. elim (region_part ls k.path) as (λ o. P (cons_option (option_map (λ t. (k.path, t)) o) ps)) [
        | None ↦ none
        | Some u ↦ some u f
      ]
    ] refl

spot_behind : (P : Regions → Bool) (k : Query) (ks : List Query) → ((x : Path × PathTree) (xs : Regions) → P (x ∷ xs) ≡ false → P xs ≡ false)
    → P (plain_spots (k ∷ ks)) ≡ false → P (plain_spots ks) ≡ false
spot_behind P k ks next = elim (is_filtered k) as (λ b. P (cons_option (cond b None (Some (k.path, null))) (plain_spots ks)) ≡ false → P (plain_spots ks) ≡ false) [
  | true ↦ λ h. h
  | false ↦ λ h. next (k.path, null) (plain_spots ks) h
]

spot_first : (k : Query) (ks : List Query) → is_filtered k ≡ false → plain_spots (k ∷ ks) ≡ (k.path, null) ∷ plain_spots ks
spot_first k ks f = ap (λ b. cons_option (cond b None (Some (k.path, null))) (plain_spots ks)) f

apart_from : (p : Path) (kept : List Query) (ls : Regions) → overlaps p (plain_spots kept) ≡ false → overlaps p (filter_map (part_below ls) kept) ≡ false
apart_from p [] ls e = refl
apart_from p (k ∷ kept) ls e =
    let rest = apart_from p kept ls (spot_behind (overlaps p) k kept (λ x xs h. or_right (do_overlap p x.0) _ h) e) in
    each_listed (λ ps. overlaps p ps ≡ false) ls k _ rest
    (λ u f. or_false _ _ (or_left _ (overlaps p (plain_spots kept)) (ap (overlaps p) (sym (spot_first k kept f)) ∙ e)) rest)

pub listed_apart : (kept : List Query) (ls : Regions) → have_overlap (plain_spots kept) ≡ false → have_overlap (filter_map (part_below ls) kept) ≡ false
listed_apart [] ls e = refl
listed_apart (k ∷ kept) ls e =
    let rest = listed_apart kept ls (spot_behind have_overlap k kept (λ x xs h. or_right (overlaps x.0 xs) _ h) e) in
    each_listed (λ ps. have_overlap ps ≡ false) ls k _ rest
    (λ u f. or_false _ _ (apart_from k.path kept ls (or_left _ (have_overlap (plain_spots kept)) (ap have_overlap (sym (spot_first k kept f)) ∙ e))) rest)

-- ---- the same parts

abbrev lost_of : List Query → Regions → Regions
lost_of kept rs = filter (λ r. not (reaches kept r.0)) rs

pub by_listens : (kept : List Query) (rs : Regions) → have_overlap (plain_spots kept) ≡ false → have_overlap rs ≡ false
    → with_regions [] (filter_map (part_below (filter (λ r. not (reaches kept r.0)) rs)) kept) ≡ parts_left kept rs
by_listens kept rs h e =
    let ls : Regions = lost_of kept rs in
    let listed : Regions = filter_map (part_below ls) kept in
    let parts : Regions = flat_map (parts_of kept) ls in
    same_entries path_cmp paths_total exact_paths (with_regions [] listed) (with_regions [] parts) (with_sorted [] listed tt) (with_sorted [] parts tt)
    (λ x. find-with x [] listed (listed_apart kept ls h) ∙ or_none (map_of.find path_cmp x listed) ∙ find-by_listens x kept ls
    ∙ sym (find-with x [] parts (all_parts_apart kept rs h e) ∙ or_none (map_of.find path_cmp x parts) ∙ find-by_regions x kept ls))

-- ---- the part of those that pass a test

pub part_passing : (test : Path → Bool) (rs : Regions) (p : Path) → have_overlap rs ≡ false
    → region_part (filter (λ r. test r.0) rs) p ≡ cond (any_above p (filter (λ r. test r.0) rs)) (region_part rs p) None
part_passing test [] p e = refl
part_passing test (r ∷ rs) p e =
    let passing : Regions = filter (λ r. test r.0) rs in
    let rest = part_passing test rs p (or_right (overlaps r.0 rs) _ e) in
    elim (test r.0) as (λ b. region_part (cond b (r ∷ passing) passing) p ≡ cond (any_above p (cond b (r ∷ passing) passing)) (region_part (r ∷ rs) p) None) [
      | true ↦ elim (strip r.0 p) as (λ o. option_or (option_map (sub r.1) o) (region_part passing p)
          ≡ cond (is_some o || any_above p passing) (option_or (option_map (sub r.1) o) (region_part rs p)) None) [
            | None ↦ rest
            | Some x ↦ refl
          ]
      | false ↦ elim (strip r.0 p) as (λ o. strip r.0 p ≡ o → region_part passing p ≡ cond (any_above p passing) (option_or (option_map (sub r.1) o) (region_part rs p)) None) [
        | None ↦ λ a. rest
        | Some x ↦ λ a.
            let gone : any_above p passing ≡ false = none_stays test rs p (none_above r.0 p rs (ap is_some a) (or_left _ (have_overlap rs) e)) in
            rest ∙ ap (λ b. cond b (region_part rs p) None) gone ∙ sym (ap (λ b. cond b (option_or (Some (sub r.1 x)) (region_part rs p)) None) gone)
      ] refl
    ]

-- nothing is below where nothing is found
pub nothing_below : (rs : Regions) (k : Query) → region_part rs k.path ≡ None → None ≡ part_below rs k
nothing_below rs k e = sym (elim (is_filtered k) as (λ b. cond b None (option_map (at k.path) (region_part rs k.path)) ≡ None) [
  | true ↦ refl
  | false ↦ ap (option_map (at k.path)) e
])

pub part_below_is : (rs : Regions) (k : Query) (t : PathTree) → is_filtered k ≡ false → region_part rs k.path ≡ Some t → Some (at k.path t) ≡ part_below rs k
part_below_is rs k t f e =
    ap (option_map (at k.path)) (sym e)
    ∙ ap (λ b. cond b None (option_map (at k.path) (region_part rs k.path))) (sym f)

pub none_passing : (test : Path → Bool) (rs : Regions) (p : Path) → have_overlap rs ≡ false → region_part rs p ≡ None → region_part (filter (λ r. test r.0) rs) p ≡ None
none_passing test rs p e n = part_passing test rs p e ∙ neither (any_above p (filter (λ r. test r.0) rs)) (region_part rs p) n

pub gone_passing : (test : Path → Bool) (rs : Regions) (p : Path) → have_overlap rs ≡ false → any_above p (filter (λ r. test r.0) rs) ≡ false → region_part (filter (λ r. test r.0) rs) p ≡ None
gone_passing test rs p e a = part_passing test rs p e ∙ ap (λ b. cond b (region_part rs p) None) a

pub held_passing : (test : Path → Bool) (rs : Regions) (p : Path) → have_overlap rs ≡ false → any_above p (filter (λ r. test r.0) rs) ≡ true → region_part (filter (λ r. test r.0) rs) p ≡ region_part rs p
held_passing test rs p e a = part_passing test rs p e ∙ ap (λ b. cond b (region_part rs p) None) a

-- ---- listen by listen

pub listed-drop : (ls : Regions) (kept : List Query) (n : ℕ) (d : Query) → n < length kept
    → filter_map (part_below ls) (drop n kept) ≡ cons_option (part_below ls (get_or kept n d)) (filter_map (part_below ls) (drop (suc n) kept))
listed-drop ls [] n d lt = absurd (omega arith)
listed-drop ls (k ∷ kept) zero d lt = refl
listed-drop ls (k ∷ kept) (suc n) d lt = listed-drop ls kept n d (omega arith)

pairs_of-append : (rs ss : List Region) → pairs_of (rs ++ ss) ≡ pairs_of rs ++ pairs_of ss
pairs_of-append [] ss = refl
pairs_of-append (r ∷ rs) ss = ap (λ ps. pair_of r ∷ ps) (pairs_of-append rs ss)

-- one part more
pub one_more_part : (parts : List Region) (p : Region) (rest whole : Regions) → pairs_of parts ++ pair_of p ∷ rest ≡ whole → pairs_of (parts ++ p ∷ []) ++ rest ≡ whole
one_more_part parts p rest whole e = ap (λ ps. ps ++ rest) (pairs_of-append parts (p ∷ [])) ∙ append_assoc (pairs_of parts) (pair_of p ∷ []) rest ∙ e
