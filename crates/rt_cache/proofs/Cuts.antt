-- What is left of regions: no part is at or above another.
use Rattle.std.proofs.Common.{◌≡◌, ℕ, zero, suc, ◌<◌, arith, length, get_or, Bool, true, false, cond, not, ◌||◌, List, [], ◌∷◌, ◌++◌, append-nil, refl, sym, ap, subst, ◌∙◌, Option, Some, None, is_some}
use mathlib.Core.Bool.{true≢false}
use Rattle.std.specs.declared.cmp.Ordering.TheVariants.{Less, Equal, Greater}
use Rattle.std.specs.Option.{option_map, option_or}
use Rattle.std.specs.List.{filter, flat_map, cons_option, list_any}
use Rattle.std.specs.FinMap as map_of
use Rattle.std.specs.FinMap.Entries.{by_order}
use Rattle.rt_tree.specs.PathTree.{Path, PathTree, path_cmp, exact_paths, strip, strip-some, strip-more, strip-append, path_eq, path_eq-is, sub, null}
use Rattle.rt_tree.specs.Assignments.{is_at_or_above, do_overlap, have_overlap}
use Rattle.rt_query.specs.Queries.{Query, is_filtered}
use Rattle.rt_cache.specs.Recover.{plain_spots, reaches, part_for, parts_of, with_regions}
use Rattle.rt_cache.specs.Brought.{region_part}
use Rattle.rt_cache.specs.declared.regions.Region.{Region}
use Rattle.rt_cache.specs.inside.Held.{pair_of, pairs_of}
use Rattle.rt_cache.proofs.Places.{or_left, or_right, or_false, comparable, none_above, first_not}
use Rattle.rt_cache.proofs.Strips.{some_of}
use Rattle.rt_cache.proofs.Stays.{Regions, overlaps, overlaps-filter, overlap-filter, do_overlap-symm}

-- ---- two lists of regions

-- none of the first overlaps with one of the second
abbrev pub cross : Regions → Regions → Bool
cross xs ys = list_any (λ (x : Path × PathTree). overlaps x.0 ys) xs

overlaps-append : (p : Path) (xs ys : Regions) → overlaps p xs ≡ false → overlaps p ys ≡ false → overlaps p (xs ++ ys) ≡ false
overlaps-append p [] ys e f = f
overlaps-append p (x ∷ xs) ys e f = or_false _ _ (or_left _ (overlaps p xs) e) (overlaps-append p xs ys (or_right (do_overlap p x.0) _ e) f)

pub overlap-append : (xs ys : Regions) → have_overlap xs ≡ false → have_overlap ys ≡ false → cross xs ys ≡ false → have_overlap (xs ++ ys) ≡ false
overlap-append [] ys e f c = f
overlap-append (x ∷ xs) ys e f c =
    or_false _ _ (overlaps-append x.0 xs ys (or_left _ (have_overlap xs) e) (or_left _ (cross xs ys) c)) (overlap-append xs ys (or_right (overlaps x.0 xs) _ e) f (or_right (overlaps x.0 ys) _ c))

overlaps-front : (p : Path) (xs ys : Regions) → overlaps p (xs ++ ys) ≡ false → overlaps p xs ≡ false
overlaps-front p [] ys e = refl
overlaps-front p (x ∷ xs) ys e = or_false _ _ (or_left _ (overlaps p (xs ++ ys)) e) (overlaps-front p xs ys (or_right (do_overlap p x.0) _ e))

-- the first of the second list overlaps with none of the first
pub next_apart : (xs : Regions) (y : Path × PathTree) (ys : Regions) → have_overlap (xs ++ y ∷ ys) ≡ false → overlaps y.0 xs ≡ false
next_apart [] y ys e = refl
next_apart (x ∷ xs) y ys e =
    or_false _ _ (do_overlap-symm y.0 x.0 ∙ middle x.0 xs (or_left _ (have_overlap (xs ++ y ∷ ys)) e)) (next_apart xs y ys (or_right (overlaps x.0 (xs ++ y ∷ ys)) _ e))
  where
    middle : (p : Path) (zs : Regions) → overlaps p (zs ++ y ∷ ys) ≡ false → do_overlap p y.0 ≡ false
    middle p [] f = or_left _ (overlaps p ys) f
    middle p (z ∷ zs) f = middle p zs (or_right (do_overlap p z.0) _ f)

-- an insert in the first list in place of the first of the second
moved_overlaps : (p : Path) (xs : Regions) (y : Path × PathTree) (ys : Regions) → overlaps p (xs ++ y ∷ ys) ≡ false → overlaps p (map_of.put path_cmp y.0 y.1 xs ++ ys) ≡ false
moved_overlaps p [] y ys e = e
moved_overlaps p (x ∷ xs) y ys e =
    elim (path_cmp y.0 x.0) as (λ o. overlaps p (by_order o (y ∷ x ∷ xs) ((x.0, y.1) ∷ xs) (x ∷ map_of.put path_cmp y.0 y.1 xs) ++ ys) ≡ false) [
      | Less ↦ or_false _ _ (middle xs (or_right (do_overlap p x.0) _ e)) (or_false _ _ (or_left _ (overlaps p (xs ++ y ∷ ys)) e) (without xs (or_right (do_overlap p x.0) _ e)))
      | Equal ↦ or_false _ _ (or_left _ (overlaps p (xs ++ y ∷ ys)) e) (without xs (or_right (do_overlap p x.0) _ e))
      | Greater ↦ or_false _ _ (or_left _ (overlaps p (xs ++ y ∷ ys)) e) (moved_overlaps p xs y ys (or_right (do_overlap p x.0) _ e))
    ]
  where
    middle : (zs : Regions) → overlaps p (zs ++ y ∷ ys) ≡ false → do_overlap p y.0 ≡ false
    middle [] f = or_left _ (overlaps p ys) f
    middle (z ∷ zs) f = middle zs (or_right (do_overlap p z.0) _ f)

    without : (zs : Regions) → overlaps p (zs ++ y ∷ ys) ≡ false → overlaps p (zs ++ ys) ≡ false
    without [] f = or_right (do_overlap p y.0) _ f
    without (z ∷ zs) f = or_false _ _ (or_left _ (overlaps p (zs ++ y ∷ ys)) f) (without zs (or_right (do_overlap p z.0) _ f))

without_overlaps : (p : Path) (y : Path × PathTree) (ys zs : Regions) → overlaps p (zs ++ y ∷ ys) ≡ false → overlaps p (zs ++ ys) ≡ false
without_overlaps p y ys [] f = or_right (do_overlap p y.0) _ f
without_overlaps p y ys (z ∷ zs) f = or_false _ _ (or_left _ (overlaps p (zs ++ y ∷ ys)) f) (without_overlaps p y ys zs (or_right (do_overlap p z.0) _ f))

without_overlap : (y : Path × PathTree) (ys zs : Regions) → have_overlap (zs ++ y ∷ ys) ≡ false → have_overlap (zs ++ ys) ≡ false
without_overlap y ys [] f = or_right (overlaps y.0 ys) _ f
without_overlap y ys (z ∷ zs) f = or_false _ _ (without_overlaps z.0 y ys zs (or_left _ (have_overlap (zs ++ y ∷ ys)) f)) (without_overlap y ys zs (or_right (overlaps z.0 (zs ++ y ∷ ys)) _ f))

behind_apart : (y : Path × PathTree) (ys zs : Regions) → have_overlap (zs ++ y ∷ ys) ≡ false → overlaps y.0 ys ≡ false
behind_apart y ys [] f = or_left _ (have_overlap ys) f
behind_apart y ys (z ∷ zs) f = behind_apart y ys zs (or_right (overlaps z.0 (zs ++ y ∷ ys)) _ f)

pub moved_overlap : (xs : Regions) (y : Path × PathTree) (ys : Regions) → have_overlap (xs ++ y ∷ ys) ≡ false → have_overlap (map_of.put path_cmp y.0 y.1 xs ++ ys) ≡ false
moved_overlap [] y ys e = e
moved_overlap (x ∷ xs) y ys e =
    let rest : have_overlap (xs ++ y ∷ ys) ≡ false = or_right (overlaps x.0 (xs ++ y ∷ ys)) _ e in
    let here : overlaps x.0 (xs ++ y ∷ ys) ≡ false = or_left _ (have_overlap (xs ++ y ∷ ys)) e in
    elim (path_cmp y.0 x.0) as (λ o. have_overlap (by_order o (y ∷ x ∷ xs) ((x.0, y.1) ∷ xs) (x ∷ map_of.put path_cmp y.0 y.1 xs) ++ ys) ≡ false) [
      | Less ↦ or_false _ _
          (overlaps-append y.0 (x ∷ xs) ys (next_apart (x ∷ xs) y ys e) (behind_apart y ys (x ∷ xs) e))
          (or_false _ _ (without_overlaps x.0 y ys xs here) (without_overlap y ys xs rest))
      | Equal ↦ or_false _ _ (without_overlaps x.0 y ys xs here) (without_overlap y ys xs rest)
      | Greater ↦ or_false _ _ (moved_overlaps x.0 xs y ys here) (moved_overlap xs y ys rest)
    ]

-- ---- those that stay, and those that are lost

overlaps-cons : (xs : Regions) (r : Path × PathTree) (ys : Regions) → overlaps r.0 xs ≡ false → cross xs ys ≡ false → cross xs (r ∷ ys) ≡ false
overlaps-cons [] r ys e f = refl
overlaps-cons (x ∷ xs) r ys e f =
    or_false _ _ (or_false _ _ (do_overlap-symm x.0 r.0 ∙ or_left _ (overlaps r.0 xs) e) (or_left _ (cross xs ys) f)) (overlaps-cons xs r ys (or_right (do_overlap r.0 x.0) _ e) (or_right (overlaps x.0 ys) _ f))

split_cross : (test : Path → Bool) (rs : Regions) → have_overlap rs ≡ false → cross (filter (λ r. test r.0) rs) (filter (λ r. not (test r.0)) rs) ≡ false
split_cross test [] e = refl
split_cross test (r ∷ rs) e =
    let rest = split_cross test rs (or_right (overlaps r.0 rs) _ e) in
    let here = or_left _ (have_overlap rs) e in
    elim (test r.0) as (λ b. cross (cond b (r ∷ filter (λ x. test x.0) rs) (filter (λ x. test x.0) rs)) (cond (not b) (r ∷ filter (λ x. not (test x.0)) rs) (filter (λ x. not (test x.0)) rs)) ≡ false) [
      | true ↦ or_false _ _ (overlaps-filter (λ p. not (test p)) r.0 rs here) rest
      | false ↦ overlaps-cons (filter (λ x. test x.0) rs) r _ (overlaps-filter test r.0 rs here) rest
    ]

-- ---- parts

pub above-trans : (p q r : Path) → is_at_or_above p q ≡ true → is_at_or_above q r ≡ true → is_at_or_above p r ≡ true
above-trans p q r a b =
    let s = some_of (strip p q) a in
    let t = some_of (strip q r) b in
    ap (λ x. is_some (strip p x)) (strip-some q r t.0 t.1) ∙ ap is_some (strip-more p q s.0 t.0 s.1)

-- what is under a path that is apart from s is apart from s
under_apart : (s r x : Path) → do_overlap s r ≡ false → is_at_or_above r x ≡ true → do_overlap s x ≡ false
under_apart s r x e a =
    elim (is_at_or_above s x) as (λ b. is_at_or_above s x ≡ b → (b || is_at_or_above x s) ≡ false) [
      | true ↦ λ f. absurd (true≢false (sym (comparable s r x f a) ∙ e))
      | false ↦ λ f. elim (is_at_or_above x s) as (λ b. is_at_or_above x s ≡ b → b ≡ false) [
        | true ↦ λ g. absurd (true≢false (sym (above-trans r x s a g) ∙ or_right (is_at_or_above s r) _ e))
        | false ↦ λ g. refl
      ] refl
    ] refl

overlaps_under : (r x : Path) (ys : Regions) → is_at_or_above r x ≡ true → overlaps r ys ≡ false → overlaps x ys ≡ false
overlaps_under r x [] a e = refl
overlaps_under r x (y ∷ ys) a e =
    or_false _ _ (do_overlap-symm x y.0 ∙ under_apart y.0 r x (do_overlap-symm y.0 r ∙ or_left _ (overlaps r ys) e) a) (overlaps_under r x ys a (or_right (do_overlap r y.0) _ e))

-- what holds of each part, and of none, holds of all of them
each_part : (P : Regions → Type 0) (r : Path × PathTree) (k : Query) (ps : Regions) → P ps → ((u : PathTree) → is_filtered k ≡ false → is_at_or_above r.0 k.path ≡ true → P ((k.path, u) ∷ ps)) → P (cons_option (part_for r k) ps)
each_part P r k ps none some = at (is_filtered k) refl
  where
    under : (o : Option Path) → is_filtered k ≡ false → strip r.0 k.path ≡ o → P (cons_option (option_map (λ rest. (k.path, sub r.1 rest)) o) ps)
    under None f e = none
    under (Some rest) f e = some (sub r.1 rest) f (ap is_some e)

    at : (b : Bool) → is_filtered k ≡ b → P (cons_option (cond (is_filtered k) None (option_map (λ rest. (k.path, sub r.1 rest)) (strip r.0 k.path))) ps)
    at true f = subst (λ b. P (cons_option (cond b None (option_map (λ rest. (k.path, sub r.1 rest)) (strip r.0 k.path))) ps)) (sym f) none
    at false f = subst (λ b. P (cons_option (cond b None (option_map (λ rest. (k.path, sub r.1 rest)) (strip r.0 k.path))) ps)) (sym f) (under (strip r.0 k.path) f refl)

overlaps_parts : (s : Path) (r : Path × PathTree) (kept : List Query) → do_overlap s r.0 ≡ false → overlaps s (parts_of kept r) ≡ false
overlaps_parts s r [] e = refl
overlaps_parts s r (k ∷ kept) e =
    let rest = overlaps_parts s r kept e in
    each_part (λ ps. overlaps s ps ≡ false) r k (parts_of kept r) rest (λ u f a. or_false _ _ (under_apart s r.0 k.path e a) rest)

overlaps_all : (s : Path) (kept : List Query) (ls : Regions) → overlaps s ls ≡ false → overlaps s (flat_map (parts_of kept) ls) ≡ false
overlaps_all s kept [] e = refl
overlaps_all s kept (r ∷ ls) e =
    overlaps-append s (parts_of kept r) _ (overlaps_parts s r kept (or_left _ (overlaps s ls) e)) (overlaps_all s kept ls (or_right (do_overlap s r.0) _ e))

cross_all : (xs : Regions) (kept : List Query) (ls : Regions) → cross xs ls ≡ false → cross xs (flat_map (parts_of kept) ls) ≡ false
cross_all [] kept ls e = refl
cross_all (x ∷ xs) kept ls e = or_false _ _ (overlaps_all x.0 kept ls (or_left _ (cross xs ls) e)) (cross_all xs kept ls (or_right (overlaps x.0 ls) _ e))

cross_parts : (r : Path × PathTree) (kept : List Query) (ys : Regions) → overlaps r.0 ys ≡ false → cross (parts_of kept r) ys ≡ false
cross_parts r [] ys e = refl
cross_parts r (k ∷ kept) ys e =
    let rest = cross_parts r kept ys e in
    each_part (λ ps. cross ps ys ≡ false) r k (parts_of kept r) rest (λ u f a. or_false _ _ (overlaps_under r.0 k.path ys a e) rest)

plain_parts : (p : Path) (r : Path × PathTree) (kept : List Query) → overlaps p (plain_spots kept) ≡ false → overlaps p (parts_of kept r) ≡ false
plain_parts p r [] e = refl
plain_parts p r (k ∷ kept) e =
    each_part (λ ps. overlaps p ps ≡ false) r k (parts_of kept r) (plain_parts p r kept (behind k kept e)) (λ u f a. or_false _ _ (first k kept f e) (plain_parts p r kept (behind k kept e)))
  where
    behind : (k : Query) (ks : List Query) → overlaps p (plain_spots (k ∷ ks)) ≡ false → overlaps p (plain_spots ks) ≡ false
    behind k ks = elim (is_filtered k) as (λ b. overlaps p (cons_option (cond b None (Some (k.path, null))) (plain_spots ks)) ≡ false → overlaps p (plain_spots ks) ≡ false) [
      | true ↦ λ h. h
      | false ↦ λ h. or_right (do_overlap p k.path) _ h
    ]

    first : (k : Query) (ks : List Query) → is_filtered k ≡ false → overlaps p (plain_spots (k ∷ ks)) ≡ false → do_overlap p k.path ≡ false
    first k ks f h = or_left _ (overlaps p (plain_spots ks)) (ap (λ b. overlaps p (cons_option (cond b None (Some (k.path, null))) (plain_spots ks))) (sym f) ∙ h)

parts_apart : (r : Path × PathTree) (kept : List Query) → have_overlap (plain_spots kept) ≡ false → have_overlap (parts_of kept r) ≡ false
parts_apart r [] e = refl
parts_apart r (k ∷ kept) e =
    each_part (λ ps. have_overlap ps ≡ false) r k (parts_of kept r) (parts_apart r kept (behind k kept e))
    (λ u f a. or_false _ _ (plain_parts k.path r kept (first k kept f e)) (parts_apart r kept (behind k kept e)))
  where
    behind : (k : Query) (ks : List Query) → have_overlap (plain_spots (k ∷ ks)) ≡ false → have_overlap (plain_spots ks) ≡ false
    behind k ks = elim (is_filtered k) as (λ b. have_overlap (cons_option (cond b None (Some (k.path, null))) (plain_spots ks)) ≡ false → have_overlap (plain_spots ks) ≡ false) [
      | true ↦ λ h. h
      | false ↦ λ h. or_right (overlaps k.path (plain_spots ks)) _ h
    ]

    first : (k : Query) (ks : List Query) → is_filtered k ≡ false → have_overlap (plain_spots (k ∷ ks)) ≡ false → overlaps k.path (plain_spots ks) ≡ false
    first k ks f h = or_left _ (have_overlap (plain_spots ks)) (ap (λ b. have_overlap (cons_option (cond b None (Some (k.path, null))) (plain_spots ks))) (sym f) ∙ h)

all_apart : (kept : List Query) (ls : Regions) → have_overlap (plain_spots kept) ≡ false → have_overlap ls ≡ false → have_overlap (flat_map (parts_of kept) ls) ≡ false
all_apart kept [] h e = refl
all_apart kept (r ∷ ls) h e =
    overlap-append (parts_of kept r) _ (parts_apart r kept h) (all_apart kept ls h (or_right (overlaps r.0 ls) _ e))
    (cross_parts r kept _ (overlaps_all r.0 kept ls (or_left _ (have_overlap ls) e)))

-- the regions that stay are apart, and so are the parts of the others, and each of the one from the others
pub cut_apart : (kept : List Query) (rs : Regions) → have_overlap (plain_spots kept) ≡ false → have_overlap rs ≡ false
    → (have_overlap (filter (λ r. reaches kept r.0) rs) ≡ false)
    × (have_overlap (flat_map (parts_of kept) (filter (λ r. not (reaches kept r.0)) rs)) ≡ false)
    × (cross (filter (λ r. reaches kept r.0) rs) (flat_map (parts_of kept) (filter (λ r. not (reaches kept r.0)) rs)) ≡ false)
cut_apart kept rs h e =
    let stay : Regions = filter (λ r. reaches kept r.0) rs in
    let lost : Regions = filter (λ r. not (reaches kept r.0)) rs in
    let lost_apart : have_overlap lost ≡ false = overlap-filter (λ p. not (reaches kept p)) rs e in
    let between : cross stay lost ≡ false = split_cross (λ p. reaches kept p) rs e in (
      overlap-filter (λ p. reaches kept p) rs e,
      all_apart kept lost h lost_apart,
      cross_all stay kept lost between,
    )

pub left_apart : (kept : List Query) (rs : Regions) → have_overlap (plain_spots kept) ≡ false → have_overlap rs ≡ false
    → have_overlap (filter (λ r. reaches kept r.0) rs ++ flat_map (parts_of kept) (filter (λ r. not (reaches kept r.0)) rs)) ≡ false
left_apart kept rs h e =
    let cut = cut_apart kept rs h e in
    overlap-append (filter (λ r. reaches kept r.0) rs) _ cut.0 cut.1 cut.2

-- one that is apart from all is none of them
pub absent_of : (p : Path) (rs : List Region) → overlaps p (pairs_of rs) ≡ false → list_any (λ r. path_eq p r.path) rs ≡ false
absent_of p [] e = refl
absent_of p (r ∷ rs) e = or_false _ _ (other (or_left _ (overlaps p (pairs_of rs)) e)) (absent_of p rs (or_right (do_overlap p r.path) _ e))
  where
    other : do_overlap p r.path ≡ false → path_eq p r.path ≡ false
    other f = elim (path_eq p r.path) as (λ b. path_eq p r.path ≡ b → b ≡ false) [
      | true ↦ λ g. absurd (true≢false (sym (ap (λ x. is_at_or_above p x || is_at_or_above x p) (sym (path_eq-is p r.path g)) ∙ ap (λ o. is_some o || is_some o) (ap (strip p) (sym (append-nil p)) ∙ strip-append p [])) ∙ f))
      | false ↦ λ g. refl
    ] refl

-- ---- whether a region is at or above a path

abbrev pub any_above : Path → Regions → Bool
any_above p rs = list_any (λ (r : Path × PathTree). is_at_or_above r.0 p) rs

pub part_any : (p : Path) (rs : Regions) → is_some (region_part rs p) ≡ any_above p rs
part_any p [] = refl
part_any p (r ∷ rs) =
    elim (strip r.0 p) as (λ o. is_some (option_or (option_map (sub r.1) o) (region_part rs p)) ≡ (is_some o || any_above p rs)) [
      | None ↦ part_any p rs
      | Some x ↦ refl
    ]

or_again : (a b : Bool) → (a || b) ≡ (a || (a || b))
or_again true b = refl
or_again false b = refl

or_turn : (a b c : Bool) → (a || (b || c)) ≡ (b || (a || c))
or_turn true true c = refl
or_turn true false c = refl
or_turn false b c = refl

pub any_put : (p k : Path) (u : PathTree) (rs : Regions) → any_above p (map_of.put path_cmp k u rs) ≡ (is_at_or_above k p || any_above p rs)
any_put p k u [] = refl
any_put p k u (r ∷ rs) =
    elim (path_cmp k r.0) as (λ o. path_cmp k r.0 ≡ o → any_above p (by_order o ((k, u) ∷ r ∷ rs) ((r.0, u) ∷ rs) (r ∷ map_of.put path_cmp k u rs)) ≡ (is_at_or_above k p || (is_at_or_above r.0 p || any_above p rs))) [
      | Less ↦ λ e. refl
      | Equal ↦ λ e. or_again (is_at_or_above r.0 p) (any_above p rs) ∙ ap (λ x. is_at_or_above x p || (is_at_or_above r.0 p || any_above p rs)) (sym (exact_paths k r.0 e))
      | Greater ↦ λ e. ap (λ b. is_at_or_above r.0 p || b) (any_put p k u rs) ∙ or_turn (is_at_or_above r.0 p) (is_at_or_above k p) (any_above p rs)
    ] refl

or_assoc : (a b c : Bool) → ((a || b) || c) ≡ (b || (a || c))
or_assoc true true c = refl
or_assoc true false c = refl
or_assoc false b c = refl

pub any_with : (p : Path) (rs more : Regions) → any_above p (with_regions rs more) ≡ (any_above p rs || any_above p more)
any_with p rs [] = at (any_above p rs)
  where
    at : (b : Bool) → b ≡ (b || false)
    at true = refl
    at false = refl
any_with p rs (r ∷ more) =
    any_with p (map_of.put path_cmp r.0 r.1 rs) more ∙ ap (λ b. b || any_above p more) (any_put p r.0 r.1 rs) ∙ or_assoc (is_at_or_above r.0 p) (any_above p rs) (any_above p more)

-- none stays above the path, where none was
pub none_stays : (test : Path → Bool) (rs : Regions) (p : Path) → any_above p rs ≡ false → any_above p (filter (λ r. test r.0) rs) ≡ false
none_stays test [] p e = refl
none_stays test (r ∷ rs) p e =
    let rest = none_stays test rs p (or_right (is_at_or_above r.0 p) _ e) in
    elim (test r.0) as (λ b. any_above p (cond b (r ∷ filter (λ x. test x.0) rs) (filter (λ x. test x.0) rs)) ≡ false) [
      | true ↦ or_false _ _ (or_left _ (any_above p rs) e) rest
      | false ↦ rest
    ]

-- the one that is above it decides
pub one_stays : (test : Path → Bool) (rs : List Region) (p : Path) (n : ℕ) (d : Region) → have_overlap (pairs_of rs) ≡ false → n < length rs → is_at_or_above (get_or rs n d).path p ≡ true
    → any_above p (filter (λ r. test r.0) (pairs_of rs)) ≡ test (get_or rs n d).path
one_stays test [] p n d apart lt above = absurd (omega arith)
one_stays test (r ∷ rs) p zero d apart lt above =
    let others : any_above p (filter (λ x. test x.0) (pairs_of rs)) ≡ false = none_stays test (pairs_of rs) p (none_above r.path p (pairs_of rs) above (or_left _ (have_overlap (pairs_of rs)) apart)) in
    elim (test r.path) as (λ b. any_above p (cond b (pair_of r ∷ filter (λ x. test x.0) (pairs_of rs)) (filter (λ x. test x.0) (pairs_of rs))) ≡ b) [
      | true ↦ ap (λ b. b || any_above p (filter (λ x. test x.0) (pairs_of rs))) above
      | false ↦ others
    ]
one_stays test (r ∷ rs) p (suc n) d apart lt above =
    let here : is_at_or_above r.path p ≡ false = first_not r.path p rs n d (or_left _ (have_overlap (pairs_of rs)) apart) (omega arith) above in
    let rest = one_stays test rs p n d (or_right (overlaps r.path (pairs_of rs)) _ apart) (omega arith) above in
    elim (test r.path) as (λ b. any_above p (cond b (pair_of r ∷ filter (λ x. test x.0) (pairs_of rs)) (filter (λ x. test x.0) (pairs_of rs))) ≡ test (get_or rs n d).path) [
      | true ↦ ap (λ b. b || any_above p (filter (λ x. test x.0) (pairs_of rs))) here ∙ rest
      | false ↦ rest
    ]
