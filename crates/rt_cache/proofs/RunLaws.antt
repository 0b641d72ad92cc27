-- What any calls leave, told by the calls alone.
use Rattle.std.proofs.Common.{◌≡◌, Bool, true, false, cond, not, ◌||◌, ◌&&◌, List, [], ◌∷◌, ◌++◌, append-nil, map, refl, sym, ap, subst, ◌∙◌, Option, Some, None, is_some}
use mathlib.Core.Bool.{true≢false}
use Rattle.std.specs.Prelude.{⊤}
use Rattle.std.specs.declared.cmp.Ordering.TheVariants.{Less, Equal, Greater}
use Rattle.std.specs.Ordering.{is_eq}
use Rattle.std.specs.List.{All, filter, flat_map, cons_option, list_any, fold}
use Rattle.std.specs.Option.{option_map, option_map_or, option_or}
use Rattle.std.specs.FinMap as map_of
use Rattle.std.specs.FinMap.Entries.{by_order}
use Rattle.std.proofs.lemmas.List.Elements.{All-nil, All-head, All-tail}
use Rattle.rt_tree.specs.PathTree.{Path, PathTree, path_cmp, path_eq-is, strip, strip-some, null, sub, put}
use Rattle.rt_tree.specs.Parts.{sub_root, sub-sub, sub-put_under, sub-put_above, sub-put_other}
use Rattle.rt_tree.specs.Assignments.{Assignment, is_at_or_above, do_overlap, have_overlap}
use Rattle.rt_query.specs.Queries.{Query, plain, is_filtered}
use Rattle.rt_cache.specs.Brought.{Window, Brought, nothing_brought, region_part, region_put, windows_pushed, push_plain}
use Rattle.rt_cache.specs.Canonical.{IsCanonical}
use Rattle.rt_cache.specs.Recover.{reaches, parts_of, with_regions}
use Rattle.rt_cache.specs.Runs.{IsAllowed, after, after_all}
use Rattle.rt_cache.specs.laws.Runs.{with_push, pushed, known_after, is_known, PlainBaseIsWhatWasPushed}
use Rattle.rt_cache.specs.declared.run.BroughtCall.{BroughtCall}
use Rattle.rt_cache.specs.declared.run.BroughtCall.TheVariants.{Put, Recover}
use Rattle.rt_cache.proofs.Bases.{plain_found}
use Rattle.rt_cache.proofs.Changes.{recover_stays}
use Rattle.rt_cache.proofs.Cuts.{any_above, any_put, any_with, above-trans, part_any}
use Rattle.rt_cache.proofs.Sources.{of_part}
use Rattle.rt_cache.proofs.Places.{or_left, or_right, or_false, or_true, comparable}
use Rattle.rt_cache.proofs.Stays.{Regions, overlaps, push_stays}

none_of : {X : Type 0} (o : Option X) → is_some o ≡ false → o ≡ None
none_of None e = refl
none_of (Some x) e = absurd (true≢false e)

and_false : (a : Bool) → (a && false) ≡ false
and_false true = refl
and_false false = refl

pub never : (b : Bool) → (b ≡ true → false ≡ true) → b ≡ false
never true f = sym (f refl)
never false f = refl

-- ---- trees that are parts of one

-- each region's tree is the part at its path of t
abbrev IsTrueTo : PathTree → Regions → Type 0
IsTrueTo t [] = ⊤
IsTrueTo t (r ∷ rs) = (r.1 ≡ sub t r.0) × IsTrueTo t rs

part_true : (t : PathTree) (rs : Regions) (p : Path) → IsTrueTo t rs
    → region_part rs p ≡ cond (is_some (region_part rs p)) (Some (sub t p)) None
part_true t [] p h = refl
part_true t (r ∷ rs) p h =
    elim (strip r.0 p) as (λ o. strip r.0 p ≡ o → option_or (option_map (sub r.1) o) (region_part rs p) ≡ cond (is_some (option_or (option_map (sub r.1) o) (region_part rs p))) (Some (sub t p)) None) [
      | None ↦ λ e. part_true t rs p h.1
      | Some x ↦ λ e. ap Some (ap (λ y. sub y x) h.0 ∙ sub-sub t r.0 x ∙ ap (sub t) (sym (strip-some r.0 p x e)))
    ] refl

true_put : (t : PathTree) (k : Path) (u : PathTree) (rs : Regions) → u ≡ sub t k → IsTrueTo t rs
    → IsTrueTo t (map_of.put path_cmp k u rs)
true_put t k u [] e h = (e, tt)
true_put t k u (r ∷ rs) e h =
    elim (path_cmp k r.0) as (λ o. path_cmp k r.0 ≡ o → IsTrueTo t (by_order o ((k, u) ∷ r ∷ rs) ((r.0, u) ∷ rs) (r ∷ map_of.put path_cmp k u rs))) [
      | Less ↦ λ o. (e, h)
      | Equal ↦ λ o. (e ∙ ap (sub t) (path_eq-is k r.0 (ap is_eq o)), h.1)
      | Greater ↦ λ o. (h.0, true_put t k u rs e h.1)
    ] refl

true_with : (t : PathTree) (rs more : Regions) → IsTrueTo t rs → IsTrueTo t more
    → IsTrueTo t (with_regions rs more)
true_with t rs [] h g = h
true_with t rs (r ∷ more) h g = true_with t (map_of.put path_cmp r.0 r.1 rs) more (true_put t r.0 r.1 rs g.0 h) g.1

true_filter : (test : Path → Bool) (t : PathTree) (rs : Regions) → IsTrueTo t rs
    → IsTrueTo t (filter (λ r. test r.0) rs)
true_filter test t [] h = tt
true_filter test t (r ∷ rs) h =
    elim (test r.0) as (λ b. IsTrueTo t (cond b (r ∷ filter (λ x. test x.0) rs) (filter (λ x. test x.0) rs))) [
      | true ↦ (h.0, true_filter test t rs h.1)
      | false ↦ true_filter test t rs h.1
    ]

true_append : (t : PathTree) (xs ys : Regions) → IsTrueTo t xs → IsTrueTo t ys → IsTrueTo t (xs ++ ys)
true_append t [] ys h g = g
true_append t (x ∷ xs) ys h g = (h.0, true_append t xs ys h.1 g)

true_parts : (t : PathTree) (r : Path × PathTree) (kept : List Query) → r.1 ≡ sub t r.0
    → IsTrueTo t (parts_of kept r)
true_parts t r [] e = tt
true_parts t r (k ∷ kept) e =
    elim (is_filtered k) as (λ b. IsTrueTo t (cons_option (cond b None (option_map (λ rest. (k.path, sub r.1 rest)) (strip r.0 k.path))) (parts_of kept r))) [
      | true ↦ true_parts t r kept e
      | false ↦ elim (strip r.0 k.path) as (λ o. strip r.0 k.path ≡ o → IsTrueTo t (cons_option (option_map (λ rest. (k.path, sub r.1 rest)) o) (parts_of kept r))) [
        | None ↦ λ s. true_parts t r kept e
        | Some x ↦ λ s. (ap (λ y. sub y x) e ∙ sub-sub t r.0 x ∙ ap (sub t) (sym (strip-some r.0 k.path x s)), true_parts t r kept e)
      ] refl
    ]

true_all : (t : PathTree) (kept : List Query) (rs : Regions) → IsTrueTo t rs
    → IsTrueTo t (flat_map (parts_of kept) rs)
true_all t kept [] h = tt
true_all t kept (r ∷ rs) h = true_append t (parts_of kept r) _ (true_parts t r kept h.0) (true_all t kept rs h.1)

-- ---- a push into a region

-- whether a region that is not at or above x is under it
abbrev hides : Path → Path × PathTree → Bool
hides x r = not (is_at_or_above r.0 x) && is_at_or_above x r.0

over : (r x : Path) (rs : Regions) → any_above x rs ≡ true → is_at_or_above x r ≡ true
    → overlaps r rs ≡ true
over r x [] e f = e
over r x (s ∷ rs) e f =
    elim (is_at_or_above s.0 x) as (λ b. is_at_or_above s.0 x ≡ b → (b || any_above x rs) ≡ true → overlaps r (s ∷ rs) ≡ true) [
      | true ↦ λ g h. ap (λ b. b || overlaps r rs) (or_true (is_at_or_above r s.0) _ (above-trans s.0 x r g f))
      | false ↦ λ g h. or_true (do_overlap r s.0) _ (over r x rs h f)
    ] refl e

clean_apart : (s x : Path) (rs : Regions) → is_at_or_above s x ≡ true → overlaps s rs ≡ false
    → list_any (hides x) rs ≡ false
clean_apart s x [] a e = refl
clean_apart s x (r ∷ rs) a e =
    or_false _ _
    (ap (λ b. not (is_at_or_above r.0 x) && b) (never (is_at_or_above x r.0) (λ f. sym (or_left _ (is_at_or_above r.0 s) (or_left _ (overlaps s rs) e)) ∙ above-trans s x r.0 a f)) ∙ and_false _)
    (clean_apart s x rs a (or_right (do_overlap s r.0) _ e))

clean : (x : Path) (rs : Regions) → have_overlap rs ≡ false → any_above x rs ≡ true
    → list_any (hides x) rs ≡ false
clean x [] e a = refl
clean x (r ∷ rs) e a =
    elim (is_at_or_above r.0 x) as (λ b. is_at_or_above r.0 x ≡ b → (b || any_above x rs) ≡ true → ((not b && is_at_or_above x r.0) || list_any (hides x) rs) ≡ false) [
      | true ↦ λ f g. clean_apart r.0 x rs f (or_left _ (have_overlap rs) e)
      | false ↦ λ f g. or_false _ _ (never (is_at_or_above x r.0) (λ h. sym (or_left _ (have_overlap rs) e) ∙ over r.0 x rs g h)) (clean x rs (or_right (overlaps r.0 rs) _ e) g)
    ] refl a

true_inside : (t : PathTree) (a : Assignment) (rs : Regions) → list_any (hides a.0) rs ≡ false
    → IsTrueTo t rs → IsTrueTo (put t a.0 a.1) (map (region_put a) rs)
true_inside t a [] e h = tt
true_inside t a (r ∷ rs) e h = (
  elim (strip r.0 a.0) as (λ o. strip r.0 a.0 ≡ o → (not (is_some o) && is_at_or_above a.0 r.0) ≡ false → option_map_or (λ rest. put r.1 rest a.1) o r.1 ≡ sub (put t a.0 a.1) r.0) [
    | None ↦ λ s f. h.0 ∙ sym (sub-put_other t a.0 r.0 a.1 (none_of (strip a.0 r.0) f) s)
    | Some rest ↦ λ s f. ap (λ y. put y rest a.1) h.0 ∙ sym (sub-put_under t r.0 rest a.1) ∙ ap (λ p. sub (put t p a.1) r.0) (sym (strip-some r.0 a.0 rest s))
  ] refl (or_left _ (list_any (hides a.0) rs) e),
  true_inside t a rs (or_right (hides a.0 r) _ e) h.1,
)

known_inside : (p : Path) (a : Assignment) (rs : Regions)
    → any_above p (map (region_put a) rs) ≡ any_above p rs
known_inside p a [] = refl
known_inside p a (r ∷ rs) = ap (λ b. is_at_or_above r.0 p || b) (known_inside p a rs)

pub any_under : (x p : Path) (rs : Regions) → any_above x rs ≡ true → is_at_or_above x p ≡ true
    → any_above p rs ≡ true
any_under x p [] e f = e
any_under x p (r ∷ rs) e f =
    elim (is_at_or_above r.0 x) as (λ b. is_at_or_above r.0 x ≡ b → (b || any_above x rs) ≡ true → any_above p (r ∷ rs) ≡ true) [
      | true ↦ λ g h. ap (λ b. b || any_above p rs) (above-trans r.0 x p g f)
      | false ↦ λ g h. or_true (is_at_or_above r.0 p) _ (any_under x p rs h f)
    ] refl e

-- ---- a push that begins a region

true_outside : (t : PathTree) (a : Assignment) (rs : Regions) → any_above a.0 rs ≡ false → IsTrueTo t rs
    → IsTrueTo (put t a.0 a.1) (filter (λ r. not (is_at_or_above a.0 r.0)) rs)
true_outside t a [] e h = tt
true_outside t a (r ∷ rs) e h =
    let rest = true_outside t a rs (or_right (is_at_or_above r.0 a.0) _ e) h.1 in
    elim (is_at_or_above a.0 r.0) as (λ b. is_at_or_above a.0 r.0 ≡ b → IsTrueTo (put t a.0 a.1) (cond (not b) (r ∷ filter (λ x. not (is_at_or_above a.0 x.0)) rs) (filter (λ x. not (is_at_or_above a.0 x.0)) rs))) [
      | true ↦ λ f. rest
      | false ↦ λ f. (h.0 ∙ sym (sub-put_other t a.0 r.0 a.1 (none_of (strip a.0 r.0) f) (none_of (strip r.0 a.0) (or_left _ (any_above a.0 rs) e))), rest)
    ] refl

known_outside : (x p : Path) (rs : Regions) → is_at_or_above x p ≡ false
    → any_above p (filter (λ r. not (is_at_or_above x r.0)) rs) ≡ any_above p rs
known_outside x p [] e = refl
known_outside x p (r ∷ rs) e =
    let rest = known_outside x p rs e in
    elim (is_at_or_above x r.0) as (λ b. is_at_or_above x r.0 ≡ b → any_above p (cond (not b) (r ∷ filter (λ y. not (is_at_or_above x y.0)) rs) (filter (λ y. not (is_at_or_above x y.0)) rs)) ≡ (is_at_or_above r.0 p || any_above p rs)) [
      | true ↦ λ f. rest ∙ ap (λ b. b || any_above p rs) (sym (never (is_at_or_above r.0 p) (λ g. sym e ∙ above-trans x r.0 p f g)))
      | false ↦ λ f. ap (λ b. is_at_or_above r.0 p || b) rest
    ] refl

-- ---- changes of cover

any_append : (p : Path) (xs ys : Regions) → any_above p (xs ++ ys) ≡ (any_above p xs || any_above p ys)
any_append p [] ys = refl
any_append p (x ∷ xs) ys = ap (λ b. is_at_or_above x.0 p || b) (any_append p xs ys) ∙ assoc (is_at_or_above x.0 p) (any_above p xs) (any_above p ys)
  where
    assoc : (a b c : Bool) → (a || (b || c)) ≡ ((a || b) || c)
    assoc true b c = refl
    assoc false b c = refl

reaches_under : (kept : List Query) (r p : Path) → reaches kept r ≡ true → is_at_or_above r p ≡ true
    → reaches kept p ≡ true
reaches_under [] r p e f = e
reaches_under (k ∷ kept) r p e f =
    elim (is_filtered k) as (λ b. ((not b && is_at_or_above k.path r) || reaches kept r) ≡ true → ((not b && is_at_or_above k.path p) || reaches kept p) ≡ true) [
      | true ↦ λ g. reaches_under kept r p g f
      | false ↦ λ g. elim (is_at_or_above k.path r) as (λ b. is_at_or_above k.path r ≡ b → (b || reaches kept r) ≡ true → (is_at_or_above k.path p || reaches kept p) ≡ true) [
        | true ↦ λ h x. ap (λ b. b || reaches kept p) (above-trans k.path r p h f)
        | false ↦ λ h x. or_true (is_at_or_above k.path p) _ (reaches_under kept r p x f)
      ] refl g
    ] e

-- of a region that is lost, what p has is known by its parts, if a listen reaches p
known_parts : (kept : List Query) (r : Path × PathTree) (p : Path) → reaches kept r.0 ≡ false
    → any_above p (parts_of kept r) ≡ (is_at_or_above r.0 p && reaches kept p)
known_parts [] r p e = sym (and_false (is_at_or_above r.0 p))
known_parts (k ∷ kept) r p e =
    elim (is_filtered k) as (λ b. ((not b && is_at_or_above k.path r.0) || reaches kept r.0) ≡ false
    → any_above p (cons_option (cond b None (option_map (λ rest. (k.path, sub r.1 rest)) (strip r.0 k.path))) (parts_of kept r)) ≡ (is_at_or_above r.0 p && ((not b && is_at_or_above k.path p) || reaches kept p))) [
      | true ↦ λ f. known_parts kept r p f
      | false ↦ λ f.
          let rest = known_parts kept r p (or_right (is_at_or_above k.path r.0) _ f) in
          let not_over : is_at_or_above k.path r.0 ≡ false = or_left _ (reaches kept r.0) f in
          elim (strip r.0 k.path) as (λ o. strip r.0 k.path ≡ o → any_above p (cons_option (option_map (λ x. (k.path, sub r.1 x)) o) (parts_of kept r)) ≡ (is_at_or_above r.0 p && (is_at_or_above k.path p || reaches kept p))) [
            | None ↦ λ s. rest ∙ aside (is_at_or_above r.0 p) (is_at_or_above k.path p) (reaches kept p) (λ g h. sym (or_false _ _ (ap is_some s) not_over) ∙ comparable r.0 k.path p g h)
            | Some x ↦ λ s. ap (λ b. is_at_or_above k.path p || b) rest ∙ under (is_at_or_above r.0 p) (is_at_or_above k.path p) (reaches kept p) (λ g. above-trans r.0 k.path p (ap is_some s) g)
          ] refl
    ] e
  where
    aside : (a b c : Bool) → (a ≡ true → b ≡ true → false ≡ true) → (a && c) ≡ (a && (b || c))
    aside true true c h = absurd (true≢false (sym (h refl refl)))
    aside true false c h = refl
    aside false b c h = refl

    under : (a b c : Bool) → (b ≡ true → a ≡ true) → (b || (a && c)) ≡ (a && (b || c))
    under true true c h = refl
    under true false c h = refl
    under false true c h = absurd (true≢false (sym (h refl)))
    under false false c h = refl

known_cut : (kept : List Query) (rs : Regions) (p : Path)
    → (any_above p (filter (λ r. reaches kept r.0) rs) || any_above p (flat_map (parts_of kept) (filter (λ r. not (reaches kept r.0)) rs))) ≡ (any_above p rs && reaches kept p)
known_cut kept [] p = refl
known_cut kept (r ∷ rs) p =
    let stay : Regions = filter (λ x. reaches kept x.0) rs in
    let lost : Regions = filter (λ x. not (reaches kept x.0)) rs in
    let rest : (any_above p stay || any_above p (flat_map (parts_of kept) lost)) ≡ (any_above p rs && reaches kept p) = known_cut kept rs p in
    elim (reaches kept r.0) as (λ b. reaches kept r.0 ≡ b → (any_above p (cond b (r ∷ stay) stay) || any_above p (flat_map (parts_of kept) (cond (not b) (r ∷ lost) lost))) ≡ ((is_at_or_above r.0 p || any_above p rs) && reaches kept p)) [
      | true ↦ λ e. stays (is_at_or_above r.0 p) (any_above p stay) _ (any_above p rs) (reaches kept p) (λ f. reaches_under kept r.0 p e f) rest
      | false ↦ λ e. ap (λ b. any_above p stay || b) (any_append p (parts_of kept r) (flat_map (parts_of kept) lost) ∙ ap (λ b. b || any_above p (flat_map (parts_of kept) lost)) (known_parts kept r p e))
          ∙ leaves (any_above p stay) (any_above p (flat_map (parts_of kept) lost)) (any_above p rs) (reaches kept p) (is_at_or_above r.0 p) rest
    ] refl
  where
    stays : (x a b n r : Bool) → (x ≡ true → r ≡ true) → (a || b) ≡ (n && r) → ((x || a) || b) ≡ ((x || n) && r)
    stays true a b n r h e = sym (h refl)
    stays false a b n r h e = e

    leaves : (a b n r x : Bool) → (a || b) ≡ (n && r) → (a || ((x && r) || b)) ≡ ((x || n) && r)
    leaves a b n r false e = e
    leaves a b n true true e = or_true a true refl
    leaves a b n false true e = e ∙ and_false n

-- ---- calls

true_plain : (t : PathTree) (b : Brought) (a : Assignment) → have_overlap b.regions ≡ false
    → IsTrueTo t b.regions → IsTrueTo (put t a.0 a.1) (push_plain b a).regions
true_plain t b a e h =
    elim (is_some (region_part b.regions a.0)) as (λ o. is_some (region_part b.regions a.0) ≡ o → IsTrueTo (put t a.0 a.1)
    (cond o (record b { regions = map (region_put a) b.regions }) (record b { regions = map_of.put path_cmp a.0 a.1 (filter (λ r. not (is_at_or_above a.0 r.0)) b.regions); windows = filter (λ w. not (is_at_or_above a.0 (w.0).path)) b.windows })).regions) [
      | true ↦ λ f. true_inside t a b.regions (clean a.0 b.regions e (sym (part_any a.0 b.regions) ∙ f)) h
      | false ↦ λ f. true_put (put t a.0 a.1) a.0 a.1 _
          (sym (ap (sub (put t a.0 a.1)) (sym (append-nil a.0)) ∙ sub-put_above t a.0 [] a.1 ∙ sub_root a.1))
          (true_outside t a b.regions (sym (part_any a.0 b.regions) ∙ f) h)
    ] refl

known_plain : (p : Path) (b : Brought) (a : Assignment)
    → any_above p (push_plain b a).regions ≡ (any_above p b.regions || is_at_or_above a.0 p)
known_plain p b a =
    elim (is_some (region_part b.regions a.0)) as (λ o. is_some (region_part b.regions a.0) ≡ o → any_above p
    (cond o (record b { regions = map (region_put a) b.regions }) (record b { regions = map_of.put path_cmp a.0 a.1 (filter (λ r. not (is_at_or_above a.0 r.0)) b.regions); windows = filter (λ w. not (is_at_or_above a.0 (w.0).path)) b.windows })).regions
    ≡ (any_above p b.regions || is_at_or_above a.0 p)) [
      | true ↦ λ f. known_inside p a b.regions ∙ inside (any_above p b.regions) (is_at_or_above a.0 p) (λ g. any_under a.0 p b.regions (sym (part_any a.0 b.regions) ∙ f) g)
      | false ↦ λ f. any_put p a.0 a.1 (filter (λ r. not (is_at_or_above a.0 r.0)) b.regions)
          ∙ outside (is_at_or_above a.0 p) _ (any_above p b.regions) (λ g. known_outside a.0 p b.regions g)
    ] refl
  where
    inside : (n x : Bool) → (x ≡ true → n ≡ true) → n ≡ (n || x)
    inside true x h = refl
    inside false true h = h refl
    inside false false h = refl

    outside : (x f n : Bool) → (x ≡ false → f ≡ n) → (x || f) ≡ (n || x)
    outside true f n h = sym (or_true n true refl)
    outside false f true h = h refl
    outside false f false h = h refl

-- a push on a filtered listen changes no region
same_regions : (q : Query) (b : Brought) (a : Assignment)
    → (option_map_or (λ rest. record b { windows = windows_pushed q rest a.1 b.windows }) (strip q.path a.0) b).regions ≡ b.regions
same_regions q b a =
    elim (strip q.path a.0) as (λ o. (option_map_or (λ rest. record b { windows = windows_pushed q rest a.1 b.windows }) o b).regions ≡ b.regions) [
      | None ↦ refl
      | Some rest ↦ refl
    ]

step_canonical : (b : Brought) (c : BroughtCall) → IsAllowed c → IsCanonical b → IsCanonical (after b c)
step_canonical b (Put q x u) ok h = push_stays q b (x, u) h
step_canonical b (Recover registered kept) ok h = recover_stays registered kept b ok h

step_true : (t : PathTree) (b : Brought) (c : BroughtCall) → have_overlap b.regions ≡ false
    → IsTrueTo t b.regions → IsTrueTo (with_push t c) (after b c).regions
step_true t b (Put q x u) e h =
    elim (is_filtered q) as (λ f. IsTrueTo (cond f t (put t x u)) (cond f (option_map_or (λ rest. record b { windows = windows_pushed q rest u b.windows }) (strip q.path x) b) (push_plain b (x, u))).regions) [
      | true ↦ subst (IsTrueTo t) (sym (same_regions q b (x, u))) h
      | false ↦ true_plain t b (x, u) e h
    ]
step_true t b (Recover registered kept) e h =
    true_with t _ _ (true_filter (λ p. reaches kept p) t b.regions h) (true_all t kept _ (true_filter (λ p. not (reaches kept p)) t b.regions h))

pub step_known : (p : Path) (b : Brought) (c : BroughtCall)
    → any_above p (after b c).regions ≡ known_after p (any_above p b.regions) c
step_known p b (Put q x u) =
    elim (is_filtered q) as (λ f. any_above p (cond f (option_map_or (λ rest. record b { windows = windows_pushed q rest u b.windows }) (strip q.path x) b) (push_plain b (x, u))).regions ≡ cond f (any_above p b.regions) (any_above p b.regions || is_at_or_above x p)) [
      | true ↦ ap (any_above p) (same_regions q b (x, u))
      | false ↦ known_plain p b (x, u)
    ]
step_known p b (Recover registered kept) =
    any_with p (filter (λ r. reaches kept r.0) b.regions) (flat_map (parts_of kept) (filter (λ r. not (reaches kept r.0)) b.regions)) ∙ known_cut kept b.regions p

-- after calls it is in order, true to what was pushed, and known as told
run_true : (calls : List BroughtCall) (b : Brought) (t : PathTree) → All IsAllowed calls → IsCanonical b
    → IsTrueTo t b.regions
    → IsCanonical (after_all b calls) × IsTrueTo (fold with_push t calls) (after_all b calls).regions
run_true [] b t ok h g = (h, g)
run_true (c ∷ cs) b t ok h g = run_true cs (after b c) (with_push t c) (All-tail IsAllowed c cs ok) (step_canonical b c (All-head IsAllowed c cs ok) h) (step_true t b c h.apart g)

pub run_known : (p : Path) (calls : List BroughtCall) (b : Brought)
    → any_above p (after_all b calls).regions ≡ fold (known_after p) (any_above p b.regions) calls
run_known p [] b = refl
run_known p (c ∷ cs) b = run_known p cs (after b c) ∙ ap (λ k. fold (known_after p) k cs) (step_known p b c)

pub nothing_canonical : IsCanonical nothing_brought
nothing_canonical = record { regions = tt; apart = refl; windows = tt; filtered = All-nil (λ (w : Query × Window). is_filtered w.0 ≡ true) }

-- a region's part is that of what was pushed, where that is known
pub held_part : (calls : List BroughtCall) (p : Path) → All IsAllowed calls
    → region_part (after_all nothing_brought calls).regions p ≡ cond (is_known calls p) (Some (sub (pushed calls) p)) None
held_part calls p ok =
    let b : Brought = after_all nothing_brought calls in
    let ran = run_true calls nothing_brought null ok nothing_canonical tt in
    let known : is_some (region_part b.regions p) ≡ is_known calls p = part_any p b.regions ∙ run_known p calls nothing_brought in
    part_true (pushed calls) b.regions p ran.1 ∙ ap (λ k. cond k (Some (sub (pushed calls) p)) None) known

pub plain_base : PlainBaseIsWhatWasPushed
plain_base calls p ok =
    let b : Brought = after_all nothing_brought calls in
    let ran = run_true calls nothing_brought null ok nothing_canonical tt in
    let part : region_part b.regions p ≡ cond (is_known calls p) (Some (sub (pushed calls) p)) None = held_part calls p ok in
    plain_found b (plain p) (ran.0).filtered refl ∙ ap (option_map of_part) part ∙ told (is_known calls p) (sub (pushed calls) p)
  where
    told : (k : Bool) (t : PathTree) → option_map of_part (cond k (Some t) None) ≡ cond k (Some (record { tree = t; whole = true })) None
    told true t = refl
    told false t = refl
