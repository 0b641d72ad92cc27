-- Of the plain listens kept none is at or above another.
use Rattle.std.proofs.Common.{◌≡◌, ◌≢◌, ℕ, true, false, cond, not, ◌||◌, List, [], ◌∷◌, map, refl, sym, ap, ◌∙◌, Some, None}
use Rattle.std.specs.List.{list_any, cons_option, All, AllPairs, Contains}
use Rattle.std.proofs.lemmas.List.Elements.{All-head, All-tail, All-contains_itself, All-contains}
use Rattle.std.proofs.lemmas.List.Kept.{AllPairs-filter}
use Rattle.rt_tree.specs.PathTree.{Path, null}
use Rattle.rt_tree.specs.Assignments.{Assignment, is_at_or_above, do_overlap, have_overlap}
use Rattle.rt_query.specs.Queries.{Query, is_filtered}
use Rattle.rt_cover.specs.Cover.{Registered, Tagged, needed, forms, kept_for}
use Rattle.rt_cover.specs.State.{Cover, needed_forms}
use Rattle.rt_cover.specs.Apart.{plain_spots, do_plains_overlap}
use Rattle.rt_cover.specs.inside.Sound.{IsSound}
use Rattle.rt_cover.specs.laws.CoverLaws.{is_covered, Contains-from_filter}
use Rattle.rt_cover.specs.laws.FormLaws.{supply_unfiltered}
use Rattle.rt_cover.specs.laws.KeepLaws.{kept_for_needed}
use Rattle.rt_cover.specs.laws.Pairs.{Contains-head, Contains-later, AllPairs-first, AllPairs-rest, AllPairs-map}
use Rattle.rt_cover.specs.laws.ShownLaws.{needed_alone}
use Rattle.rt_cover.specs.laws.SoundLaws.{distinct_apart, once_after}

-- no spot of these overlaps the path, where no path of a plain one does
none_overlaps : (p : Path) (gs : List Query)
    → ((g : Query) → Contains gs g → is_filtered g ≡ false → do_overlap p g.path ≡ false)
    → list_any (λ (b : Assignment). do_overlap p b.0) (plain_spots gs) ≡ false
none_overlaps p [] h = refl
none_overlaps p (g ∷ gs) h =
    let rest = none_overlaps p gs (λ x m. h x (Contains-later g gs x m)) in
    elim (is_filtered g) as (λ b. is_filtered g ≡ b
    → list_any (λ (a : Assignment). do_overlap p a.0) (cons_option (cond b None (Some (g.path, null))) (plain_spots gs)) ≡ false) [
      | true ↦ λ _. rest
      | false ↦ λ e. ap (λ b. b || list_any (λ (a : Assignment). do_overlap p a.0) (plain_spots gs)) (h g (Contains-head g gs) e) ∙ rest
    ] refl

-- of two needed forms that differ, a plain one is not at or above the other
pub not_above : (registered : List Query) (f g : Query) → Contains (needed registered) f → Contains (needed registered) g
    → f ≢ g → is_filtered f ≡ false → is_at_or_above f.path g.path ≡ false
not_above registered f g mf mg differ plain =
    elim (is_at_or_above f.path g.path) as (λ b. is_at_or_above f.path g.path ≡ b → b ≡ false) [
      | true ↦ λ e. absurd (differ (needed_alone registered g f mg
          (Contains-from_filter (λ x. not (is_covered registered x)) registered f mf)
          (supply_unfiltered f g plain ∙ e)))
      | false ↦ λ _. refl
    ] refl

pub plains_apart : (registered kept : List Query) → All (Contains (needed registered)) kept → AllPairs (λ f g. f ≢ g) kept
    → do_plains_overlap kept ≡ false
plains_apart registered [] all once = refl
plains_apart registered (f ∷ fs) all once =
    let rest = plains_apart registered fs (All-tail (Contains (needed registered)) f fs all) (AllPairs-rest (λ x y. x ≢ y) f fs once) in
    let here = All-head (Contains (needed registered)) f fs all in
    elim (is_filtered f) as (λ b. is_filtered f ≡ b
    → have_overlap (cons_option (cond b None (Some (f.path, null))) (plain_spots fs)) ≡ false) [
      | true ↦ λ _. rest
      | false ↦ λ e. ap (λ b. b || have_overlap (plain_spots fs))
          (none_overlaps f.path fs (λ g m plain.
          let there = All-contains (Contains (needed registered)) fs g (All-tail (Contains (needed registered)) f fs all) m in
          let differ = All-contains (λ x. f ≢ x) fs g (AllPairs-first (λ x y. x ≢ y) f fs once) m in
          ap (λ b. b || is_at_or_above g.path f.path) (not_above registered f g here there differ e)
          ∙ not_above registered g f there here (λ same. differ (sym same)) plain)) ∙ rest
    ] refl

pub needed_apart : (ls : List Registered) → do_plains_overlap (needed_forms ls) ≡ false
needed_apart ls = plains_apart (forms ls) (needed_forms ls) (All-contains_itself (needed_forms ls))
    (AllPairs-filter (λ f g. f ≢ g) (λ f. not (is_covered (forms ls) f)) (forms ls)
    (distinct_apart (map (λ (l : Registered). l.1) ls)))

pub kept_apart : (n : ℕ) (kept : List Tagged) (ls : List Registered) → AllPairs (λ (j k : Tagged). j.form ≢ k.form) kept
    → do_plains_overlap (map (λ (k : Tagged). k.form) (kept_for n kept (needed_forms ls))) ≡ false
kept_apart n kept ls once = plains_apart (forms ls) (map (λ (k : Tagged). k.form) (kept_for n kept (needed_forms ls)))
    (kept_for_needed n kept (needed_forms ls))
    (AllPairs-map (λ (k : Tagged). k.form) (λ f g. f ≢ g) (kept_for n kept (needed_forms ls)) (once_after n kept ls once))

-- those of a cover stand apart
pub sound_apart : (c : Cover) → IsSound c → do_plains_overlap (map (λ (k : Tagged). k.form) c.kept) ≡ false
sound_apart c s = plains_apart (forms c.listeners) (map (λ (k : Tagged). k.form) c.kept) s.only
    (AllPairs-map (λ (k : Tagged). k.form) (λ f g. f ≢ g) c.kept s.once)
