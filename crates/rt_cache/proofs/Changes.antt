-- Changes of cover.
use Rattle.std.proofs.Common.{◌≡◌, Bool, true, false, not, List, [], ◌∷◌, ◌++◌, append-nil, refl, sym, ap, subst, ◌∙◌, OnOk, OnErr}
use lib.Dec.{T}
use Rattle.std.specs.declared.result.Result.{Result}
use Rattle.std.specs.declared.result.Result.TheVariants.{Ok, Err}
use Rattle.std.specs.List.{filter, flat_map}
use Rattle.std.proofs.lemmas.List.Elements.{All-append, All-filter}
use Rattle.std.proofs.lemmas.List.Elements.{filter_agree}
use Rattle.std.specs.FinMap as map_of
use Rattle.std.specs.FinMap.Entries.{is_sorted-put, is_sorted-where_key}
use Rattle.rt_tree.specs.PathTree.{path_cmp, paths_total}
use Rattle.rt_tree.specs.Assignments.{have_overlap}
use Rattle.rt_query.specs.Queries.{Query, is_filtered}
use Rattle.rt_cache.specs.Brought.{Window, Brought}
use Rattle.rt_cache.specs.Canonical.{IsCanonical}
use Rattle.rt_cache.specs.Recover.{reaches, parts_of, with_regions, do_plains_overlap, is_among, cut, heirs, handed_on, recover}
use Rattle.rt_cache.specs.declared.regions.Region.{Region}
use Rattle.rt_cache.specs.declared.by_path.Span.{Span}
use Rattle.rt_cache.specs.inside.Held.{pairs_of}
use Rattle.rt_cache.specs.inside.Spans.{without, AreLost}
use Rattle.rt_cache.proofs.Cuts.{moved_overlap, left_apart}
use Rattle.rt_cache.proofs.InPlace.{pairs_of-filter_by}
use Rattle.rt_cache.proofs.InSpans.{staying}
use Rattle.rt_cache.proofs.Heirs.{handed_heirs}
use Rattle.rt_cache.proofs.Keeping.{listed_filtered}
use Rattle.rt_cache.proofs.Listing.{listed_sorted}
use Rattle.rt_cache.proofs.Stays.{Regions}

pub with_sorted : (rs more : Regions) → T (map_of.is_sorted path_cmp rs) → T (map_of.is_sorted path_cmp (with_regions rs more))
with_sorted rs [] h = h
with_sorted rs (r ∷ more) h = with_sorted (map_of.put path_cmp r.0 r.1 rs) more (is_sorted-put path_cmp paths_total r.0 r.1 rs h)

pub with_apart : (rs more : Regions) → have_overlap (rs ++ more) ≡ false → have_overlap (with_regions rs more) ≡ false
with_apart rs [] e = ap have_overlap (sym (append-nil rs)) ∙ e
with_apart rs (r ∷ more) e = with_apart (map_of.put path_cmp r.0 r.1 rs) more (moved_overlap rs r more e)

-- it stays in order, with no region at or above another
pub recover_stays : (registered kept : List Query) (b : Brought) → do_plains_overlap kept ≡ false → IsCanonical b → IsCanonical (recover registered kept b)
recover_stays registered kept b e h =
    let stay : Regions = filter (λ r. reaches kept r.0) b.regions in
    let parts : Regions = flat_map (parts_of kept) (filter (λ r. not (reaches kept r.0)) b.regions) in
    record {
      regions = with_sorted stay parts (is_sorted-where_key path_cmp (λ p. reaches kept p) b.regions h.regions);
      apart = with_apart stay parts (left_apart kept b.regions e h.apart);
      windows = listed_sorted (handed ++ left.windows);
      filtered = listed_filtered (handed ++ left.windows) (All-append (λ (w : Query × Window). is_filtered w.0 ≡ true) handed left.windows
          (handed_heirs (λ q. is_filtered q ≡ true) registered b left (λ q heir. heir.filtered))
          (All-filter (λ (w : Query × Window). is_among registered w.0) (λ (w : Query × Window). is_filtered w.0 ≡ true) b.windows h.filtered));
    }
  where
    left : Brought
    left = cut registered kept b

    handed : List (Query × Window)
    handed = handed_on b (heirs registered b left)

pub changed_stays : {A E : Type 0} (r : Result A E) (registered kept : List Query) (old new : Brought) → do_plains_overlap kept ≡ false
    → OnOk r (new ≡ recover registered kept old) → OnErr r (new ≡ old) → IsCanonical old → IsCanonical new
changed_stays (Ok x) registered kept old new e ok err h = subst IsCanonical (sym ok) (recover_stays registered kept old e h)
changed_stays (Err x) registered kept old new e ok err h = subst IsCanonical (sym err) h

twice : (b : Bool) → not (not b) ≡ b
twice true = refl
twice false = refl

-- what is left without the regions that are lost
pub stays_lost : (kept : List Query) (rs : List Region) (lost : List Span) → AreLost kept rs lost
    → pairs_of (without lost rs) ≡ filter (λ r. reaches kept r.0) (pairs_of rs)
stays_lost kept rs lost h =
    ap pairs_of (staying (λ (r : Region). not (reaches kept r.path)) rs 0 lost h.0 (λ k d le lt. h.1 k d lt)
    ∙ filter_agree (λ (r : Region). not (not (reaches kept r.path))) (λ (r : Region). reaches kept r.path) (λ r. twice (reaches kept r.path)) rs)
    ∙ pairs_of-filter_by (λ p. reaches kept p) rs
