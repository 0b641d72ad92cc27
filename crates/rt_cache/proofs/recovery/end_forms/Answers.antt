use Rattle.std.proofs.Common.{◌≡◌, ◌∙◌, ◌++◌, ap, sym, subst, refl, length, get_or, not, true, false, List}
use Rattle.std.specs.List.{filter, flat_map, Contains}
use Rattle.std.proofs.lemmas.List.Elements.{All-map, All-contains}
use lib.Dec.{T}
use Rattle.std.specs.FinMap as map_of
use Rattle.std.specs.FinMap.Entries.{is_sorted-where_key}
use Rattle.rt_tree.specs.PathTree.{path_cmp}
use Rattle.rt_tree.specs.Assignments.{have_overlap}
use Rattle.rt_query.specs.Queries.{Query, is_filtered}
use Rattle.rt_cache.specs.Brought as what
use Rattle.rt_cache.specs.Recover.{reaches, parts_of, with_regions, regions_kept, in_query_order, is_among}
use Rattle.rt_cache.specs.declared.regions.Region.{Region}
use Rattle.rt_cache.specs.declared.by_path.Span.{Span}
use Rattle.rt_cache.specs.declared.windows.Window.{Window}
use Rattle.rt_cache.specs.inside.Cuts.{parts_left, IsCut}
use Rattle.rt_cache.specs.inside.Handing.{window_queries, AreHanded}
use Rattle.rt_cache.specs.inside.Held.{pairs_of, entries_of, held}
use Rattle.rt_cache.specs.inside.Spans.{AreInOrder, without, AreLost}
use Rattle.rt_cache.proofs.Among.{filter_agreeing}
use Rattle.rt_cache.proofs.Changes.{stays_lost}
use Rattle.rt_cache.proofs.CutSlices.{parts_of_left, handed_of, cut_moved, ended_lost}
use Rattle.rt_cache.proofs.Ending.{parts_begun}
use Rattle.rt_cache.proofs.HandLaws.{handed_listed, those_left}
use Rattle.rt_cache.proofs.Parts.{all_parts_apart, in_order_first, left_with_parts}
use Rattle.rt_cache.proofs.Sources.{all_kept}
use Rattle.rt_cache.proofs.Stays.{Regions}
use Rattle.rt_cache.proofs.recovery.end_forms.Goals as goal

pub parts_left-requires-clause-lost : goal.parts_left-requires-clause-lost
parts_left-requires-clause-lost c =
    let kept : List Query = c.requires.ends.1 in
    let lost : AreLost kept c.args.regions.now.items c.in_ok-lost.lost.items =
    ended_lost c.args.ended.now c.args.begun.now c.args.were.now c.requires.ends.0 kept c.args.regions.now.items c.deref.result.now c.in_ok-lost.lost.items c.deref.ensures.value c.requires.ends.3 c.in_ok-lost.ensures.order c.in_ok-lost.ensures.places in (
      kept,
      subst (λ (rs : List Region). AreLost kept rs c.deref-3.result.now) (sym c.deref-2.ensures.value)
          (subst (λ (ss : List Span). AreLost kept c.args.regions.now.items ss) (sym c.deref-3.ensures.value) lost),
    )

pub parts_left-requires-clause-listens : goal.parts_left-requires-clause-listens
parts_left-requires-clause-listens c = (c.requires.ends.3).begun_apart

pub remove_spans-requires : goal.remove_spans-requires
remove_spans-requires c =
    let kept : List Query = c.requires.ends.1 in
    let lost : AreLost kept c.args.regions.now.items c.in_ok-lost.lost.items =
    ended_lost c.args.ended.now c.args.begun.now c.args.were.now c.requires.ends.0 kept c.args.regions.now.items c.deref.result.now c.in_ok-lost.lost.items c.deref.ensures.value c.requires.ends.3 c.in_ok-lost.ensures.order c.in_ok-lost.ensures.places in
    record { order = subst (λ (rs : List Region). AreInOrder 0 c.in_ok-lost.lost.items (length rs)) (sym c.reserve-2.ensures.items) lost.0 }

pub insert_all-requires-clause-sorted : goal.insert_all-requires-clause-sorted
insert_all-requires-clause-sorted c =
    let kept : List Query = c.requires.ends.1 in
    let old : Regions = pairs_of c.args.regions.now.items in
    let lost : AreLost kept c.args.regions.now.items c.in_ok-lost.lost.items =
    ended_lost c.args.ended.now c.args.begun.now c.args.were.now c.requires.ends.0 kept c.args.regions.now.items c.deref.result.now c.in_ok-lost.lost.items c.deref.ensures.value c.requires.ends.3 c.in_ok-lost.ensures.order c.in_ok-lost.ensures.places in
    let stay : pairs_of c.remove_spans.new.regions.items ≡ filter (λ r. reaches kept r.0) old =
    ap pairs_of (c.remove_spans.ensures.left ∙ ap (without c.in_ok-lost.lost.items) c.reserve-2.ensures.items)
    ∙ stays_lost kept c.args.regions.now.items c.in_ok-lost.lost.items lost in
    subst (λ rs. T (map_of.is_sorted path_cmp rs)) (sym stay) (is_sorted-where_key path_cmp (λ p. reaches kept p) old c.requires.sorted)

pub insert_all-requires-clause-apart : goal.insert_all-requires-clause-apart
insert_all-requires-clause-apart c =
    let kept : List Query = c.requires.ends.1 in
    let h = c.requires.ends.3 in
    let old : Regions = pairs_of c.args.regions.now.items in
    let lost : AreLost kept c.args.regions.now.items c.in_ok-lost.lost.items =
    ended_lost c.args.ended.now c.args.begun.now c.args.were.now c.requires.ends.0 kept c.args.regions.now.items c.deref.result.now c.in_ok-lost.lost.items c.deref.ensures.value h c.in_ok-lost.ensures.order c.in_ok-lost.ensures.places in
    let stay : pairs_of c.remove_spans.new.regions.items ≡ filter (λ r. reaches kept r.0) old =
    ap pairs_of (c.remove_spans.ensures.left ∙ ap (without c.in_ok-lost.lost.items) c.reserve-2.ensures.items)
    ∙ stays_lost kept c.args.regions.now.items c.in_ok-lost.lost.items lost in
    let parts : pairs_of c.in_ok-parts.parts.items ≡ parts_left kept old =
    parts_of_left c.parts_left.result c.in_ok-parts.parts kept c.args.begun.now c.deref-2.result.now c.args.regions.now.items c.deref-3.result.now c.in_ok-lost.lost.items
    c.deref-2.ensures.value c.deref-3.ensures.value c.in_ok-parts.was (c.parts_left.ensures.parts kept) lost
    ∙ parts_begun c.args.ended.now c.args.begun.now c.args.were.now c.requires.ends.0 kept old h c.requires.apart in
    (λ i. have_overlap (stay i ++ parts i)) ∙ left_with_parts kept old h.apart c.requires.apart

pub windows_of_ended-requires-clause-cut : goal.windows_of_ended-requires-clause-cut
windows_of_ended-requires-clause-cut c =
    let kept : List Query = c.requires.ends.1 in
    let h = c.requires.ends.3 in
    let old : Regions = pairs_of c.args.regions.now.items in
    let lost : AreLost kept c.args.regions.now.items c.in_ok-lost.lost.items =
    ended_lost c.args.ended.now c.args.begun.now c.args.were.now c.requires.ends.0 kept c.args.regions.now.items c.deref.result.now c.in_ok-lost.lost.items c.deref.ensures.value h c.in_ok-lost.ensures.order c.in_ok-lost.ensures.places in
    let parts : pairs_of c.in_ok-parts.parts.items ≡ parts_left kept old =
    parts_of_left c.parts_left.result c.in_ok-parts.parts kept c.args.begun.now c.deref-2.result.now c.args.regions.now.items c.deref-3.result.now c.in_ok-lost.lost.items
    c.deref-2.ensures.value c.deref-3.ensures.value c.in_ok-parts.was (c.parts_left.ensures.parts kept) lost
    ∙ parts_begun c.args.ended.now c.args.begun.now c.args.were.now c.requires.ends.0 kept old h c.requires.apart in (
      kept,
      cut_moved kept c.deref-4.result.now c.args.regions.now.items c.deref-5.result.now c.in_ok-lost.lost.items c.deref-6.result.now c.in_ok-parts.parts.items
          c.deref-4.ensures.value c.deref-5.ensures.value c.deref-6.ensures.value (record { lost = lost; parts = parts }),
    )

pub returns-clause-ok : goal.returns-clause-ok
returns-clause-ok c = λ registered kept within h.
    let old : Regions = pairs_of c.args.regions.now.items in
    let lost : AreLost kept c.args.regions.now.items c.in_ok-lost.lost.items =
    ended_lost c.args.ended.now c.args.begun.now c.args.were.now registered kept c.args.regions.now.items c.deref.result.now c.in_ok-lost.lost.items c.deref.ensures.value h c.in_ok-lost.ensures.order c.in_ok-lost.ensures.places in
    let stay : pairs_of c.remove_spans.new.regions.items ≡ filter (λ r. reaches kept r.0) old =
    ap pairs_of (c.remove_spans.ensures.left ∙ ap (without c.in_ok-lost.lost.items) c.reserve-2.ensures.items)
    ∙ stays_lost kept c.args.regions.now.items c.in_ok-lost.lost.items lost in
    let parts : pairs_of c.in_ok-parts.parts.items ≡ parts_left kept old =
    parts_of_left c.parts_left.result c.in_ok-parts.parts kept c.args.begun.now c.deref-2.result.now c.args.regions.now.items c.deref-3.result.now c.in_ok-lost.lost.items
    c.deref-2.ensures.value c.deref-3.ensures.value c.in_ok-parts.was (c.parts_left.ensures.parts kept) lost
    ∙ parts_begun c.args.ended.now c.args.begun.now c.args.were.now registered kept old h c.requires.apart in
    let sorted : T (map_of.is_sorted path_cmp (filter (λ r. reaches kept r.0) old)) = is_sorted-where_key path_cmp (λ p. reaches kept p) old c.requires.sorted in
    let regions : pairs_of c.insert_all.new.regions.items ≡ regions_kept kept old =
    c.insert_all.ensures ∙ (λ i. with_regions (stay i) (parts i))
    ∙ in_order_first (filter (λ r. reaches kept r.0) old) (flat_map (parts_of kept) (filter (λ r. not (reaches kept r.0)) old)) sorted
    (all_parts_apart kept old h.apart c.requires.apart) in
    let cut : IsCut kept c.args.regions.now.items c.in_ok-lost.lost.items c.in_ok-parts.parts.items = record { lost = lost; parts = parts } in
    let handed : AreHanded registered kept (held c.args.were.now c.args.regions.now.items c.args.windows.now.items) (entries_of c.in_ok-handed.handed.items) =
    handed_of c.windows_of_ended.result c.in_ok-handed.handed registered kept c.args.were.now c.args.were.now c.args.ended.now false
    c.deref-4.result.now c.args.regions.now.items c.deref-5.result.now c.in_ok-lost.lost.items c.deref-6.result.now c.in_ok-parts.parts.items c.deref-7.result.now c.args.windows.now.items
    c.deref-4.ensures.value c.deref-5.ensures.value c.deref-6.ensures.value c.deref-7.ensures.value c.in_ok-handed.was (c.windows_of_ended.ensures registered kept) cut
    (those_left registered c.args.were.now c.args.ended.now c.args.ended.now (window_queries c.args.windows.now.items) (λ x. refl) h.filtered within
    (All-map (Contains c.args.were.now) (λ (w : Window). w.query) c.args.windows.now.items (all_kept (Contains c.args.were.now) c.args.windows.now.items c.requires.forms.registered))
    (All-map (λ (q : Query). is_filtered q ≡ true) (λ (w : Window). w.query) c.args.windows.now.items (all_kept (λ q. is_filtered q ≡ true) c.args.windows.now.items c.requires.forms.filtered))) in
    let stayed : List (Query × what.Window) = in_query_order (entries_of c.args.windows.now.items) in
    let left : in_query_order (entries_of c.remove_queries.new.windows.items) ≡ filter (λ (w : Query × what.Window). is_among registered w.0) stayed =
    c.remove_queries.ensures.left
    ∙ ap (λ (ws : List Window). filter (λ (w : Query × what.Window). not (is_among c.args.ended.now w.0)) (in_query_order (entries_of ws))) c.reserve.ensures.items
    ∙ filter_agreeing (λ (w : Query × what.Window). not (is_among c.args.ended.now w.0)) (λ (w : Query × what.Window). is_among registered w.0) stayed
    (λ k d lt. sym (All-contains (λ f. is_filtered f ≡ true → is_among registered f ≡ not (is_among c.args.ended.now f)) c.args.were.now (get_or stayed k d).0 h.filtered
    (c.requires.forms.registered k d lt) (c.requires.forms.filtered k d lt))) in
    let windows = c.put_windows.ensures.listed
    ∙ handed_listed (entries_of c.in_ok-handed.handed.items) _ _ c.remove_queries.new.windows.items handed left in
    λ i. record { registered = registered; regions = regions i; windows = windows i }
