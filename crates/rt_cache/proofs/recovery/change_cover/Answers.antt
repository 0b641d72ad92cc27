use Rattle.std.proofs.Common.{rules, ◌≡◌, ◌∙◌, ◌++◌, ap, sym, subst, length, not, Bool, List, true}
use Rattle.std.specs.List.{filter, flat_map, list_any}
use Rattle.std.proofs.lemmas.List.Elements.{filter_agree}
use lib.Dec.{T}
use Rattle.std.specs.FinMap as map_of
use Rattle.std.specs.FinMap.Entries.{is_sorted-where_key}
use Rattle.rt_tree.specs.PathTree.{path_cmp}
use Rattle.rt_tree.specs.Assignments.{have_overlap}
use Rattle.rt_cache.specs.Brought as what
use Rattle.rt_cache.specs.Recover.{reaches, parts_of, with_regions, regions_kept, in_query_order, is_among}
use Rattle.rt_query.specs.Queries.{Query}
use Rattle.rt_query.specs.QueryEq.{query_eq}
use Rattle.rt_cache.specs.declared.by_path.Lent.{Lent}
use Rattle.rt_cache.specs.declared.regions.Region.{Region}
use Rattle.rt_cache.specs.declared.by_path.Span.{Span}
use Rattle.rt_cache.specs.declared.windows.Window.{Window}
use Rattle.rt_cache.specs.inside.Handing.{lent_queries, window_queries, AreHanded}
use Rattle.rt_cache.specs.inside.Held.{pairs_of, entries_of, held}
use Rattle.rt_cache.specs.inside.Spans.{AreInOrder, without, AreLost}
use Rattle.rt_cache.specs.inside.Cuts.{parts_left, IsCut}
use Rattle.rt_cache.proofs.ByListens.{by_listens}
use Rattle.rt_cache.proofs.Changes.{stays_lost}
use Rattle.rt_cache.proofs.CutSlices.{parts_of_left, handed_of, cut_moved}
use Rattle.rt_cache.proofs.Parts.{all_parts_apart, in_order_first, left_with_parts}
use Rattle.rt_cache.proofs.Gathering.{all_gathered}
use Rattle.rt_cache.proofs.HandLaws.{handed_listed, those_registered}
use Rattle.rt_cache.proofs.Lending.{among_lent, forms_alike}
use Rattle.rt_cache.proofs.Listing.{listed-filter}
use Rattle.rt_cache.proofs.Stays.{Regions}
use Rattle.rt_cache.proofs.recovery.change_cover.Goals as goal

pub parts_left-requires-clause-lost : goal.parts_left-requires-clause-lost
parts_left-requires-clause-lost c =
    let lost : AreLost c.args.kept.now c.args.regions.now.items c.in_ok-lost.lost.items = search rules in (
      c.args.kept.now,
      subst (λ (rs : List Region). AreLost c.args.kept.now rs c.deref-3.result.now) (sym c.deref-2.ensures.value)
          (subst (λ (ss : List Span). AreLost c.args.kept.now c.args.regions.now.items ss) (sym c.deref-3.ensures.value) lost),
    )

pub remove_spans-requires : goal.remove_spans-requires
remove_spans-requires c =
    let lost : AreLost c.args.kept.now c.args.regions.now.items c.in_ok-lost.lost.items = search rules in
    record { order = subst (λ (rs : List Region). AreInOrder 0 c.in_ok-lost.lost.items (length rs)) (sym c.reserve-2.ensures.items) lost.0 }

pub insert_all-requires-clause-sorted : goal.insert_all-requires-clause-sorted
insert_all-requires-clause-sorted c =
    let old : Regions = pairs_of c.args.regions.now.items in
    let lost : AreLost c.args.kept.now c.args.regions.now.items c.in_ok-lost.lost.items = search rules in
    let stay : pairs_of c.remove_spans.new.regions.items ≡ filter (λ r. reaches c.args.kept.now r.0) old =
    ap pairs_of (c.remove_spans.ensures.left ∙ ap (without c.in_ok-lost.lost.items) c.reserve-2.ensures.items)
    ∙ stays_lost c.args.kept.now c.args.regions.now.items c.in_ok-lost.lost.items lost in
    subst (λ rs. T (map_of.is_sorted path_cmp rs)) (sym stay) (is_sorted-where_key path_cmp (λ p. reaches c.args.kept.now p) old c.requires.sorted)

pub insert_all-requires-clause-apart : goal.insert_all-requires-clause-apart
insert_all-requires-clause-apart c =
    let old : Regions = pairs_of c.args.regions.now.items in
    let lost : AreLost c.args.kept.now c.args.regions.now.items c.in_ok-lost.lost.items = search rules in
    let stay : pairs_of c.remove_spans.new.regions.items ≡ filter (λ r. reaches c.args.kept.now r.0) old =
    ap pairs_of (c.remove_spans.ensures.left ∙ ap (without c.in_ok-lost.lost.items) c.reserve-2.ensures.items)
    ∙ stays_lost c.args.kept.now c.args.regions.now.items c.in_ok-lost.lost.items lost in
    let parts : pairs_of c.in_ok-parts.parts.items ≡ parts_left c.args.kept.now old =
    parts_of_left c.parts_left.result c.in_ok-parts.parts c.args.kept.now c.args.kept.now c.deref-2.result.now c.args.regions.now.items c.deref-3.result.now c.in_ok-lost.lost.items
    c.deref-2.ensures.value c.deref-3.ensures.value c.in_ok-parts.was (c.parts_left.ensures.parts c.args.kept.now) lost
    ∙ by_listens c.args.kept.now old c.requires.kept c.requires.apart in
    (λ i. have_overlap (stay i ++ parts i)) ∙ left_with_parts c.args.kept.now old c.requires.kept c.requires.apart

pub windows_handed-requires-clause-cut : goal.windows_handed-requires-clause-cut
windows_handed-requires-clause-cut c =
    let lost : AreLost c.args.kept.now c.args.regions.now.items c.in_ok-lost.lost.items = search rules in
    let parts : pairs_of c.in_ok-parts.parts.items ≡ parts_left c.args.kept.now (pairs_of c.args.regions.now.items) =
    parts_of_left c.parts_left.result c.in_ok-parts.parts c.args.kept.now c.args.kept.now c.deref-2.result.now c.args.regions.now.items c.deref-3.result.now c.in_ok-lost.lost.items
    c.deref-2.ensures.value c.deref-3.ensures.value c.in_ok-parts.was (c.parts_left.ensures.parts c.args.kept.now) lost
    ∙ by_listens c.args.kept.now (pairs_of c.args.regions.now.items) c.requires.kept c.requires.apart in (
      c.args.kept.now,
      cut_moved c.args.kept.now c.deref-4.result.now c.args.regions.now.items c.deref-5.result.now c.in_ok-lost.lost.items c.deref-6.result.now c.in_ok-parts.parts.items
          c.deref-4.ensures.value c.deref-5.ensures.value c.deref-6.ensures.value (record { lost = lost; parts = parts }),
    )

pub returns-clause-ok : goal.returns-clause-ok
returns-clause-ok c =
    let old : Regions = pairs_of c.args.regions.now.items in
    let lost : AreLost c.args.kept.now c.args.regions.now.items c.in_ok-lost.lost.items = search rules in
    let stay : pairs_of c.remove_spans.new.regions.items ≡ filter (λ r. reaches c.args.kept.now r.0) old =
    ap pairs_of (c.remove_spans.ensures.left ∙ ap (without c.in_ok-lost.lost.items) c.reserve-2.ensures.items)
    ∙ stays_lost c.args.kept.now c.args.regions.now.items c.in_ok-lost.lost.items lost in
    let parts : pairs_of c.in_ok-parts.parts.items ≡ parts_left c.args.kept.now old =
    parts_of_left c.parts_left.result c.in_ok-parts.parts c.args.kept.now c.args.kept.now c.deref-2.result.now c.args.regions.now.items c.deref-3.result.now c.in_ok-lost.lost.items
    c.deref-2.ensures.value c.deref-3.ensures.value c.in_ok-parts.was (c.parts_left.ensures.parts c.args.kept.now) lost
    ∙ by_listens c.args.kept.now old c.requires.kept c.requires.apart in
    let sorted : T (map_of.is_sorted path_cmp (filter (λ r. reaches c.args.kept.now r.0) old)) = is_sorted-where_key path_cmp (λ p. reaches c.args.kept.now p) old c.requires.sorted in
    let regions : pairs_of c.insert_all.new.regions.items ≡ regions_kept c.args.kept.now old =
    c.insert_all.ensures ∙ (λ i. with_regions (stay i) (parts i))
    ∙ in_order_first (filter (λ r. reaches c.args.kept.now r.0) old) (flat_map (parts_of c.args.kept.now) (filter (λ r. not (reaches c.args.kept.now r.0)) old)) sorted
    (all_parts_apart c.args.kept.now old c.requires.kept c.requires.apart) in
    let listed : (x : Query) → is_among (lent_queries c.deref-8.result.now) x ≡ is_among c.args.registered.now x = λ x.
    sym (among_lent c.deref-8.result.now x) ∙ ap (list_any (λ (l : Lent). query_eq l.query.now x)) c.deref-8.ensures.value ∙ c.in_ok-forms.ensures.same (λ q. query_eq q x) in
    let those : (x : Query) → is_among (lent_queries c.deref-9.result.now) x ≡ is_among c.args.registered.now x = λ x.
    sym (among_lent c.deref-9.result.now x) ∙ ap (list_any (λ (l : Lent). query_eq l.query.now x)) c.deref-9.ensures.value ∙ c.in_ok-forms.ensures.same (λ q. query_eq q x) in
    let forms : (p : Query → Bool) → list_any (λ (l : Lent). p l.query.now) c.in_ok-forms.forms.items ≡ list_any p c.args.registered.now = c.in_ok-forms.ensures.same in
    let retained : c.retain_registered.new.windows.items ≡ filter (λ (w : Window). is_among c.args.registered.now w.query) c.args.windows.now.items =
    c.retain_registered.ensures.left
    ∙ (λ i. filter (λ (w : Window). list_any (λ (l : Lent). query_eq l.query.now w.query) (c.deref-10.ensures.value i)) (c.reserve.ensures.items i))
    ∙ filter_agree (λ (w : Window). list_any (λ (l : Lent). query_eq l.query.now w.query) c.in_ok-forms.forms.items) (λ (w : Window). is_among c.args.registered.now w.query)
    (λ w. forms (λ q. query_eq q w.query)) c.args.windows.now.items in
    let left : in_query_order (entries_of c.retain_registered.new.windows.items) ≡ filter (λ (w : Query × what.Window). is_among c.args.registered.now w.0) (in_query_order (entries_of c.args.windows.now.items)) =
    ap (λ (ws : List Window). in_query_order (entries_of ws)) retained ∙ listed-filter (λ q. is_among c.args.registered.now q) c.args.windows.now.items in
    let cut : IsCut c.args.kept.now c.args.regions.now.items c.in_ok-lost.lost.items c.in_ok-parts.parts.items = record { lost = lost; parts = parts } in
    let handed : AreHanded c.args.registered.now c.args.kept.now (held c.args.were.now c.args.regions.now.items c.args.windows.now.items) (entries_of c.in_ok-handed.handed.items) =
    handed_of c.windows_handed.result c.in_ok-handed.handed c.args.registered.now c.args.kept.now c.args.were.now (lent_queries c.deref-8.result.now) (lent_queries c.deref-9.result.now) true
    c.deref-4.result.now c.args.regions.now.items c.deref-5.result.now c.in_ok-lost.lost.items c.deref-6.result.now c.in_ok-parts.parts.items c.deref-7.result.now c.args.windows.now.items
    c.deref-4.ensures.value c.deref-5.ensures.value c.deref-6.ensures.value c.deref-7.ensures.value c.in_ok-handed.was
    (λ is t. c.windows_handed.ensures c.args.registered.now c.args.kept.now (lent_queries c.deref-8.result.now) is t
    (all_gathered c.args.kept.now (pairs_of c.deref-4.result.now) (lent_queries c.deref-8.result.now) (lent_queries c.deref-9.result.now) true (window_queries c.deref-7.result.now))) cut
    (forms_alike c.args.registered.now c.args.registered.now (lent_queries c.deref-8.result.now) (lent_queries c.deref-9.result.now) (window_queries c.args.windows.now.items) true (λ x f. listed x)
    (those_registered c.args.registered.now (lent_queries c.deref-9.result.now) (window_queries c.args.windows.now.items) those)) in
    let windows = c.put_windows.ensures.listed
    ∙ handed_listed (entries_of c.in_ok-handed.handed.items) _ _ c.retain_registered.new.windows.items handed left in
    λ i. record { registered = c.args.registered.now; regions = regions i; windows = windows i }
