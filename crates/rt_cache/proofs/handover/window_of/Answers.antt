use Rattle.std.proofs.Common.{rules, ◌≡◌, ◌∙◌, ◌<◌, ℕ, ap, sym, length, get_or, refl, true, false, Some, None}
use Rattle.std.specs.FinMap as map_of
use Rattle.std.specs.Option.{option_map}
use Rattle.rt_tree.specs.PathTree.{strip, sub}
use Rattle.rt_tree.specs.Assignments.{is_at_or_above}
use Rattle.rt_query.specs.QueryEq.{query_eq}
use Rattle.rt_query.specs.laws.QueryEq.{query_eq_tells}
use Rattle.rt_query.specs.QueryOrder.{query_cmp}
use Rattle.rt_cache.specs.Brought.{region_part}
use Rattle.rt_cache.specs.Recover.{window_left}
use Rattle.rt_cache.specs.declared.regions.Region.{Region}
use Rattle.rt_cache.specs.declared.windows.Window.{Window}
use Rattle.rt_cache.specs.inside.Held.{seen_window, entry_of, pairs_of, entries_of}
use Rattle.rt_cache.specs.inside.Sources.{source_among}
use Rattle.rt_cache.proofs.Bases.{part_found, window_found}
use Rattle.rt_cache.proofs.Listing.{find-at}
use Rattle.rt_cache.proofs.Places.{part_is}
use Rattle.rt_cache.proofs.Sources.{of_window}
use Rattle.rt_cache.proofs.handover.window_of.Goals as goal

pub returns-in-Some : goal.returns-in-Some
returns-in-Some c =
    let region : Region = c.index-regions-place.result in
    let within : c.in-Some.place < length c.args.regions.now = search rules in
    let at : region ≡ get_or c.args.regions.now c.in-Some.place region = search rules in
    let above : is_at_or_above (get_or c.args.regions.now c.in-Some.place region).path (c.args.query.now).path ≡ true = search rules in
    let part : Some c.in_ok-part.part ≡ option_map (sub region.tree) (strip region.path (c.args.query.now).path) = search rules in
    let seen : region_part (pairs_of c.args.regions.now) (c.args.query.now).path ≡ Some c.in_ok-part.part =
    part_is (c.args.query.now).path c.args.regions.now c.in-Some.place region c.requires.apart within above
    ∙ ap (λ (r : Region). option_map (sub r.tree) (strip r.path (c.args.query.now).path)) (sym at) ∙ sym part in
    (λ i. Some (entry_of (c.in_ok-over.ensures i)))
    ∙ ap (λ x. option_map (λ w. (c.args.query.now, w)) (window_left x)) (sym (part_found c.args.registered.now c.args.regions.now c.args.windows.now c.args.query.now (Some c.in_ok-part.part) seen refl))

pub returns-in_default-place_of_source : goal.returns-in_default-place_of_source
returns-in_default-place_of_source c =
    let none : region_part (pairs_of c.args.regions.now) (c.args.query.now).path ≡ None = search rules in
    let source : source_among (entries_of c.args.windows.now) c.args.registered.now c.args.query.now ≡ None = search rules in
    ap (λ x. option_map (λ w. (c.args.query.now, w)) (window_left x)) (sym (window_found c.args.registered.now c.args.regions.now c.args.windows.now c.args.query.now None none source))

pub returns : goal.returns
returns c =
    let none : region_part (pairs_of c.args.regions.now) (c.args.query.now).path ≡ None = search rules in
    let window : Window = c.window-window.result.now in
    let within : c.in-Some-place_of_source.place < length c.args.windows.now = search rules in
    let at : window ≡ get_or c.args.windows.now c.in-Some-place_of_source.place window = search rules in
    let source : source_among (entries_of c.args.windows.now) c.args.registered.now c.args.query.now ≡ Some (get_or c.args.windows.now c.in-Some-place_of_source.place window).query = search rules in
    let first : (k : ℕ) → k < c.in-Some-place_of_source.place → query_eq (get_or c.args.windows.now k window).query (get_or c.args.windows.now c.in-Some-place_of_source.place window).query ≡ false = search rules in
    let found : map_of.find query_cmp (get_or c.args.windows.now c.in-Some-place_of_source.place window).query (entries_of c.args.windows.now) ≡ Some (seen_window window) =
    find-at (get_or c.args.windows.now c.in-Some-place_of_source.place window).query c.args.windows.now c.in-Some-place_of_source.place window within first ((query_eq_tells (get_or c.args.windows.now c.in-Some-place_of_source.place window).query (get_or c.args.windows.now c.in-Some-place_of_source.place window).query).1 refl) ∙ ap (λ (w : Window). Some (seen_window w)) (sym at) in
    (λ i. Some (entry_of (c.in_ok-over-2.ensures i)))
    ∙ ap (λ x. option_map (λ w. (c.args.query.now, w)) (window_left x))
    (sym (window_found c.args.registered.now c.args.regions.now c.args.windows.now c.args.query.now _ none source ∙ ap (option_map of_window) found))
