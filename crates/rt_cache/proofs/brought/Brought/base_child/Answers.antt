use Rattle.std.proofs.Common.{rules, ◌≡◌, ◌+◌, ◌≤◌, ◌++◌, ◌∷◌, [], subst, ◌∙◌, ◌<◌, ℕ, ap, sym, length, get_or, refl, true, false, Some, None, is_some, List}
use mathlib.Core.Bool.{true≢false}
use Rattle.std.specs.Prelude.{IfSome}
use Rattle.std.specs.FinMap as map_of
use Rattle.std.specs.Option.{option_map}
use Rattle.rt_tree.specs.PathTree.{strip, sub, child, levels}
use Rattle.rt_tree.specs.declared.limits.TheConstants.{MAX_KEYS, MAX_LEVELS}
use Rattle.rt_tree.specs.Assignments.{is_at_or_above}
use Rattle.rt_query.specs.QueryEq.{query_eq}
use Rattle.rt_query.specs.QueryOrder.{query_cmp}
use Rattle.rt_cache.specs.Brought.{Brought, region_part, base, child_base, base_child}
use Rattle.rt_cache.specs.declared.regions.Region.{Region}
use Rattle.rt_cache.specs.declared.windows.Window.{Window}
use Rattle.rt_cache.specs.inside.Held.{seen_window, pairs_of, entries_of, held}
use Rattle.rt_cache.specs.Canonical.{FitsLevels}
use Rattle.rt_cache.proofs.Levels.{short_path, base_child_fits}
use Rattle.rt_query.specs.laws.QueryEq.{query_eq_tells}
use Rattle.rt_cache.specs.Recover.{in_query_order}
use Rattle.rt_cache.specs.inside.Sources.{source_among, HaveForms}
use Rattle.rt_cache.proofs.Bases.{part_found, window_found, source_some, child_seen}
use Rattle.rt_cache.proofs.Belonging.{have_forms}
use Rattle.rt_cache.proofs.Pushes.{part_there}
use Rattle.rt_cache.proofs.Sources.{of_window}
use Rattle.rt_cache.proofs.Stays.{AreFiltered}
use Rattle.rt_cache.proofs.Listing.{find-at}
use Rattle.rt_cache.proofs.Places.{part_is}
use Rattle.rt_cache.proofs.brought.Brought.base_child.Goals as goal

pub returns-in-Some-clause-found : goal.returns-in-Some-clause-found
returns-in-Some-clause-found c =
    let region : Region = c.index.result.now in
    let within : c.in-Some.place < length c.self.inside.regions.items = search rules in
    let at : region ≡ get_or c.self.inside.regions.items c.in-Some.place region = search rules in
    let above : is_at_or_above (get_or c.self.inside.regions.items c.in-Some.place region).path (c.args.query.now).path ≡ true = search rules in
    let part : Some c.in_ok-tree.tree ≡ option_map (λ rest. child (sub region.tree rest) c.args.key.now) (strip region.path (c.args.query.now).path) = search rules in
    let seen : region_part (pairs_of c.self.inside.regions.items) (c.args.query.now).path ≡ option_map (sub region.tree) (strip region.path (c.args.query.now).path) =
    part_is (c.args.query.now).path c.self.inside.regions.items c.in-Some.place region c.self.invariant.0.apart within above
    ∙ ap (λ (r : Region). option_map (sub r.tree) (strip r.path (c.args.query.now).path)) (sym at) in
    child_seen region.tree (strip region.path (c.args.query.now).path) c.in_ok-tree.tree c.args.key.now part
    ∙ ap (option_map (child_base c.args.key.now)) (sym (part_found c.self.inside.registered c.self.inside.regions.items c.self.inside.windows.items c.args.query.now _ seen
    (part_there region.tree (strip region.path (c.args.query.now).path) (ap (λ (r : Region). is_at_or_above r.path (c.args.query.now).path) at ∙ above))))
    ∙ ap (λ b. base_child b c.args.query.now c.args.key.now) c.self.view_is

pub place_of_source-requires-clause-belongs : goal.place_of_source-requires-clause-belongs
place_of_source-requires-clause-belongs c =
    subst (λ (ws : List Window). HaveForms c.self.inside.registered (in_query_order (entries_of ws))) (sym c.deref-2.ensures.value)
    (have_forms (held c.self.inside.registered c.self.inside.regions.items c.self.inside.windows.items) c.self.invariant.0 c.self.invariant.3)

pub returns-in_default-place_of_source-clause-found : goal.returns-in_default-place_of_source-clause-found
returns-in_default-place_of_source-clause-found c =
    let none : region_part (pairs_of c.self.inside.regions.items) (c.args.query.now).path ≡ None = search rules in
    let source : source_among (entries_of c.self.inside.windows.items) c.self.inside.registered c.args.query.now ≡ None = search rules in
    ap (option_map (child_base c.args.key.now)) (sym (window_found c.self.inside.registered c.self.inside.regions.items c.self.inside.windows.items c.args.query.now None none source))
    ∙ ap (λ b. base_child b c.args.query.now c.args.key.now) c.self.view_is

pub returns-clause-found : goal.returns-clause-found
returns-clause-found c =
    let none : region_part (pairs_of c.self.inside.regions.items) (c.args.query.now).path ≡ None = search rules in
    let window : Window = c.window-window.result.now in
    let within : c.in-Some-place_of_source.place < length c.self.inside.windows.items = search rules in
    let at : window ≡ get_or c.self.inside.windows.items c.in-Some-place_of_source.place window = search rules in
    let source : source_among (entries_of c.self.inside.windows.items) c.self.inside.registered c.args.query.now ≡ Some (get_or c.self.inside.windows.items c.in-Some-place_of_source.place window).query = search rules in
    let first : (k : ℕ) → k < c.in-Some-place_of_source.place → query_eq (get_or c.self.inside.windows.items k window).query (get_or c.self.inside.windows.items c.in-Some-place_of_source.place window).query ≡ false = search rules in
    let tree : c.in_ok-tree-2.tree ≡ child window.children c.args.key.now = search rules in
    let found : map_of.find query_cmp (get_or c.self.inside.windows.items c.in-Some-place_of_source.place window).query (entries_of c.self.inside.windows.items) ≡ Some (seen_window window) =
    find-at (get_or c.self.inside.windows.items c.in-Some-place_of_source.place window).query c.self.inside.windows.items c.in-Some-place_of_source.place window within first ((query_eq_tells (get_or c.self.inside.windows.items c.in-Some-place_of_source.place window).query (get_or c.self.inside.windows.items c.in-Some-place_of_source.place window).query).1 refl) ∙ ap (λ (w : Window). Some (seen_window w)) (sym at) in
    (λ i. Some (record { tree = tree i; whole = window.is_whole }))
    ∙ ap (option_map (child_base c.args.key.now)) (sym (window_found c.self.inside.registered c.self.inside.regions.items c.self.inside.windows.items c.args.query.now _ none source ∙ ap (option_map of_window) found))
    ∙ ap (λ b. base_child b c.args.query.now c.args.key.now) c.self.view_is

pub returns-in-Some-clause-shallow : goal.returns-in-Some-clause-shallow
returns-in-Some-clause-shallow c =
    let short : length (c.args.query.now).path ≤ MAX_KEYS = short_path c.args.query.now c.path.result.now c.path.ensures c.keys.ensures.valid in
    let fits : FitsLevels c.args.self.now = subst FitsLevels c.self.view_is c.self.invariant.1 in
    subst (λ o. IfSome o (λ b. length ((c.args.query.now).path ++ c.args.key.now ∷ []) + levels b.tree ≤ MAX_LEVELS)) (sym (returns-in-Some-clause-found c))
    (base_child_fits c.args.self.now c.args.query.now c.args.key.now short (subst (λ (x : Brought). AreFiltered x.windows) c.self.view_is c.self.invariant.0.filtered) fits)

pub returns-clause-shallow : goal.returns-clause-shallow
returns-clause-shallow c =
    let short : length (c.args.query.now).path ≤ MAX_KEYS = short_path c.args.query.now c.path.result.now c.path.ensures c.keys.ensures.valid in
    let fits : FitsLevels c.args.self.now = subst FitsLevels c.self.view_is c.self.invariant.1 in
    subst (λ o. IfSome o (λ b. length ((c.args.query.now).path ++ c.args.key.now ∷ []) + levels b.tree ≤ MAX_LEVELS)) (sym (returns-clause-found c))
    (base_child_fits c.args.self.now c.args.query.now c.args.key.now short (subst (λ (x : Brought). AreFiltered x.windows) c.self.view_is c.self.invariant.0.filtered) fits)

-- where memory lacks there is a window
pub returns-in_err-tree-2-clause-absent : goal.returns-in_err-tree-2-clause-absent
returns-in_err-tree-2-clause-absent c e =
    let none : region_part (pairs_of c.self.inside.regions.items) (c.args.query.now).path ≡ None = search rules in
    let window : Window = c.window-window.result.now in
    let source : source_among (entries_of c.self.inside.windows.items) c.self.inside.registered c.args.query.now ≡ Some (get_or c.self.inside.windows.items c.in-Some-place_of_source.place window).query = search rules in
    absurd (true≢false (sym (source_some c.self.inside.registered c.self.inside.regions.items c.self.inside.windows.items c.args.query.now _ none source)
    ∙ ap is_some (ap (λ b. base b c.args.query.now) c.self.view_is ∙ e)))
