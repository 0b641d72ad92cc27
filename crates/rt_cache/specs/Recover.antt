-- What stays brought when the listens kept change.
use Rattle.std.specs.Prelude.{◌≡◌, ℕ, ◌==◌, Bool, true, false, not, ◌&&◌, ◌||◌, if◌then◌else◌, List, []}
use Rattle.std.specs.Prelude.{◌∷◌, ◌++◌, map, Option, Some, None}
use Rattle.std.specs.List.{filter, filter_map, flat_map, fold, list_any, enumerate_from, All, Contains}
use Rattle.std.specs.Option.{option_map, option_map_or, option_eq}
use Rattle.std.specs.FinMap as map_of
use Rattle.rt_tree.specs.PathTree.{Path, path_cmp, strip, PathTree, sub, children_alone}
use Rattle.rt_tree.specs.Assignments.{is_at_or_above}
use Rattle.rt_query.specs.Queries.{Query, is_filtered}
use Rattle.rt_query.specs.QueryEq.{query_eq}
pub use Rattle.rt_query.specs.Apart.{plain_spots, do_plains_overlap}
use Rattle.rt_query.specs.Needed.{needed}
use Rattle.rt_query.specs.QueryOrder.{query_cmp}
use Rattle.rt_cache.specs.Brought.{Window, Brought, Base, source, base, knows}

-- whether a plain listen is at or above p
abbrev pub reaches : List Query → Path → Bool
reaches kept p = list_any (λ k. not (is_filtered k) && is_at_or_above k.path p) kept

-- the part of a region at a plain listen under it
abbrev pub part_for : Path × PathTree → Query → Option (Path × PathTree)
part_for r k = if is_filtered k then None else option_map (λ rest. (k.path, sub r.1 rest))
    (strip r.0 k.path)

-- its parts at all of them
abbrev pub parts_of : List Query → Path × PathTree → List (Path × PathTree)
parts_of kept r = filter_map (part_for r) kept

-- more regions, each in its place
abbrev pub with_regions : List (Path × PathTree) → List (Path × PathTree) → List (Path × PathTree)
with_regions regions more = fold (λ rs r. map_of.put path_cmp r.0 r.1 rs) regions more

-- the regions at or under a plain listen stay; of the others there stay the parts at the plain
-- listens under them
abbrev pub regions_kept : List Query → List (Path × PathTree) → List (Path × PathTree)
regions_kept kept regions =
    with_regions (filter (λ r. reaches kept r.0) regions)
    (flat_map (parts_of kept) (filter (λ r. not (reaches kept r.0)) regions))

-- whether the query is one of these
abbrev pub is_among : List Query → Query → Bool
is_among queries x = list_any (λ q. query_eq q x) queries

-- windows in the order of their queries
abbrev pub in_query_order : List (Query × Window) → List (Query × Window)
in_query_order [] = []
in_query_order (w ∷ ws) = map_of.put query_cmp w.0 w.1 (in_query_order ws)

-- what is left of what was brought: of the regions what the plain listens reach, and the windows of the
-- registered forms
abbrev pub cut : List Query → List Query → Brought → Brought
cut registered kept b = record {
  registered = registered;
  regions = regions_kept kept b.regions;
  windows = filter (λ w. is_among registered w.0) b.windows;
}

-- whether something was brought for a filtered form, and nothing is left
abbrev pub is_lost : Brought → Brought → Query → Bool
is_lost old left q = is_filtered q && knows old q && not (knows left q)

-- of the registered forms that lost what they had, those that no other of them supplies
abbrev pub heirs : List Query → Brought → Brought → List Query
heirs registered old left = needed (filter (is_lost old left) registered)

-- a window of what a form had: whole where that was of a region, and as whole as the window was else
abbrev pub window_left : Option Base → Option Window
window_left b = option_map (λ x. record { children = children_alone x.tree; is_whole = x.whole }) b

-- the windows that forms get of what they had
abbrev pub handed_on : Brought → List Query → List (Query × Window)
handed_on old forms = filter_map (λ q. option_map (λ w. (q, w)) (window_left (base old q))) forms

-- what was brought, after a change of the registered forms and the kept listens
abbrev pub recover : List Query → List Query → Brought → Brought
recover registered kept b =
    let left : Brought = cut registered kept b in
    record left {
      windows = in_query_order (handed_on b (heirs registered b left) ++ left.windows);
    }

-- whether the query had another form's window, and now has a window that doesn't come from that one:
-- the form whose window it has now had another one, or none
abbrev pub is_moved : Brought → Brought → Query → Bool
is_moved old new q =
    option_map_or (λ f. not (query_eq f q)
    && option_map_or (λ g. not (option_eq query_eq (source old g) (Some f))) (source new q) false)
    (source old q) false

-- ---- where listeners end

-- the forms but for those at these places, which count from 0
abbrev pub without_places : List ℕ → List Query → List Query
without_places places registered =
    map (λ e. e.1) (filter (λ e. not (list_any (λ p. p == e.0) places)) (enumerate_from 0 registered))

-- whether a plain listen of k would have a part of a region that none of the kept ones reaches
abbrev pub is_under_lost : List Query → List (Path × PathTree) → Query → Bool
is_under_lost kept regions k =
    not (is_filtered k) && list_any (λ r. is_at_or_above r.0 k.path && not (reaches kept r.0)) regions

-- the forms that end and the listens that begin tell a change of cover over these regions, before which
-- forms were registered, and after which others are, and listens are kept
pub record EndsForms (ended begun were forms listens : List Query) (rs : List (Path × PathTree)) : Type 0 where
  -- kept are registered forms, and of the plain ones none is at or above another
  pub registered : All (Contains forms) listens
  pub apart : do_plains_overlap listens ≡ false
  -- listens that begin are kept, each once if it is plain
  pub begun_kept : All (Contains listens) begun
  pub begun_apart : do_plains_overlap begun ≡ false
  -- a region is lost that an ended plain form reaches, and none that begins
  pub regions : All (λ (r : Path × PathTree). reaches listens r.0
      ≡ (not (reaches ended r.0) || reaches begun r.0)) rs
  -- listens that a lost region leaves something to begin
  pub parts : All (λ k. is_under_lost listens rs k ≡ true → Contains begun k) listens
  -- a filtered form that was registered ended, or is registered still
  pub filtered : All (λ f. is_filtered f ≡ true → is_among forms f ≡ not (is_among ended f)) were
