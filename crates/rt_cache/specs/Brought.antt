-- What the listens brought: regions under plain listens, windows of filtered ones.
use Rattle.std.specs.Prelude.{Bool, true, false, ◌&&◌, ◌||◌, not, if◌then◌else◌, List, [], ◌∷◌, ◌++◌}
use Rattle.std.specs.Prelude.{map, Option, Some, None, is_some}
use Rattle.std.specs.List.{filter, find, list_any}
use Rattle.std.specs.Option.{option_map, option_map_or, option_or, option_and_then}
use Rattle.std.specs.FinMap as map_of
use Rattle.rt_tree.specs.PathTree.{Key, Path, path_cmp, path_eq, strip, PathTree, sub, child, put}
use Rattle.rt_tree.specs.PathTree.{children_alone}
use Rattle.rt_tree.specs.Assignments.{is_at_or_above, Assignment}
use Rattle.rt_query.specs.Queries.{Query, is_filtered}
use Rattle.rt_query.specs.QueryEq.{query_eq}
use Rattle.rt_query.specs.Supply.{does_supply}
use Rattle.rt_query.specs.QueryOrder.{query_cmp}
pub use Rattle.rt_cache.specs.declared.brought.Base.{Base}

-- known children of a filtered query; whole where they are all that its path has
pub record Window : Type 0 where
  pub children : PathTree
  pub is_whole : Bool

-- the forms of the registered listeners, in order of their numbers; regions at paths of which none is
-- at or above another, in the order of paths; windows by their filtered form, in the order of forms
pub record Brought : Type 0 where
  pub registered : List Query
  pub regions : List (Path × PathTree)
  pub windows : List (Query × Window)

-- before any listener is registered, and any push
abbrev pub nothing_brought : Brought
nothing_brought = record { registered = []; regions = []; windows = [] }

-- ---- what is registered

-- one more form, behind the others
abbrev pub with_form : Query → Brought → Brought
with_form f b = record b { registered = b.registered ++ f ∷ [] }

-- whether another of these forms supplies the query
abbrev pub is_supplied : List Query → Query → Bool
is_supplied forms q = list_any (λ f. not (query_eq f q) && does_supply f q) forms

-- whether the listen of the form is kept: it is registered, and no other registered form supplies it
abbrev pub may_put : Brought → Query → Bool
may_put b q =
    list_any (λ f. query_eq f q) b.registered && not (is_supplied b.registered q)

-- ---- what is there

-- the part at p of the region at or above p
abbrev pub region_part : List (Path × PathTree) → Path → Option PathTree
region_part [] p = None
region_part (r ∷ rs) p = option_or (option_map (sub r.1) (strip r.0 p)) (region_part rs p)

-- the window of a filtered form
abbrev pub window_of : List (Query × Window) → Query → Option Window
window_of windows q = map_of.find query_cmp q windows

-- the form whose window is brought for the query: the first registered one that supplies it and has
-- a window; none where a region is at or above the path
abbrev pub source : Brought → Query → Option Query
source b q =
    if is_some (region_part b.regions q.path) then None
    else find (λ f. does_supply f q && is_some (window_of b.windows f)) b.registered

-- whether another query stands at the query's path
abbrev pub is_another_at : Query → Query → Bool
is_another_at q f = not (query_eq f q) && path_eq f.path q.path

-- whether the end of a listener of the form may leave another query another window: it has a window and no
-- limit, and another window stands at its path
abbrev pub may_move : Brought → Query → Bool
may_move b f =
    not (is_some f.limit) && is_some (window_of b.windows f)
    && list_any (λ w. is_another_at f w.0) b.windows

-- the region's part, else the window of that form, else nothing
abbrev pub base : Brought → Query → Option Base
base b q = option_or
    (option_map (λ t. record { tree = t; whole = true }) (region_part b.regions q.path))
    (option_map (λ w. record { tree = w.children; whole = w.is_whole })
    (option_and_then (window_of b.windows) (source b q)))

-- of that one child alone
abbrev pub child_base : Key → Base → Base
child_base k x = record x { tree = child x.tree k }

-- what is brought of one child of the query; the child is null where there is none
abbrev pub base_child : Brought → Query → Key → Option Base
base_child b q k = option_map (child_base k) (base b q)

-- whether something is brought for the query
abbrev pub knows : Brought → Query → Bool
knows b q = is_some (base b q)

-- ---- pushes

-- the region with u put at p, if it is at or above p
abbrev pub region_put : Assignment → Path × PathTree → Path × PathTree
region_put a r = (r.0, option_map_or (λ rest. put r.1 rest a.1) (strip r.0 a.0) r.1)

-- a push on a plain listen changes the region at or above its path, or makes one that takes in all
-- regions and windows below
abbrev pub push_plain : Brought → Assignment → Brought
push_plain b a =
    if is_some (region_part b.regions a.0)
    then record b { regions = map (region_put a) b.regions }
    else record b {
      regions = map_of.put path_cmp a.0 a.1 (filter (λ r. not (is_at_or_above a.0 r.0)) b.regions);
      windows = filter (λ w. not (is_at_or_above a.0 w.0.path)) b.windows;
    }

-- the window after a push of u at its path (nothing follows it) or below, where it stands
abbrev pub window_pushed : Path → PathTree → Option Window → Option Window
window_pushed [] u w = Some (record { children = children_alone u; is_whole = false })
window_pushed (k ∷ rest) u (Some w) = Some (record w { children = put w.children (k ∷ rest) u })
window_pushed (k ∷ rest) u None = None

-- the windows that stay once q is pushed there: at its path, those of other forms that it supplies go
abbrev pub windows_beside : Query → Path → List (Query × Window) → List (Query × Window)
windows_beside q [] windows = filter (λ w. query_eq w.0 q || not (does_supply q w.0)) windows
windows_beside q (k ∷ rest) windows = windows

-- a push on a filtered listen at its path replaces its window by the children; one below is put
-- into the window, if there is one
abbrev pub windows_pushed : Query → Path → PathTree → List (Query × Window) → List (Query × Window)
windows_pushed q rest u windows =
    windows_beside q rest (option_map_or (λ w. map_of.put query_cmp q w windows)
    (window_pushed rest u (window_of windows q)) windows)

-- a push on a kept listen
abbrev pub push : Query → Brought → Assignment → Brought
push q b a =
    if is_filtered q
    then option_map_or (λ rest. record b { windows = windows_pushed q rest a.1 b.windows })
    (strip q.path a.0) b
    else push_plain b a

-- whether a push on a kept listen changes nothing, for want of a window
abbrev pub is_without_window : Brought → Query → Assignment → Bool
is_without_window b q a = is_filtered q && not (path_eq q.path a.0)
    && not (is_some (window_of b.windows q))
