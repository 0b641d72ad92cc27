-- What the fields hold, as what is brought.
use Rattle.std.specs.Prelude.{Bool, ◌||◌, ◌≤◌, List, map, length, Option, is_some}
use Rattle.std.specs.List.{filter_map, All}
use Rattle.std.specs.Option.{option_map, option_map_or}
use Rattle.rt_tree.specs.PathTree.{Path, PathTree, path_eq, strip}
use Rattle.rt_tree.specs.Assignments.{Assignment}
use Rattle.rt_tree.specs.declared.limits.TheConstants.{MAX_KEYS}
use Rattle.rt_query.specs.Queries.{Query}
use Rattle.rt_cache.specs.Brought.{Window, Brought, window_of, windows_pushed}
use Rattle.rt_cache.specs.Recover.{in_query_order}
use Rattle.rt_cache.specs.declared.regions.Region.{Region}
use Rattle.rt_cache.specs.declared.windows.Window as inside

-- a region as its path with its tree
abbrev pub pair_of : Region → Path × PathTree
pair_of r = (r.path, r.tree)

abbrev pub pairs_of : List Region → List (Path × PathTree)
pairs_of regions = map pair_of regions

-- a window as its query with what is known
abbrev pub seen_window : inside.Window → Window
seen_window w = record { children = w.children; is_whole = w.is_whole }

abbrev pub entry_of : inside.Window → Query × Window
entry_of w = (w.query, seen_window w)

abbrev pub entries_of : List inside.Window → List (Query × Window)
entries_of windows = map entry_of windows

-- forms and regions stand in order; windows stand anyhow
abbrev pub held : List Query → List Region → List inside.Window → Brought
held registered regions windows = record {
  registered = registered;
  regions = pairs_of regions;
  windows =
      in_query_order (entries_of windows);
}

-- the windows after a push on a filtered query
abbrev pub pushed_windows : Query → Assignment → List (Query × Window) → List (Query × Window)
pushed_windows q a windows = option_map_or (λ rest. windows_pushed q rest a.1 windows)
    (strip q.path a.0) windows

-- whether there is a window to take it, or none is needed
abbrev pub is_taken : Query → Path → List (Query × Window) → Bool
is_taken q p windows = path_eq q.path p || is_some (window_of windows q)

-- what h gives of the queries, each with its query
abbrev pub for_each : (Query → Option Window) → List Query → List (Query × Window)
for_each h queries = filter_map (λ q. option_map (λ w. (q, w)) (h q)) queries

-- paths of queries have at most 32 keys
abbrev pub AreShort : List Query → Type 0
AreShort queries = All (λ (q : Query). length q.path ≤ MAX_KEYS) queries
