-- Whose windows queries had before a change of the cover, and which of them it moves.
use Rattle.std.specs.Prelude.{◌≡◌, Bool, true, false, ◌&&◌, not, List, Some}
use Rattle.std.specs.List.{list_any, All}
use Rattle.std.specs.List.Sorted.{IsSorted}
use Rattle.std.specs.Option.{option_map_or}
use Rattle.std.specs.Ordering.{ordering_then}
use Rattle.std.specs.declared.cmp.Ordering.{Ordering}
use Rattle.rt_tree.specs.PathTree.{Path, path_eq}
use Rattle.rt_query.specs.Queries.{Query, is_filtered}
use Rattle.rt_query.specs.QueryEq.{query_eq}
use Rattle.rt_query.specs.QueryOrder.{query_cmp}
use Rattle.rt_cache.specs.Brought.{Brought, source, may_move}
use Rattle.rt_world.specs.World.{Listener}
use Rattle.rt_parts.specs.Refreshed.{is_supplied_at}
use Rattle.rt_sync.specs.declared.steps.losses.Had.{Had}

-- whether one of the forms is of the path
abbrev pub is_of_path : List Query → Path → Bool
is_of_path forms p = list_any (λ f. path_eq f.path p) forms

-- whether one is whose listener's end may move the queries of the path
abbrev pub may_move_at : Brought → List Query → Path → Bool
may_move_at b forms p = list_any (λ f. may_move b f && path_eq f.path p) forms

-- whether one is whose listener's end may move the query: it supplies that
abbrev pub may_move_it : Brought → List Query → Query → Bool
may_move_it b forms q = list_any (λ f. may_move b f && is_supplied_at f q) forms

-- whether the query has another form's window
abbrev pub has_others : Brought → Query → Bool
has_others b q = option_map_or (λ f. not (query_eq f q)) (source b q) false

-- whether it is a filtered query that is listened to, and has another form's window
abbrev pub is_lent : Brought → List Listener → Query → Bool
is_lent b listeners q =
    is_filtered q && list_any (λ l. query_eq l.query q) listeners && has_others b q

-- whether the query is among those that had another form's window
abbrev pub is_had : List Had → Query → Bool
is_had had q = list_any (λ h. query_eq h.query q) had

-- each had the window that is told
abbrev pub HaveSources : Brought → List Had → Type 0
HaveSources b had = All (λ h. source b h.query ≡ Some h.source) had

-- by query, then by source
abbrev pub had_cmp : Had → Had → Ordering
had_cmp h i = ordering_then (query_cmp h.query i.query) (query_cmp h.source i.source)

-- the query with that source
abbrev pub had_of : Query → Query → Had
had_of q f = record { query = q; source = f }

-- these are, in order, queries that are lent a window, of the paths where one of the forms may move others;
-- all of them that one may move are among these
pub record AreHad (b : Brought) (listeners : List Listener) (forms : List Query) (had : List Had) : Type 0 where
  pub order : IsSorted had_cmp had
  pub only : (q : Query) → is_had had q ≡ true
      → (may_move_at b forms q.path && is_lent b listeners q) ≡ true
  pub all : (q : Query) → (may_move_it b forms q && is_lent b listeners q) ≡ true
      → is_had had q ≡ true
  pub sources : HaveSources b had

-- whether a query had the window of that form
abbrev pub has_come : List Had → Query → Query → Bool
has_come had q f = list_any (λ h. query_eq h.query q && query_eq h.source f) had

-- whether a query has a window now that doesn't come from the one that it had
abbrev pub is_moved_now : Brought → List Had → Had → Bool
is_moved_now b had h =
    option_map_or (λ g. not (query_eq g h.source) && not (has_come had g h.source))
    (source b h.query) false

-- whether it is one of those
abbrev pub is_moved_among : Brought → List Had → Query → Bool
is_moved_among b had q = list_any (λ h. query_eq h.query q && is_moved_now b had h) had
