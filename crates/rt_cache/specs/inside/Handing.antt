-- What forms lose in a change of cover, by what is found where it is kept.
use Rattle.std.specs.Prelude.{◌≡◌, ℕ, ◌<◌, Bool, true, not, ◌&&◌, ◌||◌, if◌then◌else◌, List, [], ◌∷◌, length, map, is_some}
use Rattle.std.specs.Prelude.{slice_index_or}
use Rattle.std.specs.List.{filter, list_any, slice_range, All, Contains}
use Rattle.std.specs.FinMap as map_of
use Rattle.rt_tree.specs.PathTree.{Path, PathTree, path_eq}
use Rattle.rt_tree.specs.Assignments.{is_at_or_above}
use Rattle.rt_query.specs.Queries.{Query, is_filtered}
use Rattle.rt_query.specs.Supply.{does_supply}
use Rattle.rt_query.specs.QueryOrder.{query_cmp}
use Rattle.rt_cache.specs.Brought as what
use Rattle.rt_cache.specs.Brought.{Brought, region_part}
use Rattle.rt_cache.specs.Recover.{regions_kept, heirs, cut, handed_on, is_among}
use Rattle.rt_cache.specs.declared.by_path.Lent.{Lent}
use Rattle.rt_cache.specs.declared.regions.Region.{Region}
use Rattle.rt_cache.specs.declared.forms.Form.{Form}
use Rattle.rt_cache.specs.declared.by_path.Span.{Span}
use Rattle.rt_cache.specs.declared.windows.Window.{Window}
use Rattle.rt_cache.specs.inside.Held.{entries_of}
use Rattle.rt_cache.specs.inside.Listed.{queries_of}
use Rattle.rt_cache.specs.inside.Spans.{have_place, AreInOrder, AreFilled}

-- the queries that are lent, and those of windows
abbrev pub lent_queries : List Lent → List Query
lent_queries lent = map (λ l. l.query.now) lent

abbrev pub window_queries : List Window → List Query
window_queries windows = map (λ w. w.query) windows

-- whether both hold, or neither
abbrev pub is_alike : Bool → Bool → Bool
is_alike a b = if a then b else not b

-- whether a region holds the query's path, and none does then
abbrev pub is_region_lost : List Query → List (Path × PathTree) → Query → Bool
is_region_lost kept regions q =
    is_some (region_part regions q.path) && not (is_some (region_part (regions_kept kept regions) q.path))

-- whether one of the windows' queries supplies it, and none of those that stay
abbrev pub is_window_lost : (windows staying : List Query) → Query → Bool
is_window_lost windows staying q =
    list_any (λ f. does_supply f q) windows && not (list_any (λ f. does_supply f q) staying)

-- whether a form is one of those, or one that is not, and the queries of the windows that stay so
abbrev pub is_staying : List Query → Bool → Query → Bool
is_staying those among q = is_alike (is_among those q) among

abbrev pub staying_of : (those : List Query) → Bool → (windows : List Query) → List Query
staying_of those among windows = filter (is_staying those among) windows

-- the spans have the places of the windows that stay
pub record AreStaying (those : List Query) (among : Bool) (windows : List Window) (spans : List Span) : Type 0 where
  pub order : AreInOrder 0 spans (length windows)
  pub filled : AreFilled spans
  pub places : (k : ℕ) (d : Window) → k < length windows
      → have_place spans k ≡ is_staying those among (slice_index_or windows k d).query

-- whether a filtered form loses what it had
abbrev pub is_loser : List Query → List (Path × PathTree) → (windows staying : List Query) → Query → Bool
is_loser kept regions windows staying q =
    is_filtered q && (is_region_lost kept regions q || is_window_lost windows staying q)

-- of filtered forms just those are registered that are among those, or just those that are not; and so it
-- is of the windows' queries
pub record AreThose (now were those : List Query) (among : Bool) (held : List Query) : Type 0 where
  pub forms : (q : Query) → is_filtered q ≡ true
      → is_among now q ≡ (is_among were q && is_alike (is_among those q) among)
  pub windows : All (λ q. is_among now q ≡ is_alike (is_among those q) among) held

-- of all these forms, those are gathered that stay and lose what they had, and others, if any
pub record AreGathered (kept : List Query) (regions : List (Path × PathTree)) (all those : List Query) (among : Bool) (held gathered : List Query) : Type 0 where
  pub of : All (Contains all) gathered
  pub losers : (q : Query) → is_among all q ≡ true → is_staying those among q ≡ true
      → is_loser kept regions held (staying_of those among held) q ≡ true → is_among gathered q ≡ true

-- what passes among the queries that are lent then passed before, or is a form's of which the test holds
abbrev pub AreLentOf : (Query → Bool) → List Form → (old new : List Lent) → Type 0
AreLentOf test forms old new =
    (p : Query → Bool) → list_any p (lent_queries new)
    ≡ (list_any p (lent_queries old) || list_any (λ f. test f && p f) (queries_of forms))

-- whether a query stands at or under one of these regions, or under one of those of the spans
abbrev pub is_under_one : List Region → Query → Bool
is_under_one regions q = list_any (λ r. is_at_or_above r.path q.path) regions

abbrev pub is_under_lost_one : List Region → List Span → Query → Bool
is_under_lost_one regions lost q =
    list_any (λ s. is_under_one (slice_range regions s.start s.end) q) lost

-- whether a form that ends has a window and no limit, so that it may be that of another form of its path
abbrev pub hands_on : List Window → Query → Bool
hands_on windows f = not (is_some f.limit) && is_some (map_of.find query_cmp f (entries_of windows))

-- whether a query is of the path of one of these
abbrev pub is_beside_one : List Window → List Query → Query → Bool
is_beside_one windows ended q =
    list_any (λ w. hands_on windows w && path_eq q.path w.path) ended

-- where one alone ends, whether it supplies the query
abbrev pub is_supplied_by_one : List Query → Query → Bool
is_supplied_by_one [] q = true
is_supplied_by_one (w ∷ []) q = does_supply w q
is_supplied_by_one (w ∷ v ∷ ws) q = true

-- whether both hold of a query
abbrev pub is_near_one : List Window → List Query → Query → Bool
is_near_one windows ended q = is_beside_one windows ended q && is_supplied_by_one ended q

-- these are the windows that a change of cover hands on, in any order
abbrev pub AreHanded : List Query → List Query → Brought → List (Query × what.Window) → Type 0
AreHanded registered kept b handed =
    (x : Query) → map_of.find query_cmp x handed
    ≡ map_of.find query_cmp x (handed_on b (heirs registered b (cut registered kept b)))
