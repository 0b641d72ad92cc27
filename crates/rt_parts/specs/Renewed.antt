-- Listeners that are renewed for their queries, whatever entries a step has.
use Rattle.std.specs.Prelude.{ℕ, Bool, ◌&&◌, if◌then◌else◌, List, Option, Some, None}
use Rattle.std.specs.List.{filter_map, list_any}
use Rattle.rt_tree.specs.PathTree.{Path, path_eq}
use Rattle.rt_query.specs.Queries.{Query, is_filtered}
use Rattle.rt_query.specs.QueryEq.{query_eq}
use Rattle.rt_writes.specs.Writes.{Write}
use Rattle.rt_cache.specs.Brought.{Brought, base}
use Rattle.rt_cache.specs.Recover.{is_among}
use Rattle.rt_view.specs.Views.{View}
use Rattle.rt_view.specs.Views.{renewed as taken}
use Rattle.rt_world.specs.declared.report.Note.{Note}
use Rattle.rt_world.specs.After.{renewed}
use Rattle.rt_world.specs.Met.{told}
use Rattle.rt_world.specs.Views.{seen_over}
use Rattle.rt_world.specs.World.{Listener}
use Rattle.rt_parts.specs.Listeners.{count_if, first_view_of}

-- whether a listener has the query, which is filtered and of that path
abbrev pub is_listened_at : List Listener → Path → Query → Bool
is_listened_at listeners p q =
    is_filtered q && path_eq q.path p && list_any (λ l. query_eq l.query q) listeners

-- a listener of one of these queries is renewed, and another stays
abbrev pub renewed_of : List Query → Brought → List Write → Listener → Listener
renewed_of queries b writes l = if is_among queries l.query then renewed b writes l else l

-- a view that is taken from scratch; the first where there is none, and something is known
abbrev pub view_anew : Brought → List Write → Query → Option View → Option View
view_anew b writes q None = first_view_of b writes q
view_anew b writes q (Some v) = Some (taken v (seen_over (base b q) writes q))

-- so is that of a listener of one of these queries, and another stays
abbrev pub view_of : List Query → Brought → List Write → Listener × Option View → Option View
view_of queries b writes p =
    if is_among queries p.0.query then view_anew b writes p.0.query p.1 else p.1

-- its count goes on by what the view took anew, and that of another one stays
abbrev pub count_of : List Query → Brought → List Write → (Listener × Option View) × ℕ → ℕ
count_of queries b writes t =
    count_if (is_among queries t.0.0.query) t.1 (view_of queries b writes t.0)

-- the note of a listener of one of these queries
abbrev pub told_of : List Query → Brought → List Write → Listener → Option Note
told_of queries b writes l = if is_among queries l.query then told b writes l else None

-- the notes of all of these, by number
abbrev pub all_told_of : List Query → Brought → List Write → List Listener → List Note
all_told_of queries b writes listeners = filter_map (told_of queries b writes) listeners
