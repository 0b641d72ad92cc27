-- What becomes of the view of a listener whose path an entry meets.
use Rattle.std.specs.Prelude.{◌≡◌, ℕ, Bool, true, not, ◌&&◌, if◌then◌else◌, List, Option, Some, None}
use Rattle.std.specs.List.{All, filter_map, zip}
use Rattle.rt_tree.specs.PathTree.{Key, PathTree, path_eq}
use Rattle.rt_tree.specs.Assignments.{Assignment}
use Rattle.rt_query.specs.Queries.{Query}
use Rattle.rt_query.specs.Supply.{does_supply}
use Rattle.rt_writes.specs.Writes.{Write}
use Rattle.rt_cache.specs.Brought.{Brought, base}
use Rattle.rt_view.specs.Views.{View, renewed, stays_object, touched, with_named}
use Rattle.rt_world.specs.declared.report.Note.{Note}
use Rattle.rt_world.specs.Met.{do_meet, renewed_met, told_met}
use Rattle.rt_world.specs.Touched.{children_at, children_named, is_covered}
use Rattle.rt_world.specs.Views.{seen_over}
use Rattle.rt_world.specs.World.{Listener}
use Rattle.rt_parts.specs.Listeners.{Listeners, count_if, first_view_of}

-- the children of the query's path that the entries name, as they are seen
abbrev pub named_children : List Assignment → Brought → List Write → Query → List (Key × PathTree)
named_children entries b writes q =
    children_at (seen_over (base b q) writes q) (children_named q.path entries)

-- whether a view is touched with the named children: no entry sits at or above the path, no leaf is
-- there, and a child is left
abbrev pub is_touched : List Assignment → Brought → List Write → Query → View → Bool
is_touched entries b writes q v =
    not (is_covered q.path entries) && stays_object v.tree (named_children entries b writes q)

-- the view once an entry meets the path: touched, or taken from scratch
abbrev pub view_with : List Assignment → Brought → List Write → Query → View → View
view_with entries b writes q v =
    if is_touched entries b writes q v
    then touched v (named_children entries b writes q)
    else renewed v (seen_over (base b q) writes q)

-- a listener with no view gets its first, where something is known for it
abbrev pub view_after : List Assignment → Brought → List Write → Query → Option View → Option View
view_after entries b writes q None = first_view_of b writes q
view_after entries b writes q (Some v) = Some (view_with entries b writes q v)

-- so it is where an entry meets the path; else the view stays
abbrev pub view_met : List Assignment → Brought → List Write → Listener × Option View → Option View
view_met entries b writes p =
    if do_meet entries p.0.query.path then view_after entries b writes p.0.query p.1 else p.1

-- the count of such a listener goes on by what its view took anew; that of another one stays
abbrev pub count_met : List Assignment → Brought → List Write → (Listener × Option View) × ℕ → ℕ
count_met entries b writes t =
    count_if (do_meet entries t.0.0.query.path) t.1 (view_met entries b writes t.0)

-- ---- who hears of entries

-- whether a range is of the query's path, and supplies it
abbrev pub is_supplied_at : Query → Query → Bool
is_supplied_at range q = path_eq q.path range.path && does_supply range q

-- whether a query hears of entries: each does, or, where they are pushed on the listen of a range alone,
-- those that the range supplies
abbrev pub hears : Option Query → Query → Bool
hears None q = true
hears (Some range) q = is_supplied_at range q

-- a listener that hears of them and whose path one meets is renewed, and another stays
abbrev pub renewed_heard : Option Query → List Assignment → Brought → List Write → Listener → Listener
renewed_heard range entries b writes l =
    if hears range l.query then renewed_met entries b writes l else l

-- so it is with its view
abbrev pub view_heard : Option Query → List Assignment → Brought → List Write → Listener × Option View
    → Option View
view_heard range entries b writes p =
    if hears range p.0.query then view_met entries b writes p else p.1

-- with its count
abbrev pub count_heard : Option Query → List Assignment → Brought → List Write
    → (Listener × Option View) × ℕ → ℕ
count_heard range entries b writes t =
    count_if (hears range t.0.0.query && do_meet entries t.0.0.query.path) t.1
    (view_heard range entries b writes t.0)

-- and with the note of it
abbrev pub told_heard : Option Query → List Assignment → Brought → List Write → Listener → Option Note
told_heard range entries b writes l =
    if hears range l.query then told_met entries b writes l else None

-- the notes of all of these, by number
abbrev pub all_told_heard : Option Query → List Assignment → Brought → List Write → List Listener
    → List Note
all_told_heard range entries b writes listeners =
    filter_map (told_heard range entries b writes) listeners

-- ---- what is asked of touched views

-- where the view is touched, its tree with the named children put into it is what is seen
abbrev pub FollowsNamed : List Assignment → Brought → List Write → Listener × Option View → Type 0
FollowsNamed entries b writes p =
    (v : View) → p.1 ≡ Some v → is_touched entries b writes p.0.query v ≡ true
    → with_named v.tree (named_children entries b writes p.0.query)
    ≡ seen_over (base b p.0.query) writes p.0.query

-- so it is of each listener
abbrev pub FollowNamed : List Assignment → Brought → List Write → Listeners → Type 0
FollowNamed entries b writes all =
    All (FollowsNamed entries b writes) (zip all.listeners all.views)
