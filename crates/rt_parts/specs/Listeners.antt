-- The registered listeners, and the views that they hold.
use Rattle.std.specs.Prelude.{ℕ, ◌+◌, ◌%◌, ◌^◌, Bool, false, if◌then◌else◌, List, [], map, Option, Some, None}
use Rattle.std.specs.List.{filter_map, zip}
use Rattle.rt_query.specs.Queries.{Query}
use Rattle.rt_writes.specs.Writes.{Write}
use Rattle.rt_cache.specs.Brought.{Brought, base}
use Rattle.rt_view.specs.Views.{View, first_view}
use Rattle.rt_world.specs.declared.report.Body.TheVariants.{Cancelled}
use Rattle.rt_world.specs.declared.report.Note.{Note}
use Rattle.rt_world.specs.Views.{is_known, seen_over}
use Rattle.rt_world.specs.World.{Listener, Reason}

-- the listeners by number, for each of them the view that it holds, if it has one, and how many
-- children were taken anew for it, modulo 2^64, from wherever that count begins
pub record Listeners : Type 0 where
  pub listeners : List Listener
  pub views : List (Option View)
  pub counts : List ℕ

-- before any is registered
abbrev pub no_listeners : Listeners
no_listeners = record { listeners = []; views = []; counts = [] }

-- a listener with no view
abbrev pub new_listener : ℕ → ℕ → Query → Listener
new_listener number seat query =
    record { number = number; seat = seat; query = query; is_primed = false; view = None }

-- the first view of a query, where something is known for it
abbrev pub first_view_of : Brought → List Write → Query → Option View
first_view_of b writes q =
    if is_known b writes q then Some (first_view q (seen_over (base b q) writes q)) else None

-- the listener's number with its view, if it passes
abbrev pub view_if : (Listener → Bool) → Listener × Option View → Option (ℕ × Option View)
view_if test p = if test p.0 then Some (p.0.number, p.1) else None

-- the views of the listeners that pass, each with its listener's number
abbrev pub views_where : (Listener → Bool) → Listeners → List (ℕ × Option View)
views_where test all = filter_map (view_if test) (zip all.listeners all.views)

-- the same without the numbers
abbrev pub views_left : (Listener → Bool) → Listeners → List (Option View)
views_left test all = map (λ c. c.1) (views_where test all)

-- the count with what a view took anew; with nothing, where there is none
abbrev pub count_with : ℕ → Option View → ℕ
count_with count None = count
count_with count (Some v) = (count + v.reads) % 2 ^ 64

-- so it is where the view was taken anew; else the count stays
abbrev pub count_if : Bool → ℕ → Option View → ℕ
count_if is_taken count view = if is_taken then count_with count view else count

-- the count of a listener, if that passes
abbrev pub own_count : (Listener → Bool) → Listener × ℕ → Option ℕ
own_count test p = if test p.0 then Some p.1 else None

-- the counts of the listeners that pass
abbrev pub counts_left : (Listener → Bool) → Listeners → List ℕ
counts_left test all = filter_map (own_count test) (zip all.listeners all.counts)

-- the note of a listener that is cancelled
abbrev pub cancelled_note : Reason → Listener → Note
cancelled_note why l = record { seat = l.seat; body = Cancelled l.number why }
