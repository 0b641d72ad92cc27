-- What is held of the listeners, as the world has them.
use Rattle.std.specs.Prelude.{◌≡◌, ℕ, ◌<◌, Bool, false, if◌then◌else◌, List, map}
use Rattle.std.specs.Prelude.{Option, Some, None, is_some, ◌==◌}
use Rattle.std.specs.List.{All, AllPairs, filter_map, list_any}
use Rattle.std.specs.Option.{option_map}
use Rattle.rt_tree.specs.PathTree.{PathTree}
use Rattle.rt_tree.specs.Assignments.{Assignment}
use Rattle.rt_query.specs.Queries.{Query}
use Rattle.rt_query.specs.QueryEq.{query_eq}
use Rattle.rt_query.specs.Select.{Shown}
use Rattle.rt_query.specs.Supply.{form}
use Rattle.rt_writes.specs.Writes.{Write}
use Rattle.rt_cache.specs.Brought.{Brought}
use Rattle.rt_view.specs.Views.{View, first_view, renewed, shown_of}
use Rattle.rt_world.specs.declared.report.Note.{Note}
use Rattle.rt_world.specs.Met.{renewed_met, told_met}
use Rattle.rt_world.specs.World.{Listener, Reason}
use Rattle.rt_parts.specs.declared.listeners.HeldListener.{HeldListener}
use Rattle.rt_parts.specs.Listeners.{cancelled_note, Listeners}
use Rattle.rt_parts.specs.Refreshed.{count_met, is_supplied_at, renewed_heard, view_heard, view_met}
use Rattle.rt_parts.specs.Renewed.{count_of, renewed_of, told_of, view_of}

-- what a view shows
abbrev pub shown_in : Option View → Option Shown
shown_in view = option_map shown_of view

-- the listener; primed where it has a view
abbrev pub listener_of : HeldListener → Listener
listener_of l = record {
  number = l.number;
  seat = l.seat;
  query = l.query;
  is_primed = is_some l.view;
  view = shown_in l.view;
}

-- all of them
abbrev pub listeners_of : List HeldListener → List Listener
listeners_of held = map listener_of held

-- the views that they hold
abbrev pub views_of : List HeldListener → List (Option View)
views_of held = map (λ h. h.view) held

-- and how many children were taken anew for each
abbrev pub counts_of : List HeldListener → List ℕ
counts_of held = map (λ h. h.count) held

-- the listeners with their views, and the counts
abbrev pub all_of : List HeldListener → Listeners
all_of held =
    record { listeners = listeners_of held; views = views_of held; counts = counts_of held }

-- a listener with its view
abbrev pub pair_of : HeldListener → Listener × Option View
pair_of l = (listener_of l, l.view)

-- both after entries
abbrev pub refreshed : List Assignment → Brought → List Write
    → Listener × Option View → Listener × Option View
refreshed entries b writes p = (renewed_met entries b writes p.0, view_met entries b writes p)

-- the same of the listener of that number alone
abbrev pub refreshed_at : ℕ → List Assignment → Brought → List Write
    → Listener × Option View → Listener × Option View
refreshed_at number entries b writes p =
    if p.0.number == number then refreshed entries b writes p else p

-- a listener with its view and its count
abbrev pub counted_of : HeldListener → (Listener × Option View) × ℕ
counted_of l = (pair_of l, l.count)

-- the three after entries
abbrev pub recounted : List Assignment → Brought → List Write
    → (Listener × Option View) × ℕ → (Listener × Option View) × ℕ
recounted entries b writes t = (refreshed entries b writes t.0, count_met entries b writes t)

-- the same of the listener of that number alone
abbrev pub recounted_at : ℕ → List Assignment → Brought → List Write
    → (Listener × Option View) × ℕ → (Listener × Option View) × ℕ
recounted_at number entries b writes t =
    if t.0.0.number == number then recounted entries b writes t else t

-- what its seat is told
abbrev pub told_at : ℕ → List Assignment → Brought → List Write
    → Listener × Option View → Option Note
told_at number entries b writes p =
    if p.0.number == number then told_met entries b writes p.0 else None

-- both, where the listener hears of the entries
abbrev pub refreshed_heard : Option Query → List Assignment → Brought → List Write
    → Listener × Option View → Listener × Option View
refreshed_heard range entries b writes p =
    (renewed_heard range entries b writes p.0, view_heard range entries b writes p)

-- both, of the listeners of these numbers alone
abbrev pub refreshed_among : List ℕ → List Assignment → Brought → List Write
    → Listener × Option View → Listener × Option View
refreshed_among numbers entries b writes p =
    if list_any (λ n. p.0.number == n) numbers then refreshed entries b writes p else p

-- the three of these
abbrev pub recounted_among : List ℕ → List Assignment → Brought → List Write
    → (Listener × Option View) × ℕ → (Listener × Option View) × ℕ
recounted_among numbers entries b writes t =
    if list_any (λ n. t.0.0.number == n) numbers then recounted entries b writes t else t

-- and what their seats are told
abbrev pub told_among : List ℕ → List Assignment → Brought → List Write
    → Listener × Option View → Option Note
told_among numbers entries b writes p =
    if list_any (λ n. p.0.number == n) numbers then told_met entries b writes p.0 else None

-- both renewed for these queries
abbrev pub renewed_pair : List Query → Brought → List Write
    → Listener × Option View → Listener × Option View
renewed_pair queries b writes p = (renewed_of queries b writes p.0, view_of queries b writes p)

-- the same of the listener of that number alone
abbrev pub renewed_at : ℕ → List Query → Brought → List Write
    → Listener × Option View → Listener × Option View
renewed_at number queries b writes p =
    if p.0.number == number then renewed_pair queries b writes p else p

-- the three renewed for these queries
abbrev pub renewal_counted : List Query → Brought → List Write
    → (Listener × Option View) × ℕ → (Listener × Option View) × ℕ
renewal_counted queries b writes t =
    (renewed_pair queries b writes t.0, count_of queries b writes t)

-- the same of the listener of that number alone
abbrev pub renewal_counted_at : ℕ → List Query → Brought → List Write
    → (Listener × Option View) × ℕ → (Listener × Option View) × ℕ
renewal_counted_at number queries b writes t =
    if t.0.0.number == number then renewal_counted queries b writes t else t

-- what its seat is told
abbrev pub renewal_told_at : ℕ → List Query → Brought → List Write
    → Listener × Option View → Option Note
renewal_told_at number queries b writes p =
    if p.0.number == number then told_of queries b writes p.0 else None

-- what a view becomes that sees that tree; the first where there is none
abbrev pub view_over : Query → PathTree → Option View → View
view_over q t None = first_view q t
view_over q t (Some v) = renewed v t

-- a listener's number with its view, if it passes
abbrev pub own_view : (Listener → Bool) → HeldListener → Option (ℕ × Option View)
own_view test l = if test (listener_of l) then Some (l.number, l.view) else None

-- the views of the listeners that pass
abbrev pub own_views : (Listener → Bool) → List HeldListener → List (ℕ × Option View)
own_views test held = filter_map (own_view test) held

-- the listener's number, if it is the seat's
abbrev pub own_number : ℕ → HeldListener → Option ℕ
own_number seat l = if l.seat == seat then Some l.number else None

-- the numbers are those of the listeners of the form, and others perhaps, which no listener has
abbrev pub HaveForm : Query → List ℕ → List HeldListener → Type 0
HaveForm listened numbers held =
    All (λ l. list_any (λ n. l.number == n) numbers ≡ query_eq (form l.query) listened) held

-- the numbers are those of the listeners of the range's path that it supplies, and others perhaps, which no
-- listener has
abbrev pub HaveSupplied : Query → List ℕ → List HeldListener → Type 0
HaveSupplied range numbers held =
    All (λ l. list_any (λ n. l.number == n) numbers ≡ is_supplied_at range l.query) held

-- the note of a listener that ends, if it has that number
abbrev pub ended_at : ℕ → Reason → Listener → Option Note
ended_at number why l = if l.number == number then Some (cancelled_note why l) else None

-- the same, if its number is one of these
abbrev pub ended_among : List ℕ → Reason → Listener → Option Note
ended_among numbers why l =
    if list_any (λ n. l.number == n) numbers then Some (cancelled_note why l) else None

-- a view is of the listener's query, and has not failed
abbrev pub IsViewOf : Query → Option View → Type 0
IsViewOf q None = Unit {0}
IsViewOf q (Some v) = (v.query ≡ q) × (v.failed ≡ false)

-- the view is the listener's
pub record IsHeld (l : HeldListener) : Type 0 where
  pub view : IsViewOf l.query l.view

-- the numbers rise, and each is held so
pub record AreHeld (held : List HeldListener) : Type 0 where
  pub rising : AllPairs (λ l m. l.number < m.number) held
  pub each : All IsHeld held
