-- The views that are held, and the world that they show.
use Rattle.std.specs.Prelude.{◌≡◌, ℕ, Bool, false, List, [], ◌∷◌, ◌++◌, map}
use Rattle.std.specs.Prelude.{Option, Some, None}
use Rattle.std.specs.List.{filter, zip, All, Contains}
use Rattle.rt_tree.specs.Assignments.{Assignment}
use Rattle.rt_query.specs.Queries.{Query}
use Rattle.rt_cache.specs.Recover.{is_among, is_moved}
use Rattle.rt_cover.specs.Runs.{Change, Add, Remove, Revoke}
use Rattle.rt_view.specs.Views.{View, shown_of}
use Rattle.rt_world.specs.declared.step.Step.{Step}
use Rattle.rt_world.specs.World.{Listener, World, pending}
use Rattle.rt_world.specs.After.{listeners_after, renewed}
use Rattle.rt_world.specs.Covering.{change_by}
use Rattle.rt_world.specs.Met.{renewed_met}
use Rattle.rt_world.specs.Touched.{entries_by, seen}
use Rattle.rt_world.specs.laws.Touch.{HasSeen}
use Rattle.rt_parts.specs.Listeners.{Listeners, counts_left, first_view_of, new_listener, views_left}
use Rattle.rt_parts.specs.Refreshed.{count_heard, hears, view_heard}
use Rattle.rt_parts.specs.Renewed.{count_of, renewed_of, view_of}
use Rattle.rt_sync.specs.Core.{Held}
use Rattle.rt_sync.specs.Reads.{IsCounted, ReadsNamed}

-- a view that is held of a listener: of its query, over a tree with the children that it sees
pub record ShowsSeen (w : World) (l : Listener) (v : View) : Type 0 where
  pub query : v.query ≡ l.query
  pub children : HasSeen w l.query v.tree
  pub shown : l.view ≡ Some (shown_of v)

-- none is held of a listener that has none
abbrev pub IsViewed : World → Listener → Option View → Type 0
IsViewed w l None = l.view ≡ None
IsViewed w l (Some v) = ShowsSeen w l v

-- of each two at one place
abbrev pub Pairs : (Listener → Option View → Type 0) → List Listener → List (Option View) → Type 0
Pairs P [] [] = Unit {0}
Pairs P [] (v ∷ vs) = ⊥
Pairs P (l ∷ ls) [] = ⊥
Pairs P (l ∷ ls) (v ∷ vs) = P l v × Pairs P ls vs

-- each listener has its view
abbrev pub ArePaired : Held → Type 0
ArePaired h = Pairs (IsViewed h.world) (h.world).listeners h.views

-- for each listener there is a count
abbrev pub HaveCounts : List Listener → List ℕ → Type 0
HaveCounts [] [] = Unit {0}
HaveCounts [] (c ∷ cs) = ⊥
HaveCounts (l ∷ ls) [] = ⊥
HaveCounts (l ∷ ls) (c ∷ cs) = HaveCounts ls cs

-- each listener has both
pub record AreViewed (h : Held) : Type 0 where
  pub pairs : ArePaired h
  pub counted : HaveCounts (h.world).listeners h.counts

-- the listeners with what is held of each
abbrev pub all_in : Held → Listeners
all_in h = record { listeners = (h.world).listeners; views = h.views; counts = h.counts }

-- ---- what a step makes of them

-- listeners and views stay
pub record SameViews (h k : Held) : Type 0 where
  pub listeners : (k.world).listeners ≡ (h.world).listeners
  pub views : k.views ≡ h.views
  pub counts : k.counts ≡ h.counts

-- a new one comes last, with its first view where something is known for it
pub record AddsView (h : Held) (seat : ℕ) (query : Query) (k : Held) : Type 0 where
  pub listeners : (k.world).listeners
      ≡ (h.world).listeners
      ++ renewed (k.world).brought (pending (k.world).requests)
      (new_listener (h.world).next_listener seat query) ∷ []
  pub views : k.views
      ≡ h.views ++ first_view_of (k.world).brought (pending (k.world).requests) query ∷ []
  pub counts : (count : ℕ) × (k.counts ≡ h.counts ++ count ∷ [])

-- a listener stays as it was, and sees what it saw
abbrev pub IsStill : World → World → Listener → Type 0
IsStill w v l =
    (renewed v.brought (pending v.requests) l ≡ l) × (seen v l.query ≡ seen w l.query)

-- those whose paths an entry meets are renewed, child by child where that is enough; views are where
-- listeners hear of the entries, and the others are still
pub record RefreshesViews (h : Held) (entries : List Assignment) (k : Held) : Type 0 where
  pub range : Option Query
  pub still : (l : Listener) → Contains (h.world).listeners l → hears range l.query ≡ false
      → IsStill h.world k.world l
  pub listeners : (k.world).listeners
      ≡ map (renewed_met entries (k.world).brought (pending (k.world).requests)) (h.world).listeners
  pub views : k.views
      ≡ map (view_heard range entries (k.world).brought (pending (k.world).requests))
      (zip (h.world).listeners h.views)
  pub counts : k.counts
      ≡ map (count_heard range entries (k.world).brought (pending (k.world).requests))
      (zip (zip (h.world).listeners h.views) h.counts)

-- those that are left after the step stay; of them the moved ones are renewed, and no others
pub record LeavesViews (h : Held) (s : Step) (k : Held) : Type 0 where
  pub test : Listener → Bool
  pub left : listeners_after h.world s ≡ filter test (h.world).listeners
  pub moved : List Query
  pub just : (l : Listener) → Contains (filter test (h.world).listeners) l
      → is_among moved l.query ≡ is_moved (h.world).brought (k.world).brought l.query
  pub listeners : (k.world).listeners
      ≡ map (renewed_of moved (k.world).brought (pending (k.world).requests))
      (filter test (h.world).listeners)
  pub views : k.views ≡ map (view_of moved (k.world).brought (pending (k.world).requests))
      (zip (filter test (h.world).listeners) (views_left test (all_in h)))
  pub counts : k.counts ≡ map (count_of moved (k.world).brought (pending (k.world).requests))
      (zip (zip (filter test (h.world).listeners) (views_left test (all_in h)))
      (counts_left test (all_in h)))

-- the new one of the step comes last, and none is moved
pub record GainsView (h : Held) (s : Step) (query : Query) (k : Held) : Type 0 where
  pub seat : ℕ
  pub more : listeners_after h.world s
      ≡ (h.world).listeners ++ new_listener (h.world).next_listener seat query ∷ []
  pub still : (q : Query) → is_moved (h.world).brought (k.world).brought q ≡ false
  pub adds : AddsView h seat query k

-- by the change of listeners that a step makes; where it makes none, by its entries
abbrev pub HasViewsBy : Option Change → Held → Step → Held → Type 0
HasViewsBy None h s k = RefreshesViews h (entries_by h.world s) k
HasViewsBy (Some (Add number query)) h s k = GainsView h s query k
HasViewsBy (Some (Remove numbers)) h s k = LeavesViews h s k
HasViewsBy (Some (Revoke tag)) h s k = LeavesViews h s k

-- so it is of each kind of step
abbrev pub HasViews : Held → Step → Held → Type 0
HasViews h s k = HasViewsBy (change_by h.world s) h s k

-- after a step each listener has its view, no more children were taken anew than are allowed, and these
-- are counted
pub record FollowsStep (h : Held) (s : Step) (k : Held) : Type 0 where
  pub viewed : AreViewed k
  pub reads : ReadsNamed h s k
  pub counts : All (IsCounted h k) (k.world).listeners
