-- How many children of its views a step takes anew, and how that is counted.
use Rattle.std.specs.Prelude.{◌≡◌, ◌≤◌, ◌==◌, ◌||◌, ℕ, ◌+◌, ◌%◌, ◌^◌, ◌⊎◌, if◌then◌else◌, length}
use Rattle.std.specs.Prelude.{Option, Some, None}
use Rattle.std.specs.List.{All, find, zip}
use Rattle.std.specs.Option.{option_and_then, option_map}
use Rattle.rt_tree.specs.Children.{children_of}
use Rattle.rt_query.specs.Queries.{Query}
use Rattle.rt_cache.specs.Recover.{is_moved}
use Rattle.rt_view.specs.Views.{View, shown_of}
use Rattle.rt_world.specs.declared.step.Step.{Step}
use Rattle.rt_world.specs.World.{Listener, World}
use Rattle.rt_world.specs.Touched.{entries_by, is_covered, children_named, seen}
use Rattle.rt_sync.specs.Core.{Held}

-- the view that is held of the listener of that number
abbrev pub view_held : Held → ℕ → Option View
view_held h number =
    option_and_then (λ p. p.1) (find (λ p. p.0.number == number) (zip h.world.listeners h.views))

-- how many children a step may take anew that leads from one world to another: where an entry of it
-- sits at or above the query's path, or the query is moved, all that were seen and all that are seen;
-- else those that its entries name
abbrev pub most_read : World → Step → World → Query → ℕ
most_read w s v q =
    if is_covered q.path (entries_by w s) || is_moved w.brought v.brought q
    then length (children_of (seen w q)) + length (children_of (seen v q))
    else length (children_named q.path (entries_by w s))

-- a first view takes so many children; another stays as it is, its counts too, or it is changed once
-- and takes no more than so many anew
abbrev pub IsTurn : (first most : ℕ) → Option View → Option View → Type 0
IsTurn first most None None = Unit {0}
IsTurn first most None (Some v) = (v.turns ≡ 1) × (v.reads ≡ first)
IsTurn first most (Some u) None = ⊥
IsTurn first most (Some u) (Some v) =
    (v ≡ u) ⊎ ((v.turns ≡ (u.turns + 1) % 2 ^ 64) × (v.reads ≤ most))

-- what is held of a listener shows its view, and has come so from what was held of it
pub record TurnsOnce (h : Held) (s : Step) (k : Held) (l : Listener) : Type 0 where
  pub shown : option_map shown_of (view_held k l.number) ≡ l.view
  pub turn :
      IsTurn (length (children_of (seen k.world l.query))) (most_read h.world s k.world l.query)
      (view_held h l.number) (view_held k l.number)

-- so it is of each listener after the step
abbrev pub ReadsNamed : Held → Step → Held → Type 0
ReadsNamed h s k = All (TurnsOnce h s k) (k.world).listeners

-- and of a core that has not failed
abbrev pub Reads : Option Held → Step → Option Held → Type 0
Reads old s new = (h k : Held) → old ≡ Some h → new ≡ Some k → ReadsNamed h s k

-- ---- what was taken anew is counted

-- the count that is held of the listener of that number
abbrev pub count_held : Held → ℕ → Option ℕ
count_held h number =
    option_map (λ p. p.1) (find (λ p. p.0.number == number) (zip h.world.listeners h.counts))

-- a count goes on by what the view took anew, and stays where the view is as it was; that of a new
-- listener begins anywhere. So no view stands for one that was thrown away: the count tells
abbrev pub GoesOn : (old new : Option View) → (was is : Option ℕ) → Type 0
GoesOn old new was None = ⊥
GoesOn old new None (Some d) = old ≡ None
GoesOn old None (Some c) (Some d) = d ≡ c
GoesOn None (Some v) (Some c) (Some d) = d ≡ (c + v.reads) % 2 ^ 64
GoesOn (Some u) (Some v) (Some c) (Some d) =
    ((v ≡ u) × (d ≡ c))
    ⊎ ((v.turns ≡ (u.turns + 1) % 2 ^ 64) × (d ≡ (c + v.reads) % 2 ^ 64))

-- so does that of a listener
abbrev pub IsCounted : Held → Held → Listener → Type 0
IsCounted h k l =
    GoesOn (view_held h l.number) (view_held k l.number) (count_held h l.number)
    (count_held k l.number)

-- so does each after a step of a core that has not failed
abbrev pub Counts : Option Held → Option Held → Type 0
Counts old new =
    (h k : Held) → old ≡ Some h → new ≡ Some k → All (IsCounted h k) (k.world).listeners
