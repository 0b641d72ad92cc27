-- Which children of its view a step takes anew, for whoever holds views and touches them.
use Rattle.std.specs.Prelude.{◌≡◌, ◌+◌, ◌≤◌, true, false, None, length}
use Rattle.std.specs.List.{Contains}
use Rattle.rt_tree.specs.PathTree.{Key, PathTree, child}
use Rattle.rt_tree.specs.Children.{children_of}
use Rattle.rt_query.specs.Queries.{Query}
use Rattle.rt_cache.specs.Recover.{is_moved}
use Rattle.rt_view.specs.Views.{stays_object, with_named}
use Rattle.rt_world.specs.declared.step.Step.{Step}
use Rattle.rt_world.specs.World.{Listener, World}
use Rattle.rt_world.specs.After.{listeners_after}
use Rattle.rt_world.specs.Messages.{next}
use Rattle.rt_world.specs.Refusals.{refusal}
use Rattle.rt_world.specs.Touched.{entries_by, is_covered, is_named, children_named, children_at, seen}
use Rattle.rt_world.specs.Met.{do_meet}
use Rattle.rt_world.specs.Called.{IsCalled}
use Rattle.rt_world.specs.Reached.{IsReached}
use Rattle.rt_world.specs.Sound.{IsSound}

-- a listener stays in a step that is not refused
pub record Stays (w : World) (s : Step) (l : Listener) : Type 0 where
  pub sound : IsSound w
  pub called : IsCalled w.brought
  pub reached : IsReached w
  pub not_refused : refusal w s ≡ None
  pub there : Contains (listeners_after w s) l
  pub unmoved : is_moved w.brought (next w s).brought l.query ≡ false

-- a tree has the children that are seen
abbrev pub HasSeen : World → Query → PathTree → Type 0
HasSeen w q t = (k : Key) → child t k ≡ child (seen w q) k

-- it has the same list of them
abbrev pub SeenAreChildren : Type 0
SeenAreChildren =
    (w : World) (q : Query) (t : PathTree) → HasSeen w q t → children_of t ≡ children_of (seen w q)

-- where no entry of the step meets the path of such a listener, all children are seen as before
abbrev pub UnmetAreSeen : Type 0
UnmetAreSeen =
    (w : World) (s : Step) (l : Listener) → Stays w s l
    → do_meet (entries_by w s) l.query.path ≡ false
    → (t : PathTree) → HasSeen w l.query t → HasSeen (next w s) l.query t

-- where none sits at or above it, those that none names are
abbrev pub UnnamedAreSeen : Type 0
UnnamedAreSeen =
    (w : World) (s : Step) (l : Listener) → Stays w s l
    → is_covered l.query.path (entries_by w s) ≡ false
    → (k : Key) → is_named l.query.path (entries_by w s) k ≡ false
    → child (seen (next w s) l.query) k ≡ child (seen w l.query) k

-- so what is seen then is a tree that had the children, with the named ones put into it, if no leaf
-- stands there and a child is left
abbrev pub TouchIsEnough : Type 0
TouchIsEnough =
    (w : World) (s : Step) (l : Listener) → Stays w s l
    → is_covered l.query.path (entries_by w s) ≡ false
    → (t : PathTree) → HasSeen w l.query t
    → let new = seen (next w s) l.query in
    let named = children_at new (children_named l.query.path (entries_by w s)) in
    stays_object t named ≡ true → with_named t named ≡ new

-- and elsewhere all that it had and all that are seen are no more than the named
abbrev pub ElseFewAreSeen : Type 0
ElseFewAreSeen =
    (w : World) (s : Step) (l : Listener) → Stays w s l
    → is_covered l.query.path (entries_by w s) ≡ false
    → (t : PathTree) → HasSeen w l.query t
    → let new = seen (next w s) l.query in
    let names = children_named l.query.path (entries_by w s) in
    stays_object t (children_at new names) ≡ false
    → length (children_of t) + length (children_of new) ≤ length names
