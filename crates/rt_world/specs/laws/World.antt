-- Laws of the world. Those of worlds between steps ask for what holds there (IsSound, IsSteady), or for
-- a part of it: so each holds also where messages were taken out.
use Rattle.std.specs.Prelude.{◌≡◌, ◌<◌, ◌≤◌, ◌+◌, ◌⊎◌, Bool, true, false, List, ◌++◌, length}
use Rattle.std.specs.Prelude.{None, is_some}
use Rattle.std.specs.List.{list_any, All, AllPairs}
use Rattle.rt_tree.specs.PathTree.{Key, null, leaf_of, child}
use Rattle.rt_tree.specs.Children.{children_of}
use Rattle.rt_tree.specs.Assignments.{do_overlap}
use Rattle.rt_query.specs.Queries.{is_filtered}
use Rattle.rt_cache.specs.Recover.{is_moved}
use Rattle.rt_cover.specs.Cover.{Tagged}
use Rattle.rt_view.specs.Views.{with_named}
use Rattle.rt_world.specs.declared.limits.Limits.{Limits}
use Rattle.rt_world.specs.declared.step.Request.{Request}
use Rattle.rt_world.specs.declared.step.Step.{Step}
use Rattle.rt_world.specs.Plain.{IsPlainStep, fold_both, writes_by, brought_by}
use Rattle.rt_world.specs.World.{Listener, World, empty_world, pending}
use Rattle.rt_world.specs.After.{kind}
use Rattle.rt_world.specs.Messages.{greeting}
use Rattle.rt_world.specs.Refusals.{refusal}
use Rattle.rt_world.specs.Answers.{step, answers, world_after}
use Rattle.rt_world.specs.Runs.{made, heard, left_to_send}
use Rattle.rt_world.specs.Limited.{IsWithin}
use Rattle.rt_world.specs.Headline.{Headline}
use Rattle.rt_world.specs.Sound.{IsSound}
use Rattle.rt_world.specs.laws.Holds.{IsSteady}
use Rattle.rt_world.specs.Touched.{entries_by, is_covered, children_named, is_named, seen}
use Rattle.rt_world.specs.Touched.{children_at, IsInBoth}

-- the headline holds of any steps, from any world that steps lead to
abbrev pub HeadlineHolds : Type 0
HeadlineHolds =
    (limits : Limits) (before steps : List Step)
    → let w = world_after (empty_world limits) before in
    Headline w steps (answers w steps) (world_after w steps)

-- ---- listens

-- whether a step registers or ends listeners
abbrev pub changes_listeners : Step → Bool
changes_listeners s = is_some (kind s).change

-- the listeners that were there and stay are as they were, with their views and primed marks, but for
-- those who had another form's window and now have one that does not come from it
abbrev pub StayUnlessMoved : World → World → Type 0
StayUnlessMoved old new = (l m : Listener) → IsInBoth old new l m
    → is_moved old.brought new.brought l.query ≡ false → m ≡ l

-- these stay primed
abbrev pub MovedStayPrimed : World → World → Type 0
MovedStayPrimed old new = (l m : Listener) → IsInBoth old new l m
    → is_moved old.brought new.brought l.query ≡ true → (l.is_primed ≡ true) × (m.is_primed ≡ true)

-- so they are after such a step, which changes the listens kept and what they brought
abbrev pub CoverChangesFewViews : Type 0
CoverChangesFewViews = (w : World) (s : Step) → IsSteady w → changes_listeners s ≡ true
    → StayUnlessMoved w (step w s).0 × MovedStayPrimed w (step w s).0

-- ---- children

-- where no entry of the step sits at or above a listener's path, and it is not moved, a child that no
-- entry names is seen as before
abbrev pub OnlyNamedChange : Type 0
OnlyNamedChange = (w : World) (s : Step) → IsSteady w
    → let v = (step w s).0 in
    (l m : Listener) → IsInBoth w v l m
    → let p = l.query.path in
    let entries = entries_by w s in
    is_covered p entries ≡ false → is_moved w.brought v.brought l.query ≡ false
    → (k : Key) → is_named p entries k ≡ false
    → child (seen v l.query) k ≡ child (seen w l.query) k

-- there where a leaf stands at the path before or after, all children that are seen before or after are
-- named
abbrev pub LeafNamesAll : Type 0
LeafNamesAll = (w : World) (s : Step) → IsSteady w
    → let v = (step w s).0 in
    (l m : Listener) → IsInBoth w v l m
    → let p = l.query.path in
    let entries = entries_by w s in
    is_covered p entries ≡ false → is_moved w.brought v.brought l.query ≡ false
    → is_some (leaf_of (seen w l.query)) ≡ true ⊎ is_some (leaf_of (seen v l.query)) ≡ true
    → (k : Key) → is_named p entries k ≡ false
    → (child (seen w l.query) k ≡ null) × (child (seen v l.query) k ≡ null)

-- and a view that takes all its children anew there reads no more of them than are named
abbrev pub LeafReadsNamed : Type 0
LeafReadsNamed = (w : World) (s : Step) → IsSteady w
    → let v = (step w s).0 in
    (l m : Listener) → IsInBoth w v l m
    → let p = l.query.path in
    let entries = entries_by w s in
    is_covered p entries ≡ false → is_moved w.brought v.brought l.query ≡ false
    → is_some (leaf_of (seen w l.query)) ≡ true ⊎ is_some (leaf_of (seen v l.query)) ≡ true
    → length (children_of (seen w l.query)) + length (children_of (seen v l.query))
    ≤ length (children_named p entries)

-- there where the leaf at the path stays, or there is none before and after, what is seen is what was
-- seen with the named children put into it, as a view is touched
abbrev pub TouchedIsSeen : Type 0
TouchedIsSeen = (w : World) (s : Step) → IsSteady w
    → let v = (step w s).0 in
    (l m : Listener) → IsInBoth w v l m
    → let p = l.query.path in
    let entries = entries_by w s in
    is_covered p entries ≡ false → is_moved w.brought v.brought l.query ≡ false
    → leaf_of (seen w l.query) ≡ leaf_of (seen v l.query)
    → with_named (seen w l.query) (children_at (seen v l.query) (children_named p entries))
    ≡ seen v l.query

-- a listener that is not moved is as it was where no entry of the step sits at, above or below its
-- path
abbrev pub OthersKeepViews : Type 0
OthersKeepViews = (w : World) (s : Step) → IsSteady w
    → (l m : Listener) → IsInBoth w (step w s).0 l m
    → list_any (λ a. do_overlap a.0 l.query.path) (entries_by w s) ≡ false
    → is_moved w.brought (step w s).0.brought l.query ≡ false
    → m ≡ l

-- ---- messages

-- where there is a connection after steps, the messages to be sent are those that are left and
-- those that the steps made; the server heard of the kept listens
pub record SendsWhatIsMade (old : World) (steps : List Step) (new : World) : Type 0 where
  pub sent : new.outgoing ≡ left_to_send old steps ++ made old steps
  pub heard : heard old steps ≡ new.kept

abbrev pub MessagesAreHeard : Type 0
MessagesAreHeard = (w : World) (steps : List Step) → IsSound w
    → (world_after w steps).is_connected ≡ true → SendsWhatIsMade w steps (world_after w steps)

-- the messages to be sent are the version, the kept listens by tag, and then the unsettled requests by
-- number
pub record SendsAll (w : World) : Type 0 where
  pub sent : w.outgoing ≡ greeting w
  pub tags : AllPairs (λ (j k : Tagged). j.tag < k.tag) w.kept
  pub numbers : AllPairs (λ (r s : Request). r.id < s.id) w.requests

-- so it is once a connection is opened
abbrev pub ConnectedSendsAll : Type 0
ConnectedSendsAll = (w : World) → IsSound w
    → refusal w Step.Connected ≡ None → SendsAll (step w Step.Connected).0

-- ---- limits

-- no steps lead past the limits
abbrev pub NumbersStayWithin : Type 0
NumbersStayWithin =
    (w : World) (steps : List Step) → IsSound w → IsWithin w → IsWithin (world_after w steps)

-- ---- what is written and brought

-- the pending writes are those of before, with those that the steps made and without those that
-- they settled
abbrev pub IsWritten : Type 0
IsWritten =
    (w : World) (steps : List Step)
    → pending (world_after w steps).requests
    ≡ fold_both writes_by (pending w.requests) steps (answers w steps)

-- where no listener's query is filtered, what plain listens brought is that of before with the pushes
-- that the steps took in, and the forms of new listeners are registered there
abbrev pub IsBrought : Type 0
IsBrought =
    (w : World) (steps : List Step) → IsSteady w
    → All (λ l. is_filtered l.query ≡ false) w.listeners → All IsPlainStep steps
    → (world_after w steps).brought ≡ fold_both brought_by w.brought steps (answers w steps)
