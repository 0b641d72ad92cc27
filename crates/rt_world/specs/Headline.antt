-- The fewest listens, and the views over what they brought: what any steps lead to, said of the
-- worlds before and after, the steps and the answers.
use Rattle.std.specs.Prelude.{◌≡◌, ℕ, ◌+◌, ◌<◌, ◌≤◌, Bool, IsTrue, IsFalse, if◌then◌else◌, List, []}
use Rattle.std.specs.Prelude.{◌∷◌, ◌++◌, map, length, drop, ◌==◌, Option, Some, None, Ok, Err}
use Rattle.std.specs.List.{filter, flat_map, fold, All, AllPairs}
use Rattle.rt_query.specs.Queries.{Query}
use Rattle.rt_query.specs.Select.{Shown}
use Rattle.rt_cover.specs.Cover.{Tagged, kept_for}
use Rattle.rt_cover.specs.State.{beyond, shown_with}
use Rattle.rt_cover.specs.Shown.{AreFewest, IsCertified}
use Rattle.rt_view.specs.declared.change.Change.{Change}
use Rattle.rt_view.specs.Changes.{Turns}
use Rattle.rt_wire.specs.declared.client.ClientMessage.{ClientMessage}
use Rattle.rt_wire.specs.declared.limits.TheConstants.{VERSION}
use Rattle.rt_world.specs.declared.report.Body.{Body}
use Rattle.rt_world.specs.declared.report.Body.TheVariants.{Settled, Cancelled, Batch}
use Rattle.rt_world.specs.declared.step.Step.{Step}
use Rattle.rt_world.specs.World.{World, Listener, registered, pending, cover}
use Rattle.rt_world.specs.Views.{view_of}
use Rattle.rt_world.specs.Messages.{unrevoked, listens, unlistens, request_message, request_sent}
use Rattle.rt_world.specs.Messages.{outgoing_before, kept_before, heard_by}
use Rattle.rt_world.specs.Refusals.{is_done}
use Rattle.rt_world.specs.Answers.{Answer, step, batch_from, view_before}

-- ---- the listens kept

-- these are the fewest registered forms that supply every listener, each shown with the
-- least-numbered listener of its form, which no other supplies
pub record AreKept (w : World) : Type 0 where
  pub fewest : AreFewest (registered w.listeners) (cover w)
  pub certified : All (IsCertified (registered w.listeners)) (cover w)

-- ---- the views

-- a primed listener's view is its query over what is brought, overlaid by the pending writes;
-- another has none
abbrev pub view_by : Bool → World → Query → Option Shown
view_by primed w q = if primed then Some (view_of w.brought (pending w.requests) q) else None

-- the changes of a listener in a note's body
abbrev pub changes_in : ℕ → Body → List Change
changes_in number (Batch b) = filter (λ _. b.listener == number) b.changes
changes_in number (Settled id why) = []
changes_in number (Cancelled listener why) = []

-- the changes that an answer gives of a listener
abbrev pub changes_told : ℕ → Answer → List Change
changes_told number (Ok report) = flat_map (λ note. changes_in number note.body) report.notes
changes_told number (Err e) = []

-- after a step a listener's view is that of the brought data; what it was told is the list of
-- changes from its view before, and turns that into this one
pub record IsUpToDate (old : World) (answer : Answer) (new : World) (l : Listener) : Type 0 where
  pub view : l.view ≡ view_by l.is_primed new l.query
  pub batch : changes_told l.number answer ≡ batch_from (view_before old.listeners l.number) l
  pub turned : Turns (view_before old.listeners l.number) (changes_told l.number answer) l.view

-- ---- one step

-- the listens that a step begins: those that are kept now, and were not before
abbrev pub begun : World → World → List Tagged
begun old new = beyond new.kept old.kept

-- those that it ends: those that were kept before, and are not now; who revoked one knows that it
-- stops
abbrev pub ended : World → Step → World → List Tagged
ended old s new = unrevoked s (beyond old.kept new.kept)

-- what a step has to send: the listens that it begins, those that it ends, and its request; one that
-- opens a connection sends the version and all that is kept and unsettled; without a connection nothing
-- is sent
abbrev pub sent_due : World → Step → World → List ClientMessage
sent_due old s new =
    if new.is_connected
    then (if old.is_connected
    then listens (begun old new) ++ unlistens (ended old s new) ++ request_sent old s
    else ClientMessage.Hello VERSION ∷ (listens old.kept ++ map request_message new.requests))
    else []

-- of a step that is done: it sends just that, and a server that hears it keeps what the core keeps
pub record Sends (old : World) (s : Step) (new : World) : Type 0 where
  pub outgoing : new.outgoing ≡ outgoing_before old s ++ sent_due old s new
  pub heard : IsTrue new.is_connected
      → fold heard_by (kept_before s old.kept) (sent_due old s new) ≡ new.kept

-- with a connection or without: of the listens kept before those stay, under their tags, whose forms
-- are kept now; then come those that begin, under the next tags, in order of the listeners that they
-- are shown with, and none above the last number
pub record Keeps (old new : World) : Type 0 where
  pub kept : new.kept ≡ kept_for old.next_tag old.kept (map (λ k. k.form) new.kept)
  pub order : AllPairs (λ j k. j.listener < k.listener)
      (map (shown_with (registered new.listeners)) (begun old new))
  pub last : All (λ k. k.tag ≤ old.limits.last_number) (begun old new)
  pub next : new.next_tag ≡ old.next_tag + length (begun old new)

-- a step from one world to the next: it is made and answered as the world's; one that is done sends
-- and keeps listens so; the fewest listens are kept; each listener's view is its query over what is
-- brought, overlaid by the pending writes, and turns from its view before by what it is told
pub record Moves (old : World) (s : Step) (answer : Answer) (new : World) : Type 0 where
  pub made : new ≡ (step old s).0
  pub answered : answer ≡ (step old s).1
  pub sends : IsTrue (is_done old s) → Sends old s new
  pub keeps : IsTrue (is_done old s) → Keeps old new
  pub kept : AreKept new
  pub shown : All (IsUpToDate old answer new) new.listeners

-- ---- what the server hears

-- the listens that the server keeps after a step: it hears what is to be sent beyond what was left
abbrev pub server_after : List Tagged → World → Step → World → List Tagged
server_after has old s new =
    if is_done old s
    then fold heard_by (kept_before s has) (drop (length (outgoing_before old s)) new.outgoing)
    else has

-- while connected the server keeps the kept listens; while disconnected it keeps them once a
-- connection is opened
pub record IsKept (has : List Tagged) (new : World) : Type 0 where
  pub online : IsTrue new.is_connected → has ≡ new.kept
  pub offline : IsFalse new.is_connected
      → let opened = (step new Step.Connected).0 in
      IsTrue opened.is_connected × (server_after has new Step.Connected opened ≡ new.kept)

-- ---- many steps

-- one step after another leads from world to world, and from what the server keeps to what it keeps
abbrev pub Leads : World → List Tagged → List Step → List Answer → World → List Tagged → Type 0
Leads old had [] [] new has = (new ≡ old) × (has ≡ had)
Leads old had (s ∷ steps) (a ∷ told) new has =
    (between : World) × Moves old s a between
    × Leads between (server_after had old s between) steps told new has
Leads old had _ _ new has = ⊥

-- after steps a listener's view is that of what is brought; all that it was told, played one after
-- another, turns its view before them into this one
pub record IsShown (old : World) (told : List Answer) (new : World) (l : Listener) : Type 0 where
  pub view : l.view ≡ view_by l.is_primed new l.query
  pub turned :
      Turns (view_before old.listeners l.number) (flat_map (changes_told l.number) told) l.view

-- ---- the headline

-- the steps lead from world to world as their answers say; in the end the server, which kept the
-- core's listens before, keeps those that the core keeps, and these are the fewest that supply every
-- listener; each listener's view is its query over what they brought, overlaid by the pending writes,
-- and turned into it from its view before by all that it was told
pub record Headline (old : World) (steps : List Step) (told : List Answer) (new : World)
    : Type 0 where
  pub has : List Tagged
  pub leads : Leads old old.kept steps told new has
  pub heard : IsKept has new
  pub kept : AreKept new
  pub shown : All (IsShown old told new) new.listeners
