-- Outside examples, which the prover computes: what two seats are told of some steps and know after
-- them, and tellings that would leave a seat behind.
use Rattle.std.specs.Prelude.{◌≡◌, ◌≢◌, List, [], ◌∷◌, ◌++◌, Some, None, codes}
use Rattle.rt_tree.specs.Path.{path_keys}
use Rattle.rt_tree.specs.PathTree.{object}
use Rattle.rt_query.specs.Queries.{Query, plain}
use Rattle.rt_view.specs.declared.change.Change.TheVariants.{Added, Value}
use Rattle.rt_wire.specs.declared.request.Action.{Action}
use Rattle.rt_wire.specs.declared.request.Action.TheVariants.{Put}
use Rattle.rt_world.specs.declared.step.Step.{Step}
use Rattle.rt_world.specs.Answers.{step, world_after}
use Rattle.rt_world.specs.laws.Script.{fresh, num}
use Rattle.rt_mail.specs.declared.item.Item.{Item}
use Rattle.rt_mail.specs.declared.item.Item.TheVariants as item
use Rattle.rt_mail.specs.declared.item.Receipt.TheVariants.{Listened, Wrote}
use Rattle.rt_mail.specs.Mailbox.{Known, nothing_known, known_of}
use Rattle.rt_mail.specs.Snapshots.{after_items}
use Rattle.rt_mail.specs.Snapshots.{Known as Shown}
use Rattle.rt_client.specs.Seats.{reflection, told_by, told_in}
use Rattle.rt_client.specs.laws.Showing.{seen_in}

-- ---- two seats

-- seat 1 listens at a, where the server pushes a child x; seat 2 sets its child y, which the server
-- pushes, since it is listened to, and accepts
abbrev pub at_a : Query
at_a = plain (path_keys (codes "/a"))

abbrev pub sets_y : Action
sets_y = Put (path_keys (codes "/a/y")) (num 2)

abbrev pub pushed : List Step
pushed =
    Step.Connected
    ∷ Step.Listen 1 at_a
    ∷ Step.Data 1 (path_keys (codes "/a")) (object ((codes "x", num 1) ∷ []))
    ∷ []

abbrev pub written : List Step
written = pushed ++ Step.Write 2 sets_y ∷ []

abbrev pub accepted : List Step
accepted = written ++ Step.Data 1 (path_keys (codes "/a/y")) (num 2) ∷ Step.Accepted 1 ∷ []

-- ---- what they are told

abbrev pub listened : Item
listened = item.Receipt (Listened 1 at_a)

abbrev pub wrote : Item
wrote = item.Receipt (Wrote 1 sets_y)

abbrev pub x_comes : Item
x_comes = item.Batch (record {
  listener = 1;
  changes = Added (codes "x") (num 1) None ∷ Value (object ((codes "x", num 1) ∷ [])) ∷ [];
})

abbrev pub y_comes : Item
y_comes = item.Batch (record {
  listener = 1;
  changes = Added (codes "y") (num 2) (Some (codes "x"))
      ∷ Value (object ((codes "x", num 1) ∷ (codes "y", num 2) ∷ [])) ∷ [];
})

abbrev pub first_told : List Item
first_told = listened ∷ x_comes ∷ y_comes ∷ []

abbrev pub FirstIsTold : Type 0
FirstIsTold = told_in 1 fresh accepted ≡ first_told

abbrev pub SecondIsTold : Type 0
SecondIsTold = told_in 2 fresh accepted ≡ wrote ∷ item.Settled 1 None ∷ []

-- and what the core knows of them
abbrev pub first_known : Known
first_known = record {
  listeners = (1, (codes "x", num 1) ∷ (codes "y", num 2) ∷ []) ∷ [];
  requests = [];
}

abbrev pub FirstIsKnown : Type 0
FirstIsKnown = reflection (world_after fresh accepted) 1 ≡ first_known

abbrev pub SecondIsKnown : Type 0
SecondIsKnown =
    (reflection (world_after fresh written) 2 ≡ record { listeners = []; requests = 1 ∷ [] })
    × (reflection (world_after fresh accepted) 2 ≡ nothing_known)

-- of a listener that is another seat's end, which is refused, nobody is told
abbrev pub ended_by_another : Step
ended_by_another = Step.Unlisten 2 1

abbrev pub RefusedIsNotTold : Type 0
RefusedIsNotTold =
    let w = world_after fresh pushed in
    (told_by 2 w ended_by_another (step w ended_by_another).1 ≡ [])
    × (told_by 1 w ended_by_another (step w ended_by_another).1 ≡ [])

-- ---- what would leave a seat behind

-- it is told nothing; it is not told of a change; it is told what the other seat is told
abbrev pub NotUntold : Type 0
NotUntold = known_of nothing_known [] ≢ first_known

abbrev pub NotHalfTold : Type 0
NotHalfTold = known_of nothing_known (listened ∷ x_comes ∷ []) ≢ first_known

abbrev pub NotTheOthers : Type 0
NotTheOthers = known_of nothing_known (wrote ∷ item.Settled 1 None ∷ []) ≢ first_known

-- a batch comes before the receipt of its listener, or a settlement before that of its write, after
-- which nothing is to be known
abbrev pub NotTooEarly : Type 0
NotTooEarly =
    (known_of nothing_known (x_comes ∷ listened ∷ y_comes ∷ []) ≢ first_known)
    × (known_of nothing_known (item.Settled 1 None ∷ wrote ∷ [])
    ≢ nothing_known)

-- ---- what is shown

-- the first seat's snapshots show its listener with the query and the tree of its view, as the core does
abbrev pub first_shown : Shown
first_shown = (
  1,
  record {
    query = at_a;
    value = Some (object ((codes "x", num 1) ∷ (codes "y", num 2) ∷ []));
  },
) ∷ []

abbrev pub FirstIsShown : Type 0
FirstIsShown =
    (after_items [] first_told ≡ first_shown)
    × (seen_in (world_after fresh accepted) 1 ≡ first_shown)

-- they don't where they are told nothing, half of it, or of a change before the receipt
abbrev pub NotShown : Type 0
NotShown =
    (after_items [] [] ≢ first_shown)
    × (after_items [] (listened ∷ x_comes ∷ []) ≢ first_shown)
    × (after_items [] (y_comes ∷ listened ∷ []) ≢ first_shown)
