-- Lines of a script over one core, and what they show: the form of the examples.
use Rattle.std.specs.Prelude.{ℕ, true, false, List, [], ◌∷◌, ◌==◌, pos, Option, Some, None, Ok, Err}
use Rattle.std.specs.List.{find}
use Rattle.std.specs.Option.{option_and_then}
use Rattle.rt_tree.specs.Leaf.{LeafValue, truth, number, text}
use Rattle.rt_tree.specs.PathTree.{Key, Path, PathTree, of_leaf}
use Rattle.rt_order.specs.declared.index.Index.{Index}
use Rattle.rt_query.specs.declared.query.Limit.{Limit}
use Rattle.rt_query.specs.declared.row.Row.{Row}
use Rattle.rt_query.specs.Queries.{Query}
use Rattle.rt_query.specs.Select.{Shown}
use Rattle.rt_cover.specs.declared.listen.Kept.{Kept}
use Rattle.rt_view.specs.declared.change.Change.{Change}
use Rattle.rt_world.specs.declared.error.CoreError.{CoreError}
use Rattle.rt_wire.specs.declared.client.ClientMessage.{ClientMessage}
use Rattle.rt_world.specs.declared.report.Body.{Body}
use Rattle.rt_world.specs.declared.report.Body.TheVariants.{Batch}
use Rattle.rt_world.specs.declared.report.Note.{Note}
use Rattle.rt_world.specs.declared.report.Outcome.TheVariants.{Done}
use Rattle.rt_world.specs.declared.step.Step.{Step}
use Rattle.rt_world.specs.World.{World, cover, empty_world, full_limits}
use Rattle.rt_world.specs.Answers.{step, Answer, stale_report}

-- a step, or a look at the messages to be sent, which takes them, at the cover, or at a listener's
-- view
pub data Line : Type 0 where
  Do : Step → Line
  TakeOut : Line
  ShowCover : Line
  ShowView : (listener : ℕ) → Line

pub data Shows : Type 0 where
  Answered : Answer → Shows
  Sent : List ClientMessage → Shows
  Covered : List Kept → Shows
  Viewed : Option Shown → Shows

-- the view of a listener of that number
abbrev pub view_in : World → ℕ → Option Shown
view_in w n = option_and_then (λ l. l.view) (find (λ l. l.number == n) w.listeners)

-- what the lines show, one after another
abbrev pub shows : World → List Line → List Shows
shows w [] = []
shows w (Do s ∷ rest) = Answered ((step w s).1) ∷ shows ((step w s).0) rest
shows w (TakeOut ∷ rest) = Sent w.outgoing ∷ shows (record w { outgoing = [] }) rest
shows w (ShowCover ∷ rest) = Covered (cover w) ∷ shows w rest
shows w (ShowView n ∷ rest) = Viewed (view_in w n) ∷ shows w rest

-- a core with the largest limits
abbrev pub fresh : World
fresh = empty_world full_limits

-- ---- short spellings

abbrev pub num : ℕ → PathTree
num n = of_leaf (number (pos n))

abbrev pub yes_leaf : PathTree
yes_leaf = of_leaf (truth true)

abbrev pub no_leaf : PathTree
no_leaf = of_leaf (truth false)

abbrev pub txt : List ℕ → PathTree
txt s = of_leaf (text s)

-- a query of this path, order and limit, with no start and no end
abbrev pub ordered : Path → Index → Option Limit → Query
ordered p index limit =
    record { path = p; index = index; range = record { lower = None; upper = None }; limit = limit }

abbrev pub answered : Option ℕ → List Note → Shows
answered given notes = Answered (Ok (record { outcome = Done; given = given; notes = notes }))

abbrev pub was_stale : Shows
was_stale = Answered (Ok stale_report)

abbrev pub refused : CoreError → Shows
refused e = Answered (Err e)

abbrev pub batch : ℕ → List Change → Body
batch listener changes = Batch (record { listener = listener; changes = changes })

abbrev pub told : ℕ → Body → Note
told seat body = record { seat = seat; body = body }

abbrev pub kept_as : ℕ → Query → ℕ → Kept
kept_as tag query listener = record { tag = tag; query = query; listener = listener }

abbrev pub shown_leaf : LeafValue → Option Shown
shown_leaf l = Some (record { leaf = Some l; rows = [] })

abbrev pub row_of : Key → PathTree → Row
row_of key value = record { key = key; value = value }

abbrev pub of_rows : List Row → Option Shown
of_rows rows = Some (record { leaf = None; rows = rows })
