-- What a step makes and answers, said of the worlds before and after.
use Rattle.std.specs.Prelude.{◌≡◌, Bool, true, false, if◌then◌else◌, ◌||◌, List, map, ◌++◌, ◌==◌}
use Rattle.std.specs.Prelude.{None, Ok, Err}
use Rattle.std.specs.List.{find, All}
use Rattle.std.specs.Option.{option_map_or, option_or}
use Rattle.rt_cache.specs.Recover.{recover}
use Rattle.rt_world.specs.declared.report.Outcome.TheVariants.{Done}
use Rattle.rt_world.specs.declared.report.Report.{Report}
use Rattle.rt_world.specs.declared.step.Step.{Step}
use Rattle.rt_world.specs.World.{World, Listener, registered, listening, pending}
use Rattle.rt_world.specs.Views.{is_known}
use Rattle.rt_world.specs.After.{listeners_after, requests_after, pushed, is_connected_after}
use Rattle.rt_world.specs.After.{listener_given, request_given, counted}
use Rattle.rt_world.specs.Refusals.{refusal, is_stale, is_done}
use Rattle.rt_world.specs.Answers.{Answer, step, stale_report, settled_notes}
use Rattle.rt_world.specs.Answers.{cancelled_notes, changed_notes}
use Rattle.rt_world.specs.Sound.{IsSound}

-- the report of a step that is done and leaves these listeners
abbrev pub report_of : World → Step → List Listener → Report
report_of w s listeners = record {
  outcome = Done;
  given = option_or (listener_given w s) (request_given w s);
  notes = settled_notes w s ++ cancelled_notes w s ++ changed_notes w.listeners listeners;
}

-- the answer: the first refusal whose condition holds, else that it is stale, else that it is done
abbrev pub answer_due : World → Step → World → Answer
answer_due old s new =
    option_map_or Err (refusal old s)
    (Ok (if is_stale old s then stale_report else report_of old s new.listeners))

-- a listener without what it was shown
abbrev pub unseen : Listener → Listener
unseen l = record l { is_primed = false; view = None }

-- what a step leaves that is done: its listeners and requests, what is brought once its push is
-- taken and what no listen reaches is lost, the connection, and the next numbers
pub record Makes (old : World) (s : Step) (new : World) : Type 0 where
  pub limits : new.limits ≡ old.limits
  pub listeners : map unseen new.listeners ≡ map unseen (listeners_after old s)
  pub requests : new.requests ≡ requests_after old s
  pub brought : new.brought
      ≡ recover (listening (registered new.listeners)) (map (λ k. k.form) new.kept) (pushed old s)
  pub connected : new.is_connected ≡ is_connected_after old s
  pub next_listener : new.next_listener ≡ counted old.next_listener (listener_given old s)
  pub next_request : new.next_request ≡ counted old.next_request (request_given old s)

-- one that is done makes this, and another leaves all as it is
abbrev pub MakesOrLeaves : Bool → World → Step → World → Type 0
MakesOrLeaves true old s new = Makes old s new
MakesOrLeaves false old s new = new ≡ old

-- a listener is primed once that of its number was, or something is known for it
abbrev pub primed_in : World → World → Listener → Bool
primed_in old new l =
    option_map_or (λ m. m.is_primed) (find (λ m. m.number == l.number) old.listeners) false
    || is_known new.brought (pending new.requests) l.query

-- a step from one world to the next: its answer, what it makes, and who is primed
pub record Tells (old : World) (s : Step) (answer : Answer) (new : World) : Type 0 where
  pub answered : answer ≡ answer_due old s new
  pub made : MakesOrLeaves (is_done old s) old s new
  pub primed : All (λ l. l.is_primed ≡ primed_in old new l) new.listeners

-- so it is of each step of a sound world
abbrev pub StepTells : Type 0
StepTells = (w : World) (s : Step) → IsSound w → Tells w s (step w s).1 (step w s).0
