-- What a core holds, what it answers to steps, and what it becomes.
use Rattle.std.specs.Prelude.{◌≡◌, ◌≢◌, ◌==◌, ℕ, false, ◌⊎◌, List, [], ◌∷◌, drop}
use Rattle.std.specs.Prelude.{Option, Some, None, Result, Ok, Err}
use Rattle.std.specs.List.{find}
use Rattle.std.specs.Option.{option_map, option_map_or}
use Rattle.rt_query.specs.Select.{Shown}
use Rattle.rt_cover.specs.declared.listen.Kept.{Kept}
use Rattle.rt_view.specs.Views.{View}
use Rattle.rt_wire.specs.declared.client.ClientMessage.{ClientMessage}
use Rattle.rt_world.specs.declared.error.CoreError.{CoreError}
use Rattle.rt_world.specs.declared.error.CoreError.TheVariants.{Failed, NoMemory, UnknownListener}
use Rattle.rt_world.specs.declared.limits.Limits.{Limits}
use Rattle.rt_world.specs.declared.step.Step.{Step}
use Rattle.rt_world.specs.World.{World, cover, empty_world}
use Rattle.rt_world.specs.After.{kind}
use Rattle.rt_world.specs.Refusals.{refusal, is_stale}
use Rattle.rt_world.specs.Answers.{Answer, step, view_before}

-- a world, and of each of its listeners, in their order, the view that is held, none where it has none,
-- and how many children were taken anew for it, modulo 2^64, from wherever that count begins
pub record Held : Type 0 where
  pub world : World
  pub views : List (Option View)
  pub counts : List ℕ

-- before any step
abbrev pub empty_held : Limits → Held
empty_held limits = record { world = empty_world limits; views = []; counts = [] }

-- the world of a core; none once it has lacked memory
abbrev pub world_in : Option Held → Option World
world_in core = option_map (λ h. h.world) core

-- and its views
abbrev pub views_in : Option Held → List (Option View)
views_in core = option_map_or (λ h. h.views) core []

-- and the counts of its listeners
abbrev pub counts_in : Option Held → List ℕ
counts_in core = option_map_or (λ h. h.counts) core []

-- why a core refuses a step, whether it is stale or not; one that has failed says so
abbrev pub refusal_in : Option World → Step → Option CoreError
refusal_in None s = Some Failed
refusal_in (Some w) s = refusal w s

-- for want of memory a step is not made; it is neither refused nor stale then, and no connection ends,
-- which takes no memory
pub record LacksMemory (w : World) (s : Step) (answer : Answer) (new : Option World) : Type 0 where
  pub told : answer ≡ Err NoMemory
  pub failed : new ≡ None
  pub not_refused : refusal w s ≡ None
  pub not_stale : is_stale w s ≡ false
  pub not_closing : (kind s).closes ≡ false

-- the world's step is made and answered
pub record MakesStep (w : World) (s : Step) (answer : Answer) (new : Option World) : Type 0 where
  pub told : answer ≡ (step w s).1
  pub world : new ≡ Some (step w s).0

-- a core makes the world's step, or lacks memory and has failed; one that has failed answers so for
-- good
abbrev pub Applies : Option World → Step → Answer → Option World → Type 0
Applies None s answer new = (answer ≡ Err Failed) × (new ≡ None)
Applies (Some w) s answer new = MakesStep w s answer new ⊎ LacksMemory w s answer new

-- each step is answered in order
abbrev pub AppliesAll : Option World → List Step → List Answer → Option World → Type 0
AppliesAll old [] [] new = new ≡ old
AppliesAll old (s ∷ steps) (a ∷ told) new =
    (between : Option World) × Applies old s a between × AppliesAll between steps told new
AppliesAll old [] (a ∷ told) new = ⊥
AppliesAll old (s ∷ steps) [] new = ⊥

-- what a core answers of its kept listens: they are the world's, by tag; it may lack memory for them,
-- and one that has failed says so
abbrev pub Covers : Option World → Result (List Kept) CoreError → Type 0
Covers None answer = answer ≡ Err Failed
Covers (Some w) answer = (answer ≡ Ok (cover w)) ⊎ (answer ≡ Err NoMemory)

-- the view of the listener of that number, if it is registered; none where it is not primed
abbrev pub view_in : World → ℕ → Result (Option Shown) CoreError
view_in w number =
    option_map_or
    (λ l. Ok l.view) (find (λ l. l.number == number) w.listeners) (Err UnknownListener)

-- the listener of that number has a view
abbrev pub HasView : World → ℕ → Type 0
HasView w number = view_before w.listeners number ≢ None

-- what a core answers of a listener's view: it is the world's; where there is one memory may lack, and
-- a core that has failed says so
abbrev pub Views : Option World → ℕ → Result (Option Shown) CoreError → Type 0
Views None number answer = answer ≡ Err Failed
Views (Some w) number answer =
    (answer ≡ view_in w number) ⊎ ((answer ≡ Err NoMemory) × HasView w number)

-- the first of the messages
abbrev pub first_message : List ClientMessage → Option ClientMessage
first_message [] = None
first_message (m ∷ rest) = Some m

-- the world without the first message that is to be sent
abbrev pub without_first : World → World
without_first w = record w { outgoing = drop 1 w.outgoing }

-- what is taken out is the first message that is to be sent, if there is one; a core that has failed
-- has none
abbrev pub TakesOut : Option World → Option ClientMessage → Option World → Type 0
TakesOut None message new = (message ≡ None) × (new ≡ None)
TakesOut (Some w) message new = (message ≡ first_message w.outgoing) × (new ≡ Some (without_first w))
