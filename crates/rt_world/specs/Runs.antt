-- What the steps of a run send, and which listens the server keeps then.
use Rattle.std.specs.Prelude.{ℕ, Bool, true, false, not, if◌then◌else◌, List, [], ◌∷◌, ◌++◌, map}
use Rattle.std.specs.Prelude.{◌==◌}
use Rattle.std.specs.List.{filter, fold, list_any}
use Rattle.std.specs.Option.{option_map_or}
use Rattle.rt_cover.specs.Cover.{Tagged}
use Rattle.rt_wire.specs.declared.client.ClientMessage.{ClientMessage}
use Rattle.rt_world.specs.declared.step.Step.{Step}
use Rattle.rt_world.specs.World.{World}
use Rattle.rt_world.specs.After.{kind}
use Rattle.rt_world.specs.Messages.{heard_by, messages_of}
use Rattle.rt_world.specs.Refusals.{is_done}
use Rattle.rt_world.specs.Answers.{step}

-- a connection is opened, a message is made, a listen is revoked
pub data Event : Type 0 where
  Opened : Event
  Made : ClientMessage → Event
  Ended : (tag : ℕ) → Event

-- what a step is besides its messages
abbrev pub events_before : Step → List Event
events_before s =
    option_map_or (λ r. Ended r.0 ∷ []) (kind s).revoked (if (kind s).opens then Opened ∷ [] else [])

-- the events of a step that is done; of another none
abbrev pub events_of : World → Step → List Event
events_of w s = if is_done w s then events_before s ++ map Made (messages_of w s) else []

-- the events of the steps, one after another
abbrev pub events : World → List Step → List Event
events w [] = []
events w (s ∷ rest) = events_of w s ++ events (step w s).0 rest

-- the messages for the last connection after an event; one that is opened begins with none
abbrev pub made_after : List ClientMessage → Event → List ClientMessage
made_after messages (Made m) = messages ++ m ∷ []
made_after messages (Ended tag) = messages
made_after messages Opened = []

-- the messages that the steps make for the last connection
abbrev pub made : World → List Step → List ClientMessage
made w steps = fold made_after [] (events w steps)

-- the listens that the server keeps after an event; a connection that is opened begins with none
abbrev pub heard_after : List Tagged → Event → List Tagged
heard_after kept (Made m) = heard_by kept m
heard_after kept (Ended tag) = filter (λ k. not (k.tag == tag)) kept
heard_after kept Opened = []

-- the listens that the server keeps after the steps, from those kept before
abbrev pub heard : World → List Step → List Tagged
heard w steps = fold heard_after w.kept (events w steps)

-- whether a connection is opened
abbrev pub is_opened : Event → Bool
is_opened Opened = true
is_opened (Made m) = false
is_opened (Ended tag) = false

-- the messages that were to be sent before the steps; none once these open a connection
abbrev pub left_to_send : World → List Step → List ClientMessage
left_to_send w steps = if list_any is_opened (events w steps) then [] else w.outgoing
