-- What each step sends, and the world that it leaves.
use Rattle.std.specs.Prelude.{◌+◌, ◌||◌, not, if◌then◌else◌, List, [], ◌∷◌, ◌++◌, map, length, ◌==◌}
use Rattle.std.specs.List.{filter}
use Rattle.std.specs.Option.{option_map_or}
use Rattle.rt_cover.specs.Cover.{Tagged}
use Rattle.rt_cover.specs.State.{beyond}
use Rattle.rt_wire.specs.declared.client.ClientMessage.{ClientMessage}
use Rattle.rt_wire.specs.declared.limits.TheConstants.{VERSION}
use Rattle.rt_world.specs.declared.step.Request.{Request}
use Rattle.rt_world.specs.declared.step.Step.{Step}
use Rattle.rt_world.specs.World.{World}
use Rattle.rt_world.specs.After.{kind, requests_after, kept_after, started_by}
use Rattle.rt_world.specs.After.{brought_after, renewed_after, is_connected_after, listener_given}
use Rattle.rt_world.specs.After.{request_given, counted}

-- the listens without the one that the step revokes: who revoked it knows that it stops
abbrev pub unrevoked : Step → List Tagged → List Tagged
unrevoked s kept = option_map_or (λ r. filter (λ k. not (k.tag == r.0)) kept) (kind s).revoked kept

-- the listens that the step stops, by tag
abbrev pub stopped_by : World → Step → List Tagged
stopped_by w s = unrevoked s (beyond w.kept (kept_after w s))

-- the messages that begin the listens
abbrev pub listens : List Tagged → List ClientMessage
listens kept = map (λ k. ClientMessage.Listen k.tag k.form) kept

-- the messages that end the listens
abbrev pub unlistens : List Tagged → List ClientMessage
unlistens kept = map (λ k. ClientMessage.Unlisten k.tag) kept

-- a request as it is sent
abbrev pub request_message : Request → ClientMessage
request_message r = ClientMessage.Ask r.id r.asked

-- the message of the step's request, if it makes one
abbrev pub request_sent : World → Step → List ClientMessage
request_sent w s =
    option_map_or (λ asked. ClientMessage.Ask w.next_request asked.1 ∷ []) (kind s).asked []

-- the messages that a connection begins with: the version, the kept listens, then the unsettled requests
abbrev pub greeting : World → List ClientMessage
greeting w = ClientMessage.Hello VERSION ∷ (listens w.kept ++ map request_message w.requests)

-- the messages of a step while connected: listens that start, listens that stop, the request
abbrev pub messages_online : World → Step → List ClientMessage
messages_online w s = listens (started_by w s) ++ unlistens (stopped_by w s) ++ request_sent w s

-- the messages that the step makes: on Connected those that a connection begins with; while
-- disconnected none
abbrev pub messages_of : World → Step → List ClientMessage
messages_of w s =
    if (kind s).opens then greeting w
    else if (kind s).closes then []
    else if w.is_connected then messages_online w s
    else []

-- the messages that are still to be sent when the step comes: a connection that begins or ends
-- drops them
abbrev pub outgoing_before : World → Step → List ClientMessage
outgoing_before w s = if (kind s).opens || (kind s).closes then [] else w.outgoing

-- the listens that a server keeps as a step comes: a connection that is opened begins with none, and
-- a listen that is revoked is gone
abbrev pub kept_before : Step → List Tagged → List Tagged
kept_before s kept = if (kind s).opens then [] else unrevoked s kept

-- the listens that it keeps once it hears a message
abbrev pub heard_by : List Tagged → ClientMessage → List Tagged
heard_by kept (ClientMessage.Hello version) = kept
heard_by kept (ClientMessage.Listen tag q) = kept ++ record { tag = tag; form = q } ∷ []
heard_by kept (ClientMessage.Unlisten tag) = filter (λ k. not (k.tag == tag)) kept
heard_by kept (ClientMessage.Ask id asked) = kept

-- the world after a step that is neither refused nor stale
abbrev pub next : World → Step → World
next w s = record {
  limits = w.limits;
  listeners = renewed_after w s;
  requests = requests_after w s;
  brought = brought_after w s;
  kept = kept_after w s;
  is_connected = is_connected_after w s;
  outgoing = outgoing_before w s ++ messages_of w s;
  next_listener = counted w.next_listener (listener_given w s);
  next_request = counted w.next_request (request_given w s);
  next_tag = w.next_tag + length (started_by w s);
}
