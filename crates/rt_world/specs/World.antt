-- The core as a world of listeners, requests and what the listens brought.
use Rattle.std.specs.Prelude.{ℕ, min, max, Bool, false, List, [], map, ◌==◌, Option, Some}
use Rattle.std.specs.Prelude.{None}
use Rattle.std.specs.List.{filter_map, find}
use Rattle.std.specs.Option.{option_map}
use Rattle.rt_query.specs.Queries.{Query}
use Rattle.rt_query.specs.Select.{Shown}
use Rattle.rt_query.specs.Supply.{form}
use Rattle.rt_writes.specs.Writes.{Write}
use Rattle.rt_cache.specs.Brought.{Brought, nothing_brought}
use Rattle.rt_cover.specs.declared.listen.Kept.{Kept}
use Rattle.rt_cover.specs.Cover.{Registered, Tagged}
use Rattle.rt_cover.specs.State.{shown_with}
use Rattle.rt_world.specs.declared.limits.Limits.{Limits}
use Rattle.rt_world.specs.declared.limits.TheConstants.{MAX_LISTENERS, MAX_REQUESTS, MAX_NUMBER}
use Rattle.rt_wire.specs.declared.client.ClientMessage.{ClientMessage}
use Rattle.rt_wire.specs.declared.request.Asked.{Asked}
use Rattle.rt_wire.specs.declared.request.Asked.TheVariants.{Now, AtDisconnect}
use Rattle.rt_world.specs.declared.step.Request.{Request}
pub use Rattle.rt_wire.specs.Actions.{entries_of}

-- a text, as the reason of a refusal, is its bytes
abbrev pub Reason : Type 0
Reason = List ℕ

-- a registered listener; it has a view once it is primed
pub record Listener : Type 0 where
  pub number : ℕ
  pub seat : ℕ
  pub query : Query
  pub is_primed : Bool
  pub view : Option Shown

-- the most that a core takes
abbrev pub full_limits : Limits
full_limits = record {
  listeners = MAX_LISTENERS;
  requests = MAX_REQUESTS;
  last_number = MAX_NUMBER;
}

-- a 0 counts as 1, and more than the largest number as that
abbrev pub limits_from : Limits → Limits
limits_from limits = record {
  listeners = min (max 1 limits.listeners) MAX_LISTENERS;
  requests = min (max 1 limits.requests) MAX_REQUESTS;
  last_number = min (max 1 limits.last_number) MAX_NUMBER;
}

-- the listeners and the unsettled requests by number, what the listens brought, the kept listens by
-- tag, the messages to be sent, and the next numbers
pub record World : Type 0 where
  pub limits : Limits
  pub listeners : List Listener
  pub requests : List Request
  pub brought : Brought
  pub kept : List Tagged
  pub is_connected : Bool
  pub outgoing : List ClientMessage
  pub next_listener : ℕ
  pub next_request : ℕ
  pub next_tag : ℕ

-- the world before any step
abbrev pub empty_world : Limits → World
empty_world limits = record {
  limits = limits;
  listeners = [];
  requests = [];
  brought = nothing_brought;
  kept = [];
  is_connected = false;
  outgoing = [];
  next_listener = 1;
  next_request = 1;
  next_tag = 1;
}

-- the numbers of the listeners, each with what is listened to for it
abbrev pub registered : List Listener → List Registered
registered listeners = map (λ l. (l.number, form l.query)) listeners

-- the forms of registered listeners, one for each
abbrev pub listening : List Registered → List Query
listening listeners = map (λ l. l.1) listeners

-- the write that a request asks for, if it asks for one
abbrev pub write_asked : ℕ → Asked → Option Write
write_asked id (Now action) = Some (record { id = id; entries = entries_of action })
write_asked id (AtDisconnect ending) = None

-- the pending writes: those of the unsettled requests, in order of number
abbrev pub pending : List Request → List Write
pending requests = filter_map (λ r. write_asked r.id r.asked) requests

-- the query of the kept listen with that tag
abbrev pub listen_of : World → ℕ → Option Query
listen_of w tag = option_map (λ k. k.form) (find (λ k. k.tag == tag) w.kept)

-- the kept listens, each shown with the least-numbered listener of its form
abbrev pub cover : World → List Kept
cover w = map (shown_with (registered w.listeners)) w.kept
