-- What a core holds, as a world.
use Rattle.std.specs.Prelude.{◌≡◌, ◌+◌}
use Rattle.rt_cover.specs.State.{Cover}
use Rattle.rt_world.specs.World.{World, registered}
use Rattle.rt_sync.specs.declared.state.State.{State}
use Rattle.rt_sync.specs.Core.{Held}

-- the world: listens and tags are the cover's
abbrev pub world_of : State → World
world_of state = record {
  limits = state.limits;
  listeners = state.listeners.listeners;
  requests = state.requests;
  brought = state.brought;
  kept = state.cover.kept;
  is_connected = state.is_connected;
  outgoing = state.outgoing.items;
  next_listener = state.given_listeners + 1;
  next_request = state.given_requests + 1;
  next_tag = state.cover.next_tag;
}

-- with the views and counts of its listeners
abbrev pub held_of : State → Held
held_of state = record {
  world = world_of state;
  views = state.listeners.views;
  counts = state.listeners.counts;
}

-- the parts agree: the cover has the world's listeners and last tag
pub record IsTied (cover : Cover) (w : World) : Type 0 where
  pub listened : cover.listeners ≡ registered w.listeners
  pub last_tag : cover.last_tag ≡ w.limits.last_number
