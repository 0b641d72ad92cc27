-- What a world between steps keeps of its limits, and what is so of a step that is not refused.
use Rattle.std.specs.Prelude.{◌≡◌, ◌+◌, ◌≤◌, ◌&&◌, false, not, length}
use Rattle.rt_world.specs.declared.limits.Limits.{Limits}
use Rattle.rt_world.specs.declared.limits.TheConstants.{MAX_LISTENERS, MAX_REQUESTS, MAX_NUMBER}
use Rattle.rt_world.specs.declared.step.Step.{Step}
use Rattle.rt_world.specs.World.{World}
use Rattle.rt_world.specs.After.{kind}
use Rattle.rt_world.specs.Refusals.{is_unknown_listener, needs_tag}

-- no limit is above the most that a core takes
pub record AreLimits (limits : Limits) : Type 0 where
  pub listeners : limits.listeners ≤ MAX_LISTENERS
  pub requests : limits.requests ≤ MAX_REQUESTS
  pub last_number : limits.last_number ≤ MAX_NUMBER

-- no more listeners and unsettled requests than the limits say, and no number above the last one
pub record IsWithin (w : World) : Type 0 where
  pub listeners : length w.listeners ≤ w.limits.listeners
  pub requests : length w.requests ≤ w.limits.requests
  pub next_listener : w.next_listener ≤ w.limits.last_number + 1
  pub next_request : w.next_request ≤ w.limits.last_number + 1
  pub next_tag : w.next_tag ≤ w.limits.last_number + 1

-- no refusal's condition holds
pub record IsAllowed (w : World) (s : Step) : Type 0 where
  pub unknown : is_unknown_listener w s ≡ false
  pub listeners : (kind s).has_too_many w (needs_tag w s) ≡ false
  pub requests : (kind s).has_too_many_requests w ≡ false
  pub overlap : (kind s).has_overlap ≡ false
  pub empty : (kind s).is_empty ≡ false
  pub deep : (kind s).is_too_deep ≡ false
  pub push : (kind s).is_bad_push w ≡ false
  pub connected : ((kind s).opens && w.is_connected) ≡ false
  pub connection : ((kind s).needs_connection && not w.is_connected) ≡ false
  pub revoked : (kind s).has_too_many_last (needs_tag w s) ≡ false
