-- The server accepts a request, or refuses it.
use Rattle.std.specs.Prelude.{ℕ, true, not, [], ◌∷◌, ◌==◌, Option, Some}
use Rattle.std.specs.List.{filter, list_any}
use Rattle.rt_world.specs.declared.error.CoreError.TheVariants.{NotConnected}
use Rattle.rt_world.specs.World.{Reason}
use Rattle.rt_world.specs.steps.Kind.{Kind, quiet}

-- the request goes; stale where no unsettled request has the number
abbrev pub settle : ℕ → Option Reason → Kind
settle id why = record quiet {
  settled = Some (id, why);
  refusals = NotConnected ∷ [];
  needs_connection = true;
  is_stale = λ w. not (list_any (λ r. r.id == id) w.requests);
  requests = λ w. filter (λ r. not (r.id == id)) w.requests;
}
