-- The server ends a listen.
use Rattle.std.specs.Prelude.{ℕ, Bool, true, false, not, [], ◌∷◌, Some, is_some}
use Rattle.std.specs.List.{filter}
use Rattle.std.specs.Option.{option_map_or}
use Rattle.rt_query.specs.QueryEq.{query_eq}
use Rattle.rt_query.specs.Supply.{form}
use Rattle.rt_cover.specs.Runs.{Revoke}
use Rattle.rt_world.specs.declared.error.CoreError.TheVariants.{TooManyListeners, NotConnected}
use Rattle.rt_world.specs.World.{Reason, Listener, World, listen_of}
use Rattle.rt_world.specs.steps.Kind.{Kind, quiet}

-- whether the listener ends because its listening form's listen is revoked
abbrev pub is_cancelled : World → ℕ → Listener → Bool
is_cancelled w tag l = option_map_or (query_eq (form l.query)) (listen_of w tag) false

-- the listeners of that form end; refused, after all else, where a tag is lacking; stale where the
-- revoked one is not kept
abbrev pub revoke : ℕ → Reason → Kind
revoke tag why = record quiet {
  revoked = Some (tag, why);
  change = Some (λ w. Revoke tag);
  refusals = NotConnected ∷ TooManyListeners ∷ [];
  has_too_many_last = λ lacks_tag. lacks_tag;
  needs_connection = true;
  is_stale = λ w. not (is_some (listen_of w tag));
  listeners = λ w. filter (λ l. not (is_cancelled w tag l)) w.listeners;
}
