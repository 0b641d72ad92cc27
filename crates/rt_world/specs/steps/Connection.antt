-- A connection is opened, or ends.
use Rattle.std.specs.Prelude.{true, [], ◌∷◌}
use Rattle.rt_world.specs.declared.error.CoreError.TheVariants.{AlreadyConnected, NotConnected}
use Rattle.rt_world.specs.steps.Kind.{Kind, quiet}

-- refused where there is one
abbrev pub connected : Kind
connected = record quiet { refusals = AlreadyConnected ∷ []; opens = true }

-- refused where there is none
abbrev pub disconnected : Kind
disconnected = record quiet {
  refusals = NotConnected ∷ [];
  needs_connection = true;
  closes = true;
}
