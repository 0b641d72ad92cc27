-- Whether a handshake came about.
use Rattle.std.specs.Prelude.{Bool, true, false}
use Rattle.rt_serve.specs.declared.socket.Handshake.{Handshake}
use Rattle.rt_serve.specs.declared.socket.Handshake.TheVariants.{Done, Failed}

abbrev pub is_done : {S : Type 0} → Handshake S → Bool
is_done (Done socket) = true
is_done (Failed why) = false
