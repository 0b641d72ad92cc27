-- What one ask of a wire is to what was read.
use Rattle.std.specs.Prelude.{◌≡◌, ℕ, Option, Some, None}
use Rattle.rt_socket.specs.declared.wire.Pause.{Pause}
use Rattle.rt_socket.specs.declared.wire.Pause.TheVariants as pause
use Rattle.rt_socket.specs.declared.wire.Said.{Said}
use Rattle.rt_socket.specs.declared.wire.Said.TheVariants as said

-- one more was given where it goes on, and none where it pauses
abbrev pub given_count : Option Pause → ℕ
given_count None = 1
given_count (Some pause) = 0

-- it pauses as the wire says
abbrev pub PausesBy : Option Pause → Said → Type 0
PausesBy None told = told ≡ said.Given
PausesBy (Some pause.Idle) told = told ≡ said.Nothing
PausesBy (Some pause.More) told = ⊥
PausesBy (Some (pause.Ended why)) told = told ≡ said.Ended
