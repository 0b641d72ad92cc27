-- Seats' calls and messages of the server, each as the step that it asks for.
use Rattle.std.specs.Prelude.{ℕ}
use Rattle.rt_wire.specs.declared.server.ServerMessage.{ServerMessage}
use Rattle.rt_wire.specs.declared.server.ServerMessage.TheVariants as message
use Rattle.rt_world.specs.declared.step.Call.{Call}
use Rattle.rt_world.specs.declared.step.Call.TheVariants as call
use Rattle.rt_world.specs.declared.step.Step.{Step}

-- a seat's call as a step
abbrev pub step_of : ℕ → Call → Step
step_of seat (call.Listen query) = Step.Listen seat query
step_of seat (call.Unlisten listener) = Step.Unlisten seat listener
step_of seat (call.Write action) = Step.Write seat action
step_of seat (call.OnDisconnect ending) = Step.OnDisconnect seat ending

-- a message of the server as a step
abbrev pub step_of_message : ServerMessage → Step
step_of_message (message.Data tag path tree) = Step.Data tag path tree
step_of_message (message.DataMerge tag entries) = Step.DataMerge tag entries
step_of_message (message.Push parts) = Step.Push parts
step_of_message (message.Accepted id) = Step.Accepted id
step_of_message (message.Refused id why) = Step.Refused id why
step_of_message (message.Revoked tag why) = Step.Revoked tag why
