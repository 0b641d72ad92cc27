-- What waits in a client's locked value to be sent.
use Rattle.std.specs.Prelude.{List, []}
use Rattle.std.specs.Option.{option_map, option_map_or}
use Rattle.rt_wire.specs.declared.client.ClientMessage.{ClientMessage}
use Rattle.rt_world.specs.World.{World}
use Rattle.rt_client.specs.Calls.{Locked}
use Rattle.rt_client.specs.Shared.{Held}

-- the messages that are to be sent
abbrev pub waiting_in : Held → List ClientMessage
waiting_in h = option_map_or (λ (w : World). w.outgoing) h.core []

abbrev pub waiting_of : Locked → List ClientMessage
waiting_of locked = option_map_or waiting_in locked.held []

-- the same with nothing to be sent
abbrev pub nothing_waits : Held → Held
nothing_waits h = record h { core = option_map (λ (w : World). record w { outgoing = [] }) h.core }

abbrev pub without_waiting : Locked → Locked
without_waiting locked = record locked { held = option_map nothing_waits locked.held }
