-- The number and the name of each fault.
use Rattle.std.specs.Prelude.{ℕ, List, codes}
use Rattle.rt_commands.specs.declared.connection.ConnectFault.{ConnectFault}
use Rattle.rt_commands.specs.declared.connection.ConnectFault.TheVariants.{NotConnected, Ended}
use Rattle.rt_commands.specs.declared.server.ServeFault.{ServeFault}
use Rattle.rt_commands.specs.declared.server.ServeFault.TheVariants.{NotBound, NotAccepted, NoMemory}

-- why serving ends early
abbrev pub serve_code : ServeFault → ℕ
serve_code (NotBound port why) = 1
serve_code (NotAccepted port why) = 2
serve_code NoMemory = 3

abbrev pub serve_name : ServeFault → List ℕ
serve_name (NotBound port why) = codes "NotBound"
serve_name (NotAccepted port why) = codes "NotAccepted"
serve_name NoMemory = codes "NoMemory"

-- why a client ends early
abbrev pub connect_code : ConnectFault → ℕ
connect_code (NotConnected port why) = 1
connect_code (Ended e) = 2

abbrev pub connect_name : ConnectFault → List ℕ
connect_name (NotConnected port why) = codes "NotConnected"
connect_name (Ended e) = codes "Ended"
