-- What holds of each message of the server, since the types of its parts keep it.
use Rattle.std.specs.List.{AllByRecursion}
use Rattle.rt_wire.specs.declared.server.ServerMessage.{ServerMessage}
use Rattle.rt_wire.specs.declared.server.ServerMessage.TheVariants.{Data as DataMessage, DataMerge, Push}
use Rattle.rt_wire.specs.declared.server.ServerMessage.TheVariants.{Accepted, Refused, Revoked}
use Rattle.rt_wire.specs.Parts.{Part}
use Rattle.rt_wire.specs.inside.Standing.{IsStandingPath, IsStandingTree, IsStanding}

abbrev pub IsStandingPart : Part → Type 0
IsStandingPart p = AllByRecursion IsStanding p.1

abbrev pub IsStandingMessage : ServerMessage → Type 0
IsStandingMessage (DataMessage tag path tree) = IsStandingPath path × IsStandingTree tree
IsStandingMessage (DataMerge tag entries) = AllByRecursion IsStanding entries
IsStandingMessage (Push parts) = AllByRecursion IsStandingPart parts
IsStandingMessage (Accepted id) = Unit {0}
IsStandingMessage (Refused id why) = Unit {0}
IsStandingMessage (Revoked tag why) = Unit {0}
