-- What threads may share, and what may be handed to one.
use denote.Param.Send.{IsSend, IsSync}
use Rattle.rt_link.specs.contracts.error.LinkFault as fault
use Rattle.rt_link.specs.contracts.link.Link as link
use Rattle.rt_link.specs.contracts.linked.Bell as bell
use Rattle.rt_link.specs.contracts.linked.Linked as linked

-- threads may share a linked client
abbrev pub LinkedIsShared : Type 0
LinkedIsShared = IsSync linked.the_row

-- and one may be handed to a thread
abbrev pub LinkedIsSent : Type 0
LinkedIsSent = IsSend linked.the_row

-- and so what wakes its link
abbrev pub BellIsShared : Type 0
BellIsShared = IsSync bell.the_row

abbrev pub BellIsSent : Type 0
BellIsSent = IsSend bell.the_row

-- a link may be handed to the thread that runs it,
abbrev pub LinkIsSent : Type 0
LinkIsSent = IsSend link.the_row

-- which may hand back why the link can't go on
abbrev pub FaultIsSent : Type 0
FaultIsSent = IsSend fault.the_row
