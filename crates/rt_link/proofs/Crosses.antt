-- A linked client may be shared by threads, and a link handed to one: type by type, from what they hold up.
use denote.Param.Send.{IsSend, IsSync, sendable}
use denote.Param.SendFields.{declared_send, declared_sync}
use Rattle.std.proofs.Crossing.{crosses}
use Rattle.std.proofs.MapsCrossing.{crosses as maps_cross}
use Rattle.mio.specs.contracts.waker.Waker as waker
use Rattle.rt_client.specs.contracts.client.Client as client
use Rattle.rt_link.specs.contracts.error.LinkFault as fault
use Rattle.rt_link.specs.contracts.link.Link as link
use Rattle.rt_link.specs.contracts.linked.Bell as bell
use Rattle.rt_link.specs.contracts.linked.Linked as linked

ruleset all_cross = (sendable, crosses, maps_cross)

waker_send : IsSend waker.the_row
waker_send = search all_cross depth 40 fits 20000

waker_sync : IsSync waker.the_row
waker_sync = search all_cross depth 40 fits 20000

pub bell_send : IsSend bell.the_row
bell_send = search (waker_send, waker_sync, all_cross) depth 40 fits 20000

pub bell_sync : IsSync bell.the_row
bell_sync = search (waker_send, waker_sync, all_cross) depth 40 fits 20000

pub linked_send : IsSend client.the_row → IsSend linked.the_row
linked_send s = declared_send linked.the_type (s, (bell_send, tt))

pub linked_sync : IsSync client.the_row → IsSync linked.the_row
linked_sync y = declared_sync linked.the_type (y, (bell_sync, tt))

pub link_send : IsSend link.the_row
link_send = search all_cross depth 40 fits 20000

pub fault_send : IsSend fault.the_row
fault_send = search all_cross depth 40 fits 20000
