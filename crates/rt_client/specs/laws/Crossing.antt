-- What threads may share, and what may be handed to one.
use denote.Param.Send.{IsSend, IsSync}
use Rattle.rt_tree.specs.contracts.key.Key as key
use Rattle.rt_tree.specs.contracts.path.Path as path
use Rattle.rt_tree.specs.contracts.tree.Tree as tree
use Rattle.rt_query.specs.contracts.query.Query as query
use Rattle.rt_writes.specs.contracts.entries.Entries as entries
use Rattle.rt_wire.specs.contracts.request.Action as action
use Rattle.rt_wire.specs.contracts.client.ClientMessage as message
use Rattle.rt_wire.specs.contracts.server.ServerMessage as server
use Rattle.rt_world.specs.contracts.step.Call as call
use Rattle.rt_mail.specs.contracts.item.Item as item
use Rattle.rt_mail.specs.contracts.mirror.Mirror as mirror
use Rattle.rt_mail.specs.contracts.mirror.Snapshots as snapshots
use Rattle.rt_client.specs.contracts.seat.Seat as seat
use Rattle.rt_client.specs.contracts.client.Client as client

-- threads may share a client
abbrev pub ClientIsShared : Type 0
ClientIsShared = IsSync client.the_row

-- and one may be handed to a thread
abbrev pub ClientIsSent : Type 0
ClientIsSent = IsSend client.the_row

-- and each may be handed a seat,
abbrev pub SeatIsSent : Type 0
SeatIsSent = IsSend seat.the_row

-- what a seat is told, and who takes it all,
abbrev pub ItemIsSent : Type 0
ItemIsSent = IsSend item.the_row

abbrev pub MirrorIsSent : Type 0
MirrorIsSent = IsSend mirror.the_row

abbrev pub SnapshotsAreSent : Type 0
SnapshotsAreSent = IsSend snapshots.the_row

-- and what its calls are made of
abbrev pub QueryIsSent : Type 0
QueryIsSent = IsSend query.the_row

abbrev pub PathIsSent : Type 0
PathIsSent = IsSend path.the_row

abbrev pub TreeIsSent : Type 0
TreeIsSent = IsSend tree.the_row

-- threads may share a tree too
abbrev pub TreeIsShared : Type 0
TreeIsShared = IsSync tree.the_row

abbrev pub KeyIsSent : Type 0
KeyIsSent = IsSend key.the_row

abbrev pub EntriesAreSent : Type 0
EntriesAreSent = IsSend entries.the_row

abbrev pub ActionIsSent : Type 0
ActionIsSent = IsSend action.the_row

abbrev pub CallIsSent : Type 0
CallIsSent = IsSend call.the_row

-- the messages that go to the server, and those that come from it
abbrev pub MessageIsSent : Type 0
MessageIsSent = IsSend message.the_row

abbrev pub ServerMessageIsSent : Type 0
ServerMessageIsSent = IsSend server.the_row
