-- A client may be shared by threads, and a seat handed to one: type by type, from what they hold up.
use denote.Param.Send.{IsSend, IsSync}
use Rattle.circular_buffer.proofs.Crosses.{Cells-send, Cells-sync, Deed-send, Deed-sync}
use Rattle.rt_mail.proofs.Crosses.{history_send}
use Rattle.rt_mail.specs.contracts.mirror.Mirror as mirror
use Rattle.rt_mail.specs.contracts.lane.Inbox as inbox
use Rattle.rt_mail.specs.contracts.lane.Lane as lane
use Rattle.rt_mail.specs.contracts.mirror.Snapshot as snapshot
use Rattle.rt_mail.specs.contracts.mirror.Snapshots as snapshots
use Rattle.rt_cache.specs.contracts.regions.Region as region
use Rattle.rt_cache.specs.contracts.regions.BoxedRegion as boxed_region
use Rattle.rt_cache.specs.contracts.windows.Window as window
use Rattle.rt_cache.specs.contracts.windows.BoxedWindow as boxed_window
use Rattle.rt_cache.specs.contracts.forms.Form as form
use Rattle.rt_cache.specs.contracts.forms.BoxedForm as boxed_form
use Rattle.rt_cache.specs.contracts.forms.Forms as registered
use Rattle.rt_cache.specs.contracts.brought.Brought as brought
use Rattle.rt_forms.specs.contracts.numbers.Numbers as numbers
use Rattle.rt_forms.specs.contracts.standing.Filtered as filtered
use Rattle.rt_forms.specs.contracts.standing.Standing as standing
use Rattle.rt_forms.specs.contracts.forms.Forms as forms
use Rattle.rt_cover.specs.contracts.cover.Cover as cover
use Rattle.rt_view.specs.contracts.position.Position as position
use Rattle.rt_view.specs.contracts.window.Child as child
use Rattle.rt_view.specs.contracts.window.OrderedChildren as shown
use Rattle.rt_view.specs.contracts.view.View as view
use Rattle.rt_parts.specs.contracts.listeners.HeldListener as listening
use Rattle.rt_parts.specs.contracts.listeners.Listeners as listeners
use Rattle.rt_world.specs.contracts.step.Request as request
use Rattle.rt_parts.specs.contracts.requests.Requests as requests
use Rattle.rt_writes.specs.contracts.pending.Pending as writes
use Rattle.rt_writes.proofs.spots.Spot.TheLaws.TheKnot.{crosses as spots_cross}
use Rattle.rt_wire.specs.contracts.client.ClientMessage as message
use Rattle.rt_sync.specs.contracts.state.State as state
use Rattle.rt_sync.specs.contracts.Core as core
use Rattle.rt_client.specs.contracts.seat.Seat as seat
use Rattle.rt_client.specs.contracts.lanes.Lanes as lanes
use Rattle.rt_client.specs.contracts.held.Held as held
use Rattle.rt_client.specs.contracts.shared.Shared as shared
use Rattle.rt_client.specs.contracts.client.Client as client
use Rattle.rt_client.proofs.Crosses.{all_cross, calls_cross, entries_send, item_send, key_send, trees_cross}

pub mirror_send : IsSend mirror.the_row
mirror_send = search trees_cross depth 40 fits 20000

snapshot_send : IsSend snapshot.the_row
snapshot_send = search calls_cross depth 40 fits 20000

pub snapshots_send : IsSend snapshots.the_row
snapshots_send = search (snapshot_send, calls_cross) depth 40 fits 20000

ruleset rings_cross = (Cells-send, Cells-sync, Deed-send, Deed-sync, all_cross)

pub inbox_send : IsSend inbox.the_row
inbox_send = search (item_send, rings_cross) depth 40 fits 20000

pub seat_send : IsSend seat.the_row
seat_send = search (inbox_send, all_cross) depth 40 fits 20000

lane_send : IsSend lane.the_row
lane_send = search (item_send, history_send, all_cross) depth 40 fits 20000

lanes_send : IsSend lanes.the_row
lanes_send = search (lane_send, all_cross) depth 40 fits 20000

-- what the core holds
region_send : IsSend region.the_row
region_send = search calls_cross depth 40 fits 20000

boxed_region_send : IsSend boxed_region.the_row
boxed_region_send = search (region_send, all_cross) depth 40 fits 20000

window_send : IsSend window.the_row
window_send = search calls_cross depth 40 fits 20000

boxed_window_send : IsSend boxed_window.the_row
boxed_window_send = search (window_send, all_cross) depth 40 fits 20000

form_send : IsSend form.the_row
form_send = search calls_cross depth 40 fits 20000

boxed_form_send : IsSend boxed_form.the_row
boxed_form_send = search (form_send, all_cross) depth 40 fits 20000

registered_send : IsSend registered.the_row
registered_send = search (boxed_form_send, all_cross) depth 40 fits 20000

brought_send : IsSend brought.the_row
brought_send = search (boxed_region_send, boxed_window_send, registered_send, all_cross) depth 40 fits 20000

-- the forms that are listened to, with the numbers of their listeners
numbers_send : IsSend numbers.the_row
numbers_send = search all_cross depth 40 fits 20000

filtered_send : IsSend filtered.the_row
filtered_send = search (numbers_send, calls_cross) depth 40 fits 20000

standing_send : IsSend standing.the_row
standing_send = search (numbers_send, filtered_send, all_cross) depth 40 fits 20000

forms_send : IsSend forms.the_row
forms_send = search (standing_send, key_send, all_cross) depth 80 fits 60000

cover_send : IsSend cover.the_row
cover_send = search (forms_send, calls_cross) depth 40 fits 20000

-- a view, whose known children stand in a list
position_send : IsSend position.the_row
position_send = search calls_cross depth 40 fits 20000

child_send : IsSend child.the_row
child_send = search calls_cross depth 40 fits 20000

shown_send : IsSend shown.the_row
shown_send = search (position_send, child_send, calls_cross) depth 80 fits 60000

view_send : IsSend view.the_row
view_send = search (shown_send, position_send, child_send, calls_cross) depth 40 fits 60000

listening_send : IsSend listening.the_row
listening_send = search (view_send, calls_cross) depth 40 fits 20000

listeners_send : IsSend listeners.the_row
listeners_send = search (listening_send, calls_cross) depth 40 fits 20000

request_send : IsSend request.the_row
request_send = search calls_cross depth 40 fits 20000

-- the tree beside the pending writes holds itself
writes_send : IsSend writes.the_row
writes_send = search (spots_cross, entries_send, trees_cross) depth 60 fits 60000

requests_send : IsSend requests.the_row
requests_send = search (request_send, writes_send, all_cross) depth 40 fits 60000

pub message_send : IsSend message.the_row
message_send = search calls_cross depth 40 fits 20000

ruleset cores_cross =
    (brought_send, cover_send, listeners_send, requests_send, message_send, all_cross)

state_send : IsSend state.the_row
state_send = search cores_cross depth 40 fits 20000

core_send : IsSend core.the_row
core_send = search (state_send, all_cross) depth 40 fits 20000

-- what the lock keeps
held_send : IsSend held.the_row
held_send = search (core_send, lanes_send, all_cross) depth 40 fits 20000

shared_send : IsSend shared.the_row
shared_send = search (held_send, all_cross) depth 40 fits 20000

pub client_sync : IsSync client.the_row
client_sync = search (shared_send, all_cross) depth 40 fits 20000

pub client_send : IsSend client.the_row
client_send = search (shared_send, all_cross) depth 40 fits 20000
