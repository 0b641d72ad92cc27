use Rattle.std.proofs.Common.{rules, ◌≡◌, ◌-◌, ◌<◌, ◌≤◌, length, set, sym, ap, subst, ◌∙◌}
use Rattle.std.specs.Option.{option_map, option_map_or}
use Rattle.rt_client.specs.Lanes.{lane_of, IsChanged, settled, settled_ring}
use Rattle.rt_client.proofs.Slots.{lane_there, set_at_seat}
use Rattle.rt_client.proofs.lanes.flush_at.Goals as goal

pub returns-clause-lane : goal.returns-clause-lane
returns-clause-lane c =
    let items = c.args.lanes.now.items in
    let seat = c.args.seat in
    let ring = c.args.inbox.now in
    let one : 1 ≤ c.args.seat = search rules in
    let within : c.args.seat - 1 < length c.args.lanes.now.items = search rules in
    let old : c.index_mut.result.now ≡ lane_of items seat = c.index_mut.ensures.value ∙ sym (lane_there items seat c.index_mut.result.now one within) in
    subst (λ l. IsChanged seat l items (set items (seat - 1) c.flush_lane.new.lane)) (c.flush_lane.ensures.lane ∙ ap (option_map (settled ring)) old)
    (set_at_seat items seat c.flush_lane.new.lane one within)

pub returns-clause-ring : goal.returns-clause-ring
returns-clause-ring c =
    let items = c.args.lanes.now.items in
    let seat = c.args.seat in
    let ring = c.args.inbox.now in
    let one : 1 ≤ c.args.seat = search rules in
    let within : c.args.seat - 1 < length c.args.lanes.now.items = search rules in
    let old : c.index_mut.result.now ≡ lane_of items seat = c.index_mut.ensures.value ∙ sym (lane_there items seat c.index_mut.result.now one within) in
    c.flush_lane.ensures.ring ∙ ap (λ l. option_map_or (settled_ring ring) l ring) old
