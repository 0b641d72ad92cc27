use Rattle.std.proofs.Common.{rules, ◌≡◌, ◌-◌, ◌<◌, ◌≤◌, length, set, sym, ap, subst, ◌∙◌}
use Rattle.std.specs.Option.{option_map}
use Rattle.rt_mail.specs.Lanes.{with_waiting}
use Rattle.rt_client.specs.Lanes.{lane_of, IsChanged}
use Rattle.rt_client.proofs.Slots.{on_ok, if_err, lane_there, set_at_seat}
use Rattle.rt_client.proofs.lanes.queue.Goals as goal

pub returns-clause-queued : goal.returns-clause-queued
returns-clause-queued c =
    let items = c.args.lanes.now.items in
    let seat = c.args.seat in
    let one : 1 ≤ c.args.seat = search rules in
    let within : c.args.seat - 1 < length c.args.lanes.now.items = search rules in
    let old : c.index_mut.result.now ≡ lane_of items seat = c.index_mut.ensures.value ∙ sym (lane_there items seat c.index_mut.result.now one within) in
    on_ok c.queue_in.result
    (λ e. subst (λ l. IsChanged seat l items (set items (seat - 1) c.queue_in.new.lane)) (e ∙ ap (option_map (with_waiting c.args.item)) old) (set_at_seat items seat c.queue_in.new.lane one within))
    c.queue_in.ensures.queued

pub returns-clause-refused : goal.returns-clause-refused
returns-clause-refused c =
    let items = c.args.lanes.now.items in
    let seat = c.args.seat in
    let one : 1 ≤ c.args.seat = search rules in
    let within : c.args.seat - 1 < length c.args.lanes.now.items = search rules in
    let old : c.index_mut.result.now ≡ lane_of items seat = c.index_mut.ensures.value ∙ sym (lane_there items seat c.index_mut.result.now one within) in
    if_err c.queue_in.result (λ e h. (h.0, sym old ∙ h.1, h.2)) c.queue_in.ensures.refused
