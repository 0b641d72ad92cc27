use Rattle.std.proofs.Common.{rules, ◌≡◌, ◌∷◌, length, sym, subst, Err, IfErr}
use Rattle.std.proofs.lemmas.List.{nil_from_length}
use Rattle.std.specs.Option.{option_map}
use Rattle.rt_mail.specs.Lanes.{with_waiting}
use Rattle.rt_client.specs.Seats.{item_of}
use Rattle.rt_client.specs.Lanes.{lane_of, IsChanged, StopsAt}
use Rattle.rt_client.proofs.Slots.{goes_more, goes_all, goes_until}
use Rattle.rt_client.proofs.lanes.queue_each.Goals as goal

pub loop-note-preserved : goal.loop-note-preserved
loop-note-preserved c =
    let note = c.in-Some.note in
    let mid = c.loop-note.lanes.items in
    let left : c.loop-note.note-iterator.rest.items ≡ c.in-Some.note ∷ c.next.new.self.rest.items = search rules in
    let last : IsChanged note.seat (option_map (with_waiting (item_of note.body)) (lane_of mid note.seat)) mid c.queue.new.lanes.items =
    subst (λ i. IsChanged note.seat (option_map (with_waiting i) (lane_of mid note.seat)) mid c.queue.new.lanes.items) c.item_from.ensures c.in_ok-queue.ensures.queued in
    goes_more c.args.notes.items c.loop-note.note-iterator.rest.items c.next.new.self.rest.items note c.args.lanes.now.items mid c.queue.new.lanes.items c.loop-note.invariant left last

pub returns-in_err-queue-clause-stops : goal.returns-in_err-queue-clause-stops
returns-in_err-queue-clause-stops c =
    let note = c.in-Some.note in
    let mid = c.loop-note.lanes.items in
    let notes = c.args.notes.items in
    let old = c.args.lanes.now.items in
    let h = c.in_err-queue.ensures.refused in
    let left : c.loop-note.note-iterator.rest.items ≡ c.in-Some.note ∷ c.next.new.self.rest.items = search rules in
    let why : c.from_residual.result ≡ Err c.in_err-queue.field-0.0 = search rules in
    subst (λ r. IfErr r (λ e. StopsAt notes old e c.queue.new.lanes.items)) (sym why)
    (subst (λ z. StopsAt notes old c.in_err-queue.field-0.0 z) (sym c.in_err-queue.ensures.unchanged)
    (goes_until notes c.loop-note.note-iterator.rest.items c.next.new.self.rest.items note c.in_err-queue.field-0.0 h.0 old mid c.loop-note.invariant left h.1 h.2))

pub returns-clause-queued : goal.returns-clause-queued
returns-clause-queued c =
    let none : length c.loop-note.note-iterator.rest.items ≡ 0 = search rules in
    goes_all c.args.notes.items c.loop-note.note-iterator.rest.items c.args.lanes.now.items c.loop-note.lanes.items c.loop-note.invariant (nil_from_length c.loop-note.note-iterator.rest.items none)
